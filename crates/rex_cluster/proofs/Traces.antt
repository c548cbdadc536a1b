-- What a trace says of a client: its last request was begun and nothing of the client came since, or was replied to.
use Rattle.std.proofs.Common.{◌≡◌, ℕ, ◌<◌, Bool, true, not, List, [], ◌∷◌, ◌++◌, refl, ap, ◌∙◌, subst, append_assoc}
use Rattle.std.specs.Prelude.{Some, None, ℤ}
use Rattle.std.specs.List.{list_all}
use Rattle.std.proofs.lemmas.Bool.{and_from, and_parts, ne_eqb}
use Rattle.rex_event.specs.declared.event.Event.{Event}
use Rattle.rex_event.specs.declared.event.Kind.{Kind}
use Rattle.rex_event.specs.declared.event.Kind.TheVariants.{Begin, Reply}
use Rattle.rex_event.specs.Conflict.{named_client}
use Rattle.rex_state.specs.declared.lane.Entry.{Entry}
use Rattle.rex_cluster.specs.Stands.{is_of, Begins, Replies, Stands}

-- the client's begin of this sequence is there, and nothing of the client came since
pub record IsBegun (trace : List Event) (client sequence : ℕ) : Type 0 where
  pub before : List Event
  pub begin : Event
  pub between : List Event
  pub parts : trace ≡ before ++ begin ∷ between
  pub begins : Begins client sequence begin.kind
  pub quiet : list_all (λ (e : Event). not (is_of client e.kind)) between ≡ true

-- what an entry says of its client's last request is so in the trace
pub record Told (trace : List Event) (client : ℕ) (entry : Entry) : Type 0 where
  pub begun : 0 < entry.sequence → entry.reply ≡ None → IsBegun trace client entry.sequence
  pub replied : (value : ℤ) → 0 < entry.sequence → entry.reply ≡ Some value → Stands trace client entry.sequence value

-- ---- a longer trace

pub stands_more : (trace more : List Event) (client sequence : ℕ) (value : ℤ) → Stands trace client sequence value → Stands (trace ++ more) client sequence value
stands_more trace more client sequence value h = record {
  before = h.before;
  begin = h.begin;
  between = h.between;
  reply = h.reply;
  later = h.later ++ more;
  parts =
      ap (λ (es : List Event). es ++ more) h.parts
      ∙ append_assoc h.before (h.begin ∷ (h.between ++ h.reply ∷ h.later)) more
      ∙ ap (λ (es : List Event). h.before ++ h.begin ∷ es) (append_assoc h.between (h.reply ∷ h.later) more);
  begins = h.begins;
  quiet = h.quiet;
  replies = h.replies;
}

all_push : (P : Event → Bool) (es : List Event) (e : Event) → list_all P es ≡ true → P e ≡ true → list_all P (es ++ e ∷ []) ≡ true
all_push P [] e h k = and_from _ _ k refl
all_push P (x ∷ xs) e h k = let a = and_parts _ _ h in and_from _ _ a.0 (all_push P xs e a.1 k)

begun_more : (trace : List Event) (e : Event) (client sequence : ℕ) → not (is_of client e.kind) ≡ true → IsBegun trace client sequence → IsBegun (trace ++ e ∷ []) client sequence
begun_more trace e client sequence other h = record {
  before = h.before;
  begin = h.begin;
  between = h.between ++ e ∷ [];
  parts = ap (λ (es : List Event). es ++ e ∷ []) h.parts ∙ append_assoc h.before (h.begin ∷ h.between) (e ∷ []);
  begins = h.begins;
  quiet = all_push (λ (x : Event). not (is_of client x.kind)) h.between e h.quiet other;
}

-- an event that names another client, or none, is not of the client
not_of : (kind : Kind) (client : ℕ) → (named_client kind ≡ Some client → ⊥) → not (is_of client kind) ≡ true
not_of (Begin c sequence handler arguments) client n = ap not (ne_eqb c client (λ (e : c ≡ client). n (ap Some e)))
not_of (Reply c value) client n = ap not (ne_eqb c client (λ (e : c ≡ client). n (ap Some e)))
not_of _ client n = refl

-- ---- what an event says

pub told_other : (trace : List Event) (e : Event) (client : ℕ) (entry : Entry) → (named_client e.kind ≡ Some client → ⊥) → Told trace client entry → Told (trace ++ e ∷ []) client entry
told_other trace e client entry n h = record {
  begun = λ some r. begun_more trace e client entry.sequence (not_of e.kind client n) (h.begun some r);
  replied = λ value some r. stands_more trace (e ∷ []) client entry.sequence value (h.replied value some r);
}

no_reply : {A : Type 0} (value : ℤ) → None ≡ Some value → A
no_reply value h = absurd (cc)

one_reply : {A : Type 0} (value : ℤ) → Some value ≡ None → A
one_reply value h = absurd (cc)

pub told_begin : (trace : List Event) (e : Event) (client sequence : ℕ) → Begins client sequence e.kind → Told (trace ++ e ∷ []) client (record { sequence = sequence; reply = None })
told_begin trace e client sequence b = record {
  begun = λ some r. record { before = trace; begin = e; between = []; parts = refl; begins = b; quiet = refl };
  replied = λ value some r. no_reply value r;
}

-- a reply stands where its client's request was begun
reply_stands : (trace : List Event) (e : Event) (client sequence : ℕ) (value : ℤ) → Replies client value e.kind → IsBegun trace client sequence → Stands (trace ++ e ∷ []) client sequence value
reply_stands trace e client sequence value r h = record {
  before = h.before;
  begin = h.begin;
  between = h.between;
  reply = e;
  later = [];
  parts = ap (λ (es : List Event). es ++ e ∷ []) h.parts ∙ append_assoc h.before (h.begin ∷ h.between) (e ∷ []);
  begins = h.begins;
  quiet = h.quiet;
  replies = r;
}

pub told_reply : (trace : List Event) (e : Event) (client : ℕ) (value : ℤ) (entry : Entry) → Replies client value e.kind → 0 < entry.sequence → entry.reply ≡ None → Told trace client entry
    → Told (trace ++ e ∷ []) client (record { sequence = entry.sequence; reply = Some value })
told_reply trace e client value entry r some open_yet h = record {
  begun = λ q n. one_reply value n;
  replied = λ v q n.
      subst (λ (x : ℤ). Stands (trace ++ e ∷ []) client entry.sequence x) (same value v n) (reply_stands trace e client entry.sequence value r (h.begun some open_yet));
}
  where
    same : (a b : ℤ) → Some a ≡ Some b → a ≡ b
    same a b n = cc
