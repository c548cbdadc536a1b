-- A run of bytes that nowhere stands in a delta: none of its events is spelled with it.
use Rattle.std.proofs.Common.{◌≡◌, ℕ, ℤ, ◌+◌, ◌<◌, List, [], ◌∷◌, ◌++◌, take, drop, length, refl, sym, ap, subst, ◌∙◌, arith, append_assoc, inl, inr, false, true}
use Rattle.std.specs.Prelude.{Option, Some, None, is_some}
use Rattle.std.proofs.lemmas.List.{drop_at, length-append, take_at, take-append-drop}
use mathlib.Core.Bool.{true≢false}
use Rattle.std.specs.Int.{w16, w32, to_be_bytes}
use Rattle.std.specs.List.{flat_map}
use Rattle.memchr.specs.Find.{FindsNeedle, OccursAt}
use Rattle.memchr.proofs.lemmas.MatchLemmas.{OccursAt-from_part, OccursAt-split}
use Rattle.rex_event.specs.Cuts.{counted}
use Rattle.rex_event.specs.Order.{Has}
use Rattle.rex_event.specs.declared.delta.Cause.{Cause}
use Rattle.rex_event.specs.declared.delta.Delta.{Delta}
use Rattle.rex_event.specs.declared.event.Event.{Event}
use Rattle.rex_event.specs.declared.event.Kind.{Kind}
use Rattle.rex_event.specs.declared.event.Kind.TheVariants.{Reply}
use Rattle.rex_wire.specs.Spelling.{byte, signed}
use Rattle.rex_delta.specs.Spelling.{EventsFit, HasSpelling, cause_bytes, code_of, content, delta_bytes, event_bytes, events_bytes, version_of}
use Rattle.rex_delta.specs.Replying.{RepliesToNone, Stands, reply_front}

behind : (needle xs ys : List ℕ) → Stands needle ys → Stands needle (xs ++ ys)
behind needle xs ys h = record {
  before = xs ++ h.before;
  after = h.after;
  is = ap (λ l. xs ++ l) h.is ∙ sym (append_assoc xs h.before (needle ++ h.after));
}

ahead : (needle xs ys : List ℕ) → Stands needle xs → Stands needle (xs ++ ys)
ahead needle xs ys h = record {
  before = h.before;
  after = h.after ++ ys;
  is = ap (λ l. l ++ ys) h.is ∙ append_assoc h.before (needle ++ h.after) ys ∙ ap (λ l. h.before ++ l) (append_assoc needle h.after ys);
}

module _ (client : ℕ) (value : ℤ) where
  -- the bytes of an event of this kind
  abbrev bytes_of : ℕ → Kind → List Cause → List ℕ
  bytes_of lane kind causes = byte (lane + 1) ++ byte (code_of kind) ++ content kind ++ byte (length causes) ++ flat_map cause_bytes causes

  reply_stands : (lane : ℕ) (causes : List Cause) → Stands (reply_front client) (bytes_of lane (Reply client value) causes)
  reply_stands lane causes = record {
    before = byte (lane + 1);
    after = signed value ++ (byte (length causes) ++ flat_map cause_bytes causes);
    is = ap (λ l. (lane + 1) ∷ 14 ∷ l) (append_assoc (to_be_bytes w16 client) (signed value) (byte (length causes) ++ flat_map cause_bytes causes));
  }

  event_stands : (e : Event) (causes : List Cause) → e.kind ≡ Reply client value → Stands (reply_front client) (event_bytes e causes)
  event_stands e causes is = subst (λ (k : Kind). Stands (reply_front client) (bytes_of e.lane k causes)) (sym is) (reply_stands e.lane causes)

  events_stand : (bases counts : List ℕ) (es : List Event) (lists : List (List Cause)) (e : Event) → EventsFit bases counts es lists → Has e es → e.kind ≡ Reply client value
      → Stands (reply_front client) (events_bytes es lists)
  events_stand bases counts [] lists e fit has is = absurd has
  events_stand bases counts (x ∷ xs) [] e fit has is = absurd fit
  events_stand bases counts (x ∷ xs) (causes ∷ lists) e fit (inl same) is =
      ahead (reply_front client) (event_bytes x causes) (events_bytes xs lists) (event_stands x causes (ap (λ (y : Event). y.kind) same ∙ is))
  events_stand bases counts (x ∷ xs) (causes ∷ lists) e fit (inr more) is =
      behind (reply_front client) (event_bytes x causes) (events_bytes xs lists) (events_stand bases (counted counts x) xs lists e fit.1 more is)

  delta_stands : (d : Delta) (e : Event) → HasSpelling d → Has e d.events → e.kind ≡ Reply client value → Stands (reply_front client) (delta_bytes d)
  delta_stands d e spelled has is =
      behind (reply_front client) (byte (version_of d.events) ++ byte (length d.bases) ++ flat_map (to_be_bytes w32) d.bases ++ to_be_bytes w16 (length d.events)) (events_bytes d.events d.causes)
      (events_stand d.bases d.bases d.events d.causes e spelled.delta.events has is)

-- what stands in the bytes occurs there
occurs : (run bytes : List ℕ) → Stands run bytes → (k : ℕ) × (k < length bytes + 1) × OccursAt bytes run k
occurs run bytes h =
    let long : length bytes ≡ length h.before + (length run + length h.after) =
    ap length h.is ∙ length-append h.before (run ++ h.after) ∙ ap (λ n. length h.before + n) (length-append run h.after) in
    let part : take (length run) (drop (length h.before) bytes) ≡ run =
    ap (λ l. take (length run) (drop (length h.before) l)) h.is
    ∙ ap (take (length run)) (drop_at h.before (run ++ h.after) (length h.before) refl)
    ∙ take_at run h.after (length run) refl in
    (length h.before, omega (arith, long), OccursAt-from_part bytes run (length h.before) (omega (arith, long)) part)

-- and what occurs there stands in them
stands : (run bytes : List ℕ) (k : ℕ) → OccursAt bytes run k → Stands run bytes
stands run bytes k h = record {
  before = take k bytes;
  after = drop (k + length run) bytes;
  is = sym (take-append-drop k bytes) ∙ ap (λ l. take k bytes ++ l) (OccursAt-split bytes run k h);
}

-- where the front of a reply is found nowhere, no event replies to the client
pub silent : (client : ℕ) (bytes : List ℕ) (place : Option ℕ) → FindsNeedle bytes (reply_front client) 0 place → is_some place ≡ false
    → (d : Delta) → HasSpelling d → bytes ≡ delta_bytes d → RepliesToNone client d.events
silent client bytes None nowhere none d spelled same e has value kind =
    let at = occurs (reply_front client) bytes (subst (Stands (reply_front client)) (sym same) (delta_stands client value d e spelled has kind)) in
    nowhere at.0 (omega arith) at.1 at.2
silent client bytes (Some k) first none d spelled same e has value kind = absurd (true≢false none)

-- where it is found, it stands there
pub found : (client : ℕ) (bytes : List ℕ) (place : Option ℕ) → FindsNeedle bytes (reply_front client) 0 place → is_some place ≡ true → Stands (reply_front client) bytes
found client bytes None nowhere some = absurd (true≢false (sym some))
found client bytes (Some k) first some = stands (reply_front client) bytes k first.1
