-- Plain records say the same beside every past.
use Rattle.std.proofs.Common.{◌≡◌, ℕ, true, ap₂, List, [], ◌∷◌, ◌++◌, Result, Ok, Err, refl, sym, ◌∙◌, ap, subst}
use Rattle.rex_syntax.specs.declared.service.Declarations.{Declarations}
use Rattle.rex_state.specs.Value.{StateValue}
use Rattle.rex_durable.specs.declared.records.Rec.{Rec as KeptRec}
use Rattle.rex_durable.specs.declared.records.Rec.TheVariants as kept
use Rattle.rex_durable.specs.Reading.{record_in}
use Rattle.rex_cluster.specs.Records.{Rec}
use Rattle.rex_cluster.specs.Values.{Value}
use Rattle.rex_log.specs.Log.{first, log_with, log_behind, log_of, standing_in}
use Rattle.std.specs.List.{All}
use Rattle.std.proofs.lemmas.List.Elements.{All-head, All-tail}
use Rattle.std.specs.Prelude.{map}
use Rattle.rex_msg.specs.declared.message.Content.{Content}
use Rattle.rex_msg.specs.declared.message.Content.TheVariants as sent
use Rattle.rex_msg.specs.declared.message.Message.{Message}
use Rattle.rex_cluster.specs.Lanes.{Here}
use Rattle.rex_cluster.specs.Node.{Content as ModelContent, Message as ModelMessage}
use Rattle.rex_log.specs.Messages.{content_in, message_in}
use Rattle.rex_node.specs.Parts.{NodeValue, IsNode, IsUp, here_of, whole}
use Rattle.rex_processes.specs.Plain.{IsPlain}
use Rattle.rex_cluster.specs.Telling.{TellsNoState}
use Rattle.rex_node.proofs.Reaching.{reached_beside}

module _ (service : Declarations) (p q : List Value) where
  abbrev Log : Type 0
  Log = List (Rec Value StateValue)

  -- one record more
  plain_front : (log : Log) (r : Result KeptRec ℕ) → IsPlain (log_with service p log r) → IsPlain log
  plain_front log (Ok (kept.Promised b)) plain = plain
  plain_front log (Ok (kept.Accepted b i v)) plain = plain
  plain_front log (Ok (kept.Known i v)) plain = plain
  plain_front log (Ok (kept.Checkpoint k bytes)) plain = absurd plain
  plain_front log (Ok (kept.Dropped k)) plain = absurd plain
  plain_front log (Ok (kept.Transferred k bytes)) plain = absurd plain
  plain_front log (Err at) plain = plain

  same_with : (log : Log) (r : Result KeptRec ℕ) → IsPlain (log_with service p log r) → log_with service p log r ≡ log_with service q log r
  same_with log (Ok (kept.Promised b)) plain = refl
  same_with log (Ok (kept.Accepted b i v)) plain = refl
  same_with log (Ok (kept.Known i v)) plain = refl
  same_with log (Ok (kept.Checkpoint k bytes)) plain = refl
  same_with log (Ok (kept.Dropped k)) plain = refl
  same_with log (Ok (kept.Transferred k bytes)) plain = absurd plain
  same_with log (Err at) plain = refl

  -- what stands before plain records is plain
  pub plain_before : (log : Log) (lists : List (List ℕ)) → IsPlain (log_behind service p log lists) → IsPlain log
  plain_before log [] plain = plain
  plain_before log (bytes ∷ lists) plain =
      plain_front log (record_in (standing_in log) bytes) (plain_before (log_with service p log (record_in (standing_in log) bytes)) lists plain)

  same_behind : (log : Log) (lists : List (List ℕ)) → IsPlain (log_behind service p log lists) → log_behind service p log lists ≡ log_behind service q log lists
  same_behind log [] plain = refl
  same_behind log (bytes ∷ lists) plain =
      same_behind (log_with service p log (record_in (standing_in log) bytes)) lists plain
      ∙ ap (λ (l : Log). log_behind service q l lists) (same_with log (record_in (standing_in log) bytes) (plain_before (log_with service p log (record_in (standing_in log) bytes)) lists plain))

  pub same_log : (lists : List (List ℕ)) → IsPlain (log_of service p lists) → log_of service p lists ≡ log_of service q lists
  same_log lists plain = same_behind [] lists plain

-- a node that holds all that it knows is whole
pub whole_is : {K : Type 0} → (past : List Value) (x : NodeValue K) → x.offset ≡ 0 → whole past x ≡ x
whole_is past x e = ap (λ (o : ℕ). record x { known = first o past ++ x.known }) e

module _ {K : Type 0} (records : K → List (List ℕ)) (service : Declarations) (p q : List Value) (x : NodeValue K) (plain : IsPlain (log_of service p (records x.keeper))) where
  -- the node of the model is the same
  pub same_here : here_of records service p x ≡ here_of records service q x
  same_here = ap (λ (log : List (Rec Value StateValue)). record (here_of records service p x) { log = log }) (same_log service p q (records x.keeper) plain)

  -- and so is what is kept of the node
  pub same_node : (x.up ≡ true → x.offset ≡ 0) → IsNode records service p x → IsNode records service q x
  same_node holds h = record { id = h.id; few = h.few; up = up; reached = reached_beside service p q x h.reached; decoded = h.decoded; rests = h.rests }
    where
      up : x.up ≡ true → IsUp service (whole q x) (here_of records service q x)
      up u = subst (λ (y : NodeValue K). IsUp service y (here_of records service q x)) (whole_is p x (holds u) ∙ sym (whole_is q x (holds u)))
          (subst (λ (h : Here). IsUp service (whole p x) h) same_here (h.up u))

-- ---- messages

-- a message that tells no state in one past tells the same in each
pub same_content : (p q : List Value) (c : Content) → TellsNoState (content_in p c) → content_in p c ≡ content_in q c
same_content p q (sent.Prepare b i) none = refl
same_content p q (sent.Promise b ps) none = refl
same_content p q (sent.Accept b i v) none = refl
same_content p q (sent.Accepted b i) none = refl
same_content p q (sent.Chosen i v) none = refl
same_content p q (sent.Nack b n) none = refl
same_content p q (sent.Ask i) none = refl
same_content p q (sent.Snapshot k bytes) none = absurd none

-- each of these messages tells no state
abbrev pub AreStateless : List (ModelMessage Value) → Type 0
AreStateless ms = All (λ (m : ModelMessage Value). TellsNoState m.content) ms

pub same_sends : (p q : List Value) (ms : List Message) → AreStateless (map (message_in p) ms) → map (message_in p) ms ≡ map (message_in q) ms
same_sends p q [] none = refl
same_sends p q (m ∷ ms) none =
    ap₂ (λ (c : ModelContent Value) (rest : List (ModelMessage Value)). record { from = m.from; to = m.to; content = c } ∷ rest)
    (same_content p q m.content (All-head (λ (x : ModelMessage Value). TellsNoState x.content) (message_in p m) (map (message_in p) ms) none))
    (same_sends p q ms (All-tail (λ (x : ModelMessage Value). TellsNoState x.content) (message_in p m) (map (message_in p) ms) none))
