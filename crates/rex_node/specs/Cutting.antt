-- What a cut of what is executed proposes.
use Rattle.std.specs.Prelude.{◌≡◌, ◌⊎◌, ℕ, ◌+◌, ◌<◌, Bool, true, false, List, [], length, is_some, Result, Ok, Err, Option, Some, None, IfOk, OnErr, option_map}
use Rattle.std.specs.declared.alloc.AllocError.{AllocError}
use Rattle.rex_event.specs.Cuts.{below}
use Rattle.rex_cut.specs.Greatest.{greatest_cut}
use Rattle.rex_cut.specs.Delta.{delta_at}
use Rattle.rex_delta.specs.Reading.{delta_in}
use Rattle.rex_state.specs.Counts.{counts_of}
use Rattle.rex_paxos.specs.Acceptor.{AcceptorValue}
use Rattle.rex_paxos.specs.Proposer.{ProposerValue}
use Rattle.rex_report.specs.declared.effect.Effect.TheVariants as effect
use Rattle.rex_syntax.specs.declared.service.Declarations.{Declarations}
use Rattle.rex_traits.specs.Chains.{Answer}
use Rattle.rex_cluster.specs.Calls.{enough, propose, settle}
use Rattle.rex_cluster.specs.Values.{Value, service_of}
use Rattle.rex_cluster.specs.Lanes.{limits_between, value_at, propose_cut}
use Rattle.rex_node.specs.declared.going.Going.{Going}
use Rattle.rex_node.specs.declared.step.Draft.{Draft}
use Rattle.rex_node.specs.declared.pieces.Piece.{Piece}
use Rattle.rex_node.specs.declared.refusal.Refusal.{Refusal}
use Rattle.rex_node.specs.declared.refusal.Refusal.TheVariants as why
use Rattle.rex_node.specs.Calls.{AreLimits, CutIsSpelled}
use Rattle.rex_node.specs.Going.{BreaksOff, Ends}
use Rattle.rex_node.specs.Leading.{FromLead}
use Rattle.rex_node.specs.Parts.{ActingValue, IsSame, NodeValue, Stands, open_of, whole}
use Rattle.rex_ballot.specs.declared.ballots.TheConstants.{INSTANCES}

-- the counts below which a cut is made: all live events, or at most so many of each lane
abbrev pub counts_in : ActingValue → Option (List ℕ) → List ℕ
counts_in a None = counts_of a.recorder.state
counts_in a (Some limits) = limits_between (counts_of a.recorder.start) (counts_of a.recorder.state) limits

abbrev pub cut_in : ActingValue → Option (List ℕ) → List ℕ
cut_in a limits = greatest_cut (counts_in a limits) a.recorder.live

-- the piece is the delta of the live events below a cut, as bytes, and some event is below it
pub record IsPieceOf (a : ActingValue) (cut : List ℕ) (p : Piece) : Type 0 where
  pub cut_is : p.cut.counts ≡ cut
  pub some : 0 < length (below cut a.recorder.live)
  pub events : p.events ≡ length (below cut a.recorder.live)
  pub value : p.value ≡ value_at cut a.recorder.live
  pub again : delta_in p.value ≡ Ok (delta_at cut a.recorder.live)
  pub spelled : CutIsSpelled a.recorder.live cut

-- a piece is made where there is one, and memory for it
abbrev pub MakesPiece : ActingValue → List ℕ → Result Piece Refusal → Type 0
MakesPiece a cut (Ok p) = IsPieceOf a cut p
MakesPiece a cut (Err why.Nothing) = below cut a.recorder.live ≡ []
MakesPiece a cut (Err why.OutOfMemory) = Unit {0}
MakesPiece a cut (Err refusal) = ⊥

-- the same, where something is executed
abbrev pub MakesPieceOf : Option ActingValue → Option (List ℕ) → Result Piece Refusal → Type 0
MakesPieceOf None limits result = ⊥
MakesPieceOf (Some a) limits result = MakesPiece a (cut_in a limits) result

-- the delta of the cut has a spelling, where something is executed
abbrev pub CanMakePiece : Option (List ℕ) → ActingValue → Type 0
CanMakePiece limits a = 0 < length (below (cut_in a limits) a.recorder.live) → CutIsSpelled a.recorder.live (cut_in a limits)

-- the piece is of what the node executes
abbrev pub IsOwnPiece : Option ActingValue → Option (List ℕ) → Piece → Type 0
IsOwnPiece None limits p = ⊥
IsOwnPiece (Some a) limits p = IsPieceOf a (cut_in a limits) p

-- a node that leads has no open proposal
abbrev pub IsIdle : AcceptorValue → Option ProposerValue → Type 0
IsIdle acceptor None = ⊥
IsIdle acceptor (Some p) = open_of acceptor p.open_instance ≡ None

-- the node can propose the piece: it is up and active, has no open proposal, and an instance is left
pub record CanPropose {K : Type 0} (x : NodeValue K) (limits : Option (List ℕ)) (p : Piece) : Type 0 where
  pub up : x.up ≡ true
  pub idle : IsIdle x.acceptor x.proposer
  pub left : length x.known < INSTANCES
  pub piece : IsOwnPiece x.acting limits p

-- so it is, below counts that it was given
pub record HasPiece {K : Type 0} (service : Declarations) (x : NodeValue K) (p : Piece) : Type 0 where
  pub limits : Option (List ℕ)
  pub many : AreLimits service limits
  pub can : CanPropose x limits p

-- ---- proposing it

-- the cut that was proposed last is this one
abbrev pub cut_at : List ℕ → ActingValue → ActingValue
cut_at counts a = record a { proposed = counts }

abbrev pub with_cut : {K : Type 0} → NodeValue K → List ℕ → NodeValue K
with_cut x counts = record x { acting = option_map (cut_at counts) x.acting }

-- the cut that was proposed last before; this one where nothing is executed
abbrev pub cut_before : Option ActingValue → List ℕ → List ℕ
cut_before None counts = counts
cut_before (Some a) counts = a.proposed

-- a node that leads has an open proposal
abbrev pub has_open : Option ProposerValue → Bool
has_open None = false
has_open (Some p) = is_some p.open_instance

-- the node proposes a value of so many events, and goes on as the model does
abbrev pub ProposesCut : {K : Type 0} → (K → List (List ℕ)) → (K → List ℕ → Answer → K → Type 0) → (K → ℕ) → Declarations → List Value → ℕ → Value → (old new : NodeValue K) → (before after : Draft) → Going → Type 0
ProposesCut records gives faults service past events value old new before after going =
    FromLead old (λ l.
    Ends records gives faults service past
    (λ d. propose old.nodes old.id (effect.Proposes old.id (length old.known + 1) events) d l (length old.known + 1) value (settle (enough l.reported) old.nodes (service_of service old.seed) old.id))
    old new before after going)

-- memory was short as it did: nothing has changed, or the call broke off
abbrev pub ProposesCutShort : {K : Type 0} → (K → List (List ℕ)) → (K → List ℕ → Answer → K → Type 0) → (K → ℕ) → Declarations → List Value → ℕ → Value → (old new : NodeValue K) → Draft → Type 0
ProposesCutShort records gives faults service past events value old new before =
    Stands records faults gives old new
    ⊎ FromLead old (λ l.
    BreaksOff records gives faults service past
    (λ d. propose old.nodes old.id (effect.Proposes old.id (length old.known + 1) events) d l (length old.known + 1) value (settle (enough l.reported) old.nodes (service_of service old.seed) old.id))
    old new before)

-- so it is, or memory was short; and the node is the same
pub record ProposesCutOr {K : Type 0} (records : K → List (List ℕ)) (gives : K → List ℕ → Answer → K → Type 0) (faults : K → ℕ) (service : Declarations) (past : List Value) (events : ℕ) (value : Value) (old new : NodeValue K) (before after : Draft) (result : Result Going AllocError) : Type 0 where
  pub ends : IfOk result (ProposesCut records gives faults service past events value (whole past old) (whole past new) before after)
  pub stuck : OnErr result (ProposesCutShort records gives faults service past events value (whole past old) (whole past new) before)
  pub same : IsSame (whole past old) (whole past new)

-- the same of a cut, whose value and events are those of what is executed
abbrev pub ProposesPiece : {K : Type 0} → (K → List (List ℕ)) → (K → List ℕ → Answer → K → Type 0) → (K → ℕ) → Declarations → List Value → List ℕ → (old new : NodeValue K) → (before after : Draft) → Going → Type 0
ProposesPiece records gives faults service past cut old new before after going =
    FromLead old (λ l. Ends records gives faults service past (propose_cut service old.seed old.nodes old.id cut l) old new before after going)

abbrev pub ProposesPieceShort : {K : Type 0} → (K → List (List ℕ)) → (K → List ℕ → Answer → K → Type 0) → (K → ℕ) → Declarations → List Value → List ℕ → (old new : NodeValue K) → Draft → Type 0
ProposesPieceShort records gives faults service past cut old new before =
    Stands records faults gives old new ⊎ FromLead old (λ l. BreaksOff records gives faults service past (propose_cut service old.seed old.nodes old.id cut l) old new before)

pub record ProposesPieceOr {K : Type 0} (records : K → List (List ℕ)) (gives : K → List ℕ → Answer → K → Type 0) (faults : K → ℕ) (service : Declarations) (past : List Value) (cut : List ℕ) (old new : NodeValue K) (before after : Draft) (result : Result Going AllocError) : Type 0 where
  pub ends : IfOk result (ProposesPiece records gives faults service past cut (whole past old) (whole past new) before after)
  pub stuck : OnErr result (ProposesPieceShort records gives faults service past cut (whole past old) (whole past new) before)
  pub same : IsSame (whole past old) (whole past new)
