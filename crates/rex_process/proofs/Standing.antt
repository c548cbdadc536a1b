-- What a node is that is up and whose records are plain.
use Rattle.std.proofs.Common.{arith, ◌≡◌, ◌⊎◌, ℕ, zero, suc, ◌*◌, ◌<◌, ◌≤◌, Bool, true, false, not, ◌&&◌, List, [], ◌∷◌, length, take, is_some, Option, Some, None, inl, inr, refl, sym, ◌∙◌, ap, subst}
use Rattle.std.specs.Prelude.{nat_lt}
use Rattle.std.proofs.lemmas.Bool.{false≢true}
use Rattle.std.proofs.lemmas.Bool.Decides.{nat_tests}
use Rattle.rex_syntax.specs.declared.service.Declarations.{Declarations}
use Rattle.rex_state.specs.Start.{start_of}
use Rattle.rex_state.specs.Machine.{run}
use Rattle.rex_paxos.specs.Acceptor.{AcceptorValue}
use Rattle.rex_paxos.specs.Counting as counting
use Rattle.rex_paxos.specs.Proposer.{ProposerValue}
use Rattle.rex_paxos.proofs.Counted.{counted_none, counted_push}
use Rattle.rex_cluster.specs.Records.{known}
use Rattle.rex_cluster.specs.Quorum.{is_majority}
use Rattle.rex_cluster.specs.Node.{is_active}
use Rattle.rex_cluster.specs.Values.{Value, trace_of}
use Rattle.rex_cluster.specs.Lanes.{Here}
use Rattle.rex_node.specs.Checkpointing.{replayed_state, replayed_with}
use Rattle.rex_node.specs.Parts.{ActingValue, IsActing, IsNode, IsUp, NodeValue, here_of, role_of, state_of, work_of}
use Rattle.rex_log.proofs.Proposers.{majority_is}
use Rattle.rex_processes.specs.Plain.{IsPlain}
use Rattle.rex_processes.proofs.Calling.{plain_offset}
use Rattle.rex_process.specs.Process.{is_behind}
use Rattle.rex_process.proofs.Pasts.{whole_is}

-- ---- majorities

-- a node that is not alone is no majority by itself
pub alone_or_not : (nodes id : ℕ) → (0 < id) × (id ≤ nodes) → (nodes ≡ 1) ⊎ (is_majority nodes (id ∷ []) ≡ false)
alone_or_not zero id there = absurd (omega (arith, there.0, there.1))
alone_or_not (suc zero) id there = inl refl
alone_or_not (suc (suc n)) id there = inr (own ∙ few)
  where
    own : is_majority (suc (suc n)) (id ∷ []) ≡ counting.is_majority (suc (suc n)) 1
    own = majority_is (counted_push (suc (suc n)) [] id (counted_none (suc (suc n))) (record { first = there.0; last = there.1 }) refl)

    few : nat_lt (suc (suc n)) (2 * 1) ≡ false
    few = grind (arith, nat_tests)

-- ---- its parts

-- a node that isn't active has no live event
pub no_live : (service : Declarations) (vs : List Value) (acceptor : AcceptorValue) (proposer : Option ProposerValue) (acting : Option ActingValue)
    → IsActing service vs acceptor proposer acting → is_active (role_of acceptor proposer (is_some acting)) ≡ false → (work_of acting).live ≡ []
no_live service vs acceptor proposer None h e = refl
no_live service vs acceptor None (Some a) h e = absurd h
no_live service vs acceptor (Some p) (Some a) h e = absurd (false≢true (sym e))

-- what it executes begins after all that it knows
acts_from : (service : Declarations) (vs : List Value) (acceptor : AcceptorValue) (proposer : Option ProposerValue) (a : ActingValue) → IsActing service vs acceptor proposer (Some a)
    → run service (start_of service) (trace_of vs) ≡ Some a.recorder.start
acts_from service vs acceptor None a h = absurd h
acts_from service vs acceptor (Some p) a h = h.executes.known

all_taken : (vs : List Value) (k : ℕ) → k ≡ length vs → take k vs ≡ vs
all_taken vs k e = ap (λ (n : ℕ). take n vs) e ∙ all vs
  where
    all : (vs : List Value) → take (length vs) vs ≡ vs
    all [] = refl
    all (v ∷ vs) = ap (λ (rest : List Value). v ∷ rest) (all vs)

-- a node that is up, not active and not behind has replayed all
all_replayed : (up active : Bool) (r k : ℕ) → up ≡ true → active ≡ false → r ≤ k → (up && (not active && nat_lt r k)) ≡ false → r ≡ k
all_replayed true true r k u a le e = absurd (false≢true (sym a))
all_replayed false active r k u a le e = absurd (false≢true u)
all_replayed true false r k u a le e = grind (arith, nat_tests)

module _ {K : Type 0} (records : K → List (List ℕ)) (service : Declarations) (x : NodeValue K) (node : IsNode records service [] x) (plain : IsPlain (here_of records service [] x).log) (up : x.up ≡ true) where
  abbrev here : Here
  here = here_of records service [] x

  pub holds : x.offset ≡ 0
  holds = (node.up up).offset ∙ plain_offset here.log plain

  pub up_is : IsUp service x here
  up_is = subst (λ (y : NodeValue K). IsUp service y here) (whole_is [] x holds) (node.up up)

  -- it holds what its records say is known
  pub known_is : x.known ≡ known here.log
  known_is = up_is.known

  -- and that is no more than there are instances
  pub known_few : length x.known ≤ 65535
  known_few = subst (λ (vs : List Value). length vs ≤ 65535) (sym known_is) up_is.numbers.log.few

  -- where it isn't behind, the state that it has replayed is the one after all that it knows
  pub replayed_runs : is_behind here ≡ false → run service (start_of service) (trace_of (known here.log)) ≡ Some (replayed_state x)
  replayed_runs e = subst (λ (vs : List Value). run service (start_of service) (trace_of vs) ≡ Some (replayed_state x)) known_is (by x.acting refl)
    where
      idle : x.acting ≡ None → run service (start_of service) (trace_of x.known) ≡ Some (state_of x)
      idle none =
          let inactive : is_active (role_of x.acceptor x.proposer (is_some x.acting)) ≡ false = passive none x.proposer in
          let all : x.replayed ≡ length (known here.log) = all_replayed x.up (is_active here.role) x.replayed (length (known here.log)) up inactive up_is.replayed.replayed e in
          subst (λ (vs : List Value). run service (start_of service) (trace_of vs) ≡ Some (state_of x)) (all_taken x.known x.replayed (all ∙ ap length (sym known_is))) (up_is.ahead none)
        where
          passive : x.acting ≡ None → (p : Option ProposerValue) → is_active (role_of x.acceptor p (is_some x.acting)) ≡ false
          passive none None = refl
          passive none (Some p) = ap is_some none

      by : (a : Option ActingValue) → x.acting ≡ a → run service (start_of service) (trace_of x.known) ≡ Some (replayed_state x)
      by None a = idle a ∙ ap (λ (o : Option ActingValue). Some (replayed_with o (state_of x))) (sym a)
      by (Some it) a =
          acts_from service x.known x.acceptor x.proposer it (subst (IsActing service x.known x.acceptor x.proposer) a up_is.acting)
          ∙ ap (λ (o : Option ActingValue). Some (replayed_with o (state_of x))) (sym a)

  -- it isn't active, and so nothing is live
  pub none_live : is_active here.role ≡ false → here.work.live ≡ []
  none_live e = no_live service x.known x.acceptor x.proposer x.acting up_is.acting e
