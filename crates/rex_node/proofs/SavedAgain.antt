-- A node that writes down its last checkpoint again does as the model's.
use Rattle.rex_node.proofs.Common.{◌≡◌, ℕ, ◌<◌, Bool, true, false, List, [], ◌∷◌, take, Option, Some, None, refl, sym, ap, subst, ◌∙◌, arith, if◌then◌else◌, Declarations, IsService, IsChecked, StateValue, IsSound, run_keeps, start_keeps, KeptRec, HasSpelling, IsDue, record_bytes, IsLimited, Effect, Answer, Two, Rec, known, base, has_old_base, Checkpoint, Failure, append, begin, say, Here, CallHere, Value, service_of, state_after, trace_of, state_is, Refusal, Step, Does, EndsDown, armed_with, last_of, refusal_of_migrate, IsCheckpoint, standing_in, log_of, Falls, NodeValue, fallen, IsResting, IsUp, StaysResting, here_of, le_refl, IsSame}
use Rattle.rex_report.specs.declared.effect.Effect.TheVariants as effect
use Rattle.rex_cluster.specs.Calls.{migrate}
use Rattle.rex_node.specs.declared.refusal.Refusal.TheVariants as why
use Rattle.rex_node.specs.Checkpointing.{Migrates}
use Rattle.rex_node.proofs.Appended.{beside_of, logged_of, if_same}
use Rattle.rex_log.proofs.OldBase.{old_based}
use Rattle.rex_node.proofs.Saved.{front_limited, refused_none, WritesDown, state_does, state_due, state_fell, state_spelling, state_stays}
use Rattle.rex_node.proofs.Following.{down_kept, within}

-- ---- refusals

-- the last checkpoint is in the old version
record IsOld (h : Here) : Type 0 where
  pub up : h.up ≡ true
  pub old : has_old_base h.log ≡ true

old_there : (h : Here) → refusal_of_migrate h ≡ None → IsOld h
old_there h e = by (has_old_base h.log) refl (refused_none h.up e)
  where
    by : (b : Bool) → has_old_base h.log ≡ b → (h.up ≡ true) × (◌≡◌ {A = Option Refusal} (if has_old_base h.log then None else Some why.Nothing) None) → IsOld h
    by true a r = record { up = r.0; old = a }
    by false a r = absurd (let w : Some why.Nothing ≡ None = sym (ap (λ s. if s then None else Some why.Nothing) a) ∙ r.1 in cc)

-- ---- the state at the base

module _ {K : Type 0} {records : K → List (List ℕ)} {service : Declarations} {past : List Value} {x : NodeValue K} (node : IsResting records service past x) (due : refusal_of_migrate (here_of records service past x) ≡ None) (good : IsService service) (checked : IsChecked service) where
  up_now : IsUp service x (here_of records service past x)
  up_now = node.up (old_there (here_of records service past x) due).up

  pub start_sound : IsSound service x.start
  start_sound = run_keeps service _ x.start _ good (start_keeps service good checked) up_now.start

  pub start_limited : IsLimited x.start
  start_limited = front_limited records past up_now good checked (logged_of records service past x up_now).few up_now.start

-- ---- the call

module _ {K : Type 0} (records : K → List (List ℕ)) (gives : K → List ℕ → Answer → K → Type 0) (faults : K → ℕ) (service : Declarations) (past : List Value) (x : NodeValue K) (node : IsResting records service past x) (due : refusal_of_migrate (here_of records service past x) ≡ None)
    (r : KeptRec) (written : IsCheckpoint service Two x.base x.start r) where
  abbrev h : Here
  h = here_of records service past x

  abbrev log : List (Rec Value StateValue)
  log = log_of service past (records x.keeper)

  abbrev call : CallHere → CallHere
  call = migrate (service_of service x.seed) x.id

  f : IsOld h
  f = old_there h due

  u : IsUp service x h
  u = node.up f.up

  -- the base is that of the records
  pub base_there : x.base ≡ base log
  base_there = u.base

  -- the model appends the state
  appends : (g : Option Failure) → call (armed_with g (begin h)) ≡ append g x.id (Checkpoint Two x.base x.start) (armed_with g (begin h)) (say (effect.Migrated x.id x.base))
  appends g =
      ap (λ t. migrate_if t (base log) (state_after service (trace_of (take (base log) (known log))))) f.old
      ∙ ap (λ n. migrate_if true n (state_after service (trace_of (take n (known log))))) (sym u.base)
      ∙ ap (migrate_if true x.base) (ap (λ vs. state_after service (trace_of (take x.base vs))) (sym u.known) ∙ state_is service _ x.start u.start)
    where
      migrate_if : Bool → ℕ → StateValue → CallHere
      migrate_if a n t = if a then append g x.id (Checkpoint Two n t) (armed_with g (begin h)) (say (effect.Migrated x.id n)) else armed_with g (begin h)

  writes : WritesDown records service past x Two x.base x.start x.ahead (effect.Migrated x.id x.base) call r
  writes =
      let b = beside_of records service past x u in
      record { node = node; up = u; written = written; some = subst (λ n. 0 < n) (sym u.base) (old_based service past (records x.keeper) f.old); low = le_refl _; high = b.based; runs = u.start; replayed = b.ahead; appends = appends }

  pub spelling : HasSpelling r
  spelling = state_spelling writes

  pub is_due : IsDue (standing_in log) r
  is_due = state_due writes

  module _ (y : NodeValue K) (step : Step) (sends : step.sends ≡ []) where
    -- it is kept
    module _ (k : Migrates records faults gives x y (record_bytes r)) (effects : step.effects ≡ effect.Migrated x.id x.base ∷ []) where
      pub migrated_does : Does records gives faults service past call x y step
      migrated_does = state_does writes gives faults y step sends effects k.parts k.records_are k.faults_are k.answer

      pub migrated_down : EndsDown x.id (faults x.keeper) (faults y.keeper) y.up step
      migrated_down = record {
        down = λ l. absurd (omega (arith, l, k.faults_are));
        only = λ e. absurd (other (sym (ap last_of effects) ∙ e));
        quiet = λ l. sends;
        falls = λ l. absurd (omega (arith, l, k.faults_are));
      }
        where
          other : ◌≡◌ {A = Option Effect} (Some (effect.Migrated x.id x.base)) (Some (effect.Down x.id)) → ⊥
          other e = cc

      pub migrated_stays : StaysResting records service past x y
      migrated_stays = state_stays writes gives faults y step sends effects k.parts k.records_are

    -- its append failed
    module _ (k : Falls records faults gives x y (record_bytes r)) (effects : step.effects ≡ effect.Down x.id ∷ []) where
      pub fell_does : Does records gives faults service past call x y step
      fell_does = state_fell writes gives faults y step sends effects k.kept (k.parts ∙ ap (λ b. record (fallen (record x { base = b })) { keeper = y.keeper }) (if_same k.kept)) k.records k.faults k.answer

      pub fell_down : EndsDown x.id (faults x.keeper) (faults y.keeper) y.up step
      fell_down = record { down = λ l. ap last_of effects; only = λ e. k.faults; quiet = λ l. sends; falls = λ l. ap (λ n. n.up) k.parts }

      pub fell_stays : StaysResting records service past x y
      fell_stays =
          let same : IsSame x y = record { id = ap (λ n. n.id) k.parts; nodes = ap (λ n. n.nodes) k.parts; seed = ap (λ n. n.seed) k.parts; decoded = ap (λ n. n.decoded) k.parts } in
          record { same = same; kept = down_kept (within node) same (record { down = ap (λ n. n.up) k.parts; bare = ap (λ n. n.reached) k.parts }) }
