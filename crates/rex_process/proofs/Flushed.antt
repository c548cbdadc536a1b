-- A process whose keeper has the same records and the same count of faults.
use Rattle.std.proofs.Common.{◌≡◌, ℕ, ◌<◌, ◌-◌, ◌^◌, false, List, [], Result, Ok, Err, OnOk, sym, ap, subst}
use Rattle.rex_traits.specs.declared.keeper.KeepFault.{KeepFault}
use Rattle.rex_traits.specs.declared.keeper.KeepFault.TheVariants.{OutOfMemory}
use Rattle.rex_traits.specs.Keeping.{StandsUnlessFailed}
use Rattle.rex_cluster.specs.Lanes.{Here, node_trace}
use Rattle.rex_log.specs.Log.{log_of}
use Rattle.rex_node.specs.Parts.{NodeValue, whole}
use Rattle.rex_node.proofs.Ending.{node_with_keeper}
use Rattle.rex_processes.specs.Leading.{ActiveOpenFits, ActiveIsActing}
use Rattle.rex_processes.specs.Plain.{IsPlain}
use Rattle.rex_fits.specs.Applied.{ShowNoLater}
use Rattle.rex_process.specs.Process.{ProcessValue, IsProcess, here, is_behind}

module _ {K : Type 0} (records : K → List (List ℕ)) (faults : K → ℕ) (p : ProcessValue K) (process : IsProcess records faults p) where
  -- it stays one with another keeper of those
  with_keeper : (k : K) → records k ≡ records p.node.keeper → faults k ≡ faults p.node.keeper → IsProcess records faults (record p { node = record p.node { keeper = k } })
  with_keeper k same counted = record {
    node = node_with_keeper same process.node;
    plain = subst (λ (x : Here). IsPlain x.log) (sym here_is) process.plain;
    up = λ u.
        let h = process.up u in
        record {
          caught_up = subst (λ (x : Here). is_behind x ≡ false) (sym here_is) h.caught_up;
          acts = subst (ActiveIsActing p.service) (sym here_is) h.acts;
          open_fits = subst (ActiveOpenFits p.service) (sym here_is) h.open_fits;
          reads = h.reads;
          clock = h.clock;
          latest = subst (λ (x : Here). ShowNoLater p.clock (node_trace x)) (sym here_is) h.latest;
          count = subst (λ (n : ℕ). n < 2 ^ 64 - 1) (sym counted) h.count;
        };
  }
    where
      here_is : here records (record p { node = record p.node { keeper = k } }) ≡ here records p
      here_is = ap (λ (rs : List (List ℕ)). record (here records p) { log = log_of p.service [] rs }) same

  module _ (x : NodeValue K) (only : x ≡ record p.node { keeper = x.keeper }) (same : records x.keeper ≡ records p.node.keeper) where
    -- so it does once its keeper was flushed
    flushed : faults x.keeper ≡ faults p.node.keeper → IsProcess records faults (record p { node = x })
    flushed counted = subst (λ (y : NodeValue K). IsProcess records faults (record p { node = y })) (sym only) (with_keeper x.keeper same counted)

    pub flushed_well : (result : Result (Unit {0}) KeepFault) → StandsUnlessFailed (faults p.node.keeper) (faults x.keeper) result → OnOk result (IsProcess records faults (record p { node = x }))
    flushed_well (Ok t) stands = flushed stands
    flushed_well (Err fault) stands = tt

    -- and where memory was short for that
    pub flushed_short : (result : Result (Unit {0}) KeepFault) → StandsUnlessFailed (faults p.node.keeper) (faults x.keeper) result → result ≡ Err OutOfMemory → IsProcess records faults (record p { node = x })
    flushed_short result stands is = flushed (subst (StandsUnlessFailed (faults p.node.keeper) (faults x.keeper)) is stands)
