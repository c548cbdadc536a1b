-- The field says only that a proof exists. An entailment is a proposition, so the proof may be opened in front of the walk that Rattle made.
use seplogic.Bi.Basic.{Entails-prop}
use mathlib.Core.Logic.{∥∥₁_elim}
use base.Logic.{via, mono_r}
use denote.Triple.Entry.{on_entry}
use borrow.Fn.Kinds.{sig_of}
use contract.Monad.{fact_mono}
use Rattle.rex_replay.proofs.by_call.ByCall.call_that_replays.Statement.{statement}
use Rattle.rex_replay.proofs.by_call.ByCall.call_that_replays.Lts as lts
use Rattle.rex_replay.proofs.by_call.ByCall.call_that_replays.Reads as reads
use Rattle.rex_replay.proofs.by_call.ByCall.call_that_replays.Tie as tie

pub call_that_replays_spec : {M : Type 1} → statement M
call_that_replays_spec {M} =
    tie.close (λ C L g d w met 𝓤 𝓛 𝓣 y.
    ∥∥₁_elim y.0.3.0.now.replays (Entails-prop 𝓤.op _ _) (λ is.
    via 𝓤 _ (mono_r 𝓤 (on_entry 𝓛 (sig_of 2 (lts.ps C L g d) (lts.r C L g d)) y.0.0 y.0.1 y.0.3 y.0.4) (fact_mono 𝓤 _ (g.replays y.0.3.0.now.call) (λ _. is)))
    (lts.spec C L g d (λ κs a. g.replays a.0.now.call) (reads.Post C L g d) (λ c. c.requires) 𝓤 𝓛 𝓣 y)))
