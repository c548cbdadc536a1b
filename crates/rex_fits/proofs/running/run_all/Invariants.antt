use Rattle.rex_fits.proofs.Runs.{LeadsSoFar}
use Rattle.rex_fits.proofs.running.run_all.Given as goal

-- the events before this one ran
abbrev pub invariant-loop-event : goal.invariant-loop-event
invariant-loop-event l = LeadsSoFar l.svc l.initial.state l.events l.event-index l.state
