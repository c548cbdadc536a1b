-- What of a report was written while it is made.
use Rattle.std.specs.Prelude.{◌≡◌, ◌≤◌, ℕ, true, List, ◌++◌, Result, OnOk, OnErr, IsErrOf}
use Rattle.rex_traits.specs.Causes.{Rose}
use Rattle.rex_world.specs.declared.run.RunFault.{RunFault}
use Rattle.rex_world.specs.declared.run.RunFault.TheVariants as fault
use Rattle.rex_world.specs.declared.world.World.{World}

-- the bytes that were taken have grown by bytes that, with those that wait to be written and the rest, are the whole
pub record IsWritten (before now waiting rest whole : List ℕ) : Type 0 where
  pub written : List ℕ
  pub taken : now ≡ before ++ written
  pub parts : written ++ (waiting ++ rest) ≡ whole

-- the sink's count of faults doesn't fall, and a write that the sink failed made it rise
pub record CountsFaults {A : Type 0} (faults now : ℕ) (outcome : Result A RunFault) : Type 0 where
  pub later : faults ≤ now
  pub failed : IsErrOf outcome fault.Failed → Rose faults now

-- so it is of a write of a world, which is as it was, and broken where that failed
pub record EndsWrite {S A : Type 0} (before after : World S) (faults now : ℕ) (outcome : Result A RunFault) : Type 0 where
  pub same : OnOk outcome (after ≡ before)
  pub broken : OnErr outcome (after.broken ≡ true)
  pub cause : CountsFaults faults now outcome
