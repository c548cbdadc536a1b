use Rattle.std.proofs.Common.{◌≡◌, ◌+◌, ◌*◌, ◌++◌, ◌∷◌, length, map}
use Rattle.std.specs.Prelude.{Some}
use Rattle.std.specs.List.{All}
use Rattle.std.specs.Slice.Iter.{chunks_rest, chunks_size}
use Rattle.rex_state.specs.Start.{start_of}
use Rattle.rex_state.specs.Machine.{run}
use Rattle.rex_state.specs.Sound.{IsSound}
use Rattle.rex_cluster.specs.Takes.{BeginsInRange}
use Rattle.rex_steady.specs.Blocks.{joined}
use Rattle.rex_steady.specs.Schedule.{agreements}
use Rattle.rex_lead.specs.Doing.{Did}
use Rattle.rex_lead.specs.Lead.{blocks_of}
use Rattle.rex_lead.proofs.Next.{before, latest}
use Rattle.rex_lead.proofs.leading.agree_on_all.Given as goal

-- the blocks before the latest one were agreed, all of them lead to the state that was found, and those of the rest are left
abbrev pub invariant-loop-next : goal.invariant-loop-next
invariant-loop-next g l = record {
  did : Did l.svc l.fn.world l.leading.world (agreements (before l.initial.block (map (λ b. b.now) l.yielded)));
  done : l.leading.world.done ≡ l.fn.world.done + 4 * length l.yielded;
  size : chunks_size l.next-iterator ≡ 4096;
  left : (l.initial.block ∷ map (λ b. b.now) l.yielded) ++ blocks_of (chunks_rest l.next-iterator) ≡ blocks_of l.history;
  latest_is : l.block ≡ latest l.initial.block (map (λ b. b.now) l.yielded);
  own : All BeginsInRange l.block;
  begins : All BeginsInRange (chunks_rest l.next-iterator);
  reached : run l.svc (start_of l.svc) (joined (l.initial.block ∷ map (λ b. b.now) l.yielded)) ≡ Some l.leading.state;
  sound : IsSound l.svc l.leading.state;
}
