-- A counter's events in two blocks, led to agreement on one node and on three.
use Rattle.std.proofs.Common.{◌≡◌, true, List, [], ◌∷◌, refl}
use Rattle.std.specs.Prelude.{pos, is_some}
use Rattle.rex_event.specs.declared.event.Event.{Event}
use Rattle.rex_event.specs.declared.event.Kind.TheVariants.{Begin, AcqEx, RelEx, Reply}
use Rattle.rex_state.specs.Start.{start_of}
use Rattle.rex_state.specs.Machine.{run}
use Rattle.rex_delta.specs.Reading as reading
use Rattle.rex_cluster.specs.Values.{trace_of}
use Rattle.rex_cluster.specs.Agreed.{known_at}
use Rattle.rex_safety.proofs.Examples.{counter, on_lane_0}
use Rattle.rex_steady.specs.Blocks.{joined, values_of}
use Rattle.rex_steady.specs.Steady.{live_world}

-- client 1 begins to add 5, and ends
abbrev two_blocks : List (List Event)
two_blocks =
    (on_lane_0 0 (Begin 1 1 0 (pos 5 ∷ [])) ∷ on_lane_0 1 (AcqEx 0) ∷ [])
    ∷ (on_lane_0 2 (RelEx 0) ∷ on_lane_0 3 (Reply 1 (pos 5)) ∷ [])
    ∷ []

they_run : is_some (run counter (start_of counter) (joined two_blocks)) ≡ true
they_run = refl

one_knows : known_at (live_world counter [] 7 1 two_blocks) 1 ≡ values_of counter two_blocks
unfolding reading.delta_in reading.delta_at reading.bases_at reading.events_at reading.event_at reading.kind_at reading.begin_at reading.place_at reading.arguments_at reading.causes_at reading.lock_at reading.reply_at
one_knows = refl

the_third_knows : trace_of (known_at (live_world counter [] 7 3 two_blocks) 3) ≡ joined two_blocks
unfolding reading.delta_in reading.delta_at reading.bases_at reading.events_at reading.event_at reading.kind_at reading.begin_at reading.place_at reading.arguments_at reading.causes_at reading.lock_at reading.reply_at
the_third_knows = refl
