-- What the proofs of this crate name of what stands below them.
pub use Rattle.std.proofs.Common.{Bool, Err, IfOk, List, None, Ok, OnErr, OnOk, Option, Result, Some, [], add-one, add-zero, ap, append-nil, append_assoc, arith, cond, drop, eq-eqb, eqb, false, get_or, inl, inr, is_some, le_refl, length, length-append, length-set, map, refl, subst, suc, sym, take, take-append-drop, true, zero, ℕ, ℤ, ◌++◌, ◌+◌, ◌-◌, ◌<◌, ◌^◌, ◌∙◌, ◌∷◌, ◌≡◌, ◌≤◌, ◌⊎◌}
pub use Rattle.std.proofs.Math.Seq.{drop-append_seam, drop-cons, drop-length, take-suc}
pub use Rattle.std.proofs.lemmas.Bool.{and_parts, eqb-true}
pub use Rattle.std.proofs.lemmas.Grind.{replicate_next}
pub use Rattle.std.proofs.lemmas.List.{length-drop, length-map, map-append}
pub use Rattle.std.proofs.lemmas.List.Elements.{All-append, All-cons, All-get_or, All-head, All-nil, All-tail}
pub use Rattle.std.proofs.lemmas.Option.{get_or_from_slice_get, slice_get_within}
pub use Rattle.std.proofs.lemmas.Result.{on_ok_weaker}
pub use Rattle.std.specs.Global.{Vec}
pub use Rattle.std.specs.List.{All, list_all}
pub use Rattle.std.specs.Option.{option_copied}
pub use Rattle.std.specs.Prelude.{IsSome, filter, if◌then◌else◌, nat_le, nat_lt, replicate, slice_get, slice_index_or, slice_set, unwrap_or, ◌&&◌, ◌==◌}
pub use Rattle.std.specs.Vec.{with_item}
pub use Rattle.std.specs.Vec.Iter.{into_iter_items}
pub use Rattle.rex_ballot.specs.Limits.{most_nodes}
pub use Rattle.rex_cluster.specs.Agreed.{agreed, longer_of, longest}
pub use Rattle.rex_cluster.specs.Calls.{ask, begin, checkpoint, elect, migrate, receive, replay, say, start, stop}
pub use Rattle.rex_cluster.specs.Invariant.{Begins, IsIn}
pub use Rattle.rex_cluster.specs.Lanes.{CallHere, Here, active_only, cut, live_state, submit_request}
pub use Rattle.rex_cluster.specs.Node.{Content, Failure, Lead, Message, Role, Service, is_active, kind_of, role_name}
pub use Rattle.rex_cluster.specs.Node.Failure.{After}
pub use Rattle.rex_cluster.specs.Node.Role.{Follower, Leads}
pub use Rattle.rex_cluster.specs.Ranges.{MessageFits}
pub use Rattle.rex_cluster.specs.Reading.{seen_by_release, seen_by_releases, stamp_at}
pub use Rattle.rex_cluster.specs.Records.{Rec, known, offset, promise}
pub use Rattle.rex_cluster.specs.Releases.{IsAmong}
pub use Rattle.rex_cluster.specs.Takes.{BeginsInRange, take_event}
pub use Rattle.rex_cluster.specs.Values.{Value, runs, service_of, spells, state_after, trace_of, values_fit}
pub use Rattle.rex_cluster.specs.World.{Row, World as ModelWorld, after, after_lines, at_node, beginning, deliver_found, if_up, logs, node_at, only, put, row, sent_from, with_handed}
pub use Rattle.rex_durable.specs.Reading.{record_in}
pub use Rattle.rex_durable.specs.declared.records.Rec.{Rec as KeptRec}
pub use Rattle.rex_event.specs.declared.event.Event.{Event}
pub use Rattle.rex_log.proofs.Firsts.{first_length, first_longer}
pub use Rattle.rex_log.specs.Log.{AreRead, first, log_behind, log_of, log_with}
pub use Rattle.rex_log.specs.Messages.{content_in, message_in}
pub use Rattle.rex_msg.proofs.MessageAgain.{message_read}
pub use Rattle.rex_msg.specs.Spelling.{HasSpelling, spelling_of}
pub use Rattle.rex_msg.specs.declared.message.Content.{Content as Says}
pub use Rattle.rex_msg.specs.declared.message.Message.{Message as Said}
pub use Rattle.rex_node.specs.Calls.{AreLimits, Does, EndsDown, LeadsTo, Refuses, counts_for, refusal_active}
pub use Rattle.rex_node.specs.Going.{RunsOn}
pub use Rattle.rex_node.specs.Parts.{ActingValue, IsActing, IsNode as IsKeptNode, NodeValue, StaysNode, count_of, here_of, knows, role_of, work_of}
pub use Rattle.rex_node.specs.Restarting.{HasForgotten}
pub use Rattle.rex_node.specs.Telling.{AreTold, IsTold}
pub use Rattle.rex_node.specs.declared.refusal.Refusal.{Refusal}
pub use Rattle.rex_node.specs.declared.step.Step.{Step}
pub use Rattle.rex_report.specs.declared.effect.Effect.{Effect}
pub use Rattle.rex_report.specs.declared.effect.Effect.TheVariants.{Delivered, IsDown}
pub use Rattle.rex_report.specs.declared.ends.End.TheVariants.{Up}
pub use Rattle.rex_safety.proofs.Agreeing.{known_begins}
pub use Rattle.rex_safety.proofs.Keeps.{step_kept}
pub use Rattle.rex_safety.proofs.Nexts.{next_fits}
pub use Rattle.rex_safety.proofs.Nodes.{node_put}
pub use Rattle.rex_safety.proofs.Takes.{take_kept}
pub use Rattle.rex_safety.specs.Kept.{IsKept, roles}
pub use Rattle.rex_schedule.specs.Fits.{IsNode, LineFits, RequestFits}
pub use Rattle.rex_schedule.specs.declared.scenario.Scenario.{Scenario}
pub use Rattle.rex_schedule.specs.declared.scenario.ScheduleLine.{ScheduleLine}
pub use Rattle.rex_state.specs.Machine.{lane_of, run}
pub use Rattle.rex_state.specs.Start.{start_of}
pub use Rattle.rex_state.specs.Value.{StateValue}
pub use Rattle.rex_steps.specs.Serving.{Serves, if_active}
pub use Rattle.rex_steps.specs.Steps.{IsDone}
pub use Rattle.rex_syntax.specs.Check.{IsChecked}
pub use Rattle.rex_syntax.specs.Service.{IsService}
pub use Rattle.rex_syntax.specs.declared.request.Request.{Request}
pub use Rattle.rex_syntax.specs.declared.service.Declarations.{Declarations}
pub use Rattle.rex_syntax.specs.declared.version.Version.{Version}
pub use Rattle.rex_traits.specs.Growth.{GrowsByFront}
pub use Rattle.rex_traits.specs.Keeping.{KeeperValue}
pub use Rattle.rex_traits.specs.StoreLaws.{memory_value}
pub use Rattle.rex_traits.specs.Stores.{value_by}
pub use Rattle.rex_traits.specs.declared.mem_keeper.Fate.{Fate}
pub use Rattle.rex_world.specs.Agreed.{learned, learned_in}
pub use Rattle.rex_world.specs.Calls.{AreReleased, ComesTo, Did, HasCome, IsSettled, Sends, Starts, call_at, served, started, step_in}
pub use Rattle.rex_world.specs.Finding.{IsSent}
pub use Rattle.rex_world.specs.Kept.{IsOf, IsRunning, IsSame}
pub use Rattle.rex_world.specs.Members.{AreKept, AreMembers, AreWithin, IsFresh, IsKeeping, IsMember, Member, StaysMember, armed_of, disarmed, faults_of, here_at, heres, records_at, records_of, AreFresh, AreNew, IsOwnMember, StaysOwnMember}
pub use Rattle.rex_world.specs.Report.{effects_text, ends_text, report_from}
pub use Rattle.rex_world.specs.Summaries.{is_release, releases_from}
pub use Rattle.rex_world.specs.World.{IsSpelled, TellsIn, TellsRightly, message_of, messages_of, nodes_of, read_message, world_of, node_in, row_in}
pub use Rattle.rex_world.specs.Writing.{IsWritten}
pub use Rattle.rex_world.specs.declared.told.Told.{Told}
pub use Rattle.rex_world.specs.declared.world.World.{World}
