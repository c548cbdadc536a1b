-- What the proofs of this crate name of what stands below them.
pub use Rattle.std.proofs.Common.{Bool, Err, List, None, Ok, Option, Result, Some, [], ap, append-nil, append_assoc, arith, cond, drop, eqb, false, get_or, inl, inr, le_refl, le_trans, leb, length, length-append, ltb, min, not, refl, subst, suc, sym, take, take-append-drop, true, w64, zero, ℕ, ◌&&◌, ◌*◌, ◌++◌, ◌+◌, ◌-◌, ◌<◌, ◌^◌, ◌||◌, ◌∙◌, ◌∷◌, ◌≡◌, ◌≤◌, ◌⊎◌, rules}
pub use Rattle.std.proofs.lemmas.Bool.{and_from, and_parts, cases_lt, eqb-false, eqb-true, false≢true, le-leb, le-ltb, leb-false, leb-true, lt-leb, lt-ltb, ne_eqb}
pub use Rattle.std.proofs.lemmas.Int.{to_z-of_z}
pub use Rattle.std.proofs.lemmas.List.{length-map, length-take-le, map-append, take-append-le, take_all, take_more}
pub use Rattle.std.proofs.lemmas.List.Elements.{All-append, All-cons, All-filter, All-head, All-nil, All-tail, All-weaker}
pub use Rattle.std.proofs.lemmas.List.Folds.{list_all-append}
pub use Rattle.std.proofs.lemmas.List.Sums.{fold_push}
pub use Rattle.std.proofs.lemmas.Option.{same_Some}
pub use Rattle.std.specs.List.{All, cons_option, filter_map, list_all}
pub use Rattle.std.specs.Option.{option_copied}
pub use Rattle.std.specs.Prelude.{IfOk, IfSome, IsOk, IsSome, OnErr, OnOk, fold, if◌then◌else◌, is_none, is_ok, is_some, map, max, nat_le, nat_lt, option_map, slice_get, slice_index_or, unwrap_or, ℤ, ◌==◌}
pub use Rattle.std.specs.declared.alloc.AllocError.{AllocError}
pub use Rattle.rand_pcg.specs.Lcg.{Lcg}
pub use Rattle.rand_pcg.specs.Pcg.{pcg32}
pub use Rattle.rex_ballot.specs.Ballot.{IsInstance}
pub use Rattle.rex_ballot.specs.Limits.{most_nodes}
pub use Rattle.rex_ballot.specs.Proposals.{IsValue, from_instance, proposal_for}
pub use Rattle.rex_ballot.specs.declared.proposal.Proposal.{Proposal as Kept}
pub use Rattle.rex_cluster.proofs.Lists.{length_push}
pub use Rattle.rex_cluster.proofs.Ranged.{accepted_rising}
pub use Rattle.rex_cluster.proofs.Replies.{fits_run, state_is, trace_both, trace_push}
pub use Rattle.rex_cluster.specs.Calls.{Call, answer, answer_base, append, begin, best, choose, decide, elect, enough, follow, followed, has_last, heard, lead, leading, learned, led, logged, on_accept, on_chosen, on_nack, on_own_promise, on_own_vote, on_prepare, on_promise, on_snapshot, on_voted, others, own_reports, propose, receive, released, replay, replayed_left, say, send, settle, stand, tell, turn, with_role, work_left}
pub use Rattle.rex_cluster.specs.Invariant.{Begins}
pub use Rattle.rex_cluster.specs.Lanes.{CallHere, Here, active_only, cut, cut_lead, cut_live, cut_role, is_faithful, limits_between, value_at}
pub use Rattle.rex_cluster.specs.Node.{Failure, Lead, Message, Role, Service, Work, down_node, is_active, no_work}
pub use Rattle.rex_cluster.specs.Node.Content.{Accept, Accepted as Voted, Chosen as Chose, Nack, Prepare, Promise, Snapshot}
pub use Rattle.rex_cluster.specs.Node.Failure.{After}
pub use Rattle.rex_cluster.specs.Node.Role.{Follower, Leads as Leading}
pub use Rattle.rex_cluster.specs.Quorum.{IsNode as IsNodeOf, ballot_above, is_in, is_majority, round_of}
pub use Rattle.rex_cluster.specs.Ranges.{AreRising, LeadFits, RoleFits}
pub use Rattle.rex_cluster.specs.Reading.{last_reply, value_in}
pub use Rattle.rex_cluster.specs.Records.{Proposal, Rec, accepted, base, from_on, has_old_base, known, last_accepted, offset, placed, promise, proposal_of}
pub use Rattle.rex_cluster.specs.Records.Rec.{Accepted, Checkpoint, Known, Promised}
pub use Rattle.rex_cluster.specs.Releases.{IsAmong}
pub use Rattle.rex_cluster.specs.Values.{Value, events_of, is_piece, read_delta, release_effect, runs, service_of, spells, state_after, trace_of, values_fit}
pub use Rattle.rex_cut.specs.Greatest.{greatest_cut}
pub use Rattle.rex_delta.specs.Alone.{behind_of}
pub use Rattle.rex_delta.specs.Reading.{delta_in}
pub use Rattle.rex_durable.proofs.OneMore.{counts_all}
pub use Rattle.rex_durable.specs.Kept.{Spell}
pub use Rattle.rex_durable.specs.Reading.{record_in}
pub use Rattle.rex_durable.specs.Recovery.{Saved, checkpoint_in, recovered, snapshot_of}
pub use Rattle.rex_durable.specs.Spelling.{HasSpelling, IsDue, record_bytes}
pub use Rattle.rex_durable.specs.declared.records.Rec.{Rec as KeptRec}
pub use Rattle.rex_durable.specs.declared.records.Rec.TheVariants.{Dropped, Transferred}
pub use Rattle.rex_durable.specs.declared.recovery.Recovered.{Recovered}
pub use Rattle.rex_event.specs.Cuts.{IsConsistent, IsWithin, below, beyond, count_at, is_below}
pub use Rattle.rex_event.specs.declared.delta.Delta.{Delta}
pub use Rattle.rex_event.specs.declared.event.Event.{Event}
pub use Rattle.rex_gate.specs.Noted.{AnswersValue, answers_at, noting}
pub use Rattle.rex_gate.specs.Numbers.{replies_to}
pub use Rattle.rex_log.proofs.Accepting.{above_from}
pub use Rattle.rex_log.proofs.Firsts.{first_length, first_take}
pub use Rattle.rex_log.proofs.Pasts.{log_then}
pub use Rattle.rex_log.specs.Laws.{Says}
pub use Rattle.rex_log.specs.Log.{first, log_of, log_with, proposal_in, read_state, rec_of, standing_in}
pub use Rattle.rex_log.specs.Messages.{content_in, message_in}
pub use Rattle.rex_msg.specs.declared.message.Content.{Content}
pub use Rattle.rex_node.specs.Calls.{Does, EndsDown, LeadsTo, RefusesThen, StopsShort, armed_with, call_of, counts_for, if_up, last_of, refusal_of_migrate, refusal_of_none}
pub use Rattle.rex_node.specs.Checkpointing.{IsCheckpoint}
pub use Rattle.rex_node.specs.Cutting.{IsIdle, IsPieceOf, ProposesCut, ProposesCutShort, ProposesPiece, ProposesPieceShort, counts_in, cut_in}
pub use Rattle.rex_node.specs.Electing.{acceptance_vote_on, reports_of, told_of}
pub use Rattle.rex_node.specs.Going.{Appends, BreaksOff, Comes, Ends, Fell, Finishes, IsStuck, Leads, Leads as LeadsOn, LosesFirst, HasTurns, RunsOn, Sends, Tells, TellsBase, above, answering, later, one_later, so_far}
pub use Rattle.rex_node.specs.Leading.{FromLead, GoesRound, HasLearned, HasOpened, IsFree, IsOwnCut, MayPropose, MaySettle, Learns, LearnsShort, Opens, OpensShort, accept_own, goes_on, knowing, may_lead, opened, replayed_to, reported_value, settling}
pub use Rattle.rex_node.specs.Parts.{ActingValue, ActsFor, AreShort, Executes, Falls, HasDecoded, HasGoneOn, HasOpen, HasReached, HasStamps, IsActing, IsCutAt, IsDown, IsKept, IsProposer, IsResting, IsSame, IsUp, NodeValue, NumbersReplies, OpenIsCut, Proposes, ReachedValue, RunsShort, Stands, StaysResting, ahead_left, ahead_of, count_of, failed_records, fallen, here_of, knows, lead_of, leaving, open_of, reached_at, role_of, state_of, whole, work_of}
pub use Rattle.rex_node.specs.Restarting.{IsFound, IsRecalled, IsRestartFault, IsSaved, KeepsReached, bad_at, bad_in, decoded_last, ends_old, first_bad, has_state, old_in, place_or, state_at}
pub use Rattle.rex_node.specs.Stated.{AreStated, is_stated}
pub use Rattle.rex_node.specs.Submitting.{given}
pub use Rattle.rex_node.specs.Telling.{AreTold, IsTold, fallen_moved, last_held}
pub use Rattle.rex_node.specs.declared.contents.Place.{Place}
pub use Rattle.rex_node.specs.declared.going.Going.{Going}
pub use Rattle.rex_node.specs.declared.going.Going.TheVariants.{Down, On}
pub use Rattle.rex_node.specs.declared.going.Round.TheVariants.{Again, Done}
pub use Rattle.rex_node.specs.declared.pieces.Piece.{Piece}
pub use Rattle.rex_node.specs.declared.refusal.Refusal.{Refusal}
pub use Rattle.rex_node.specs.declared.step.Draft.{Draft}
pub use Rattle.rex_node.specs.declared.step.Step.{Step}
pub use Rattle.rex_paxos.proofs.Counted.{counted_none, counted_push}
pub use Rattle.rex_paxos.specs.Acceptor.{AcceptorValue, accepting, answer_to_accept, forgetting, is_of_ballot, promising}
pub use Rattle.rex_paxos.specs.Counting.{AreCounted, IsOneOf, is_counted}
pub use Rattle.rex_paxos.specs.Proposer.{ProposerValue, acceptance_refusal, acceptance_vote, closed, is_candidate, proposed, voted}
pub use Rattle.rex_paxos.specs.Reports.{IsBest, best_for}
pub use Rattle.rex_paxos.specs.declared.answers.Vote.{Vote}
pub use Rattle.rex_paxos.specs.declared.answers.Why.{Why}
pub use Rattle.rex_reads.specs.Reads.{answered}
pub use Rattle.rex_record.specs.Kept.{CanBegin, IsRecorder}
pub use Rattle.rex_record.specs.Take.{taken_turn}
pub use Rattle.rex_record.specs.Turn.{turn_of}
pub use Rattle.rex_record.specs.Value.{queued_in}
pub use Rattle.rex_record.specs.declared.turns.Turn.{Turn}
pub use Rattle.rex_report.specs.declared.effect.Effect.{Effect}
pub use Rattle.rex_report.specs.declared.effect.Effect.TheVariants.{Replayed}
pub use Rattle.rex_schedule.specs.Fits.{RequestFits}
pub use Rattle.rex_snapshot.specs.Allowed.{version_in}
pub use Rattle.rex_snapshot.specs.Reading.{state_in}
pub use Rattle.rex_snapshot.specs.Spelling.{IsLimited}
pub use Rattle.rex_state.proofs.Counts.{runs_rise}
pub use Rattle.rex_state.proofs.Cuts.{cuts_go_first}
pub use Rattle.rex_state.proofs.Run.{run-then}
pub use Rattle.rex_state.proofs.Sounds.{run_keeps, start_keeps}
pub use Rattle.rex_state.specs.Commute.{GoesFirst}
pub use Rattle.rex_state.specs.Counts.{counts_of}
pub use Rattle.rex_state.specs.Machine.{entry_at, lane_of, run}
pub use Rattle.rex_state.specs.Sound.{IsSound}
pub use Rattle.rex_state.specs.Start.{start_of}
pub use Rattle.rex_state.specs.Value.{StateValue}
pub use Rattle.rex_syntax.specs.Check.{IsChecked}
pub use Rattle.rex_syntax.specs.Service.{IsService}
pub use Rattle.rex_syntax.specs.declared.request.Request.{Request}
pub use Rattle.rex_syntax.specs.declared.service.Declarations.{Declarations}
pub use Rattle.rex_syntax.specs.declared.version.Version.TheVariants.{Two}
pub use Rattle.rex_traits.proofs.Chained.{chained}
pub use Rattle.rex_traits.specs.Chains.{Answer}
pub use Rattle.rex_traits.specs.declared.keeper.KeepFault.TheVariants.{Failed}
pub use Rattle.rex_transfer.specs.Window.{Looks, SpellsDelta}
