use Rattle.std.proofs.Common.{◌≡◌, ◌≤◌, ◌++◌, List, ℕ, length, refl, subst}
use Rattle.std.specs.Prelude.{Err, Ok, is_ok}
use Rattle.std.proofs.lemmas.Result.{err_from_is_err_and}
use Rattle.rex_process.specs.Keeping.{ByAppendsAndFlushes}
use Rattle.rex_process.proofs.Keeping.{appends_done, appends_wait, more_done, nothing_done}
use Rattle.rex_serve.specs.Serving.{BeginsWith, GrowsBy, Serves, StandsAs, TellsAs}
use Rattle.rex_serve.specs.declared.serving.Ended.{Ended}
use Rattle.rex_serve.specs.declared.serving.Ended.TheVariants as ended
use Rattle.rex_serve.proofs.Counting.{failed_rose}
use Rattle.rex_serve.proofs.Fronts.{left_is_last, left_is_short}
use Rattle.rex_serve.proofs.Sent.{all_held, has_answers, piece_broken, piece_sent, piece_unread, piece_untold, HasAnswers}
use Rattle.rex_serve.proofs.serving.serve_piece.Given as given
use Rattle.rex_serve.proofs.serving.serve_piece.Goals as goal
use Rattle.rex_serve.proofs.serving.serve_piece.Goals.{After-answer_all}

pub returns-then-is_err-clause-served : goal.returns-then-is_err-clause-served
returns-then-is_err-clause-served g c =
    (tt, piece_unread g.K.Keeper.records g.K.Flush.kept g.K.Keeper.faults c.args.process.now (c.args.held.now.items ++ c.args.piece.now) (g.W.Sink.taken c.args.sink.now) c.requires.settled)

-- what was answered is what was held and read
held_and_read : (g : given.Over) (c : After-answer_all g) → c.deref.result.now ≡ c.args.held.now.items ++ c.args.piece.now
held_and_read g c =
    all_held (is_ok c.extend_from_slice.result) _ c.extend_from_slice.new.self.items c.args.held.now.items c.args.piece.now c.if-is_err.ensures.negation c.extend_from_slice.ensures.items c.deref.ensures.value

-- nothing was kept for good
waited : (g : given.Over) (c : After-answer_all g) → g.K.Flush.kept c.answer_all.new.process.node.keeper ≡ g.K.Flush.kept c.args.process.now.node.keeper
waited g c = appends_wait g.K.Keeper.append_gives g.K.Flush.kept g.met.K.Flush.appends_wait c.args.process.now.node.keeper c.answer_all.new.process.node.keeper c.answer_all.ensures.appends

-- appends alone were made
appended : (g : given.Over) (c : After-answer_all g) → ByAppendsAndFlushes g.K.Keeper.append_gives g.K.Flush.flush_gives c.args.process.now.node.keeper c.answer_all.new.process.node.keeper
appended g c = appends_done g.K.Keeper.append_gives g.K.Flush.flush_gives c.args.process.now.node.keeper c.answer_all.new.process.node.keeper c.answer_all.ensures.appends

pub returns-in-Err-clause-served : goal.returns-in-Err-clause-served
returns-in-Err-clause-served g c = (
  tt,
  piece_broken g.K.Keeper.records g.K.Flush.kept g.K.Keeper.faults c.args.process.now c.answer_all.new.process c.deref.result.now (c.args.held.now.items ++ c.args.piece.now) (g.W.Sink.taken c.args.sink.now)
      c.requires.settled c.in-Err.ensures.broken (waited g (goal.at.returns-in-Err-clause-served g c).After-answer_all) (held_and_read g (goal.at.returns-in-Err-clause-served g c).After-answer_all),
)

-- and these are the answers
answers : (g : given.Over) (c : After-answer_all g) (left : List ℕ)
    → GrowsBy (Serves g.K.Keeper.records g.K.Keeper.faults c.args.process.now c.answer_all.new.process c.deref.result.now left) c.new-out.result.items c.answer_all.new.out.items
    → HasAnswers g.K.Keeper.records g.K.Flush.kept g.K.Keeper.faults c.args.process.now c.answer_all.new.process (c.args.held.now.items ++ c.args.piece.now) left c.answer_all.new.out.items
answers g c left served =
    has_answers g.K.Keeper.records g.K.Flush.kept g.K.Keeper.faults c.args.process.now c.answer_all.new.process c.deref.result.now (c.args.held.now.items ++ c.args.piece.now) left c.new-out.result.items
    c.answer_all.new.out.items served (held_and_read g c) c.new-out.ensures.items

pub returns-in_err-tell-clause-served : goal.returns-in_err-tell-clause-served
returns-in_err-tell-clause-served g c =
    let p = err_from_is_err_and c.from_residual.result c.from_residual.ensures.1 in
    let told = subst (λ (out : List ℕ). TellsAs g.K.Keeper.records g.K.Flush.kept g.K.Keeper.faults c.answer_all.new.process c.tell.new.process out (g.W.Sink.taken c.args.sink.now) (g.W.Sink.taken c.tell.new.sink) (Err c.in_err-tell.field-0.0))
    c.deref-2.ensures.value c.in_err-tell.ensures.tells in
    rw (p.1, p.2) (piece_untold g.K.Keeper.records g.K.Flush.kept g.K.Keeper.faults c.in_err-tell.field-0.0 c.args.process.now c.answer_all.new.process c.tell.new.process (c.args.held.now.items ++ c.args.piece.now)
    c.in-Ok.left.now c.answer_all.new.out.items (g.W.Sink.taken c.args.sink.now) (g.W.Sink.taken c.tell.new.sink) c.requires.settled
    (answers g (goal.at.returns-in_err-tell-clause-served g c).After-answer_all c.in-Ok.left.now c.in-Ok.ensures.served) (waited g (goal.at.returns-in_err-tell-clause-served g c).After-answer_all) c.tell.ensures.flushed told)

pub keep_last-requires : goal.keep_last-requires
keep_last-requires g c =
    let read = c.in-Ok.ensures.served.holds in
    subst (λ (b : List ℕ). length c.in-Ok.left.now ≤ length b) c.deref.ensures.value (left_is_short c.deref.result.now read.frames c.in-Ok.left.now read.read)

pub returns-clause-served : goal.returns-clause-served
returns-clause-served g c =
    let read = c.in-Ok.ensures.served.holds in
    let begins : BeginsWith c.extend_from_slice.new.self.items read.frames c.in-Ok.left.now = subst (λ b. BeginsWith b read.frames c.in-Ok.left.now) c.deref.ensures.value read.read in
    let held = subst (λ (b : List ℕ). c.keep_last.new.held.items ≡ b) (left_is_last c.extend_from_slice.new.self.items read.frames c.in-Ok.left.now begins) c.keep_last.ensures in
    let told = subst (λ (out : List ℕ). TellsAs g.K.Keeper.records g.K.Flush.kept g.K.Keeper.faults c.answer_all.new.process c.tell.new.process out (g.W.Sink.taken c.args.sink.now) (g.W.Sink.taken c.tell.new.sink) (Ok tt))
    c.deref-2.ensures.value c.in_ok-tell.ensures.tells in
    piece_sent g.K.Keeper.records g.K.Flush.kept g.K.Keeper.faults c.args.process.now c.answer_all.new.process c.tell.new.process (c.args.held.now.items ++ c.args.piece.now) c.in-Ok.left.now c.keep_last.new.held.items
    c.answer_all.new.out.items (g.W.Sink.taken c.args.sink.now) (g.W.Sink.taken c.tell.new.sink) c.standing.result
    (answers g (goal.at.returns-clause-served g c).After-answer_all c.in-Ok.left.now c.in-Ok.ensures.served) c.tell.ensures.flushed told c.in-Ok.ensures.all held
    (subst (λ b. StandsAs b c.standing.result) c.deref-3.ensures.value c.standing.ensures)

pub returns-then-is_err-clause-keeper : goal.returns-then-is_err-clause-keeper
returns-then-is_err-clause-keeper g c = nothing_done g.K.Keeper.append_gives g.K.Flush.flush_gives c.args.process.now.node.keeper c.args.process.now.node.keeper refl

pub returns-in-Err-clause-keeper : goal.returns-in-Err-clause-keeper
returns-in-Err-clause-keeper g c = appended g (goal.at.returns-in-Err-clause-keeper g c).After-answer_all

pub returns-in_err-tell-clause-keeper : goal.returns-in_err-tell-clause-keeper
returns-in_err-tell-clause-keeper g c =
    more_done g.K.Keeper.append_gives g.K.Flush.flush_gives c.args.process.now.node.keeper c.answer_all.new.process.node.keeper c.tell.new.process.node.keeper
    (appended g (goal.at.returns-in_err-tell-clause-keeper g c).After-answer_all) c.tell.ensures.keeper

pub returns-clause-keeper : goal.returns-clause-keeper
returns-clause-keeper g c =
    more_done g.K.Keeper.append_gives g.K.Flush.flush_gives c.args.process.now.node.keeper c.answer_all.new.process.node.keeper c.tell.new.process.node.keeper
    (appended g (goal.at.returns-clause-keeper g c).After-answer_all) c.tell.ensures.keeper

pub returns-in_err-tell-clause-down : goal.returns-in_err-tell-clause-down
returns-in_err-tell-clause-down g c = λ down.
    let p = err_from_is_err_and c.from_residual.result c.from_residual.ensures.1 in
    let is : c.in_err-tell.field-0.0 ≡ ended.Down = (let a = p.1 in let b = p.2 in cc) in
    failed_rose g.K.Keeper.faults c.args.process.now c.answer_all.new.process c.tell.new.process c.in-Ok.ensures.counts
    (subst (λ (e : Ended). TellsAs g.K.Keeper.records g.K.Flush.kept g.K.Keeper.faults c.answer_all.new.process c.tell.new.process c.deref-2.result.now (g.W.Sink.taken c.args.sink.now) (g.W.Sink.taken c.tell.new.sink) (Err e)) is c.in_err-tell.ensures.tells).0
    c.tell.ensures.counts
