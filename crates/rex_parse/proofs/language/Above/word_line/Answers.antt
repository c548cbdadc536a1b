use Rattle.std.proofs.Common.{[]}
use Rattle.std.specs.Borrow.{Bor}
use Rattle.rex_text.specs.Text.{Word}
use Rattle.rex_parse.specs.declared.language.Form.TheVariants as form
use Rattle.rex_parse.proofs.Dispatch.{dispatched}
use Rattle.rex_parse.proofs.language.Above.word_line.Goals as goal

abbrev no_word : Bor Word
no_word = record { ref_ptr = (0, 0); now = [] }

pub returns-in-Some-Lanes-clause-takes : goal.returns-in-Some-Lanes-clause-takes
returns-in-Some-Lanes-clause-takes c =
    dispatched c.args.self.now c.lanes_line.new.self c.args.words.now no_word c.args.number c.in-Some-Lanes.field-0 form.Lanes c.lanes_line.result c.in-len1-up.len_at_least c.in-Some-Lanes.ensures c.in-Some-Lanes.field-0-is c.lanes_line.ensures.takes

pub returns-in-Some-Lock-clause-takes : goal.returns-in-Some-Lock-clause-takes
returns-in-Some-Lock-clause-takes c =
    dispatched c.args.self.now c.lock_line.new.self c.args.words.now no_word c.args.number c.in-Some-Lock.field-0 form.Lock c.lock_line.result c.in-len1-up.len_at_least c.in-Some-Lock.ensures c.in-Some-Lock.field-0-is c.lock_line.ensures.takes

pub returns-in-Some-RwLock-clause-takes : goal.returns-in-Some-RwLock-clause-takes
returns-in-Some-RwLock-clause-takes c =
    dispatched c.args.self.now c.rwlock_line.new.self c.args.words.now no_word c.args.number c.in-Some-RwLock.field-0 form.RwLock c.rwlock_line.result c.in-len1-up.len_at_least c.in-Some-RwLock.ensures c.in-Some-RwLock.field-0-is c.rwlock_line.ensures.takes

pub returns-in-Some-Sem-clause-takes : goal.returns-in-Some-Sem-clause-takes
returns-in-Some-Sem-clause-takes c =
    dispatched c.args.self.now c.sem_line.new.self c.args.words.now no_word c.args.number c.in-Some-Sem.field-0 form.Sem c.sem_line.result c.in-len1-up.len_at_least c.in-Some-Sem.ensures c.in-Some-Sem.field-0-is c.sem_line.ensures.takes

pub returns-in-Some-Cond-clause-takes : goal.returns-in-Some-Cond-clause-takes
returns-in-Some-Cond-clause-takes c =
    dispatched c.args.self.now c.cond_line.new.self c.args.words.now no_word c.args.number c.in-Some-Cond.field-0 form.Cond c.cond_line.result c.in-len1-up.len_at_least c.in-Some-Cond.ensures c.in-Some-Cond.field-0-is c.cond_line.ensures.takes

pub returns-in-Some-Var-clause-takes : goal.returns-in-Some-Var-clause-takes
returns-in-Some-Var-clause-takes c =
    dispatched c.args.self.now c.var_line.new.self c.args.words.now no_word c.args.number c.in-Some-Var.field-0 form.Var c.var_line.result c.in-len1-up.len_at_least c.in-Some-Var.ensures c.in-Some-Var.field-0-is c.var_line.ensures.takes

pub returns-in-Some-Handler-clause-takes : goal.returns-in-Some-Handler-clause-takes
returns-in-Some-Handler-clause-takes c =
    dispatched c.args.self.now c.handler_line.new.self c.args.words.now no_word c.args.number c.in-Some-Handler.field-0 form.Handler c.handler_line.result c.in-len1-up.len_at_least c.in-Some-Handler.ensures c.in-Some-Handler.field-0-is c.handler_line.ensures.takes

pub returns-in-Some-Acquire-clause-takes : goal.returns-in-Some-Acquire-clause-takes
returns-in-Some-Acquire-clause-takes c =
    dispatched c.args.self.now c.acquire_line.new.self c.args.words.now no_word c.args.number c.in-Some-Acquire.field-0 form.Acquire c.acquire_line.result c.in-len1-up.len_at_least c.in-Some-Acquire.ensures c.in-Some-Acquire.field-0-is c.acquire_line.ensures.takes

pub returns-in-Some-Share-clause-takes : goal.returns-in-Some-Share-clause-takes
returns-in-Some-Share-clause-takes c =
    dispatched c.args.self.now c.share_line.new.self c.args.words.now no_word c.args.number c.in-Some-Share.field-0 form.Share c.share_line.result c.in-len1-up.len_at_least c.in-Some-Share.ensures c.in-Some-Share.field-0-is c.share_line.ensures.takes

pub returns-in-Some-Release-clause-takes : goal.returns-in-Some-Release-clause-takes
returns-in-Some-Release-clause-takes c =
    dispatched c.args.self.now c.release_line.new.self c.args.words.now no_word c.args.number c.in-Some-Release.field-0 form.Release c.release_line.result c.in-len1-up.len_at_least c.in-Some-Release.ensures c.in-Some-Release.field-0-is c.release_line.ensures.takes

pub returns-in-Some-Try-clause-takes : goal.returns-in-Some-Try-clause-takes
returns-in-Some-Try-clause-takes c =
    dispatched c.args.self.now c.try_line.new.self c.args.words.now no_word c.args.number c.in-Some-Try.field-0 form.Try c.try_line.result c.in-len1-up.len_at_least c.in-Some-Try.ensures c.in-Some-Try.field-0-is c.try_line.ensures.takes

pub returns-in-Some-Busy-clause-takes : goal.returns-in-Some-Busy-clause-takes
returns-in-Some-Busy-clause-takes c =
    dispatched c.args.self.now c.busy_line.new.self c.args.words.now no_word c.args.number c.in-Some-Busy.field-0 form.Busy c.busy_line.result c.in-len1-up.len_at_least c.in-Some-Busy.ensures c.in-Some-Busy.field-0-is c.busy_line.ensures.takes

pub returns-in-Some-EndTry-clause-takes : goal.returns-in-Some-EndTry-clause-takes
returns-in-Some-EndTry-clause-takes c =
    dispatched c.args.self.now c.endtry_line.new.self c.args.words.now no_word c.args.number c.in-Some-EndTry.field-0 form.EndTry c.endtry_line.result c.in-len1-up.len_at_least c.in-Some-EndTry.ensures c.in-Some-EndTry.field-0-is c.endtry_line.ensures.takes

pub returns-in-Some-Wait-clause-takes : goal.returns-in-Some-Wait-clause-takes
returns-in-Some-Wait-clause-takes c =
    dispatched c.args.self.now c.wait_line.new.self c.args.words.now no_word c.args.number c.in-Some-Wait.field-0 form.Wait c.wait_line.result c.in-len1-up.len_at_least c.in-Some-Wait.ensures c.in-Some-Wait.field-0-is c.wait_line.ensures.takes

pub returns-in-Some-Signal-clause-takes : goal.returns-in-Some-Signal-clause-takes
returns-in-Some-Signal-clause-takes c =
    dispatched c.args.self.now c.signal_line.new.self c.args.words.now no_word c.args.number c.in-Some-Signal.field-0 form.Signal c.signal_line.result c.in-len1-up.len_at_least c.in-Some-Signal.ensures c.in-Some-Signal.field-0-is c.signal_line.ensures.takes

pub returns-in-Some-Broadcast-clause-takes : goal.returns-in-Some-Broadcast-clause-takes
returns-in-Some-Broadcast-clause-takes c =
    dispatched c.args.self.now c.broadcast_line.new.self c.args.words.now no_word c.args.number c.in-Some-Broadcast.field-0 form.Broadcast c.broadcast_line.result c.in-len1-up.len_at_least c.in-Some-Broadcast.ensures c.in-Some-Broadcast.field-0-is c.broadcast_line.ensures.takes

pub returns-in-Some-Down-clause-takes : goal.returns-in-Some-Down-clause-takes
returns-in-Some-Down-clause-takes c =
    dispatched c.args.self.now c.down_line.new.self c.args.words.now no_word c.args.number c.in-Some-Down.field-0 form.Down c.down_line.result c.in-len1-up.len_at_least c.in-Some-Down.ensures c.in-Some-Down.field-0-is c.down_line.ensures.takes

pub returns-in-Some-Up-clause-takes : goal.returns-in-Some-Up-clause-takes
returns-in-Some-Up-clause-takes c =
    dispatched c.args.self.now c.up_line.new.self c.args.words.now no_word c.args.number c.in-Some-Up.field-0 form.Up c.up_line.result c.in-len1-up.len_at_least c.in-Some-Up.ensures c.in-Some-Up.field-0-is c.up_line.ensures.takes

pub returns-in-Some-Set-clause-takes : goal.returns-in-Some-Set-clause-takes
returns-in-Some-Set-clause-takes c =
    dispatched c.args.self.now c.set_line.new.self c.args.words.now no_word c.args.number c.in-Some-Set.field-0 form.Set c.set_line.result c.in-len1-up.len_at_least c.in-Some-Set.ensures c.in-Some-Set.field-0-is c.set_line.ensures.takes

pub returns-in-Some-Let-clause-takes : goal.returns-in-Some-Let-clause-takes
returns-in-Some-Let-clause-takes c =
    dispatched c.args.self.now c.let_line.new.self c.args.words.now no_word c.args.number c.in-Some-Let.field-0 form.Let c.let_line.result c.in-len1-up.len_at_least c.in-Some-Let.ensures c.in-Some-Let.field-0-is c.let_line.ensures.takes

pub returns-in-Some-Clock-clause-takes : goal.returns-in-Some-Clock-clause-takes
returns-in-Some-Clock-clause-takes c =
    dispatched c.args.self.now c.clock_line.new.self c.args.words.now no_word c.args.number c.in-Some-Clock.field-0 form.Clock c.clock_line.result c.in-len1-up.len_at_least c.in-Some-Clock.ensures c.in-Some-Clock.field-0-is c.clock_line.ensures.takes

pub returns-in-Some-Random-clause-takes : goal.returns-in-Some-Random-clause-takes
returns-in-Some-Random-clause-takes c =
    dispatched c.args.self.now c.random_line.new.self c.args.words.now no_word c.args.number c.in-Some-Random.field-0 form.Random c.random_line.result c.in-len1-up.len_at_least c.in-Some-Random.ensures c.in-Some-Random.field-0-is c.random_line.ensures.takes

pub returns-in-Some-If-clause-takes : goal.returns-in-Some-If-clause-takes
returns-in-Some-If-clause-takes c =
    dispatched c.args.self.now c.if_line.new.self c.args.words.now no_word c.args.number c.in-Some-If.field-0 form.If c.if_line.result c.in-len1-up.len_at_least c.in-Some-If.ensures c.in-Some-If.field-0-is c.if_line.ensures.takes

pub returns-in-Some-Else-clause-takes : goal.returns-in-Some-Else-clause-takes
returns-in-Some-Else-clause-takes c =
    dispatched c.args.self.now c.else_line.new.self c.args.words.now no_word c.args.number c.in-Some-Else.field-0 form.Else c.else_line.result c.in-len1-up.len_at_least c.in-Some-Else.ensures c.in-Some-Else.field-0-is c.else_line.ensures.takes

pub returns-in-Some-EndIf-clause-takes : goal.returns-in-Some-EndIf-clause-takes
returns-in-Some-EndIf-clause-takes c =
    dispatched c.args.self.now c.endif_line.new.self c.args.words.now no_word c.args.number c.in-Some-EndIf.field-0 form.EndIf c.endif_line.result c.in-len1-up.len_at_least c.in-Some-EndIf.ensures c.in-Some-EndIf.field-0-is c.endif_line.ensures.takes

pub returns-in-Some-Repeat-clause-takes : goal.returns-in-Some-Repeat-clause-takes
returns-in-Some-Repeat-clause-takes c =
    dispatched c.args.self.now c.repeat_line.new.self c.args.words.now no_word c.args.number c.in-Some-Repeat.field-0 form.Repeat c.repeat_line.result c.in-len1-up.len_at_least c.in-Some-Repeat.ensures c.in-Some-Repeat.field-0-is c.repeat_line.ensures.takes

pub returns-in-Some-EndRepeat-clause-takes : goal.returns-in-Some-EndRepeat-clause-takes
returns-in-Some-EndRepeat-clause-takes c =
    dispatched c.args.self.now c.endrepeat_line.new.self c.args.words.now no_word c.args.number c.in-Some-EndRepeat.field-0 form.EndRepeat c.endrepeat_line.result c.in-len1-up.len_at_least c.in-Some-EndRepeat.ensures c.in-Some-EndRepeat.field-0-is c.endrepeat_line.ensures.takes

pub returns-in-Some-Reply-clause-takes : goal.returns-in-Some-Reply-clause-takes
returns-in-Some-Reply-clause-takes c =
    dispatched c.args.self.now c.reply_line.new.self c.args.words.now no_word c.args.number c.in-Some-Reply.field-0 form.Reply c.reply_line.result c.in-len1-up.len_at_least c.in-Some-Reply.ensures c.in-Some-Reply.field-0-is c.reply_line.ensures.takes
