use Rattle.std.proofs.Common.{ℕ, Bool, List, ap, ◌∙◌}
use Rattle.rex_syntax.specs.declared.locks.Lockset.{Lockset}
use Rattle.rex_syntax.specs.declared.service.Declarations.{Declarations}
use Rattle.rex_syntax.specs.Service.{IsService}
use Rattle.rex_frame.specs.Guarded.{may_write}
use Rattle.rex_state.specs.Value.{StateValue}
use Rattle.rex_state.specs.Sound.{with_flows}
use Rattle.rex_live.specs.Laws.{KeepsState}
use Rattle.rex_live.specs.Lent.{IsLending}
use Rattle.rex_live.proofs.Lends.{held_same, reads_kept}
use Rattle.rex_live.proofs.laws.lending_keeps_state.Goals as goal

keeps : (service : Declarations) (out : List Bool) (kept s : StateValue) → IsService service → IsLending service out kept s → KeepsState service out kept s
keeps service out kept s good lending =
    let held : (lane : ℕ) → _ = held_same (with_flows service lending.flows) (record { service = good; flows = lending.right }) out kept s lending.by in
    record {
      held = held;
      queues = lending.by.queues;
      semaphores = lending.by.semaphores;
      clients = lending.by.clients;
      free = λ x none. lending.by.others x (λ lane gone. ap (λ (h : Lockset). may_write service h x) (held lane) ∙ none lane);
      back = lending.by.back;
      guarded = λ lane x back h. reads_kept (with_flows service lending.flows) (record { service = good; flows = lending.right }) out kept s lending.by lane x back h;
      lent = lending.by.lent;
    }

pub returns : goal.returns
returns c = λ service out kept s good lending. keeps service out kept s good lending
