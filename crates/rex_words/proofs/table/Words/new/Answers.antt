use Rattle.std.proofs.Common.{◌+◌, ◌<◌, ℕ, ◌∙◌, ap, sym, List, subst, length}
use Rattle.rex_syntax.specs.declared.service.Declarations.{Declarations}
use Rattle.rex_state.specs.Start.{start_of}
use Rattle.rex_state.specs.Value.{StateValue}
use Rattle.rex_words.specs.declared.assignment.Assignment.{Assignment}
use Rattle.rex_words.specs.Alone.{service_of}
use Rattle.rex_words.specs.Moment.{IsAssignment, locks_in, variables_in}
use Rattle.rex_words.specs.Dealing.{AreWordsFor}
use Rattle.rex_words.proofs.Dealt.{assignment_right, opens_with, words_more}
use Rattle.rex_words.proofs.table.Words.new.Goals as goal

pub of_words-requires : goal.of_words-requires
of_words-requires c =
    let of = c.in_ok-assignment.ensures in
    opens_with c.in_ok-assignment.assignment (assignment_right c.in_ok-assignment.assignment _ _ _ of c.requires c.declarations.ensures.sound c.declarations.ensures.checked) c.deref.result.now _ _
    (c.len-locks.ensures ∙ ap (λ (d : Declarations). length d.locks) (c.declarations.ensures.whole ∙ sym of.service_is))
    (c.variables.ensures ∙ ap (λ (s : StateValue). s.variables) (c.in_ok-start.ensures.start ∙ ap start_of (sym of.service_is)))
    (subst (λ (ws : List ℕ). AreWordsFor c.variables.result.now c.len-locks.result ws) (sym c.deref.ensures.value) c.in_ok-words.ensures)

pub deal_all-requires-clause-right : goal.deal_all-requires-clause-right
deal_all-requires-clause-right c =
    let of = c.in_ok-assignment.ensures in
    subst IsAssignment (sym c.in_ok-table.ensures.5) (assignment_right c.in_ok-assignment.assignment _ _ _ of c.requires c.declarations.ensures.sound c.declarations.ensures.checked)

pub returns-clause-words : goal.returns-clause-words
returns-clause-words c =
    let of = c.in_ok-assignment.ensures in
    let right : IsAssignment c.in_ok-assignment.assignment = assignment_right c.in_ok-assignment.assignment _ _ _ of c.requires c.declarations.ensures.sound c.declarations.ensures.checked in
    let long = words_more c.in_ok-assignment.assignment right c.deref.result.now _ _
    (c.len-locks.ensures ∙ ap (λ (d : Declarations). length d.locks) (c.declarations.ensures.whole ∙ sym of.service_is))
    (c.variables.ensures ∙ ap (λ (s : StateValue). s.variables) (c.in_ok-start.ensures.start ∙ ap start_of (sym of.service_is)))
    (subst (λ (ws : List ℕ). AreWordsFor c.variables.result.now c.len-locks.result ws) (sym c.deref.ensures.value) c.in_ok-words.ensures) in
    let key = c.in_ok-table.ensures.5 in
    record {
      whole = record {
        right = subst IsAssignment (sym key) right;
        words = subst (λ (x : Assignment × ℕ). locks_in x.0 + variables_in x.0 < x.1) (λ i. (sym key i, sym c.in_ok-table.ensures.0 i)) long;
        slots = c.in_ok-table.ensures.1;
        service_is = sym of.service_is ∙ ap service_of (sym key);
      };
    }
