use Rattle.std.proofs.Common.{◌≡◌, ℕ, ◌+◌, ◌<◌, ◌≤◌, arith, List, [], length, get_or, sym, ap, subst, ◌∙◌}
use Rattle.std.proofs.lemmas.List.{get_or_default}
use Rattle.rex_words.specs.declared.stamped.Stamped.{Stamped}
use Rattle.rex_words.specs.Histories.{HasNext, IsFirstList, IsFirstOf}
use Rattle.rex_words.proofs.Merging.{ended_more, goes_before, stays_behind}
use Rattle.rex_words.proofs.merge.goes_first.Goals as goal

list_at : (lists : List (List Stamped)) (i : ℕ) (d xs : List Stamped) → i < length lists → xs ≡ d → d ≡ get_or lists i d → xs ≡ get_or lists i []
list_at lists i d xs h e f = e ∙ (f ∙ get_or_default lists i d [] h)

at_end : (xs ys : List Stamped) (n : ℕ) → xs ≡ ys → length xs ≤ n → n < length ys → ⊥
at_end xs ys n e h k = let f : length xs ≡ length ys = ap (λ (l : List Stamped). length l) e in absurd (omega arith)

there : (xs ys : List Stamped) (n : ℕ) → xs ≡ ys → n < length xs → n < length ys
there xs ys n e h = let f : length xs ≡ length ys = ap (λ (l : List Stamped). length l) e in omega arith

pub returns-then-place-list : goal.returns-then-place-list
returns-then-place-list c =
    let own : c.as_slice-list.result.now ≡ get_or c.args.lists.now c.args.index [] = list_at c.args.lists.now c.args.index c.index-lists-index.result c.as_slice-list.result.now c.requires.index c.as_slice-list.ensures c.index-lists-index.is in
    record {
      goes = λ e. absurd (cc);
      stays = λ e. ended_more c.args.lists.now c.args.places.now c.args.index c.args.first c.requires.first (at_end _ _ (get_or c.args.places.now c.args.index 0) own c.if-place-list.true);
    }

pub returns : goal.returns
returns c =
    let own : c.as_slice-list.result.now ≡ get_or c.args.lists.now c.args.index [] = list_at c.args.lists.now c.args.index c.index-lists-index.result c.as_slice-list.result.now c.requires.index c.as_slice-list.ensures c.index-lists-index.is in
    let first : IsFirstList c.args.lists.now c.args.places.now c.args.index c.in-Some.other = subst (IsFirstOf c.args.lists.now c.args.places.now c.args.index) c.in-Some.is c.requires.first in
    let other : c.as_slice.result.now ≡ get_or c.args.lists.now c.in-Some.other [] = list_at c.args.lists.now c.in-Some.other c.index-lists-other.result c.as_slice.result.now (let w = first.within in let i = c.requires.index in omega arith) c.as_slice.ensures c.index-lists-other.is in
    let a = c.index-list-place.result in
    let b = c.index-as_slice-places.result in
    let next : HasNext c.args.lists.now c.args.places.now c.args.index = there _ _ (get_or c.args.places.now c.args.index 0) own c.if-place-list.false in
    let a_is : a ≡ get_or (get_or c.args.lists.now c.args.index []) (get_or c.args.places.now c.args.index 0) a = c.index-list-place.is ∙ ap (λ (l : List Stamped). get_or l (get_or c.args.places.now c.args.index 0) a) own in
    let b_is : b ≡ get_or (get_or c.args.lists.now c.in-Some.other []) (get_or c.args.places.now c.in-Some.other 0) b = c.index-as_slice-places.is ∙ ap (λ (l : List Stamped). get_or l (get_or c.args.places.now c.in-Some.other 0) b) other in
    record {
      goes = λ e. goes_before c.args.lists.now c.args.places.now c.args.index c.in-Some.other first next a b a_is b_is (sym c.comes_before.ensures ∙ e);
      stays = λ e. subst (IsFirstOf c.args.lists.now c.args.places.now (c.args.index + 1)) (sym c.in-Some.is) (stays_behind c.args.lists.now c.args.places.now c.args.index c.in-Some.other first next a b a_is b_is (sym c.comes_before.ensures ∙ e));
    }
