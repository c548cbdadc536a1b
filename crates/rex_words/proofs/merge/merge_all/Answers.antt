use Rattle.std.proofs.Common.{List, ℕ, [], subst, sym, ◌∙◌}
use Rattle.rex_words.specs.Histories.{IsMerging}
use Rattle.rex_words.proofs.Merging.{none_merged}
use Rattle.rex_words.proofs.merge.merge_all.Goals as goal

pub merge_from-requires : goal.merge_from-requires
merge_from-requires c =
    subst (λ (places : List ℕ). IsMerging c.args.lists.now places []) (sym (c.deref_mut.ensures.value ∙ c.in_ok-places.ensures.items_if_clones_equal (λ y e. e))) (none_merged c.args.lists.now c.requires.0 c.requires.1)
