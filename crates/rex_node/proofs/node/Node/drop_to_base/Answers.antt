use Rattle.rex_node.proofs.Common.{rules, [], ◌∷◌, ◌++◌, refl, sym, ap, subst, ◌∙◌, ◌≤◌, count_of}
use Rattle.rex_durable.specs.declared.records.Rec.TheVariants as kept
use Rattle.rex_report.specs.declared.effect.Effect.TheVariants as effect
use Rattle.rex_node.proofs.Dropping.{drop_counts, drop_down, drop_ends, drop_stuck}
use Rattle.rex_node.proofs.Promises.{appends_at, on_err_anyway}
use Rattle.rex_node.proofs.node.Node.drop_to_base.Goals as goal

pub returns-in-Down : goal.returns-in-Down
returns-in-Down g c = record {
  ends = drop_down _ _ _ _ _ _ _ c.args.draft.now c.append.new.draft c.requires.may.node c.requires.may.up c.requires.held
      (appends_at _ _ _ _ _ c.args.draft.now c.append.new.draft _ (ap (λ n. kept.Dropped n.base) c.self.view_is) c.in-Down.is c.in_ok-append.ensures.appends);
  stuck = search rules;
  same = search rules;
}

pub forget-requires-clause-to : goal.forget-requires-clause-to
forget-requires-clause-to g c =
    subst (λ n. n.base ≤ count_of c.append.new.self) (sym c.self.view_is)
    (drop_counts _ _ _ _ _ _ _ c.args.draft.now c.append.new.draft c.requires.may.node c.requires.may.up c.requires.held
    (appends_at _ _ _ _ _ c.args.draft.now c.append.new.draft _ (ap (λ n. kept.Dropped n.base) c.self.view_is) c.in-On.is c.in_ok-append.ensures.appends)
    _ refl)

pub returns-in_err-tell-in-On : goal.returns-in_err-tell-in-On
returns-in_err-tell-in-On g c = record {
  ends = search rules;
  stuck = on_err_anyway _ _
      (drop_stuck _ _ _ _ _ _ _ _ c.append.new.draft c.requires.may.node c.requires.may.up c.requires.held
      (appends_at _ _ _ _ _ c.args.draft.now c.append.new.draft _ (ap (λ n. kept.Dropped n.base) c.self.view_is) c.in-On.is c.in_ok-append.ensures.appends)
      (ap (λ n. n.keeper) c.forget.ensures) (ap (λ n. n.base) c.forget.ensures));
  same = search rules;
}

pub returns : goal.returns
returns g c = record {
  ends = drop_ends _ _ _ _ _ _ _ c.args.draft.now c.append.new.draft c.requires.may.node c.requires.may.up c.requires.held
      (appends_at _ _ _ _ _ c.args.draft.now c.append.new.draft _ (ap (λ n. kept.Dropped n.base) c.self.view_is) c.in-On.is c.in_ok-append.ensures.appends)
      _ refl c.requires.past c.tell.new.self c.forget.ensures (ap (λ n. n.base) c.self.view_is)
      (c.in_ok-tell-in-On.ensures.effects ∙ ap (λ n. c.append.new.draft.effects.items ++ effect.Dropped n.id n.base ∷ []) c.self.view_is) c.in_ok-tell-in-On.ensures.sends;
  stuck = search rules;
  same = search rules;
}
