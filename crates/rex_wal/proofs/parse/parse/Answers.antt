use Rattle.std.proofs.Common.{rules, ◌≡◌, [], ◌∷◌, ◌++◌, List, ℕ, sym, ◌∙◌, ap, subst}
use Rattle.std.specs.Prelude.{All}
use Rattle.std.proofs.lemmas.List.Elements.{All-push}
use Rattle.rex_wal.specs.Journal.{BeginsNone, IsRecord, entries, entry, head}
use Rattle.rex_wal.proofs.Making.{read_found, read_gap}
use Rattle.rex_wal.proofs.Spelling.{entries_push}
use Rattle.rex_wal.proofs.parse.parse.Goals as goal

pub loop-records-preserved : goal.loop-records-preserved
loop-records-preserved c =
    let taken = c.loop-records.records.items in
    let r = c.in-Some-2.record in
    let behind = c.in-Some-2.behind.now in
    let pushed : c.push.new.self.items ≡ taken ++ r ∷ [] = search rules in
    let next : c.loop-records.rest.now ≡ entry r ++ behind = search rules in
    let each : IsRecord r = search rules in
    record {
      split = c.loop-records.invariant.split ∙ ap (λ (xs : List ℕ). head ++ (entries taken ++ xs)) next ∙ ap (λ (xs : List ℕ). head ++ xs) (sym (entries_push taken r behind)) ∙ ap (λ (rs : List (List ℕ)). head ++ (entries rs ++ behind)) (sym pushed);
      each = subst (λ (rs : List (List ℕ)). All IsRecord rs) (sym pushed) (All-push IsRecord taken r c.loop-records.invariant.each each);
    }

pub returns-then-has_later-clause-bad : goal.returns-then-has_later-clause-bad
returns-then-has_later-clause-bad c =
    let none : BeginsNone c.loop-records.rest.now = search rules in
    read_gap c.args.bytes.now c.loop-records.records.items c.loop-records.rest.now c.loop-records.invariant.split c.loop-records.invariant.each none (c.has_later.ensures.yes c.if-has_later.true)

pub returns-clause-found : goal.returns-clause-found
returns-clause-found c =
    let none : BeginsNone c.loop-records.rest.now = search rules in
    read_found c.args.bytes.now c.loop-records.records.items c.loop-records.rest.now c.loop-records.invariant.split c.loop-records.invariant.each none (c.has_later.ensures.no c.if-has_later.false)
