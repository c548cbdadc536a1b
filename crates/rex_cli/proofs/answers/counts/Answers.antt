use Rattle.std.proofs.Common.{◌≡◌, ◌++◌, ◌∷◌, [], ℕ, List, length, sym, ap, ◌∙◌, append_assoc}
use Rattle.std.specs.Prelude.{codes}
use Rattle.std.specs.Fmt.{decimal}
use Rattle.rex_report.specs.Pieces.{spaced}
use Rattle.rex_report.proofs.Spaced.{spaced-append}
use Rattle.rex_cli.specs.Due.{semaphores_counted}
use Rattle.rex_cli.proofs.answers.counts.Goals as goal

-- the words are appended one after the other
told : (start one two last : List ℕ) (words more : List (List ℕ)) → one ≡ start ++ spaced words → two ≡ one ++ spaced more → last ≡ two ++ 10 ∷ [] → last ≡ start ++ (spaced (words ++ more) ++ 10 ∷ [])
told start one two last words more p q r =
    r ∙ ap (λ (t : List ℕ). t ++ 10 ∷ []) (q ∙ ap (λ (t : List ℕ). t ++ spaced more) p ∙ append_assoc start (spaced words) (spaced more) ∙ ap (λ (t : List ℕ). start ++ t) (sym (spaced-append words more))) ∙ append_assoc start (spaced (words ++ more)) (10 ∷ [])

pub returns : goal.returns
returns c =
    let service = c.args.service.now in
    let words : List (List ℕ) = codes "handlers" ∷ decimal (length service.handlers) ∷ codes "locks" ∷ decimal (length service.locks) ∷ codes "conditions" ∷ decimal (length service.conditions) ∷ codes "variables" ∷ decimal (length service.variables) ∷ [] in
    told (codes "checked") c.push_pieces.new.out.items c.push_semaphore_count.new.out.items c.push.new.self.items words (semaphores_counted (length service.semaphores))
    ((rw (c.len.ensures, c.len-2.ensures, c.len-3.ensures, c.len-4.ensures) at c.in_ok-push_pieces.ensures) ∙ ap (λ (t : List ℕ). t ++ spaced words) c.in_ok-text.ensures.items)
    (rw c.len-5.ensures at c.in_ok-push_semaphore_count.ensures)
    c.in_ok-push.ensures.items
