use Rattle.std.proofs.Common.{rules, ◌≡◌, ◌-◌, ◌∷◌, ◌∙◌, ap, sym, length, take, drop}
use Rattle.std.proofs.lemmas.List.{take_min, take_rest, drop_min}
use Rattle.rex_disk.specs.Record.Done.{Wrote, Synced}
use Rattle.rex_disk.specs.declared.entry.Entry.TheVariants.{Write, Sync}
use Rattle.rex_disk.proofs.Imaging.{goes_sync, goes_write, held_next, held_synced, image_next, image_synced}
use Rattle.rex_disk.proofs.image.+image_of.Goals as goal

pub returns-in_ok-fill_in-in-Write : goal.returns-in_ok-fill_in-in-Write
returns-in_ok-fill_in-in-Write t c = λ first done held image.
    let log_is : c.args.log.now ≡ Write c.in-Write.at c.in-Write.len c.in-Write.failed ∷ drop 1 c.args.log.now = search rules in
    goes_write c.image_of.result (λ v. v.items) c.args.fill first done c.args.log.now (take (length c.args.log.now - 1) (drop 1 c.args.log.now)) c.args.written.now c.in-Write.at c.in-Write.len c.in-Write.failed c.split_at.result.0.now c.split_at.result.1.now
    (log_is ∙ ap (λ l. Write c.in-Write.at c.in-Write.len c.in-Write.failed ∷ l) (sym (take_rest c.args.log.now 1)))
    (c.split_at.ensures.front ∙ ap (λ n. take n c.args.written.now) c.min.ensures ∙ take_min c.in-Write.len c.args.written.now)
    (c.split_at.ensures.back ∙ ap (λ n. drop n c.args.written.now) c.min.ensures ∙ drop_min c.in-Write.len c.args.written.now)
    (c.image_of.ensures first (Wrote c.in-Write.at c.split_at.result.0.now c.in-Write.failed ∷ done)
    (held_next c.in-Write.failed c.in-Write.at c.split_at.result.0.now first c.args.held.items c.write_held.new.held.items done held c.in_ok-write_held-in-Write.ensures)
    (image_next c.args.fill c.in-Write.failed c.in-Write.at c.split_at.result.0.now first c.args.image.items c.fill_in.new.image.items done image c.in_ok-fill_in-in-Write.ensures))

pub returns-in_ok-image-in-Sync : goal.returns-in_ok-image-in-Sync
returns-in_ok-image-in-Sync t c = λ first done held image.
    let log_is : c.args.log.now ≡ Sync c.in-Sync.failed ∷ drop 1 c.args.log.now = search rules in
    goes_sync c.image_of-in-Sync.result (λ v. v.items) c.args.fill first done c.args.log.now (take (length c.args.log.now - 1) (drop 1 c.args.log.now)) c.args.written.now c.in-Sync.failed
    (log_is ∙ ap (λ l. Sync c.in-Sync.failed ∷ l) (sym (take_rest c.args.log.now 1)))
    (c.image_of-in-Sync.ensures first (Synced c.in-Sync.failed ∷ done)
    (held_synced c.in-Sync.failed first c.args.held.items done held)
    (image_synced c.args.fill c.in-Sync.failed first c.args.held.items c.args.image.items c.in_ok-image-in-Sync.image.items done held image (c.in_ok-image-in-Sync.ensures ∙ ap (λ l. Rattle.std.specs.Prelude.if◌then◌else◌ c.in-Sync.failed c.args.image.items l) c.deref.ensures.value)))
