use Rattle.rex_frames.proofs.asking.asked_by.Goals as goal

pub returns-in-83-clause-fits : goal.returns-in-83-clause-fits
returns-in-83-clause-fits c = c.to_submit.ensures.fits c.args.id c.args.nodes
