use Rattle.rex_live.specs.Floor.{dice_of}
use Rattle.rexlive_cli.proofs.histories.history.Given as goal

-- the floor is for this service and these requests
abbrev pub ghosts-play-S-Setting : goal.ghosts-play-S-Setting
ghosts-play-S-Setting g a = record { service = a.svc.now; requests = a.requests.now; dice = dice_of a.seed }

abbrev pub ghosts-play-S-Ledger : goal.ghosts-play-S-Ledger
ghosts-play-S-Ledger g a = record { name = a.blank.name; parts = a.blank.parts }
