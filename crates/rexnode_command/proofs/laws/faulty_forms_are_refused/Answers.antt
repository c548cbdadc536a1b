use Rattle.rexnode_command.proofs.Refused.{further, no_places, no_words, one_place, three_places, two_places}
use Rattle.rexnode_command.proofs.laws.faulty_forms_are_refused.Goals as goal

pub returns : goal.returns
returns c = record {
  no_words = no_words;
  no_places = no_places;
  one_place = one_place;
  two_places = two_places;
  three_places = three_places;
  further = further;
}
