-- Words that are no command line.
use Rattle.std.proofs.Common.{◌≡◌, ℕ, false, List, [], ◌∷◌, None, refl, ap, ◌∙◌}
use Rattle.clap.specs.Faults.{check_fault, defaults_fault, settle_fault, walk_fault}
use Rattle.clap.specs.Kinds.{Kinds, or_else}
use Rattle.clap.specs.Walk.{Held, Text, Walk, finished, nothing_held, settled, walk, walk_from, walked}
use Rattle.clap.proofs.OnLiterals.{clap_on_literals}
use Rattle.rex_command.specs.Laws.{IsPlain}
use Rattle.rex_command.specs.Reading.{is_none}
use Rattle.rex_command.proofs.Steps.{at, end_fault, turned_on, walked_on}
use Rattle.std.specs.Fmt.{decimal}
use Rattle.rexnode_command.specs.Laws.{Places, line}
use Rattle.rexnode_command.specs.Reading.{command_of}
use Rattle.rexnode_command.proofs.Taken.{are_placed}
use Rattle.rexnode_command.proofs.Walking.{first_met, four_held, node, one_held, placed_fine, placed_walk, refused}
use Rattle.rexnode_command.proofs.Walking.{second_met, third_met, three_held, two_held, walked_over}

-- a fault stays one behind others
behind : (k rest : Kinds) → is_none rest ≡ false → is_none (or_else k rest) ≡ false
behind [] rest e = e
behind (x ∷ k) rest e = refl

before : (k rest : Kinds) → is_none k ≡ false → is_none (or_else k rest) ≡ false
before [] rest e = absurd cc
before (x ∷ k) rest e = refl

-- words behind which something is still required
lacking : (name : Text) (words : List Text) (end : Held) (position : ℕ) → walk node.rules [] nothing_held words ≡ at end position
    → is_none (check_fault node (finished node.rules end) false) ≡ false → command_of (name ∷ words) ≡ None
lacking name words end position at_end lacks =
    refused name words end position at_end
    (behind (walk_fault node [] (walk_from nothing_held) words) (end_fault node end false)
    (behind (settle_fault node.rules node.args_override_self end) _ (behind (defaults_fault (settled node.rules end).rows node.rules) _ lacks)))

pub no_words : command_of [] ≡ None
unfolding clap_on_literals
no_words = refl

pub no_places : (name : Text) → command_of (name ∷ []) ≡ None
unfolding clap_on_literals
no_places name = refl

pub one_place : (name a : Text) → IsPlain a → command_of (name ∷ a ∷ []) ≡ None
one_place name a p = lacking name (a ∷ []) (one_held a) 2 (first_met a p) refl

pub two_places : (name a b : Text) → IsPlain a → IsPlain b → command_of (name ∷ a ∷ b ∷ []) ≡ None
two_places name a b p q =
    lacking name (a ∷ b ∷ []) (two_held a b) 3 (ap (λ (w : Walk). walked_over w (b ∷ [])) (first_met a p) ∙ second_met a b q) refl

pub three_places : (name a b c : Text) → IsPlain a → IsPlain b → IsPlain c → command_of (name ∷ a ∷ b ∷ c ∷ []) ≡ None
three_places name a b c p q r =
    lacking name (a ∷ b ∷ c ∷ []) (three_held a b c) 4
    (ap (λ (w : Walk). walked_over w (b ∷ c ∷ [])) (first_met a p) ∙ ap (λ (w : Walk). walked_over w (c ∷ [])) (second_met a b q) ∙ third_met a b c r) refl

-- a fifth word
further_fault : (h : Held) (word : Text) → IsPlain word → is_none (walk_fault node [] (at h 5) (word ∷ [])) ≡ false
unfolding walk_fault
further_fault h word p =
    ap (λ (k : Kinds). is_none (or_else k (walk_fault node [] (walked node.rules [] (at h 5) word) []))) (turned_on node [] 5 word h p refl)

pub further : (p : Places) (word : Text) → IsPlain word → command_of (line p (word ∷ [])) ≡ None
further p word plain =
    let h : Held = four_held (decimal p.id) (decimal p.nodes) p.service p.journal in
    let words : List Text = decimal p.id ∷ decimal p.nodes ∷ p.service ∷ p.journal ∷ word ∷ [] in
    refused p.name words h 5
    (placed_walk (decimal p.id) (decimal p.nodes) p.service p.journal (word ∷ []) (are_placed p) ∙ walked_on node.rules [] 5 word h plain refl)
    (before (walk_fault node [] (walk_from nothing_held) words) (end_fault node h false)
    (ap is_none (placed_fine (decimal p.id) (decimal p.nodes) p.service p.journal (word ∷ []) (are_placed p)) ∙ further_fault h word plain))
