-- The plain forms of a command line.
use Rattle.std.proofs.Common.{◌≡◌, ℕ, ◌<◌, ◌≤◌, ◌^◌, ◌%◌, true, false, List, [], ◌∷◌, length, Option, Some, codes, nat_le}
use Rattle.std.proofs.Common.{refl, ap, ap₂, ◌∙◌, arith, inl, inr}
use Rattle.std.specs.Prelude.{◌==◌}
use Rattle.std.specs.Fmt.{decimal}
use Rattle.std.proofs.lemmas.Bool.Decides.{leb_tells}
use Rattle.clap.specs.Faults.{defaults_fault, walk_fault}
use Rattle.clap.specs.Kinds.{Kinds, or_else}
use Rattle.clap.specs.ValueTests.{accepts}
use Rattle.clap.specs.Walk.{Held, Text}
use Rattle.clap.specs.declared.builder.ValueParser.TheVariants.{Unsigned}
use Rattle.clap.proofs.OnLiterals.{clap_on_literals}
use Rattle.rex_command.specs.Laws.{IsPlain}
use Rattle.rex_command.specs.Reading.{number_of}
use Rattle.rex_command.proofs.Numbers.{number_read, value_fine}
use Rattle.rex_command.proofs.Plain.{decimal_accepted, decimal_plain, decimal_value}
use Rattle.rex_command.proofs.Steps.{end_fault}
use Rattle.rex_schedule.specs.Counts.{is_node_count}
use Rattle.rexnode_command.specs.Command.{CommandValue, fitting}
use Rattle.rexnode_command.specs.Reading.{command_of, command_with}
use Rattle.rexnode_command.specs.Laws.{IsMember, IsName, Places, asked, line}
use Rattle.rexnode_command.proofs.Fits.{at_most, both_pass}
use Rattle.rexnode_command.proofs.Walking.{ArePlaced, IsOption, four_held, given_held, node, option_fine, option_walk}
use Rattle.rexnode_command.proofs.Walking.{placed_fine, placed_walk, taken}

abbrev seed : Text
seed = codes "seed"

abbrev seed_word : Text
seed_word = codes "--seed"

abbrev cluster : Text
cluster = codes "cluster"

abbrev cluster_word : Text
cluster_word = codes "--cluster"

-- ---- the two options

seed_option : (a b c d : Text) → IsOption seed seed_word (four_held a b c d)
unfolding clap_on_literals
seed_option a b c d = record { met = refl; fine = refl; given = λ w. refl }

cluster_option : (a b c d : Text) → IsOption cluster cluster_word (four_held a b c d)
unfolding clap_on_literals
cluster_option a b c d = record { met = refl; fine = refl; given = λ w. refl }

-- the word is plain, and its reader takes it
record IsSeed (w : Text) : Type 0 where
  plain : IsPlain w
  fits : accepts false (Unsigned 0 4294967295) w ≡ true

cluster_behind : (a b c d w : Text) → IsSeed w → IsOption cluster cluster_word (given_held seed (four_held a b c d) w)
unfolding clap_on_literals
cluster_behind a b c d w t = record { met = refl; fine = ap (λ (k : Kinds). or_else k []) (value_fine 0 4294967295 w t.fits); given = λ v. refl }

-- ---- what follows the last word

end_fine : (a b c d : Text) → end_fault node (four_held a b c d) false ≡ []
unfolding defaults_fault
end_fine a b c d = refl

end_seeded : (a b c d w : Text) → IsSeed w → end_fault node (given_held seed (four_held a b c d) w) false ≡ []
unfolding defaults_fault
end_seeded a b c d w t = ap (λ (k : Kinds). or_else k []) (value_fine 0 4294967295 w t.fits)

end_named : (a b c d n : Text) → end_fault node (given_held cluster (four_held a b c d) n) false ≡ []
unfolding defaults_fault
end_named a b c d n = refl

end_both : (a b c d w n : Text) → end_fault node (given_held cluster (given_held seed (four_held a b c d) w) n) false ≡ []
unfolding defaults_fault
end_both a b c d w n = refl

-- ---- what is asked for, by the words

-- by the words of the places, a seed and a name
abbrev parts : Text → Text → Text → Text → Option ℕ → Text → Option CommandValue
parts a b c d s n = command_with (number_of 1 9 a) (number_of 1 9 b) (Some c) (Some d) s (Some n)

placed : (name a b c d : Text) → ArePlaced a b c d → command_of (name ∷ a ∷ b ∷ c ∷ d ∷ []) ≡ parts a b c d (Some 0) []
unfolding walk_fault
placed name a b c d t =
    taken name (a ∷ b ∷ c ∷ d ∷ []) (four_held a b c d) 5 (placed_walk a b c d [] t) (placed_fine a b c d [] t) (end_fine a b c d)

seeded_words : (name a b c d w : Text) → ArePlaced a b c d → IsSeed w
    → command_of (name ∷ a ∷ b ∷ c ∷ d ∷ seed_word ∷ w ∷ []) ≡ parts a b c d (number_of 0 4294967295 w) []
unfolding walk_fault
seeded_words name a b c d w t u =
    taken name (a ∷ b ∷ c ∷ d ∷ seed_word ∷ w ∷ []) (given_held seed (four_held a b c d) w) 5
    (placed_walk a b c d (seed_word ∷ w ∷ []) t ∙ option_walk seed seed_word (four_held a b c d) (seed_option a b c d) w u.plain [])
    (placed_fine a b c d (seed_word ∷ w ∷ []) t ∙ option_fine seed seed_word (four_held a b c d) (seed_option a b c d) w u.plain [])
    (end_seeded a b c d w u)

named_words : (name a b c d n : Text) → ArePlaced a b c d → IsPlain n → command_of (name ∷ a ∷ b ∷ c ∷ d ∷ cluster_word ∷ n ∷ []) ≡ parts a b c d (Some 0) n
unfolding walk_fault
named_words name a b c d n t p =
    taken name (a ∷ b ∷ c ∷ d ∷ cluster_word ∷ n ∷ []) (given_held cluster (four_held a b c d) n) 5
    (placed_walk a b c d (cluster_word ∷ n ∷ []) t ∙ option_walk cluster cluster_word (four_held a b c d) (cluster_option a b c d) n p [])
    (placed_fine a b c d (cluster_word ∷ n ∷ []) t ∙ option_fine cluster cluster_word (four_held a b c d) (cluster_option a b c d) n p [])
    (end_named a b c d n)

both_words : (name a b c d w n : Text) → ArePlaced a b c d → IsSeed w → IsPlain n
    → command_of (name ∷ a ∷ b ∷ c ∷ d ∷ seed_word ∷ w ∷ cluster_word ∷ n ∷ []) ≡ parts a b c d (number_of 0 4294967295 w) n
unfolding walk_fault
both_words name a b c d w n t u p =
    let options : List Text = seed_word ∷ w ∷ cluster_word ∷ n ∷ [] in
    let between : Held = given_held seed (four_held a b c d) w in
    taken name (a ∷ b ∷ c ∷ d ∷ options) (given_held cluster between n) 5
    (placed_walk a b c d options t ∙ option_walk seed seed_word (four_held a b c d) (seed_option a b c d) w u.plain (cluster_word ∷ n ∷ [])
    ∙ option_walk cluster cluster_word between (cluster_behind a b c d w u) n p [])
    (placed_fine a b c d options t ∙ option_fine seed seed_word (four_held a b c d) (seed_option a b c d) w u.plain (cluster_word ∷ n ∷ [])
    ∙ option_fine cluster cluster_word between (cluster_behind a b c d w u) n p [])
    (end_both a b c d w n)

-- ---- in plain decimal

few : (n : ℕ) → is_node_count n ≡ true → n ≤ 9
few n e = at_most n 9 (both_pass (n % 2 == 1) (nat_le n 9) e).1

pub are_placed : (p : Places) → ArePlaced (decimal p.id) (decimal p.nodes) p.service p.journal
are_placed p =
    let nine : p.nodes ≤ 9 = few p.nodes p.member.counted in
    let i : p.id < 2 ^ 64 = omega (arith, p.member.last) in
    let n : p.nodes < 2 ^ 64 = omega arith in
    let some : 1 ≤ p.nodes = omega (arith, p.member.first, p.member.last) in
    record {
      first = decimal_plain p.id i;
      second = decimal_plain p.nodes n;
      third = p.plain_service;
      fourth = p.plain_journal;
      id = decimal_accepted 1 9 p.id i p.member.first (omega (arith, p.member.last));
      nodes = decimal_accepted 1 9 p.nodes n some nine;
    }

number_is : (low high n : ℕ) → n < 2 ^ 64 → low ≤ n → n ≤ high → number_of low high (decimal n) ≡ Some n
number_is low high n lt above below = number_read low high (decimal n) (decimal_accepted low high n lt above below) ∙ ap Some (decimal_value n lt)

is_true_le : (a b : ℕ) → a ≤ b → nat_le a b ≡ true
is_true_le a b le = elim (leb_tells a b) [ inl h ↦ h.0 | inr h ↦ absurd (omega (arith, le, h.1)) ]

fits_then : (c : CommandValue) → IsMember c.id c.nodes → length c.cluster ≤ 255 → fitting c ≡ Some c
fits_then c m short = rw (is_true_le c.id c.nodes m.last, m.counted, is_true_le (length c.cluster) 255 short) refl

parts_are : (p : Places) (s : ℕ) (n : Text) → length n ≤ 255 → parts (decimal p.id) (decimal p.nodes) p.service p.journal (Some s) n ≡ Some (asked p s n)
parts_are p s n short =
    let nine : p.nodes ≤ 9 = few p.nodes p.member.counted in
    let i : number_of 1 9 (decimal p.id) ≡ Some p.id = number_is 1 9 p.id (omega (arith, p.member.last)) p.member.first (omega (arith, p.member.last)) in
    let m : number_of 1 9 (decimal p.nodes) ≡ Some p.nodes = number_is 1 9 p.nodes (omega arith) (omega (arith, p.member.first, p.member.last)) nine in
    ap₂ (λ (x y : Option ℕ). command_with x y (Some p.service) (Some p.journal) (Some s) (Some n)) i m ∙ fits_then (asked p s n) p.member short

is_seed : (n : ℕ) → n ≤ 4294967295 → IsSeed (decimal n)
is_seed n h = let lt : n < 2 ^ 64 = omega (arith, h) in record { plain = decimal_plain n lt; fits = decimal_accepted 0 4294967295 n lt (omega arith) h }

seed_is : (n : ℕ) → n ≤ 4294967295 → number_of 0 4294967295 (decimal n) ≡ Some n
seed_is n h = number_is 0 4294967295 n (omega (arith, h)) (omega arith) h

pub places : (p : Places) → command_of (line p []) ≡ Some (asked p 0 [])
places p = placed p.name (decimal p.id) (decimal p.nodes) p.service p.journal (are_placed p) ∙ parts_are p 0 [] (omega arith)

pub seeded : (p : Places) (n : ℕ) → n ≤ 4294967295 → command_of (line p (codes "--seed" ∷ decimal n ∷ [])) ≡ Some (asked p n [])
seeded p n h =
    seeded_words p.name (decimal p.id) (decimal p.nodes) p.service p.journal (decimal n) (are_placed p) (is_seed n h)
    ∙ ap (λ (s : Option ℕ). parts (decimal p.id) (decimal p.nodes) p.service p.journal s []) (seed_is n h) ∙ parts_are p n [] (omega arith)

pub named : (p : Places) (c : Text) → IsName c → command_of (line p (codes "--cluster" ∷ c ∷ [])) ≡ Some (asked p 0 c)
named p c h = named_words p.name (decimal p.id) (decimal p.nodes) p.service p.journal c (are_placed p) h.plain ∙ parts_are p 0 c h.short

pub both : (p : Places) (n : ℕ) (c : Text) → n ≤ 4294967295 → IsName c
    → command_of (line p (codes "--seed" ∷ decimal n ∷ codes "--cluster" ∷ c ∷ [])) ≡ Some (asked p n c)
both p n c h k =
    both_words p.name (decimal p.id) (decimal p.nodes) p.service p.journal (decimal n) c (are_placed p) (is_seed n h) k.plain
    ∙ ap (λ (s : Option ℕ). parts (decimal p.id) (decimal p.nodes) p.service p.journal s c) (seed_is n h) ∙ parts_are p n c k.short
