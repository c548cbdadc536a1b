-- The walk of `clap` over the four places and the options behind them.
use Rattle.std.proofs.Common.{◌≡◌, ℕ, Bool, true, false, List, [], ◌∷◌, Option, None, Some, codes, refl, ap, ◌∙◌, is_some}
use Rattle.std.specs.Prelude.{fold, if◌then◌else◌}
use Rattle.clap.specs.Faults.{entered_fault, fault_of, turn_fault, walk_fault}
use Rattle.clap.specs.Kinds.{Kinds, or_else}
use Rattle.clap.specs.Simple.{App, Shape, built, entered, matches_of}
use Rattle.clap.specs.ValueTests.{accepts}
use Rattle.clap.specs.Walk.{Held, Row, Step, Text, Walk, after_step, finished, idle, next, nothing_held, option, plain_word}
use Rattle.clap.specs.Walk.{pushed, settled, walk, walk_from, walked}
use Rattle.clap.specs.Faults.{step_fault}
use Rattle.clap.specs.declared.builder.ValueParser.TheVariants.{Unsigned}
use Rattle.rex_command.specs.Laws.{IsPlain}
use Rattle.rex_command.specs.Reading.{is_none}
use Rattle.rex_command.proofs.Numbers.{value_fine}
use Rattle.rex_command.proofs.Steps.{at, end_fault, plain_turned, plain_walked, turned_on, waits_at, walked_on}
use Rattle.rexnode_command.specs.Application.{node_app}
use Rattle.rexnode_command.specs.Command.{CommandValue}
use Rattle.rexnode_command.specs.Reading.{command_in, command_of}

-- the command as `clap` builds it
abbrev built_node : App
built_node = built node_app

abbrev pub node : Shape
node = built_node.top

-- the walk goes on over further words
abbrev pub walked_over : Walk → List Text → Walk
walked_over w words = fold (walked node.rules []) w words

-- ---- what words are answered, by the end of their walk

abbrev fault_at : Kinds → Walk → Kinds
fault_at walking w = or_else walking (or_else (entered_fault built_node w.stopped) (end_fault node w.held (is_some (entered built_node w.stopped))))

fault_is : (name : Text) (words : List Text) → fault_of node_app (name ∷ words)
    ≡ fault_at (walk_fault node [] (walk_from nothing_held) words) (walk node.rules [] nothing_held words)
fault_is name words = refl

abbrev answer_at : Kinds → List Row → Option CommandValue
answer_at fault rows = if is_none fault then command_in rows else None

module _ (name : Text) (words : List Text) (end : Held) (position : ℕ) (at_end : walk node.rules [] nothing_held words ≡ at end position) where
  fault_after : fault_of node_app (name ∷ words) ≡ or_else (walk_fault node [] (walk_from nothing_held) words) (end_fault node end false)
  fault_after = fault_is name words ∙ ap (fault_at (walk_fault node [] (walk_from nothing_held) words)) at_end

  -- words without a fault
  pub taken : walk_fault node [] (walk_from nothing_held) words ≡ [] → end_fault node end false ≡ []
      → command_of (name ∷ words) ≡ command_in (finished node.rules end)
  taken fine fine_end =
      ap (λ (k : Kinds). answer_at k (matches_of node_app (name ∷ words)))
      (fault_after ∙ ap (λ (k : Kinds). or_else k (end_fault node end false)) fine ∙ fine_end)
      ∙ ap (λ (w : Walk). command_in (finished node.rules w.held)) at_end

  -- words that end in one
  pub refused : is_none (or_else (walk_fault node [] (walk_from nothing_held) words) (end_fault node end false)) ≡ false → command_of (name ∷ words) ≡ None
  refused e =
      ap (λ (k : Kinds). answer_at k (matches_of node_app (name ∷ words))) fault_after
      ∙ ap (λ (b : Bool). if b then command_in (matches_of node_app (name ∷ words)) else None) e

-- ---- one word more

-- a word that is no fault
step_fine : (w behind : Walk) (word : Text) (rest : List Text) → turn_fault node [] w word ≡ [] → walked node.rules [] w word ≡ behind
    → walk_fault node [] w (word ∷ rest) ≡ walk_fault node [] behind rest
unfolding walk_fault
step_fine w behind word rest fine e =
    ap (λ (k : Kinds). or_else k (walk_fault node [] (walked node.rules [] w word) rest)) fine ∙ ap (λ (v : Walk). walk_fault node [] v rest) e

-- ---- the places

-- a word for each place, the first two of which their readers take
pub record ArePlaced (a b c d : Text) : Type 0 where
  pub first : IsPlain a
  pub second : IsPlain b
  pub third : IsPlain c
  pub fourth : IsPlain d
  pub id : accepts false (Unsigned 1 9) a ≡ true
  pub nodes : accepts false (Unsigned 1 9) b ≡ true

-- what is held after each
abbrev pub one_held : Text → Held
one_held a = pushed (codes "id") a nothing_held

abbrev pub two_held : Text → Text → Held
two_held a b = pushed (codes "nodes") b (settled node.rules (one_held a))

abbrev pub three_held : Text → Text → Text → Held
three_held a b c = pushed (codes "service") c (settled node.rules (two_held a b))

abbrev pub four_held : Text → Text → Text → Text → Held
four_held a b c d = pushed (codes "journal") d (settled node.rules (three_held a b c))

pub first_met : (a : Text) → IsPlain a → walked node.rules [] (walk_from nothing_held) a ≡ at (one_held a) 2
first_met a p = walked_on node.rules [] 1 a nothing_held p refl

pub second_met : (a b : Text) → IsPlain b → walked node.rules [] (at (one_held a) 2) b ≡ at (two_held a b) 3
second_met a b p = walked_on node.rules [] 2 b (one_held a) p refl

pub third_met : (a b c : Text) → IsPlain c → walked node.rules [] (at (two_held a b) 3) c ≡ at (three_held a b c) 4
third_met a b c p = walked_on node.rules [] 3 c (two_held a b) p refl

fourth_met : (a b c d : Text) → IsPlain d → walked node.rules [] (at (three_held a b c) 4) d ≡ at (four_held a b c d) 5
fourth_met a b c d p = walked_on node.rules [] 4 d (three_held a b c) p refl

pub placed_walk : (a b c d : Text) (rest : List Text) → ArePlaced a b c d
    → walk node.rules [] nothing_held (a ∷ b ∷ c ∷ d ∷ rest) ≡ walked_over (at (four_held a b c d) 5) rest
placed_walk a b c d rest t =
    ap (λ (w : Walk). walked_over w (b ∷ c ∷ d ∷ rest)) (first_met a t.first)
    ∙ ap (λ (w : Walk). walked_over w (c ∷ d ∷ rest)) (second_met a b t.second)
    ∙ ap (λ (w : Walk). walked_over w (d ∷ rest)) (third_met a b c t.third)
    ∙ ap (λ (w : Walk). walked_over w rest) (fourth_met a b c d t.fourth)

pub placed_fine : (a b c d : Text) (rest : List Text) → ArePlaced a b c d
    → walk_fault node [] (walk_from nothing_held) (a ∷ b ∷ c ∷ d ∷ rest) ≡ walk_fault node [] (at (four_held a b c d) 5) rest
placed_fine a b c d rest t =
    step_fine (walk_from nothing_held) (at (one_held a) 2) a (b ∷ c ∷ d ∷ rest) (turned_on node [] 1 a nothing_held t.first refl) (first_met a t.first)
    ∙ step_fine (at (one_held a) 2) (at (two_held a b) 3) b (c ∷ d ∷ rest)
    (turned_on node [] 2 b (one_held a) t.second refl ∙ value_fine 1 9 a t.id) (second_met a b t.second)
    ∙ step_fine (at (two_held a b) 3) (at (three_held a b c) 4) c (d ∷ rest)
    (turned_on node [] 3 c (two_held a b) t.third refl ∙ value_fine 1 9 b t.nodes) (third_met a b c t.third)
    ∙ step_fine (at (three_held a b c) 4) (at (four_held a b c d) 5) d rest
    (turned_on node [] 4 d (three_held a b c) t.fourth refl) (fourth_met a b c d t.fourth)

-- ---- an option behind them

-- what is held after an option, and after its value
abbrev pub waits_held : Text → Held → Held
waits_held id h = record (settled node.rules h) { pending = Some (id, []) }

abbrev pub given_held : Text → Held → Text → Held
given_held id h w = pushed id w (waits_held id h)

-- the word is an option that waits for one value, where this is held
pub record IsOption (id word : Text) (h : Held) : Type 0 where
  pub met : walked node.rules [] (at h 5) word ≡ waits_at (option id) (waits_held id h) 5
  pub fine : turn_fault node [] (at h 5) word ≡ []
  pub given : (w : Text) → plain_word node.rules (option id) w (waits_held id h) ≡ (given_held id h w, next idle)

module _ (id word : Text) (h : Held) (o : IsOption id word h) (w : Text) (p : IsPlain w) where
  value_met : walked node.rules [] (waits_at (option id) (waits_held id h) 5) w ≡ at (given_held id h w) 5
  value_met =
      plain_walked node.rules [] (option id) 5 w (waits_held id h) p refl
      ∙ ap (λ (m : Held × Step). after_step node.rules w (waits_at (option id) (waits_held id h) 5) m.0 m.1) (o.given w)

  value_turned : turn_fault node [] (waits_at (option id) (waits_held id h) 5) w ≡ []
  value_turned = plain_turned node [] (option id) 5 w (waits_held id h) p refl ∙ ap (λ (m : Held × Step). step_fault node 5 m.0 m.1) (o.given w)

  pub option_walk : (rest : List Text) → walked_over (at h 5) (word ∷ w ∷ rest) ≡ walked_over (at (given_held id h w) 5) rest
  option_walk rest = ap (λ (v : Walk). walked_over v (w ∷ rest)) o.met ∙ ap (λ (v : Walk). walked_over v rest) value_met

  pub option_fine : (rest : List Text) → walk_fault node [] (at h 5) (word ∷ w ∷ rest) ≡ walk_fault node [] (at (given_held id h w) 5) rest
  option_fine rest =
      step_fine (at h 5) (waits_at (option id) (waits_held id h) 5) word (w ∷ rest) o.fine o.met
      ∙ step_fine (waits_at (option id) (waits_held id h) 5) (at (given_held id h w) 5) w rest value_turned value_met
