-- One process that dies while it cuts, computed: what it knows then, and once it is up again and has asked to lead. And three that send messages.
use Rattle.std.proofs.Common.{◌≡◌, ℕ, List, [], ◌∷◌, ◌++◌, length, refl, inl, inr, arith}
use Rattle.std.proofs.lemmas.Bool.{eqb-false}
use Rattle.std.specs.Prelude.{true, false, pos}
use Rattle.rex_report.specs.declared.effect.Effect.{Effect}
use Rattle.rex_report.specs.declared.effect.Effect.TheVariants.{Proposes, Known, Released}
use Rattle.rex_delta.specs.Reading as reading
use Rattle.rex_cluster.specs.Agreed.{known_at}
use Rattle.rex_cluster.specs.Node.{Message}
use Rattle.rex_cluster.specs.Node.Content.{Prepare, Promise}
use Rattle.rex_cluster.specs.Values.{Value}
use Rattle.rex_cluster.specs.World.{beginning}
use Rattle.rex_safety.proofs.Examples.{counter}
use Rattle.rex_processes.specs.Processes.{Happening, AreHonest, happens, processes_after}
use Rattle.rex_processes.specs.Processes.Task.{Elect, Submit, Turn, Cut, Hear}
use Rattle.rex_processes.specs.Processes.Happening.{Does, DiesDoing, Dies, ComesUp}
use Rattle.rex_processes.specs.Plain.{ArePlain, EachTask, NamesAnother}

-- it leads, and lane 0 serves a request whole
abbrev served : List (ℕ × Happening)
served =
    (1, Does Elect)
    ∷ (1, Does (Submit (record { client = 1; sequence = 1; handler = 0; arguments = pos 5 ∷ [] })))
    ∷ (1, Does (Turn 0 1)) ∷ (1, Does (Turn 0 2)) ∷ (1, Does (Turn 0 3)) ∷ (1, Does (Turn 0 4))
    ∷ []

-- how many values it knows where this comes after that, where it is then up again, and where it asked to lead then
abbrev known_later : Happening → List ℕ
known_later x =
    length (known_at (processes_after counter 7 1 (served ++ (1, x) ∷ [])) 1)
    ∷ length (known_at (processes_after counter 7 1 (served ++ (1, x) ∷ (1, ComesUp) ∷ [])) 1)
    ∷ length (known_at (processes_after counter 7 1 (served ++ (1, x) ∷ (1, ComesUp) ∷ (1, Does Elect) ∷ [])) 1)
    ∷ []

-- what it reports where this comes after that
abbrev told : Happening → List Effect
told x = (happens counter 7 1 (processes_after counter 7 1 served) 1 x).effects

-- nothing is lost where it doesn't die in an append
cuts : known_later (Does Cut) ≡ 1 ∷ 1 ∷ 1 ∷ []
unfolding reading.delta_in reading.delta_at reading.bases_at reading.events_at reading.event_at reading.kind_at reading.begin_at reading.place_at reading.arguments_at reading.causes_at reading.lock_at reading.reply_at
cuts = refl

cuts_and_dies : known_later (DiesDoing 2 false Cut) ≡ 1 ∷ 1 ∷ 1 ∷ []
unfolding reading.delta_in reading.delta_at reading.bases_at reading.events_at reading.event_at reading.kind_at reading.begin_at reading.place_at reading.arguments_at reading.causes_at reading.lock_at reading.reply_at
cuts_and_dies = refl

-- what was only live is lost
dies_before : known_later Dies ≡ 0 ∷ 0 ∷ 0 ∷ []
dies_before = refl

-- so it is where the acceptance is; with that the value is adopted later
accepts_not : known_later (DiesDoing 0 false Cut) ≡ 0 ∷ 0 ∷ 0 ∷ []
unfolding reading.delta_in reading.delta_at reading.bases_at reading.events_at reading.event_at reading.kind_at reading.begin_at reading.place_at reading.arguments_at reading.causes_at reading.lock_at reading.reply_at
accepts_not = refl

accepts : known_later (DiesDoing 0 true Cut) ≡ 0 ∷ 0 ∷ 1 ∷ []
unfolding reading.delta_in reading.delta_at reading.bases_at reading.events_at reading.event_at reading.kind_at reading.begin_at reading.place_at reading.arguments_at reading.causes_at reading.lock_at reading.reply_at
accepts = refl

-- the same where it isn't recorded that the value is known
knows_not : known_later (DiesDoing 1 false Cut) ≡ 0 ∷ 0 ∷ 1 ∷ []
unfolding reading.delta_in reading.delta_at reading.bases_at reading.events_at reading.event_at reading.kind_at reading.begin_at reading.place_at reading.arguments_at reading.causes_at reading.lock_at reading.reply_at
knows_not = refl

-- the reply is told by one that lives, and by no other
tells : told (Does Cut) ≡ Proposes 1 1 4 ∷ Known 1 1 ∷ Released 1 1 (pos 5) ∷ []
unfolding reading.delta_in reading.delta_at reading.bases_at reading.events_at reading.event_at reading.kind_at reading.begin_at reading.place_at reading.arguments_at reading.causes_at reading.lock_at reading.reply_at
tells = refl

tells_nothing : told (DiesDoing 2 false Cut) ≡ []
unfolding reading.delta_in reading.delta_at reading.bases_at reading.events_at reading.event_at reading.kind_at reading.begin_at reading.place_at reading.arguments_at reading.causes_at reading.lock_at reading.reply_at
tells_nothing = refl

-- ---- messages

abbrev first_question : ℕ → Message Value
first_question to = record { from = 1; to = to; content = Prepare 17 1 }

abbrev first_answer : Message Value
first_answer = record { from = 2; to = 1; content = Promise 17 [] }

-- of three processes the first asks to lead, the second hears what was sent to the third, and the first hears its answer
abbrev asked : List (ℕ × Happening)
asked = (1, Does Elect) ∷ (2, Does (Hear (first_question 3))) ∷ (1, Does (Hear first_answer)) ∷ []

asked_is : (processes_after counter 7 3 asked).messages ≡ first_question 2 ∷ first_question 3 ∷ first_answer ∷ []
asked_is = refl

-- they do nothing that laws of such runs leave out
asked_honestly : AreHonest counter 7 3 (beginning 3) asked
asked_honestly = search (inl, inr)

asked_plainly : ArePlain asked
asked_plainly = search arith

asked_others : EachTask (NamesAnother 3) asked
asked_others = search (eqb-false 2 1 refl, eqb-false 1 2 refl)
