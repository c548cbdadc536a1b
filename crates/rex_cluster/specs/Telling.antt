-- Messages that tell no state.
use Rattle.std.specs.Prelude.{List, [], ◌∷◌}
use Rattle.rex_cluster.specs.Node.{Content, Message}
use Rattle.rex_cluster.specs.Node.Content.{Prepare, Accept, Ask, Snapshot}

abbrev pub TellsNoState : {V : Type 0} → Content V → Type 0
TellsNoState (Snapshot values) = ⊥
TellsNoState _ = Unit {0}

abbrev pub TellNoState : {V : Type 0} → List (Message V) → Type 0
TellNoState [] = Unit {0}
TellNoState (x ∷ xs) = TellsNoState x.content × TellNoState xs

-- a state is never the answer to it: only one who asks for a promise, an acceptance or values may be told a state
abbrev pub AsksNoState : {V : Type 0} → Content V → Type 0
AsksNoState (Prepare b first) = ⊥
AsksNoState (Accept b i v) = ⊥
AsksNoState (Ask first) = ⊥
AsksNoState _ = Unit {0}
