-- The eight words of a gate in its cell.
use Rattle.std.specs.Prelude.{ℕ, List, [], ◌∷◌}
use Rattle.snapshot_gate.specs.declared.gate.Gate.{Gate}

-- the fields of the state, each in a word of its own
abbrev pub words_of : Gate → List ℕ
words_of g = g.state.attached.bits ∷ g.state.epoch ∷ g.state.snaps ∷ g.state.commits ∷ g.state.live ∷ g.state.quiet ∷ g.state.done ∷ g.state.touched ∷ []
