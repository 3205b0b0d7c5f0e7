-- Each detachment that a pass has made was noted.
use Rattle.std.specs.Prelude.{◌&&◌, ℕ, Bool, true, List, [], ◌∷◌}
use Rattle.pool_base.specs.Sets.{has}
use Rattle.pool_base.specs.declared.gate_call.GateCall.{GateCall}
use Rattle.pool_base.specs.declared.gate_call.GateCall.TheVariants.{Detach}
use Rattle.shared_gate.specs.declared.history.Entry.{Entry}

-- a call detaches no backend, or one that the set has
abbrev pub is_noted : ℕ → GateCall → Bool
is_noted bits (Detach b) = has bits b.number
is_noted bits _ = true

-- so does each of these
abbrev pub are_noted : ℕ → List Entry → Bool
are_noted bits [] = true
are_noted bits (e ∷ es) = is_noted bits e.call && are_noted bits es
