use Rattle.std.proofs.Common.{◌≡◌, ◌++◌, ℕ, List, length, drop}
use Rattle.pg_values.specs.declared.value.Value.{Value}
use Rattle.wire_extended.specs.Binding.{AreRead, AreUnread}
use Rattle.wire_extended.proofs.values.values_of.Given as goal

abbrev pub invariant-loop-bytes : goal.invariant-loop-bytes
invariant-loop-bytes l = (length l.values ≡ l.bytes-index)
    × ((more : List Value) → AreRead l.kinds l.formats l.bytes-index (drop l.bytes-index l.given) more → AreRead l.kinds l.formats 0 l.given (l.values ++ more))
    × ((code : List ℕ) → AreUnread l.kinds l.formats l.bytes-index (drop l.bytes-index l.given) code → AreUnread l.kinds l.formats 0 l.given code)
