use Rattle.std.proofs.Common.{◌≡◌, length}
use Rattle.session_wire.specs.Shown.{shown, with_piece}
use Rattle.session_player.proofs.feeding.feed_pieces.Given as goal

abbrev pub invariant-loop-rest : goal.invariant-loop-rest
invariant-loop-rest l = with_piece (shown l.wire) l.rest ≡ with_piece (shown l.fn.wire) l.bytes

abbrev pub decreases-loop-rest : goal.decreases-loop-rest
decreases-loop-rest l = length l.rest
