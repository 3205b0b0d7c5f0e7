use Rattle.std.proofs.Common.{◌≡◌, take}
use Rattle.play.specs.Replies.{fields_of}
use Rattle.play.proofs.replies.row_description.Given as goal

abbrev pub invariant-loop-one : goal.invariant-loop-one
invariant-loop-one l = l.fields ≡ fields_of (take l.one-index l.columns)
