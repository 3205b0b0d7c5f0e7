use Rattle.std.proofs.Common.{◌≡◌, drop}
use Rattle.pgproto.specs.Rendering.{part_text}
use Rattle.pgproto.proofs.rendering.text_of_part.Given as goal

abbrev pub invariant-loop-part : goal.invariant-loop-part
invariant-loop-part l = part_text l.tag l.parts ≡ part_text l.tag (drop l.part-index l.parts)
