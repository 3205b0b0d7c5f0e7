-- Where `until` stops a session.
use Rattle.std.specs.Prelude.{◌≡◌, Option, Some, None}
use Rattle.pgproto.specs.declared.line.Mark.{Mark}
use Rattle.pgproto.specs.Line.{place_of}

-- a session that is to stop at the one mark stops behind a step of the other
abbrev pub StopsAt : Option Mark → Option Mark → Type 0
StopsAt None did = ⊥
StopsAt (Some wanted) None = ⊥
StopsAt (Some wanted) (Some found) = place_of wanted ≡ place_of found
