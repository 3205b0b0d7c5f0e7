-- Where the lines of a script are, as the program has it.
use Rattle.std.specs.Prelude.{ℕ, ℤ, List, Option, Some, None}
use Rattle.pgproto.specs.Line.{Line}
use Rattle.play.specs.declared.script.Part.{Part as Given}
use Rattle.play.specs.declared.script.Part.TheVariants as given
use Rattle.play.specs.Script.{Part, before, within, behind, IsNext, IsMomentOf}

abbrev pub part_of : Given → Part
part_of given.Before = before
part_of given.Within = within
part_of given.Behind = behind

-- the line may stand there and leads to this part, or it may not
abbrev pub IsNextOr : Part → Line → Option Given → Type 0
IsNextOr part line (Some next) = IsNext part line (part_of next)
IsNextOr part line None = (next : Part) → IsNext part line next → ⊥

-- the moment of a text, or it is none
abbrev pub IsMomentRead : List ℕ → Option ℤ → Type 0
IsMomentRead text (Some micros) = IsMomentOf text micros
IsMomentRead text None = (micros : ℤ) → IsMomentOf text micros → ⊥
