-- What the reader of a line answers.
use Rattle.std.proofs.Common.{◌≡◌, ℕ, List, [], ◌∷◌, ◌++◌, Option, Some, None, Result, Ok, Err, refl, sym, ap, ◌∙◌}
use Rattle.std.specs.Prelude.{IfOk, IfErr, IfSome}
use Rattle.pgproto.specs.declared.line.ScriptLine.{ScriptLine}
use Rattle.pgproto.specs.declared.stop.Stop.{Stop}
use Rattle.pgproto.specs.declared.stop.Stop.TheVariants.{NotALine, NoMemory}
use Rattle.pgproto.specs.Line.{IsLine, IsSmall, Line, line_of}
use Rattle.pgproto.specs.Reading.{Fails, Gives}
use Rattle.pgproto.specs.LineReading.{line_at}
use Rattle.pgproto.proofs.LineLaws.{line_found}
use Rattle.pgproto.proofs.LineAgain.{line_again}

pub found_of : (r : Result ScriptLine Stop) (bytes : List ℕ) → Gives line_of r (line_at bytes) → IfOk r (λ l. IsLine (line_of l) bytes)
found_of (Ok l) bytes g = (line_found bytes (line_of l) g).0
found_of (Err stop) bytes g = tt

pub small_of : (r : Result ScriptLine Stop) (bytes : List ℕ) → Gives line_of r (line_at bytes) → IfOk r (λ l. IsSmall (line_of l))
small_of (Ok l) bytes g = (line_found bytes (line_of l) g).1
small_of (Err stop) bytes g = tt

pub only_of : (r : Result ScriptLine Stop) (bytes : List ℕ) → Gives line_of r (line_at bytes) → (l : Line) → IsLine l bytes → IsSmall l → Gives line_of r (Some l)
only_of (Ok x) bytes g l is small = sym (line_again l bytes is small) ∙ g
only_of (Err NotALine) bytes g l is small = sym (line_again l bytes is small) ∙ g
only_of (Err NoMemory) bytes g l is small = tt
