use Rattle.checked_print.proofs.Dates.{text_printed}
use Rattle.checked_print.proofs.laws.moments_are_printed.Goals as goal

pub returns : goal.returns
returns c = text_printed
