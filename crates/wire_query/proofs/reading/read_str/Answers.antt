use Rattle.std.proofs.Common.{ap}
use Rattle.wire_query.specs.declared.reading.Reading.TheVariants.{Statements}
use Rattle.wire_query.specs.Texts.{faulty}
use Rattle.wire_query.proofs.FaultLemmas.{no_fault}
use Rattle.wire_query.proofs.reading.read_str.Goals as goal

pub returns-in-Ok-clause-only : goal.returns-in-Ok-clause-only
returns-in-Ok-clause-only c = λ all below is. ap Statements (c.in-Ok.ensures.only all is)

pub returns-in_ok-refusal_of-in-Err-clause-reading : goal.returns-in_ok-refusal_of-in-Err-clause-reading
returns-in_ok-refusal_of-in-Err-clause-reading c = faulty c.in-Err.fault c.in-Err.ensures.refused c.in_ok-refusal_of-in-Err.ensures

pub returns-in_ok-refusal_of-in-Err-clause-only : goal.returns-in_ok-refusal_of-in-Err-clause-only
returns-in_ok-refusal_of-in-Err-clause-only c = λ all below is. absurd (no_fault c.in-Err.fault all c.in_ok-refusal_of-in-Err.field-0 (c.in-Err.ensures.only all is) c.in_ok-refusal_of-in-Err.ensures)
