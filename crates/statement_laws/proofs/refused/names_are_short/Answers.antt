use Rattle.statement_laws.proofs.RefusedLaw.{checked_is_told}
use Rattle.statement_laws.proofs.Refusals.{name_is_told, place_is_within}
use Rattle.statement_laws.proofs.refused.names_are_short.Goals as goal

pub returns-clause-read : goal.returns-clause-read
returns-clause-read c = name_is_told

pub returns-clause-place : goal.returns-clause-place
returns-clause-place c = place_is_within

pub returns-clause-checked : goal.returns-clause-checked
returns-clause-checked c = checked_is_told
