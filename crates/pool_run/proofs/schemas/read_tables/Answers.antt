use Rattle.std.proofs.Common.{ℕ, List, Err, refl, ap, subst}
use Rattle.schema.specs.declared.fault.SchemaFault.{SchemaFault}
use Rattle.schema.specs.Reading.{IsFaulty, IsCatalogue}
use Rattle.pool_run.specs.Schemas.{SaysNoTables, has_faulty_line}
use Rattle.pool_run.proofs.schemas.read_tables.Goals as goal

pub returns-in-Ok-clause-in_range : goal.returns-in-Ok-clause-in_range
returns-in-Ok-clause-in_range c = c.tables_in_range.ensures c.as_slice.result.now c.in-Ok.catalogue c.in-Ok.ensures.found

pub returns-in-Ok-clause-allowed : goal.returns-in-Ok-clause-allowed
returns-in-Ok-clause-allowed c = c.schemas_are_allowed.ensures c.as_slice.result.now c.in-Ok.catalogue c.in-Ok.ensures.found

pub returns-in-Err-BadLine-clause-answer : goal.returns-in-Err-BadLine-clause-answer
returns-in-Err-BadLine-clause-answer c =
    let n : ℕ = c.in-Err-BadLine.line in
    let slice : List ℕ = c.as_slice.result.now in
    let bad : IsFaulty slice n = c.in-Err-BadLine.ensures.bad n (ap Err c.in-Err-BadLine.field-0-is) in
    let none : SaysNoTables slice = λ tables says. subst (λ (f : SchemaFault). IsCatalogue tables (Err f)) c.in-Err-BadLine.field-0-is (c.in-Err-BadLine.ensures.only tables says) in
    has_faulty_line c.in-Some.text n c.in-Some.is (subst (λ (t : List ℕ). IsFaulty t n) c.as_slice.ensures bad) (subst SaysNoTables c.as_slice.ensures none) refl
