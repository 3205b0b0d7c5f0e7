use Rattle.std.proofs.Common.{◌≡◌, ℕ, List, subst, sym}
use Rattle.std.specs.Prelude.{Err}
use Rattle.std.specs.Str.{IsUtf8}
use Rattle.schema.specs.declared.fault.SchemaFault.{SchemaFault}
use Rattle.schema.specs.Reading.{IsCatalogue, Says}
use Rattle.schema.specs.Allowed.{AreAllowed}
use Rattle.schema.specs.Ranges.{AreInRange}
use Rattle.model_store.proofs.Table.{allowed, in_range, says, tables}
use Rattle.model_store.proofs.trials.trial_tables.Goals as goal

pub returns-in-Ok : goal.returns-in-Ok
returns-in-Ok c =
    let said : Says c.as_bytes.result.now tables =
    subst (λ (t : List ℕ). Says t tables) (sym c.as_bytes.ensures.value) (says (subst IsUtf8 c.as_bytes.ensures.value c.as_bytes.ensures.utf8)) in
    let is : c.in-Ok.tables ≡ tables = c.in-Ok.ensures.only tables said in
    record { in_range = subst AreInRange (sym is) in_range; allowed = subst AreAllowed (sym is) allowed }

pub unreachable-requires : goal.unreachable-requires
unreachable-requires c =
    let said : Says c.as_bytes.result.now tables =
    subst (λ (t : List ℕ). Says t tables) (sym c.as_bytes.ensures.value) (says (subst IsUtf8 c.as_bytes.ensures.value c.as_bytes.ensures.utf8)) in
    subst (λ (fault : SchemaFault). IsCatalogue tables (Err fault)) c.in-Err-BadLine.field-0-is (c.in-Err-BadLine.ensures.only tables said)
