use Rattle.std.proofs.Common.{ℕ, List, [], subst, sym}
use Rattle.std.specs.Prelude.{Err}
use Rattle.std.specs.Str.{IsUtf8}
use Rattle.schema.specs.declared.fault.SchemaFault.{SchemaFault}
use Rattle.schema.specs.Reading.{IsCatalogue, Says}
use Rattle.model_store.proofs.NewLaws.{says_none}
use Rattle.model_store.proofs.store.no_tables.Goals as goal

pub returns-in-Ok : goal.returns-in-Ok
returns-in-Ok c =
    let said : Says c.as_bytes.result.now [] =
    subst (λ (t : List ℕ). Says t []) (sym c.as_bytes.ensures.value) (says_none (subst IsUtf8 c.as_bytes.ensures.value c.as_bytes.ensures.utf8)) in
    c.in-Ok.ensures.only [] said

pub unreachable-requires : goal.unreachable-requires
unreachable-requires c =
    let said : Says c.as_bytes.result.now [] =
    subst (λ (t : List ℕ). Says t []) (sym c.as_bytes.ensures.value) (says_none (subst IsUtf8 c.as_bytes.ensures.value c.as_bytes.ensures.utf8)) in
    subst (λ (fault : SchemaFault). IsCatalogue [] (Err fault)) c.in-Err-BadLine.field-0-is (c.in-Err-BadLine.ensures.only [] said)
