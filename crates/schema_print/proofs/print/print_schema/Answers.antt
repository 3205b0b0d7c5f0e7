use Rattle.std.proofs.Common.{◌≡◌, ◌∙◌, ◌++◌, List, ℕ, sym, ap, subst}
use Rattle.std.specs.Str.{IsUtf8}
use Rattle.std.proofs.lemmas.Str.{IsUtf8-string_bytes}
use Rattle.schema.specs.declared.catalogue.TableDef.{TableDef}
use Rattle.schema_print.specs.Printed.{IsSchemaText}
use Rattle.schema_print.proofs.Again.{says_again}
use Rattle.schema_print.proofs.print.print_schema.Goals as goal

pub returns-clause-read_back : goal.returns-clause-read_back
returns-clause-read_back c = λ allowed.
    let added = c.in_ok-push_tables.ensures in
    let text = c.from_string.result in
    let same : text ≡ added.0 = c.from_string.ensures ∙ (added.2 ∙ ap (λ (old : List ℕ). old ++ added.0) c.new-onto.ensures.bytes) in
    says_again c.args.catalogue.now text (subst IsUtf8 (sym c.from_string.ensures) (IsUtf8-string_bytes c.push_tables.new.onto))
    (subst (λ (ts : List TableDef). IsSchemaText ts text) c.tables.ensures (subst (λ t. IsSchemaText c.tables.result.now t) (sym same) added.1)) allowed
