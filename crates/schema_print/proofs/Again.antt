-- A printed schema says the tables that were printed.
use Rattle.std.proofs.Common.{◌≡◌, ◌∙◌, ◌≤◌, ◌*◌, ℕ, List, [], length, map, refl, sym, ap, subst, arith}
use Rattle.std.specs.Str.{IsUtf8}
use Rattle.sql_tokens.specs.declared.token.Placed.{Placed}
use Rattle.sql_tokens.specs.declared.token.Token.{Token as AnyToken}
use Rattle.sql_tokens.specs.Tokens.{TokensOf}
use Rattle.schema.specs.declared.catalogue.TableDef.{TableDef}
use Rattle.schema.specs.Grammar.{IsSchema}
use Rattle.schema.specs.Reading.{Says, as_text}
use Rattle.schema.proofs.Texts.{whole}
use Rattle.schema_print.specs.Printed.{IsSchemaText}
use Rattle.schema.specs.Allowed.{AreAllowed}
use Rattle.schema_print.proofs.Tokens.{tokens_of_text}
use Rattle.schema_print.proofs.Tables.{tables_read, all_few}

pub says_again : (tables : List TableDef) (text : List ℕ) → IsUtf8 text → IsSchemaText tables text → AreAllowed tables → Says text tables
says_again tables text valid is allowed =
    let most = allowed.0 in
    let found = tables_read [] tables text is allowed.1 in
    let few = found.2 in
    let placed = tokens_of_text text found.0 (omega (arith, most, few)) found.1 in (
      placed.0,
      subst (λ t. TokensOf t placed.0) (sym (whole text valid)) placed.2,
      subst (λ ts. IsSchema ts tables) (sym placed.1) (found.3, (most, all_few [] tables allowed.1)),
    )
