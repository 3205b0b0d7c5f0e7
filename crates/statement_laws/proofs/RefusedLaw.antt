-- What is told of the one statement of a text that a check refuses.
use Rattle.std.proofs.Common.{ℕ, List, [], ◌∷◌}
use Rattle.std.specs.Prelude.{None, Err}
use Rattle.pool_base.specs.declared.code.Code.{Code}
use Rattle.schema.specs.declared.catalogue.TableDef.{TableDef}
use Rattle.sql_tree.specs.declared.statement.Statement.{Statement}
use Rattle.sql_reader.specs.Text.{IsTextOf, tokens_of}
use Rattle.sql_profile.proofs.FormedClean.{text_clean}
use Rattle.sql_profile.proofs.Tokens.{text_good}
use Rattle.typed_sql.specs.declared.fault.CheckFault.TheVariants.{Refused}
use Rattle.typed_sql.specs.Steps.{fault}
use Rattle.catalogue.specs.Checking.{AnswersCheck}
use Rattle.statement_laws.specs.Told.{IsTold}
use Rattle.statement_laws.proofs.RefusedBodies.{body_tells}
use Rattle.statement_laws.proofs.Reading.{text_calm}

pub checked_is_told : (tables : List TableDef) (text : List ℕ) (s : Statement) (code : Code) (name : List ℕ) → IsTextOf text (s ∷ []) → AnswersCheck tables s None (Err (Refused code name)) → IsTold name
checked_is_told tables text s code name (placed, tokens, (within, count, from)) answers =
    let good = text_good text placed tokens (text_clean 64 (tokens_of placed) (s ∷ []) within) in
    body_tells tables s (text_calm 64 (tokens_of placed) (s ∷ []) within good.0).0 [] (Err (fault code.bytes name)) answers
