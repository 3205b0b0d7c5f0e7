-- What a check answers, by what is known before the text and what the body is.
use Rattle.std.proofs.Common.{◌≡◌, List, ℕ, map, refl, sym, ◌∙◌, subst}
use Rattle.std.specs.Prelude.{Bool as Truth, Option, Some, None, Result, Ok, Err, is_some}
use Rattle.std.specs.Option.{option_map}
use Rattle.pg_values.specs.declared.col_type.ColType.{ColType}
use Rattle.schema.specs.declared.catalogue.TableDef.{TableDef}
use Rattle.sql_tree.specs.declared.statement.Statement.{Statement}
use Rattle.typed_sql.specs.declared.fault.CheckFault.{CheckFault}
use Rattle.typed_sql.specs.declared.fault.CheckFault.TheVariants.{Refused, NoMemory}
use Rattle.typed_sql.specs.Places.{or_text}
use Rattle.typed_sql.specs.Steps.{Known, Fault, fault, Answer, Answers}
use Rattle.typed_sql.specs.Meaning.{Finds}
use Rattle.catalogue.specs.declared.checked.CheckedBody.{CheckedBody}
use Rattle.catalogue.specs.declared.checked.ColumnDesc.{ColumnDesc}
use Rattle.catalogue.specs.Statements.{Body, BodyOf, known_first}
use Rattle.catalogue.specs.Checking.{AnswersCheck, BodyBehind}

-- what is there is there in any view
pub stands_same : {A B : Type 0} (view : A → B) (o : Option A) → is_some o ≡ is_some (option_map view o)
stands_same view None = refl
stands_same view (Some a) = refl

module _ (tables : List TableDef) (s : Statement) (kinds : Option (List ℕ)) where
  -- a number of the list is of no type
  pub kinds_refused : {A : Type 0} (view : A → Known) (f : CheckFault) → Finds view (Err f) (known_first kinds) → AnswersCheck tables s kinds (Err f)
  kinds_refused view (Refused code name) is =
      subst (λ (k : Result Known Fault). BodyBehind tables s (is_some kinds) k (Err (fault code.bytes name))) (sym is) refl
  kinds_refused view NoMemory is = tt

  module _ (first : Known) (first_is : known_first kinds ≡ Ok first) (parameters : Truth) (some : parameters ≡ is_some kinds) where
    ended : (answer : Answer Body) → BodyOf tables parameters s first answer → BodyBehind tables s (is_some kinds) (known_first kinds) answer
    ended answer goes = subst (λ (k : Result Known Fault). BodyBehind tables s (is_some kinds) k answer) (sym first_is)
        (subst (λ (p : Truth). BodyOf tables p s first answer) some goes)

    -- the statement has a fault
    pub body_refused : (f : CheckFault) (mid : Known) → Answers (λ (b : Body). b) (Err f) mid (BodyOf tables parameters s first)
        → AnswersCheck tables s kinds (Err f)
    body_refused (Refused code name) mid fails = ended (Err (fault code.bytes name)) fails
    body_refused NoMemory mid fails = tt

    -- it has none
    pub body_given : (body : CheckedBody) (columns : List ColumnDesc) (mid : Known) (types : List ColType)
        → BodyOf tables parameters s first (Ok ((body, columns), mid)) → types ≡ map or_text mid
        → AnswersCheck tables s kinds (Ok (record { body = body; columns = columns; kinds = types }))
    body_given body columns mid types goes is = (mid, is, ended (Ok ((body, columns), mid)) goes)
