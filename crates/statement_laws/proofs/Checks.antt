-- What a check answers is one checked statement, or one fault, and never both.
use Rattle.std.proofs.Common.{◌≡◌, ◌∙◌, ℕ, List, map, true, false, ap, sym}
use Rattle.std.specs.Prelude.{Bool as Truth, Option, Ok, Err, is_some}
use Rattle.pool_base.specs.declared.code.Code.{Code}
use Rattle.schema.specs.declared.catalogue.TableDef.{TableDef}
use Rattle.sql_tree.specs.declared.statement.Statement.{Statement}
use Rattle.typed_sql.specs.declared.fault.CheckFault.TheVariants.{Refused}
use Rattle.typed_sql.specs.Places.{or_text}
use Rattle.typed_sql.specs.Steps.{Known, Fault, fault, Answer}
use Rattle.catalogue.specs.declared.checked.Checked.{Checked}
use Rattle.catalogue.specs.Checking.{AnswersCheck}
use Rattle.catalogue.specs.Statements.{Body, known_first}
use Rattle.statement_laws.proofs.CheckBodies.{answer_one}

abbrev given_or : Body × Known → Answer Body → Body × Known
given_or x (Ok y) = y
given_or x (Err e) = x

abbrev fault_or : Fault → Answer Body → Fault
fault_or e (Ok x) = e
fault_or e (Err f) = f

abbrev is_given : Answer Body → Truth
is_given (Ok x) = true
is_given (Err e) = false

module _ (tables : List TableDef) (s : Statement) (kinds : Option (List ℕ)) where
  pub checked_one : (a b : Checked) → AnswersCheck tables s kinds (Ok a) → AnswersCheck tables s kinds (Ok b) → a ≡ b
  checked_one a b p q =
      let x : Body × Known = ((a.body, a.columns), p.0) in
      let y : Body × Known = ((b.body, b.columns), q.0) in
      let same : x ≡ y = ap (given_or x) (answer_one tables (is_some kinds) s (known_first kinds) (Ok x) (Ok y) p.2 q.2) in
      let of : a.kinds ≡ b.kinds = p.1 ∙ ap (λ (z : Body × Known). map or_text z.1) same ∙ sym q.1 in
      λ i. record { body = (same i).0.0; columns = (same i).0.1; kinds = of i }

  pub refused_one : (a b : Code) (name called : List ℕ) → AnswersCheck tables s kinds (Err (Refused a name)) → AnswersCheck tables s kinds (Err (Refused b called))
      → (a.bytes ≡ b.bytes) × (name ≡ called)
  refused_one a b name called p q =
      let e = fault a.bytes name in
      let f = fault b.bytes called in
      let same : e ≡ f = ap (fault_or e) (answer_one tables (is_some kinds) s (known_first kinds) (Err e) (Err f) p q) in
      (ap (λ (z : Fault). z.code) same, ap (λ (z : Fault). z.name) same)

  pub never_both : (checked : Checked) (code : Code) (name : List ℕ) → AnswersCheck tables s kinds (Ok checked) → AnswersCheck tables s kinds (Err (Refused code name)) → ⊥
  never_both checked code name p q =
      let x : Body × Known = ((checked.body, checked.columns), p.0) in
      let f : true ≡ false = ap is_given (answer_one tables (is_some kinds) s (known_first kinds) (Ok x) (Err (fault code.bytes name)) p.2 q) in
      cc
