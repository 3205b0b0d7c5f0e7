-- What a check answers to the statement that a checked statement is spelled as.
use Rattle.std.proofs.Common.{◌≡◌, ◌∙◌, ◌⊎◌, ◌<◌, ◌^◌, inl, inr, ℕ, List, [], ◌∷◌, length, map, refl, ap, sym, subst, arith}
use Rattle.std.specs.Prelude.{is_some, Bool as Truth, true, false, Option, Some, None, Result, Ok, Err, IfOk, IfErr, slice_get}
use Rattle.pg_values.specs.declared.col_type.ColType.{ColType}
use Rattle.pg_values.specs.declared.col_type.ColType.TheVariants as kind
use Rattle.pg_values.specs.Kinds.{oid_number}
use Rattle.schema.specs.declared.catalogue.TableDef.{TableDef}
use Rattle.schema.specs.Allowed.{AreAllowed}
use Rattle.sql_reader.specs.declared.fault.SqlFault.{SqlFault}
use Rattle.sql_reader.specs.declared.fault.SqlFault.TheVariants as text
use Rattle.sql_print.specs.Printed.{statement_text}
use Rattle.sql_reader.specs.Text.{IsReadAs, IsTextOf}
use Rattle.sql_profile.specs.Fits.{Fits}
use Rattle.sql_tree.specs.Trees.{IsStatement}
use Rattle.sql_tree.specs.declared.statement.Statement.{Statement}
use Rattle.typed_sql.specs.declared.fault.CheckFault.{CheckFault}
use Rattle.typed_sql.specs.declared.fault.CheckFault.TheVariants.{Refused, NoMemory}
use Rattle.typed_sql.specs.Places.{or_text}
use Rattle.typed_sql.specs.Steps.{Known, Answer, Fault, fault}
use Rattle.catalogue.specs.declared.checked.Checked.{Checked}
use Rattle.catalogue.specs.declared.checked.CheckedBody.{CheckedBody}
use Rattle.catalogue.specs.declared.checked.CheckedBody.TheVariants as body
use Rattle.catalogue.specs.declared.checked.ColumnDesc.{ColumnDesc}
use Rattle.catalogue.specs.Checking.{AnswersCheck, BodyBehind, IsChecked}
use Rattle.catalogue.specs.Statements.{Body, BodyOf, kind_numbered, kinds_listed, known_first, with_first}
use Rattle.checked_sql.specs.OfCatalogue.{is_body, is_change, is_empty, is_insert, is_of, is_remove, of_table}
use Rattle.checked_print.specs.Statements.{spelled_body, spelled_statement}
use Rattle.statement_laws.specs.declared.again.AgainFault.{AgainFault}
use Rattle.statement_laws.specs.declared.again.AgainFault.TheVariants as fault_of
use Rattle.statement_laws.specs.Reread.{AnswersOne, AnswersText, CanBeRead, IsAnswer, IsLimit, IsMemory, IsOne, IsSame, IsShort, IsWithinLimits, text_of}
use Rattle.statement_laws.specs.Again.{GivesKinds, IsAgain, SameEffect}
use Rattle.checked_print.specs.Ranges.{is_held_body, is_held_statement}
use Rattle.statement_laws.proofs.Exprs.{known_of}
use Rattle.statement_laws.proofs.GrammarStatements.{statement_tree}
use Rattle.statement_laws.proofs.Numbers.{both_of}
use Rattle.statement_laws.proofs.Selects.{read_sure}
use Rattle.statement_laws.proofs.Sure.{Gave, Sure}
use Rattle.statement_laws.proofs.Tables.{MayHave}
use Rattle.statement_laws.proofs.Writes.{change_sure, insert_sure, remove_sure}
use Rattle.statement_laws.proofs.WrittenStatements.{are_low, are_writable, of_no_backend, text_fits}
use Rattle.sql_profile.proofs.Told.{long}

-- ---- the types of the parameters

numbered : (k : ColType) → kind_numbered (oid_number k) ≡ Ok (Some k)
numbered kind.Bool = refl
numbered kind.Int4 = refl
numbered kind.Int8 = refl
numbered kind.Text = refl
numbered kind.Moment = refl

listed : (kinds : List ColType) → kinds_listed (map oid_number kinds) ≡ Ok (known_of kinds)
listed [] = refl
listed (k ∷ kinds) =
    ap (λ (first : Result (Option ColType) Fault). with_first first (kinds_listed (map oid_number kinds))) (numbered k)
    ∙ ap (with_first (Ok (Some k))) (listed kinds)

known_is : (numbers : Option (List ℕ)) (kinds : List ColType) → GivesKinds numbers kinds → known_first numbers ≡ Ok (known_of kinds)
known_is None kinds is = ap (λ (ks : List ColType). Ok (known_of ks)) (sym is)
known_is (Some numbers) kinds is = ap kinds_listed is ∙ listed kinds

may_have : (numbers : Option (List ℕ)) (kinds : List ColType) → GivesKinds numbers kinds → MayHave (is_some numbers) kinds
may_have None kinds is = inr is
may_have (Some numbers) kinds is = inl refl

texts : (kinds : List ColType) → map or_text (known_of kinds) ≡ kinds
texts [] = refl
texts (k ∷ kinds) = ap (λ (ks : List ColType). k ∷ ks) (texts kinds)

-- ---- the body

module _ (tables : List TableDef) (allowed : AreAllowed tables) (parameters : Truth) (kinds : List ColType) (may : MayHave parameters kinds) where
  body_sure : (b : CheckedBody) (descs : List ColumnDesc) → is_body tables kinds b descs ≡ true → is_held_body b descs ≡ true
      → Sure (λ (x : Body). SameEffect tables x.0 b) (known_of kinds) (BodyOf tables parameters (spelled_body tables descs b))
  body_sure (body.Read read) descs is well = read_sure tables allowed parameters kinds may read descs well is
  body_sure (body.Insert insert) descs is well =
      insert_sure tables allowed parameters kinds may insert well (both_of (is_empty descs) (of_table (is_insert kinds) (slice_get tables insert.table) insert) is).1
  body_sure (body.Change change) descs is well =
      change_sure tables allowed parameters kinds may change well (both_of (is_empty descs) (of_table (is_change kinds) (slice_get tables change.table) change) is).1
  body_sure (body.Remove remove) descs is well =
      remove_sure tables allowed parameters kinds may remove well (both_of (is_empty descs) (of_table (is_remove kinds) (slice_get tables remove.table) remove) is).1

-- ---- the answer

abbrev value_or : {A : Type 0} → A → Result A Fault → A
value_or x (Ok y) = y
value_or x (Err e) = x

abbrev is_ok : {A : Type 0} → Result A Fault → Truth
is_ok (Ok x) = true
is_ok (Err e) = false

module _ (tables : List TableDef) (checked : Checked) (numbers : Option (List ℕ)) (allowed : AreAllowed tables) (is : is_of tables checked ≡ true) (well : is_held_statement checked ≡ true)
    (given : GivesKinds numbers checked.kinds) where
  abbrev s : Statement
  s = spelled_statement tables checked

  sure : (answer : Answer Body) → BodyBehind tables s (is_some numbers) (known_first numbers) answer → Gave (λ (x : Body). SameEffect tables x.0 checked.body) (known_of checked.kinds) answer
  sure answer took =
      body_sure tables allowed (is_some numbers) checked.kinds (may_have numbers checked.kinds given) checked.body checked.columns is well answer
      (subst (λ (first : Result Known Fault). BodyBehind tables s (is_some numbers) first answer) (known_is numbers checked.kinds given) took)

  again_by : (made : Checked) (known : Known) → made.kinds ≡ map or_text known → Gave (λ (x : Body). SameEffect tables x.0 checked.body) (known_of checked.kinds) (Ok ((made.body, made.columns), known))
      → IsAgain tables checked (Ok made)
  again_by made known kinds gave =
      let same : ((made.body, made.columns), known) ≡ (gave.0, known_of checked.kinds) = ap (value_or ((made.body, made.columns), known)) gave.1 in (
        subst (λ (b : CheckedBody). SameEffect tables b checked.body) (sym (ap (λ (x : Body × Known). x.0.0) same)) gave.2,
        kinds ∙ (ap (λ (x : Body × Known). map or_text x.1) same ∙ texts checked.kinds),
      )

  pub is_again : (result : Result Checked CheckFault) → AnswersCheck tables s numbers result → IsAgain tables checked result
  is_again (Ok made) answers = again_by made answers.0 answers.1 (sure (Ok ((made.body, made.columns), answers.0)) answers.2)
  is_again (Err (Refused code name)) answers =
      let gave = sure (Err (fault code.bytes name)) answers in
      let f : false ≡ true = ap is_ok gave.1 in cc
  is_again (Err NoMemory) answers = tt

-- ---- from what is read to what is checked

-- a statement that is spelled is one that is checked
pub is_checked : (tables : List TableDef) (descs : List ColumnDesc) (b : CheckedBody) → IsChecked (spelled_body tables descs b)
is_checked tables descs (body.Read read) = tt
is_checked tables descs (body.Insert insert) = tt
is_checked tables descs (body.Change change) = tt
is_checked tables descs (body.Remove remove) = tt

module _ (tables : List TableDef) (checked : Checked) (can : CanBeRead tables checked) (held : is_held_statement checked ≡ true) where
  answer_is : (numbers : List ℕ) → numbers ≡ map oid_number checked.kinds → (result : Result Checked CheckFault) → AnswersCheck tables (spelled_statement tables checked) (Some numbers) result
      → IsAgain tables checked result
  answer_is numbers given result answers = is_again tables checked (Some numbers) can.allowed can.of held given result answers

  abbrev written : Statement
  written = spelled_statement tables checked

  pub same_of : (numbers : List ℕ) → numbers ≡ map oid_number checked.kinds → (result : Result Checked AgainFault) → IsAnswer tables written numbers result → IfOk result (IsSame tables checked)
  same_of numbers given (Ok again) answers = answer_is numbers given (Ok again) answers
  same_of numbers given (Err e) answers = tt

  pub limit_of : (numbers : List ℕ) → numbers ≡ map oid_number checked.kinds → (result : Result Checked AgainFault) → IsAnswer tables written numbers result → IfErr result IsLimit
  limit_of numbers given (Ok again) answers = tt
  limit_of numbers given (Err (fault_of.Check (Refused code name))) answers = absurd (answer_is numbers given (Err (Refused code name)) answers)
  limit_of numbers given (Err (fault_of.Check NoMemory)) answers = tt
  limit_of numbers given (Err fault_of.Other) answers = absurd answers
  limit_of numbers given (Err (fault_of.Text (text.Syntax place))) answers = absurd answers
  limit_of numbers given (Err (fault_of.Text (text.Outside name place))) answers = absurd answers
  limit_of numbers given (Err (fault_of.Text text.TooLong)) answers = tt
  limit_of numbers given (Err (fault_of.Text text.NoMemory)) answers = tt
  limit_of numbers given (Err fault_of.NoMemory) answers = tt

  -- a text within the limits passes none
  pub memory_of : IsWithinLimits (text_of tables checked) → (numbers : List ℕ) → (result : Result Checked AgainFault) → IsAnswer tables written numbers result → IfErr result IsLimit → IfErr result IsMemory
  memory_of within numbers (Ok again) answers limit = tt
  memory_of within numbers (Err (fault_of.Check (Refused code name))) answers limit = limit
  memory_of within numbers (Err (fault_of.Check NoMemory)) answers limit = tt
  memory_of within numbers (Err fault_of.Other) answers limit = limit
  memory_of within numbers (Err (fault_of.Text (text.Syntax place))) answers limit = limit
  memory_of within numbers (Err (fault_of.Text (text.Outside name place))) answers limit = limit
  memory_of within numbers (Err (fault_of.Text text.TooLong)) answers limit = absurd (answers within)
  memory_of within numbers (Err (fault_of.Text text.NoMemory)) answers limit = tt
  memory_of within numbers (Err fault_of.NoMemory) answers limit = tt

-- ---- from what the text is read as

-- an answer to the one statement of a text is one to the text
one_told : (tables : List TableDef) (numbers : List ℕ) (bytes : List ℕ) (s : Statement) → IsTextOf bytes (s ∷ []) → (result : Result Checked AgainFault) → AnswersOne tables numbers s result
    → AnswersText tables numbers bytes result
one_told tables numbers bytes s of (Ok again) answers = record { statement = s; of = of; one = answers.0; answers = answers.1 }
one_told tables numbers bytes s of (Err fault_of.Other) answers = (s ∷ [], of, answers)
one_told tables numbers bytes s of (Err (fault_of.Text e)) answers = absurd answers
one_told tables numbers bytes s of (Err (fault_of.Check e)) answers = record { statement = s; of = of; one = answers.0; answers = answers.1 }
one_told tables numbers bytes s of (Err fault_of.NoMemory) answers = absurd answers

-- a text of none or of several is not one statement
other_told : (tables : List TableDef) (numbers : List ℕ) (bytes : List ℕ) (all : List Statement) → IsTextOf bytes all → (IsOne all → ⊥) → (result : Result Checked AgainFault)
    → result ≡ Err fault_of.Other → AnswersText tables numbers bytes result
other_told tables numbers bytes all of none result is = subst (AnswersText tables numbers bytes) (sym is) (all, of, none)

pub read_told : (tables : List TableDef) (numbers : List ℕ) (bytes : List ℕ) (all : List Statement) (result : Result Checked AgainFault) → IsTextOf bytes all
    → ((s : Statement) → all ≡ s ∷ [] → AnswersOne tables numbers s result) → ((length all ≡ 1 → ⊥) → result ≡ Err fault_of.Other) → AnswersText tables numbers bytes result
read_told tables numbers bytes [] result of one other = other_told tables numbers bytes [] of (λ h. h) result (other (λ e. omega arith))
read_told tables numbers bytes (s ∷ []) result of one other = one_told tables numbers bytes s of result (one s refl)
read_told tables numbers bytes (s ∷ t ∷ others) result of one other = other_told tables numbers bytes (s ∷ t ∷ others) of (λ h. h) result (other (λ e. omega arith))

-- an answer to a statement that is checked
one_answer : (tables : List TableDef) (numbers : List ℕ) (s : Statement) (result : Result Checked AgainFault) → AnswersOne tables numbers s result → IsChecked s → IsAnswer tables s numbers result
one_answer tables numbers s (Ok again) answers checked = answers.1
one_answer tables numbers s (Err fault_of.Other) answers checked = absurd (answers checked)
one_answer tables numbers s (Err (fault_of.Text e)) answers checked = absurd answers
one_answer tables numbers s (Err (fault_of.Check e)) answers checked = answers.1
one_answer tables numbers s (Err fault_of.NoMemory) answers checked = absurd answers

-- a check of what is read of a statement's text, and why it is not read
pub read_answer : (tables : List TableDef) (s : Statement) (all : List Statement) (numbers : List ℕ) (result : Result Checked AgainFault)
    → (IsStatement s → Fits s → all ≡ s ∷ []) → ((t : Statement) → all ≡ t ∷ [] → AnswersOne tables numbers t result)
    → IsStatement s → Fits s → IsChecked s → IsAnswer tables s numbers result
read_answer tables s all numbers result read answers tree fits checked = one_answer tables numbers s result (answers s (read tree fits)) checked

pub text_answer : (tables : List TableDef) (s : Statement) (numbers : List ℕ) (e : SqlFault) → (IsStatement s → Fits s → (e ≡ text.NoMemory) ⊎ (e ≡ text.TooLong))
    → (IsStatement s → Fits s → (all : List Statement) → IsTextOf (statement_text s) all → length (statement_text s) < 2 ^ 32 → IsReadAs (Err e) (s ∷ []))
    → IsStatement s → Fits s → IsChecked s → IsAnswer tables s numbers (Err (fault_of.Text e))
text_answer tables s numbers e refused within tree fits checked = elim (refused tree fits) [
  | inl is ↦ subst (λ (x : SqlFault). IsAnswer tables s numbers (Err (fault_of.Text x))) (sym is) tt
  | inr is ↦ subst (λ (x : SqlFault). IsAnswer tables s numbers (Err (fault_of.Text x))) (sym is)
      (λ (w : IsWithinLimits (statement_text s)). subst (λ (x : SqlFault). IsReadAs (Err x) (s ∷ [])) is (within tree fits w.statements w.of w.size))
]

-- by the types of the parameters
pub typed_told : (tables : List TableDef) (kinds : List ColType) (numbers : List ℕ) (bytes : List ℕ) (result : Result Checked AgainFault) → numbers ≡ map oid_number kinds
    → AnswersText tables numbers bytes result → AnswersText tables (map oid_number kinds) bytes result
typed_told tables kinds numbers bytes result is told = subst (λ (ns : List ℕ). AnswersText tables ns bytes result) is told

pub typed_answer : (tables : List TableDef) (s : Statement) (kinds : List ColType) (numbers : List ℕ) (result : Result Checked AgainFault) → numbers ≡ map oid_number kinds
    → (IsStatement s → Fits s → IsChecked s → IsAnswer tables s numbers result) → IsStatement s → Fits s → IsChecked s → IsAnswer tables s (map oid_number kinds) result
typed_answer tables s kinds numbers result is answers tree fits checked = subst (λ (ns : List ℕ). IsAnswer tables s ns result) is (answers tree fits checked)

pub ruleset typed = (typed_told, typed_answer)

-- of the statement that a checked statement is spelled as
pub again_told : (tables : List TableDef) (checked : Checked) (s : Statement) (numbers : List ℕ) (result : Result Checked AgainFault) → s ≡ spelled_statement tables checked
    → AnswersText tables numbers (statement_text s) result → AnswersText tables numbers (text_of tables checked) result
again_told tables checked s numbers result is told = subst (λ (t : Statement). AnswersText tables numbers (statement_text t) result) is told

module _ (tables : List TableDef) (checked : Checked) (s : Statement) (is : s ≡ spelled_statement tables checked) (held : is_held_statement checked ≡ true) (can : CanBeRead tables checked)
    (result : Result Checked AgainFault) (answers : IsStatement s → Fits s → IsChecked s → IsAnswer tables s (map oid_number checked.kinds) result) where
  abbrev numbers : List ℕ
  numbers = map oid_number checked.kinds

  answer_as : Fits s → IsAnswer tables (spelled_statement tables checked) numbers result
  answer_as fits =
      subst (λ (t : Statement). IsAnswer tables t numbers result) is
      (answers (subst IsStatement (sym is) (statement_tree tables checked can.allowed can.of held)) fits
      (subst IsChecked (sym is) (is_checked tables checked.columns checked.body)))

  -- where the text is one of statements, a text can have its tokens
  fits_by : (all : List Statement) → IsTextOf (statement_text s) all → Fits s
  fits_by all text = text_fits tables checked can.allowed can.of held s is all text

  again_limits : Fits s → IfErr result IsLimit
  again_limits fits = limit_of tables checked can held numbers refl result (answer_as fits)

  pub again_within : IsWithinLimits (text_of tables checked) → IfErr result IsMemory
  again_within within =
      let fits = fits_by within.statements (subst (λ (t : Statement). IsTextOf (statement_text t) within.statements) (sym is) within.of) in
      memory_of tables checked can held within numbers result (answer_as fits) (again_limits fits)

module _ (tables : List TableDef) (checked : Checked) (s : Statement) (is : s ≡ spelled_statement tables checked) (held : is_held_statement checked ≡ true) (can : CanBeRead tables checked) where
  abbrev Answers : Result Checked AgainFault → Type 0
  Answers result = IsStatement s → Fits s → IsChecked s → IsAnswer tables s (map oid_number checked.kinds) result

  abbrev Told : Result Checked AgainFault → Type 0
  Told result = AnswersText tables (map oid_number checked.kinds) (statement_text s) result

  -- what is given was one statement of the text
  pub again_same : (result : Result Checked AgainFault) → Told result → Answers result → IfOk result (IsSame tables checked)
  again_same (Ok again) told answers =
      same_of tables checked can held (map oid_number checked.kinds) refl (Ok again)
      (answer_as tables checked s is held can (Ok again) answers (fits_by tables checked s is held can (Ok again) answers (told.statement ∷ []) told.of))
  again_same (Err e) told answers = tt

  text_limit : (e : SqlFault) → (e ≡ text.NoMemory) ⊎ (e ≡ text.TooLong) → IsLimit (fault_of.Text e)
  text_limit e (inl is) = subst (λ (x : SqlFault). IsLimit (fault_of.Text x)) (sym is) tt
  text_limit e (inr is) = subst (λ (x : SqlFault). IsLimit (fault_of.Text x)) (sym is) tt

  short_limit : (result : Result Checked AgainFault) → Told result → Answers result → length (statement_text s) < 2 ^ 32 → IfErr result IsLimit
  short_limit (Ok again) told answers short = tt
  short_limit (Err fault_of.Other) told answers short =
      again_limits tables checked s is held can (Err fault_of.Other) answers (fits_by tables checked s is held can (Err fault_of.Other) answers told.0 told.1)
  short_limit (Err (fault_of.Text e)) told answers short =
      text_limit e (long s e (subst IsStatement (sym is) (statement_tree tables checked can.allowed can.of held)) (are_low tables checked can.allowed can.of held s is)
      (of_no_backend tables checked can.allowed can.of held s is) (are_writable tables checked can.allowed can.of held s is) (told short))
  short_limit (Err (fault_of.Check e)) told answers short =
      again_limits tables checked s is held can (Err (fault_of.Check e)) answers (fits_by tables checked s is held can (Err (fault_of.Check e)) answers (told.statement ∷ []) told.of)
  short_limit (Err fault_of.NoMemory) told answers short = tt

  -- a refused text passes a limit
  pub again_limit : (result : Result Checked AgainFault) → Told result → Answers result → IsShort tables checked → IfErr result IsLimit
  again_limit result told answers (inl short) = short_limit result told answers (subst (λ (t : Statement). length (statement_text t) < 2 ^ 32) (sym is) short)
  again_limit result told answers (inr fits) = again_limits tables checked s is held can result answers (subst Fits (sym is) fits)
