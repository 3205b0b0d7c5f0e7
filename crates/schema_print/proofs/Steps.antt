-- The text of a schema, one table after another, and of a table, one column after another.
use Rattle.std.proofs.Common.{◌≡◌, ◌∙◌, ◌==◌, ◌≤◌, ◌+◌, ◌-◌, ℕ, List, [], ◌∷◌, ◌++◌, length, take, drop, get_or, refl, sym, ap, subst, arith, append_assoc}
use Rattle.std.specs.Prelude.{◌<◌, codes}
use Rattle.std.specs.List.{AllByRecursion}
use Rattle.sql_print.specs.Spelling.{spelled, name}
use Rattle.std.proofs.lemmas.List.{append-nil}
use Rattle.std.proofs.Math.Seq.{take-length}
use Rattle.schema.specs.declared.catalogue.ColumnDef.{ColumnDef}
use Rattle.schema.specs.declared.catalogue.TableDef.{TableDef}
use Rattle.schema_print.specs.Printed.{Adds, AreColumnsText, IsColumnText, IsSchemaText, IsTableText, comma}

-- ---- the first item of a list, and the others

pub others : {A : Type 0} (x : A) (rest : List A) → take (length (x ∷ rest) - 1) (drop 1 (x ∷ rest)) ≡ rest
others x rest =
    let n : length (x ∷ rest) - 1 ≡ length rest = omega arith in
    ap (λ k. take k rest) n ∙ take-length rest

pub first_and_others : {A : Type 0} (left : List A) (x : A) → 1 ≤ length left → x ≡ get_or left 0 x → left ≡ x ∷ take (length left - 1) (drop 1 left)
first_and_others [] x h e = absurd (omega arith)
first_and_others (y ∷ rest) x h e = ap (λ z. z ∷ rest) (sym e) ∙ ap (λ zs. x ∷ zs) (sym (others y rest))

pub fewer : {A : Type 0} (xs : List A) → 1 ≤ length xs → length (take (length xs - 1) (drop 1 xs)) + 1 ≡ length xs
fewer [] h = absurd (omega arith)
fewer (x ∷ rest) h = let e = ap length (others x rest) in omega arith

-- ---- tables

-- what goes on with the text of these tables has the text of all
abbrev pub GoesOn : List TableDef → List ℕ → List TableDef → List ℕ → Type 0
GoesOn tables old left so_far = (more : List ℕ) → IsSchemaText left more → Adds old (so_far ++ more) (λ text. IsSchemaText tables text)

pub begun : (tables : List TableDef) (old : List ℕ) → GoesOn tables old tables old
begun tables old more is = (more, is, refl)

pub one_table : (tables left rest : List TableDef) (table : TableDef) (old before after : List ℕ) → left ≡ table ∷ rest
    → Adds before after (λ text. IsTableText table text) → GoesOn tables old left before → GoesOn tables old rest after
one_table tables left rest table old before after is adds on more says =
    let all = on (adds.0 ++ more) (subst (λ ts. IsSchemaText ts (adds.0 ++ more)) (sym is) (adds.0, more, adds.1, says, refl)) in
    (all.0, all.1, ap (λ b. b ++ more) adds.2 ∙ append_assoc before adds.0 more ∙ all.2)

pub no_table : (tables left : List TableDef) (old so_far : List ℕ) → left ≡ [] → GoesOn tables old left so_far → Adds old so_far (λ text. IsSchemaText tables text)
no_table tables left old so_far none on =
    let all = on [] (subst (λ ts. IsSchemaText ts []) (sym none) refl) in
    (all.0, all.1, sym (append-nil so_far) ∙ all.2)

-- ---- columns

abbrev pub ColumnsGoOn : ℕ → List ColumnDef → List ℕ → ℕ → List ColumnDef → List ℕ → Type 0
ColumnsGoOn key columns old number left so_far =
    (more : List ℕ) → AreColumnsText key number left more → Adds old (so_far ++ more) (λ text. AreColumnsText key 0 columns text)

pub columns_begun : (key : ℕ) (columns : List ColumnDef) (old : List ℕ) → ColumnsGoOn key columns old 0 columns old
columns_begun key columns old more is = (more, is, refl)

pub one_column : (key number : ℕ) (columns left rest : List ColumnDef) (column : ColumnDef) (old before mid after : List ℕ) → left ≡ column ∷ rest
    → mid ≡ before ++ comma number → Adds mid after (λ text. IsColumnText (number == key) column text)
    → ColumnsGoOn key columns old number left before → ColumnsGoOn key columns old (number + 1) rest after
one_column key number columns left rest column old before mid after is between adds on more says =
    let text = comma number ++ (adds.0 ++ more) in
    let all = on text (subst (λ cs. AreColumnsText key number cs text) (sym is) (adds.0, more, adds.1, says, refl)) in
    let shown : after ++ more ≡ before ++ text =
    ap (λ b. b ++ more) (adds.2 ∙ ap (λ b. b ++ adds.0) between)
    ∙ append_assoc (before ++ comma number) adds.0 more
    ∙ append_assoc before (comma number) (adds.0 ++ more) in
    (all.0, all.1, shown ∙ all.2)

pub no_column : (key number : ℕ) (columns left : List ColumnDef) (old so_far : List ℕ) → left ≡ []
    → ColumnsGoOn key columns old number left so_far → Adds old so_far (λ text. AreColumnsText key 0 columns text)
no_column key number columns left old so_far none on =
    let all = on [] (subst (λ cs. AreColumnsText key number cs []) (sym none) refl) in
    (all.0, all.1, sym (append-nil so_far) ∙ all.2)

-- ---- what is in its range

pub head_of : {A : Type 0} (P : A → Type 0) (left rest : List A) (x : A) → left ≡ x ∷ rest → AllByRecursion P left → P x
head_of P left rest x is all = (subst (AllByRecursion P) is all).0

pub rest_of : {A : Type 0} (P : A → Type 0) (left rest : List A) (x : A) → left ≡ x ∷ rest → AllByRecursion P left → AllByRecursion P rest
rest_of P left rest x is all = (subst (AllByRecursion P) is all).1

pub empty : {A : Type 0} (xs : List A) → length xs < 1 → xs ≡ []
empty [] h = refl
empty (x ∷ xs) h = absurd (omega arith)

-- ---- a table

pub table_added : (t : TableDef) (old a b c d e called : List ℕ) (columns : List ColumnDef) → called ≡ t.name → columns ≡ t.columns
    → a ≡ old ++ codes "CREATE TABLE " → b ≡ a ++ spelled (name called) → c ≡ b ++ codes " ("
    → Adds c d (λ text. AreColumnsText t.key 0 columns text) → e ≡ d ++ codes ");\n" → Adds old e (λ text. IsTableText t text)
table_added t old a b c d e called columns is are one two three (text, shown, four) five =
    let said = spelled (name t.name) in
    let all : e ≡ ((((old ++ codes "CREATE TABLE ") ++ said) ++ codes " (") ++ text) ++ codes ");\n" =
    five ∙ ap (λ x. x ++ codes ");\n") (four ∙ ap (λ x. x ++ text) (three ∙ ap (λ x. x ++ codes " (") (two ∙ ap (λ x. x ++ spelled (name called)) one ∙ ap (λ n. (old ++ codes "CREATE TABLE ") ++ spelled (name n)) is))) in
    let flat : ((((old ++ codes "CREATE TABLE ") ++ said) ++ codes " (") ++ text) ++ codes ");\n" ≡ old ++ (codes "CREATE TABLE " ++ (said ++ (codes " (" ++ (text ++ codes ");\n")))) =
    append_assoc (((old ++ codes "CREATE TABLE ") ++ said) ++ codes " (") text (codes ");\n")
    ∙ (append_assoc ((old ++ codes "CREATE TABLE ") ++ said) (codes " (") (text ++ codes ");\n")
    ∙ (append_assoc (old ++ codes "CREATE TABLE ") said (codes " (" ++ (text ++ codes ");\n"))
    ∙ append_assoc old (codes "CREATE TABLE ") (said ++ (codes " (" ++ (text ++ codes ");\n"))))) in
    (codes "CREATE TABLE " ++ (said ++ (codes " (" ++ (text ++ codes ");\n"))), (text, subst (λ cs. AreColumnsText t.key 0 cs text) are shown, refl), all ∙ flat)
