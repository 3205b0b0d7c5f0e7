-- Tables that the derived test finds equal are the same. And a layout is its number of backends and its tables.
use mathlib.Core.HLevel.{is_prop→PathP}
use mathlib.Core.Logic.{∥∥₁_prop}
use Rattle.std.proofs.Common.{◌≡◌, ◌≤◌, ◌∙◌, ℕ, List, [], ◌∷◌, ◌++◌, Bool, true, false, Some, None, length, refl, sym, ap, subst, eqb-true, true≢false}
use Rattle.std.specs.Prelude.{All, Option, ◌&&◌, ◌==◌}
use Rattle.std.proofs.lemmas.List.Elements.{All-nil, All-cons}
use Rattle.std.specs.Option.{option_eq}
use Rattle.std.specs.Cmp.{signed_Decides, booleans_Decides}
use Rattle.std.specs.Cmp.Lexicographic.{pointwise, bytes_decides}
use Rattle.pool_base.specs.declared.session_id.SessionId.{SessionId}
use Rattle.pool_config.specs.declared.config.Config.{Config}
use Rattle.pg_values.specs.declared.value.Value.{Value}
use Rattle.pg_values.specs.declared.value.Value.TheVariants as values
use Rattle.pg_values.specs.contracts.value.ValuePartialEq.TheImpl as value_eq
use Rattle.pg_values.specs.declared.col_type.ColType.{ColType}
use Rattle.pg_values.specs.declared.col_type.ColType.TheVariants as kinds
use Rattle.pg_values.specs.contracts.col_type.ColTypePartialEq.TheImpl as kind_eq
use Rattle.schema.specs.declared.catalogue.Fill.{Fill}
use Rattle.schema.specs.declared.catalogue.Fill.TheVariants as fills
use Rattle.schema.specs.contracts.catalogue.FillPartialEq.TheImpl as fill_eq
use Rattle.schema.specs.declared.catalogue.ColumnDef.{ColumnDef}
use Rattle.schema.specs.contracts.catalogue.ColumnDefPartialEq.TheImpl as column_eq
use Rattle.schema.specs.declared.catalogue.TableDef.{TableDef}
use Rattle.schema.specs.contracts.catalogue.TableDefPartialEq.TheImpl as table_eq
use Rattle.schema.specs.Grammar.{IsWithin}
use Rattle.schema.specs.Allowed.{AreAllowed, AreTables}
use Rattle.online_recovery.specs.declared.layout.Layout.{Layout}
use Rattle.online_recovery.specs.declared.standing.Standing.{Standing}
use Rattle.online_recovery.specs.State.{new_standing}
use Rattle.recovery_seat.specs.Places.{IsLayout}
use Rattle.recovery_seat.proofs.Among.{same_session}

never : {X : Type 0} → false ≡ true → X
never e = absurd (true≢false (sym e))

and_true : (s t : Bool) → (s && t) ≡ true → (s ≡ true) × (t ≡ true)
and_true true t e = (refl, e)
and_true false t e = never e

lists_only : {A : Type 0} (test : A → A → Bool) → ((a b : A) → test a b ≡ true → a ≡ b) → (xs ys : List A) → pointwise test xs ys ≡ true → xs ≡ ys
lists_only test only [] [] e = refl
lists_only test only (x ∷ xs) (y ∷ ys) e =
    let h = and_true _ _ e in
    let first : x ≡ y = only x y h.0 in
    let rest : xs ≡ ys = lists_only test only xs ys h.1 in
    λ i. first i ∷ rest i
lists_only test only [] (y ∷ ys) e = never e
lists_only test only (x ∷ xs) [] e = never e

number_only : (x y : Option ℕ) → option_eq (λ (a b : ℕ). a == b) x y ≡ true → x ≡ y
number_only None None e = refl
number_only (Some a) (Some b) e = ap (λ n. Some n) (eqb-true a b e)
number_only x y e = never e

kind_only : (x y : ColType) → (kind_eq.ghosts).eq x y ≡ true → x ≡ y
kind_only kinds.Bool kinds.Bool e = refl
kind_only kinds.Int4 kinds.Int4 e = refl
kind_only kinds.Int8 kinds.Int8 e = refl
kind_only kinds.Text kinds.Text e = refl
kind_only kinds.Moment kinds.Moment e = refl
kind_only x y e = never e

value_only : (x y : Value) → (value_eq.ghosts).eq x y ≡ true → x ≡ y
value_only values.Null values.Null e = refl
value_only (values.Bool a) (values.Bool b) e = ap values.Bool ((booleans_Decides a b).0 e)
value_only (values.Int4 a) (values.Int4 b) e = ap values.Int4 ((signed_Decides a b).0 e)
value_only (values.Int8 a) (values.Int8 b) e = ap values.Int8 ((signed_Decides a b).0 e)
value_only (values.Text a) (values.Text b) e = ap values.Text ((bytes_decides a b).0 e)
value_only (values.Moment a) (values.Moment b) e = ap values.Moment ((signed_Decides a b).0 e)
value_only x y e = never e

fill_only : (x y : Fill) → (fill_eq.ghosts).eq x y ≡ true → x ≡ y
fill_only fills.Nothing fills.Nothing e = refl
fill_only fills.Serial fills.Serial e = refl
fill_only fills.Now fills.Now e = refl
fill_only (fills.Constant a) (fills.Constant b) e = ap fills.Constant (value_only a b e)
fill_only x y e = never e

column_only : (x y : ColumnDef) → (column_eq.ghosts).eq x y ≡ true → x ≡ y
column_only x y e =
    let a = and_true _ _ e in
    let b = and_true _ _ a.1 in
    let c = and_true _ _ b.1 in
    let name = (bytes_decides x.name y.name).0 a.0 in
    let kind = kind_only x.kind y.kind b.0 in
    let not_null = (booleans_Decides x.not_null y.not_null).0 c.0 in
    let fill = fill_only x.fill y.fill c.1 in
    λ i. record { name = name i; kind = kind i; not_null = not_null i; fill = fill i }

table_only : (x y : TableDef) → (table_eq.ghosts).eq x y ≡ true → x ≡ y
table_only x y e =
    let a = and_true _ _ e in
    let b = and_true _ _ a.1 in
    let c = and_true _ _ b.1 in
    let name = (bytes_decides x.name y.name).0 a.0 in
    let columns = lists_only (column_eq.ghosts).eq column_only x.columns y.columns b.0 in
    let key = eqb-true x.key y.key c.0 in
    let serial = number_only x.serial y.serial c.1 in
    λ i. record { name = name i; columns = columns i; key = key i; serial = serial i }

pub tables_only : (xs ys : List TableDef) → pointwise (table_eq.ghosts).eq xs ys ≡ true → xs ≡ ys
tables_only xs ys = lists_only (table_eq.ghosts).eq table_only xs ys

pub same_layout : (a b : Layout) → a.nodes ≡ b.nodes → a.tables ≡ b.tables → a ≡ b
same_layout a b nodes tables =
    λ i. record { nodes = nodes i; tables = tables i; allowed = is_prop→PathP (λ j. ∥ AreAllowed (tables j) ∥₁) (λ j. ∥∥₁_prop) a.allowed b.allowed i }

-- of one configuration and its tables there is one layout
pub one_layout : (config : Config) (tables : List TableDef) (a b : Layout) → IsLayout config tables a → IsLayout config tables b → a ≡ b
one_layout config tables a b of_a of_b = same_layout a b (of_a.of_nodes ∙ sym of_b.of_nodes) (of_a.of_tables ∙ sym of_b.of_tables)

pub own_standing : (id s : SessionId) (a b : Layout) → id.number ≡ s.number → a ≡ b → new_standing id a ≡ new_standing s b
own_standing id s a b number layout = let session : id ≡ s = same_session id s number in λ i. new_standing (session i) (layout i)

pub own_by : (a b : Standing) (s : SessionId) (layout : Layout) → a ≡ b → a.held.id.number ≡ s.number → a.held.layout ≡ layout → new_standing b.held.id b.held.layout ≡ new_standing s layout
own_by a b s layout same number own = subst (λ (z : Standing). new_standing z.held.id z.held.layout ≡ new_standing s layout) same (own_standing a.held.id s a.held.layout layout number own)

-- Tables that a schema can have are not too many, nor too wide.

few_columns : (before tables : List TableDef) → AreTables before tables → All (λ t. length t.columns ≤ 32) tables
few_columns before [] are = All-nil (λ (t : TableDef). length t.columns ≤ 32)
few_columns before (table ∷ tables) are = All-cons (λ (t : TableDef). length t.columns ≤ 32) table tables (are.0).few (few_columns (before ++ table ∷ []) tables are.1)

pub within_of : (tables : List TableDef) → AreAllowed tables → IsWithin tables
within_of tables allowed = (allowed.0, few_columns [] tables allowed.1)
