-- Whether each node of an expression has the type that the rules give it and as many parts as its form has, and each value,
-- parameter and column is one of its type.
use Rattle.std.specs.Prelude.{◌&&◌, ◌==◌, not, ℕ, zero, suc, ℤ, pos, neg_ℤ, Bool as Truth, true, false, List, [], ◌∷◌, fold, map, Option, Some, None, slice_get}
use Rattle.std.specs.List.{list_all}
use Rattle.std.specs.Int.Signed.{le_z}
use Rattle.pg_values.specs.declared.col_type.ColType.{ColType}
use Rattle.pg_values.specs.declared.col_type.ColType.TheVariants.{Bool, Int4, Int8, Text, Moment}
use Rattle.pg_values.specs.declared.value.Value.{Value}
use Rattle.pg_values.specs.declared.value.Value.TheVariants as value
use Rattle.schema.specs.declared.catalogue.ColumnDef.{ColumnDef}
use Rattle.typed_sql.specs.declared.typed.TypedExpr.{TypedExpr}
use Rattle.typed_sql.specs.declared.asks.Takes.{Takes}
use Rattle.typed_sql.specs.declared.asks.Takes.TheVariants.{Any, Whole, Like}
use Rattle.typed_sql.specs.declared.typed.TypedForm.{TypedForm}
use Rattle.typed_sql.specs.declared.typed.TypedForm.TheOpen.{TypedForm-F, TypedExpr-F}
use Rattle.typed_sql.specs.declared.typed.TypedForm.TheFolds.{fold-TypedExpr, fold-TypedForm}
use Rattle.typed_sql.specs.Places.{same_kind, sum_kind, takes as takes_kind}
use Rattle.checked_sql.specs.declared.names.Names.{Names as Given}

-- the columns that an expression may name, and the types of its parameters
pub record Names : Type 0 where
  pub columns : List ColumnDef
  pub kinds : List ColType

-- the same, as the code has it
abbrev pub names_of : Given → Names
names_of given = record { columns = given.columns.now; kinds = given.kinds.now }

-- ---- leaves

abbrev pub is_some_byte : ℕ → Truth
is_some_byte b = not (b == 0)

abbrev pub has_no_zero : List ℕ → Truth
has_no_zero text = list_all is_some_byte text

-- a moment of the years 1 to 9999, in microseconds since 2000-01-01 00:00 UTC
abbrev pub is_moment : ℤ → Truth
is_moment micros = le_z (neg_ℤ (pos 63_082_281_600_000_000)) micros && le_z micros (pos 252_455_615_999_999_999)

-- a value is Null, or of the type and in its range
abbrev pub is_value : ColType → Value → Truth
is_value kind value.Null = true
is_value kind (value.Bool truth) = same_kind kind Bool
is_value kind (value.Int4 number) = same_kind kind Int4
is_value kind (value.Int8 number) = same_kind kind Int8
is_value kind (value.Text text) = same_kind kind Text && has_no_zero text
is_value kind (value.Moment micros) = same_kind kind Moment && is_moment micros

-- as many values as types, each Null, or of its type and in its range
abbrev pub are_fit : List ColType → List Value → Truth
are_fit [] [] = true
are_fit (kind ∷ kinds) (value ∷ values) = is_value kind value && are_fit kinds values
are_fit kinds values = false

abbrev pub has_this : ColType → Option ColType → Truth
has_this kind None = false
has_this kind (Some other) = same_kind kind other

-- a parameter of that number, from 1, and type
abbrev pub is_parameter : List ColType → ℕ → ColType → Truth
is_parameter kinds zero kind = false
is_parameter kinds (suc at) kind = has_this kind (slice_get kinds at)

abbrev pub has_column : ColType → Option ColumnDef → Truth
has_column kind None = false
has_column kind (Some column) = same_kind kind column.kind

-- a column of that number, from 0, and type
abbrev pub is_column : List ColumnDef → ℕ → ColType → Truth
is_column columns number kind = has_column kind (slice_get columns number)

-- ---- forms

-- a form: whether it gives a type, and whether each part in it may stand where it stands
pub record Formed : Type 0 where
  pub gives : ColType → Truth
  pub fits : Truth

-- an expression: its type, and whether each node in it has the type that the rules give it, and the parts of its form
pub record Node : Type 0 where
  pub kind : ColType
  pub sound : Truth

-- a part where such types may stand
abbrev pub is_taken : Takes → Node → Truth
is_taken takes node = takes_kind takes node.kind && node.sound

abbrev pub formed : (ColType → Truth) → Truth → Formed
formed gives fits = record { gives = gives; fits = fits }

-- a form that gives one type
abbrev pub giving : ColType → Truth → Formed
giving given fits = formed (same_kind given) fits

-- a leaf
abbrev pub leaf : (ColType → Truth) → Formed
leaf gives = formed gives true

-- the type of what arithmetic gives, from left to right
abbrev pub chain_kind : ColType → List ColType → ColType
chain_kind kind kinds = fold sum_kind kind kinds

-- one or more
abbrev pub has_one : {A : Type 0} → List A → Truth
has_one [] = false
has_one (x ∷ xs) = true

-- two or more
abbrev pub has_two : {A : Type 0} → List A → Truth
has_two (x ∷ y ∷ xs) = true
has_two xs = false

-- one operator between the parts, of which there are two or more
abbrev pub joined : Takes → List Node → Truth
joined takes nodes = has_two nodes && list_all (is_taken takes) nodes

-- one further part or more
abbrev pub further : Takes → List Node → Truth
further takes nodes = has_one nodes && list_all (is_taken takes) nodes

abbrev pub chain : Node → List Node → Formed
chain first nodes = giving (chain_kind first.kind (map (λ n. n.kind) nodes)) (is_taken Whole first && further Whole nodes)

abbrev pub formed_of : Names → TypedForm-F Formed Node Node Node → Formed
formed_of names (TypedForm-F.Or nodes) = giving Bool (joined (Like Bool) nodes)
formed_of names (TypedForm-F.And nodes) = giving Bool (joined (Like Bool) nodes)
formed_of names (TypedForm-F.Not node) = giving Bool (is_taken (Like Bool) node)
formed_of names (TypedForm-F.IsNull node tests) = giving Bool (has_one tests && is_taken Any node)
formed_of names (TypedForm-F.Compare how left right) = giving Bool (is_taken Any left && is_taken (Like left.kind) right)
formed_of names (TypedForm-F.Member node negated nodes) = giving Bool (is_taken Any node && further (Like node.kind) nodes)
formed_of names (TypedForm-F.Concat nodes) = giving Text (joined (Like Text) nodes)
formed_of names (TypedForm-F.Sum first nodes) = chain first nodes
formed_of names (TypedForm-F.Product first nodes) = chain first nodes
formed_of names (TypedForm-F.Minus node) = giving node.kind (is_taken Whole node)
formed_of names (TypedForm-F.Literal v) = leaf (λ kind. is_value kind v)
formed_of names (TypedForm-F.Param number) = leaf (is_parameter names.kinds number)
formed_of names (TypedForm-F.Column number) = leaf (is_column names.columns number)
formed_of names TypedForm-F.CurrentTimestamp = giving Moment true
formed_of names TypedForm-F.Now = giving Moment true
formed_of names TypedForm-F.TransactionTimestamp = giving Moment true

abbrev pub whole : TypedExpr-F Formed Node Node Node → Node
whole e = record { kind = e.kind; sound = (e.form).gives e.kind && (e.form).fits }

abbrev pub form_in : Names → TypedForm → Formed
form_in names = fold-TypedForm Formed Node Node Node (formed_of names) whole (λ f. f.part) (λ s. s.part)

abbrev pub node_in : Names → TypedExpr → Node
node_in names = fold-TypedExpr Formed Node Node Node (formed_of names) whole (λ f. f.part) (λ s. s.part)

-- whether each node of an expression has the type that the rules give it, and the parts of its form
abbrev pub is_sound : Names → TypedExpr → Truth
is_sound names e = (node_in names e).sound

-- the same where such types may stand
abbrev pub stands : Names → Takes → TypedExpr → Truth
stands names takes e = takes_kind takes e.kind && is_sound names e
