-- What the values of the code mean.
use Rattle.std.specs.Prelude.{◌≡◌, ℕ, List, [], Option, Some, None, Result, Ok, Err}
use Rattle.std.specs.Option.{option_map}
use Rattle.pg_values.specs.declared.col_type.ColType.{ColType}
use Rattle.pg_values.specs.declared.value_fault.ValueFault.{ValueFault}
use Rattle.pg_values.specs.declared.value_fault.ValueFault.TheVariants as read
use Rattle.sql_tree.specs.declared.expr.Expr.{Expr, out-Expr}
use Rattle.sql_tree.specs.declared.expr.SumPart.{SumPart}
use Rattle.sql_tree.specs.declared.expr.ProductPart.{ProductPart}
use Rattle.typed_sql.specs.declared.fault.CheckFault.{CheckFault}
use Rattle.typed_sql.specs.declared.fault.CheckFault.TheVariants.{Refused, NoMemory}
use Rattle.typed_sql.specs.declared.scope.Scope.{Scope as Given}
use Rattle.typed_sql.specs.declared.typed.TypedExpr.{TypedExpr}
use Rattle.typed_sql.specs.Own.{Scope}
use Rattle.typed_sql.specs.Steps.{Fault, fault, Step}
use Rattle.typed_sql.specs.Typing.{Under, parts_of, Typed, Form}

-- the scope that is given
abbrev pub scope_of : Given → Scope
scope_of given = record { table = option_map (λ t. t.now) given.table; columns = given.columns; parameters = given.parameters }

-- what is answered is this fault, or memory was refused
abbrev pub IsFault : CheckFault → Fault → Type 0
IsFault (Refused code name) e = e ≡ fault code.bytes name
IsFault NoMemory e = Unit {0}

-- what is answered where a text is no value of its type: its code, or memory was refused
abbrev pub IsUnread : ValueFault → CheckFault → Type 0
IsUnread (read.Bad code) f = IsFault f (fault code.bytes [])
IsUnread read.NoMemory (Refused code name) = ⊥
IsUnread read.NoMemory NoMemory = Unit {0}

-- what a look-up found
abbrev pub Finds : {A B : Type 0} → (A → B) → Result A CheckFault → Result B Fault → Type 0
Finds view (Ok a) told = told ≡ Ok (view a)
Finds view (Err (Refused code name)) told = told ≡ Err (fault code.bytes name)
Finds view (Err NoMemory) told = Unit {0}

-- the parts of an expression are what they are at their places
abbrev pub under : Scope → Under Expr ProductPart SumPart
under scope = parts_of (λ e. e) (λ f. f) (λ s. s) (Typed scope) (λ f. Typed scope f.part) (λ s. Typed scope s.part)

-- an expression by its form, before its type is asked
abbrev pub FormOf : Scope → Expr → ColType → Step TypedExpr
FormOf scope e leaf = Form scope (under scope) (out-Expr e) leaf
