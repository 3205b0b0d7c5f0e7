-- What a check answers to the statement that a checked statement is spelled as.
use Rattle.std.specs.Prelude.{◌≡◌, ℕ, ℤ, List, [], map, Option, Some, None, Result, Ok, Err}
use Rattle.pg_values.specs.declared.col_type.ColType.{ColType}
use Rattle.pg_values.specs.Kinds.{oid_number}
use Rattle.schema.specs.declared.catalogue.TableDef.{TableDef}
use Rattle.typed_sql.specs.declared.fault.CheckFault.{CheckFault}
use Rattle.typed_sql.specs.declared.fault.CheckFault.TheVariants.{Refused, NoMemory}
use Rattle.catalogue.specs.declared.checked.Checked.{Checked}
use Rattle.catalogue.specs.declared.checked.CheckedBody.{CheckedBody}
use Rattle.sql_values.specs.Meaning.{Around}
use Rattle.sql_eval.specs.Effects.{effect_of}
use Rattle.sql_eval.specs.Views.{View}

-- the list of numbers gives the parameters these types; where there are none there may be no list
abbrev pub GivesKinds : Option (List ℕ) → List ColType → Type 0
GivesKinds None kinds = kinds ≡ []
GivesKinds (Some numbers) kinds = numbers ≡ map oid_number kinds

-- whatever stands round them, on every view and at every next number they have one effect
abbrev pub SameEffect : List TableDef → CheckedBody → CheckedBody → Type 0
SameEffect tables a b = (around : Around) (view : View) (next : ℤ) → effect_of around tables a view next ≡ effect_of around tables b view next

-- the statement is accepted, with the same effect and the same types of its parameters; want of memory alone is free
abbrev pub IsAgain : List TableDef → Checked → Result Checked CheckFault → Type 0
IsAgain tables checked (Ok again) = SameEffect tables again.body checked.body × (again.kinds ≡ checked.kinds)
IsAgain tables checked (Err (Refused code name)) = ⊥
IsAgain tables checked (Err NoMemory) = Unit {0}
