-- No token of a schema is a fault.
use Rattle.std.proofs.Common.{◌≡◌, List, [], ◌∷◌, Option, Some}
use Rattle.std.specs.List.{AllByRecursion}
use Rattle.sql_tokens.specs.declared.token.Token.{Token}
use Rattle.sql_tokens.specs.declared.token.Token.TheVariants as token
use Rattle.sql_tokens.specs.declared.token.TokenFault.{TokenFault}
use Rattle.pg_values.specs.declared.value.Value.{Value}
use Rattle.schema.specs.declared.catalogue.TableDef.{TableDef}
use Rattle.schema.specs.declared.open.Due.TheVariants as due
use Rattle.schema.specs.declared.open.Place.{Place}
use Rattle.schema.specs.declared.open.Place.TheVariants.{Create, Table, TableName, Columns, ColumnName, ColumnType, Column, End}
use Rattle.schema.specs.Steps.{step_at, Runs}
use Rattle.schema.proofs.Running.{State}
use Rattle.schema.proofs.Completing.{nothing}

-- the token is no fault
abbrev pub IsSound : Token → Type 0
IsSound (token.Fault fault) = ⊥
IsSound _ = Unit {0}

abbrev pub AreSound : List Token → Type 0
AreSound tokens = AllByRecursion IsSound tokens

-- a fault leads nowhere
nowhere : (tables : List TableDef) (place : Place) (read : Option Value) (fault : TokenFault) (to : State) → step_at tables place read (token.Fault fault) ≡ Some to → ⊥
nowhere tables Create read fault to e = nothing e
nowhere tables Table read fault to e = nothing e
nowhere tables TableName read fault to e = nothing e
nowhere tables (Columns name) read fault to e = nothing e
nowhere tables (ColumnName table) read fault to e = nothing e
nowhere tables (ColumnType table number name) read fault to e = nothing e
nowhere tables (Column table column due.Part) read fault to e = nothing e
nowhere tables (Column table column due.Null) read fault to e = nothing e
nowhere tables (Column table column due.Key) read fault to e = nothing e
nowhere tables (Column table column due.Value) read fault to e = nothing e
nowhere tables (Column table column due.Number) read fault to e = nothing e
nowhere tables (Column table column due.Open) read fault to e = nothing e
nowhere tables (Column table column due.Close) read fault to e = nothing e
nowhere tables (End table) read fault to e = nothing e

sound_step : (from : State) (read : Option Value) (t : Token) (to : State) → step_at from.0 from.1 read t ≡ Some to → IsSound t
sound_step from read (token.Fault fault) to e = nowhere from.0 from.1 read fault to e
sound_step from read _ to e = tt

-- tokens that lead on are none
pub all_sound : (from : State) (tokens : List Token) (to : State) → Runs from tokens to → AreSound tokens
unfolding Runs
all_sound from [] to runs = tt
all_sound from (t ∷ tokens) to (mid, step, runs) = (sound_step from step.0 t mid step.2, all_sound mid tokens to runs)
