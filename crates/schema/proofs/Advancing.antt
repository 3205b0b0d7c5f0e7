-- What a token leads to, from what its string is read as.
use Rattle.std.proofs.Common.{◌≡◌, List, Option, Some, None, Result, Ok, Err, sym, subst, ◌∙◌}
use Rattle.std.specs.Prelude.{IfOk}
use Rattle.sql_tokens.specs.declared.token.Token.{Token}
use Rattle.pg_values.specs.declared.value.Value.{Value}
use Rattle.schema.specs.declared.catalogue.TableDef.{TableDef}
use Rattle.schema.specs.declared.fault.Stop.{Stop}
use Rattle.schema.specs.declared.fault.Stop.TheVariants as stop
use Rattle.schema.specs.declared.open.Place.{Place}
use Rattle.schema.specs.Steps.{Gives, ReadAs, step_at, Steps}
use Rattle.schema.specs.Reading.{IsStep}
use Rattle.schema.proofs.Running.{State}

pub step_ok : (tables : List TableDef) (place : Place) (tok : Token) (read : Option Value) (r : Result State Stop) → ReadAs place tok read → Gives r (step_at tables place read tok) → IfOk r (λ to. Steps (tables, place) tok to)
step_ok tables place tok read (Ok m) h g = (read, h, g)
step_ok tables place tok read (Err e) h g = tt

answer : (o : Option State) (to : State) (r : Result State Stop) → o ≡ Some to → Gives r o → IsStep to r
answer o to (Ok m) e g = let f : Some to ≡ Some m = sym e ∙ g in cc
answer o to (Err stop.Refused) e g = let f : None ≡ Some to = sym g ∙ e in absurd cc
answer o to (Err stop.NoMemory) e g = tt

pub step_only : (tables : List TableDef) (place : Place) (tok : Token) (read : Option Value) (r : Result State Stop) → ((v : Option Value) → ReadAs place tok v → read ≡ v) → Gives r (step_at tables place read tok) → (to : State) → Steps (tables, place) tok to → IsStep to r
step_only tables place tok read r only g to s =
    answer (step_at tables place read tok) to r (subst (λ (v : Option Value). step_at tables place v tok ≡ Some to) (sym (only s.0 s.1)) s.2) g
