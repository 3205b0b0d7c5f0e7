use Rattle.std.proofs.Common.{List, Err, subst, sym}
use Rattle.sql_tokens.specs.declared.token.Placed.{Placed}
use Rattle.schema.specs.declared.catalogue.TableDef.{TableDef}
use Rattle.schema.specs.declared.fault.Stop.{Stop}
use Rattle.schema.specs.declared.open.Place.TheVariants.{Create}
use Rattle.schema.specs.Steps.{Steps, with_tables}
use Rattle.schema.specs.Reading.{IsStep}
use Rattle.schema.proofs.Running.{State}
use Rattle.schema.proofs.Loop.{Going, starts, steps, stops, none_through, first_and_rest, rest_whole}
use Rattle.schema.proofs.read.read_tables.Goals as goal

pub loop-left-init : goal.loop-left-init
loop-left-init c = subst (λ (tables : List TableDef). Going c.args.tokens.now c.args.tokens.now (tables, Create)) (sym c.new-tables.ensures) (starts c.args.tokens.now)

pub returns-in-Err-Refused-clause-only : goal.returns-in-Err-Refused-clause-only
returns-in-Err-Refused-clause-only c = λ tables r.
    none_through c.args.tokens.now _ c.placed-item.result (c.loop-left.tables, c.loop-left.place) tables
    (subst (λ (x : List Placed). Going c.args.tokens.now x (c.loop-left.tables, c.loop-left.place)) (first_and_rest c.loop-left.left.now c.placed-item.result c.in-len1-up.len_at_least c.placed-item.is) c.loop-left.invariant)
    (subst (λ (e : Stop). (to : State) → Steps (c.loop-left.tables, c.loop-left.place) c.placed-item.result.token to → IsStep to (with_tables c.advance.new.tables (Err e))) c.in-Err-Refused.field-0-is c.in-Err-Refused.ensures.only)
    r

pub returns-in-Err-Refused-clause-refused : goal.returns-in-Err-Refused-clause-refused
returns-in-Err-Refused-clause-refused c =
    stops c.args.tokens.now _ c.placed-item.result (c.loop-left.tables, c.loop-left.place)
    (subst (λ (x : List Placed). Going c.args.tokens.now x (c.loop-left.tables, c.loop-left.place)) (first_and_rest c.loop-left.left.now c.placed-item.result c.in-len1-up.len_at_least c.placed-item.is) c.loop-left.invariant)
    (subst (λ (e : Stop). (to : State) → Steps (c.loop-left.tables, c.loop-left.place) c.placed-item.result.token to → IsStep to (with_tables c.advance.new.tables (Err e))) c.in-Err-Refused.field-0-is c.in-Err-Refused.ensures.only)

pub loop-left-preserved : goal.loop-left-preserved
loop-left-preserved c =
    subst (λ (x : List Placed). Going c.args.tokens.now x (c.advance.new.tables, c.in-Ok.next)) (sym (rest_whole c.loop-left.left.now))
    (steps c.args.tokens.now _ c.placed-item.result (c.loop-left.tables, c.loop-left.place) (c.advance.new.tables, c.in-Ok.next)
    (subst (λ (x : List Placed). Going c.args.tokens.now x (c.loop-left.tables, c.loop-left.place)) (first_and_rest c.loop-left.left.now c.placed-item.result c.in-len1-up.len_at_least c.placed-item.is) c.loop-left.invariant)
    c.in-Ok.ensures.ok c.in-Ok.ensures.only)
