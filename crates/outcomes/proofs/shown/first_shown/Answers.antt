use Rattle.std.proofs.Common.{Bor, List, drop, ap, sym, ◌∙◌}
use Rattle.std.specs.Prelude.{Option}
use Rattle.std.specs.Option.{option_map}
use Rattle.sql_eval.specs.declared.row.Row.{Row}
use Rattle.outcomes.specs.declared.chain.Version.{Version}
use Rattle.outcomes.specs.Chains.{all_chained, first_entry, row_left, shown}
use Rattle.outcomes.proofs.Chained.{chain_passed, chain_shows, table_ends}
use Rattle.outcomes.proofs.shown.first_shown.Goals as goal

pub returns-then-chain-table : goal.returns-then-chain-table
returns-then-chain-table c =
    table_ends c.args.mark c.args.table c.args.chains.now c.loop-number.number c.index-chains-number.result (first_entry c.args.mark c.args.table (drop c.args.from (all_chained c.args.chains.now)))
    c.loop-number-test.true c.index-chains-number.is c.loop-number.invariant c.if-chain-table.true

pub returns-in-Some : goal.returns-in-Some
returns-in-Some c =
    chain_shows c.args.mark c.args.table c.args.chains.now c.loop-number.number c.index-chains-number.result (first_entry c.args.mark c.args.table (drop c.args.from (all_chained c.args.chains.now)))
    c.loop-number-test.true c.index-chains-number.is c.loop-number.invariant c.in-Some.row.now c.if-chain-table.false
    (ap (λ (o : Option (Bor Row)). option_map (λ (r : Bor Row). r.now) o) (sym c.in-Some.is)
    ∙ (c.row_shown.ensures ∙ ap (λ (vs : List Version). row_left (shown c.args.mark vs)) c.as_slice.ensures.value))

pub loop-number-preserved : goal.loop-number-preserved
loop-number-preserved c =
    chain_passed c.args.mark c.args.table c.args.chains.now c.loop-number.number c.index-chains-number.result (first_entry c.args.mark c.args.table (drop c.args.from (all_chained c.args.chains.now)))
    c.loop-number-test.true c.index-chains-number.is c.loop-number.invariant c.if-chain-table.false
    (ap (λ (o : Option (Bor Row)). option_map (λ (r : Bor Row). r.now) o) (sym c.in-None.is)
    ∙ (c.row_shown.ensures ∙ ap (λ (vs : List Version). row_left (shown c.args.mark vs)) c.as_slice.ensures.value))
