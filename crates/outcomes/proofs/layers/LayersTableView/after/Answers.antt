use Rattle.std.proofs.Common.{Bor, ◌≡◌, ℕ, List, length, arith, ap, subst}
use Rattle.std.specs.Prelude.{Some}
use Rattle.std.specs.Option.{option_map}
use Rattle.std.proofs.lemmas.List.{length-map}
use Rattle.pg_values.specs.declared.value.Value.{Value}
use Rattle.sql_eval.specs.declared.row.Row.{Row}
use Rattle.outcomes.specs.declared.chain.Chain.{Chain}
use Rattle.outcomes.specs.Chains.{all_chained, chained}
use Rattle.outcomes.specs.Layered.{seen_rows}
use Rattle.outcomes.specs.Sights.{is_passed}
use Rattle.outcomes.specs.Spread.{IsParted}
use Rattle.outcomes.proofs.Layered.{chain_at, elsewhere_past, next_reached, parted_bound, parted_on, reached_more, rises_on}
use Rattle.outcomes.proofs.layers.LayersTableView.after.Goals as goal

pub returns-then-chain-table : goal.returns-then-chain-table
returns-then-chain-table c =
    let layers = c.args.self.now in
    next_reached (seen_rows layers.changes.now layers.index.now layers.mark) c.args.table (option_map (λ (k : Bor Value). k.now) c.args.key) (option_map (λ (k : Bor Value). k.now) c.loop-number.after) c.loop-number.invariant.reached
    (option_map (λ (r : Bor Row). r.now) c.next_below.result) c.next_below.ensures

pub next_with-requires-clause-there : goal.next_with-requires-clause-there
next_with-requires-clause-there c =
    let layers = c.args.self.now in
    (chain_at layers.own.items c.as_slice-own.result.now c.loop-number.number c.index-own-number.result c.as_slice-own.ensures.value c.loop-number-test.true c.index-own-number.is)

pub returns-in-Some : goal.returns-in-Some
returns-in-Some c =
    let layers = c.args.self.now in
    next_reached (seen_rows layers.changes.now layers.index.now layers.mark) c.args.table (option_map (λ (k : Bor Value). k.now) c.args.key) (option_map (λ (k : Bor Value). k.now) c.loop-number.after) c.loop-number.invariant.reached
    (Some c.in-Some.row.now) c.in-Some.ensures.some

pub loop-number-preserved : goal.loop-number-preserved
loop-number-preserved c =
    let layers = c.args.self.now in
    let there = (chain_at layers.own.items c.as_slice-own.result.now c.loop-number.number c.index-own-number.result c.as_slice-own.ensures.value c.loop-number-test.true c.index-own-number.is) in record {
      parted = parted_on c.args.table layers.own.items c.loop-number.number c.index-own-number.result layers.sorted there c.if-chain-table.false;
      reached =
          reached_more (seen_rows layers.changes.now layers.index.now layers.mark) c.args.table (option_map (λ (k : Bor Value). k.now) c.args.key) (option_map (λ (k : Bor Value). k.now) c.loop-number.after) c.loop-number.invariant.reached c.index-own-number.result.key
          (rises_on layers.changes.now layers.index.now layers.mark layers.own.items layers.made layers.sorted c.args.table (option_map (λ (k : Bor Value). k.now) c.loop-number.after) c.loop-number.number c.loop-number.invariant.parted c.index-own-number.result there c.if-chain-table.false)
          (c.next_with.ensures.none c.in-None.is);
    }

pub next_below-requires-2-clause-parted : goal.next_below-requires-2-clause-parted
next_below-requires-2-clause-parted c =
    let layers = c.args.self.now in
    let bound = parted_bound (is_passed c.args.table (option_map (λ (k : Bor Value). k.now) c.loop-number.after)) (all_chained layers.own.items) c.loop-number.number c.loop-number.invariant.parted in
    let long : length (all_chained layers.own.items) ≡ length layers.own.items = length-map layers.own.items chained in
    let read : length c.as_slice-own.result.now ≡ length layers.own.items = ap (λ (xs : List Chain). length xs) c.as_slice-own.ensures.value in
    let end : c.loop-number.number ≡ length c.as_slice-own.result.now = omega (arith, bound, long, read) in
    subst (λ (n : ℕ). IsParted (is_passed c.args.table (option_map (λ (k : Bor Value). k.now) c.loop-number.after)) (all_chained layers.own.items) n) end c.loop-number.invariant.parted

pub next_below-requires-2-clause-elsewhere : goal.next_below-requires-2-clause-elsewhere
next_below-requires-2-clause-elsewhere c =
    let layers = c.args.self.now in
    let read : length c.as_slice-own.result.now ≡ length layers.own.items = ap (λ (xs : List Chain). length xs) c.as_slice-own.ensures.value in
    elsewhere_past c.args.table layers.own.items (length c.as_slice-own.result.now) (omega (arith, read))

pub returns : goal.returns
returns c =
    let layers = c.args.self.now in
    next_reached (seen_rows layers.changes.now layers.index.now layers.mark) c.args.table (option_map (λ (k : Bor Value). k.now) c.args.key) (option_map (λ (k : Bor Value). k.now) c.loop-number.after) c.loop-number.invariant.reached
    (option_map (λ (r : Bor Row). r.now) c.next_below-2.result) c.next_below-2.ensures
