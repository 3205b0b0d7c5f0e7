use Rattle.std.proofs.Common.{◌≡◌, ◌+◌, ◌++◌, [], ◌∷◌, List, drop, ap, sym, ◌∙◌, refl, subst, arith, rules, SFits, to_z, w64}
use Rattle.std.specs.Prelude.{ℤ, pos, ◌+ℤ◌, ◌≤ℤ◌, Some, None, slice_get}
use Rattle.std.proofs.lemmas.Int.{ints, to_z-of_z}
use Rattle.std.proofs.lemmas.Result.{err_from_is_err_and}
use Rattle.pg_values.specs.declared.value.Value.{Value}
use Rattle.sql_eval.specs.Walks.{all_of}
use Rattle.sql_eval.specs.Reads.{alone}
use Rattle.sql_eval.specs.Inserts.{cell_value, cell_values, draws_in, row_draws}
use Rattle.sql_eval.proofs.Counting.{counted_at}
use Rattle.sql_eval.proofs.Inserting.{values_done, values_end, values_stop, values_next}
use Rattle.sql_eval.proofs.Walking.{put_before, nothing_before, value_code_on}
use Rattle.sql_eval.proofs.insert.values_given.Goals as goal

pub loop-column-init : goal.loop-column-init
loop-column-init c =
    let whole = all_of (cell_values alone c.args.columns.now c.args.next c.args.cells.now) in
    let same = to_z-of_z _ c.args.next c.ranges.next in record {
      at = refl;
      fits = subst (λ (m : ℤ). (m +ℤ pos (row_draws c.args.cells.now)) ≤ℤ pos 9223372036854775807) (sym same) c.requires;
      so_far = subst (λ (m : ℤ). put_before c.new-values.result (all_of (cell_values alone c.args.columns.now m c.args.cells.now)) ≡ all_of (cell_values alone c.args.columns.now m c.args.cells.now))
          (sym same) (ap (λ (front : List Value). put_before front whole) c.new-values.ensures ∙ nothing_before whole);
    }

pub returns-in_err-value : goal.returns-in_err-value
returns-in_err-value c =
    let i = c.loop-column.column-index in
    let cell = c.in-Some.cell.now in
    let has : slice_get c.args.cells.now i ≡ Some cell = ap (slice_get c.args.cells.now) (sym c.loop-column.invariant.at) ∙ sym c.in-Some.ensures in
    let p = err_from_is_err_and c.from_residual.result c.from_residual.ensures.1 in
    rw (p.1, p.2) (value_code_on (λ (vs : List Value). vs) c.in_err-value.field-0.0 (cell_value alone c.column-item.result.kind (to_z w64 c.loop-column.next-bits) cell)
    (all_of (cell_values alone c.args.columns.now c.args.next c.args.cells.now)) c.in_err-value.ensures
    (λ code is. ap (λ (m : ℤ). all_of (cell_values alone c.args.columns.now m c.args.cells.now)) (sym (to_z-of_z _ c.args.next c.ranges.next))
    ∙ values_stop alone c.args.columns.now i c.args.cells.now c.loop-column.values (to_z w64 c.loop-column.next-bits) _ c.loop-column.invariant.so_far c.column-item.result cell (omega arith) c.column-item.is has code is))

pub returns-in_default : goal.returns-in_default
returns-in_default c =
    let i = c.loop-column.column-index in
    let none : slice_get c.args.cells.now i ≡ None = ap (slice_get c.args.cells.now) (sym c.loop-column.invariant.at) ∙ sym c.in_default.ensures in
    ap (λ (m : ℤ). all_of (cell_values alone c.args.columns.now m c.args.cells.now)) (sym (to_z-of_z _ c.args.next c.ranges.next))
    ∙ values_end alone c.args.columns.now i c.args.cells.now c.loop-column.values (to_z w64 c.loop-column.next-bits) _ c.loop-column.invariant.so_far none

pub next_behind-next-requires : goal.next_behind-next-requires
next_behind-next-requires c =
    let i = c.loop-column.column-index in
    let cell = c.in-Some.cell.now in
    let has : slice_get c.args.cells.now i ≡ Some cell = ap (slice_get c.args.cells.now) (sym c.loop-column.invariant.at) ∙ sym c.in-Some.ensures in
    omega (arith, ints, c.loop-column.invariant.fits, counted_at draws_in c.args.cells.now i cell has)

pub loop-column-preserved : goal.loop-column-preserved
loop-column-preserved c =
    let i = c.loop-column.column-index in
    let cell = c.in-Some.cell.now in
    let r = c.next_behind-next.result in
    let has : slice_get c.args.cells.now i ≡ Some cell = ap (slice_get c.args.cells.now) (sym c.loop-column.invariant.at) ∙ sym c.in-Some.ensures in
    let fits : SFits w64 r = search rules in record {
      at = omega (arith, c.loop-column.invariant.at);
      fits = omega (arith, ints, c.loop-column.invariant.fits, c.next_behind-next.ensures, counted_at draws_in c.args.cells.now i cell has);
      so_far =
          ap (λ (m : ℤ). put_before c.push.new.self (all_of (cell_values alone (drop (i + 1) c.args.columns.now) m (drop (i + 1) c.args.cells.now)))) (to_z-of_z w64 r fits ∙ c.next_behind-next.ensures)
          ∙ (ap (λ (front : List Value). put_before front (all_of (cell_values alone (drop (i + 1) c.args.columns.now) ((to_z w64 c.loop-column.next-bits) +ℤ pos (draws_in cell)) (drop (i + 1) c.args.cells.now)))) c.in_ok-push.ensures.ok
          ∙ values_next alone c.args.columns.now i c.args.cells.now c.loop-column.values (to_z w64 c.loop-column.next-bits) _ c.loop-column.invariant.so_far c.column-item.result cell (omega arith) c.column-item.is has
          c.in_ok-value.value c.in_ok-value.ensures);
    }

pub returns : goal.returns
returns c =
    ap (λ (m : ℤ). all_of (cell_values alone c.args.columns.now m c.args.cells.now)) (sym (to_z-of_z _ c.args.next c.ranges.next))
    ∙ values_done alone c.args.columns.now c.loop-column.column-index c.args.cells.now c.loop-column.values _ _ c.loop-column.invariant.so_far (omega arith)
