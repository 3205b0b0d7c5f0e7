use Rattle.std.proofs.Common.{◌≡◌, ◌+◌, ◌++◌, [], ◌∷◌, List, drop, map, ap, sym, ◌∙◌, refl, subst, arith, rules, SFits, to_z, w64}
use Rattle.std.specs.Prelude.{ℤ, pos, ◌+ℤ◌, ◌≤ℤ◌, Ok, Err}
use Rattle.std.proofs.lemmas.Int.{ints, to_z-of_z}
use Rattle.std.proofs.lemmas.Result.{err_from_is_err_and}
use Rattle.sql_eval.specs.declared.effect.Change.{Change}
use Rattle.sql_eval.specs.Reads.{alone}
use Rattle.sql_eval.specs.Walks.{GivesAs}
use Rattle.catalogue.specs.declared.checked.TypedCell.{TypedCell}
use Rattle.sql_eval.specs.Inserts.{all_draws, row_draws, row_put_in, rows_given}
use Rattle.sql_eval.proofs.Counting.{counted_from}
use Rattle.sql_eval.proofs.Inserting.{rows_done, rows_stop, rows_next}
use Rattle.sql_eval.proofs.Walking.{put_before, nothing_before, code_on}
use Rattle.sql_eval.proofs.insert.insertions.Goals as goal

pub loop-row-init : goal.loop-row-init
loop-row-init g c =
    let given = λ (m : ℤ) (made : List Change). rows_given alone (g.V.TableView.rows c.args.view.now) c.args.number c.args.table.now.columns c.args.table.now.key
    (map (λ (ch : Change). ch.key) made) m c.args.rows.now in
    let same = to_z-of_z _ c.args.next c.ranges.next in record {
      few = c.requires.few;
      fits = subst (λ (m : ℤ). (m +ℤ pos (all_draws c.args.rows.now)) ≤ℤ pos 9223372036854775807) (sym same) c.requires.fits;
      so_far = subst (λ (m : ℤ). put_before c.new-made.result (given m c.new-made.result) ≡ given m []) (sym same)
          (ap (λ (made : List Change). put_before made (given c.args.next made)) c.new-made.ensures ∙ nothing_before (given c.args.next []));
    }

pub row_put_in-requires : goal.row_put_in-requires
row_put_in-requires g c =
    omega (
      arith,
      ints,
      c.loop-row.invariant.fits,
      ap row_draws c.as_slice-cells.ensures,
      counted_from row_draws c.args.rows.now c.loop-row.row-index c.row-item.result (omega arith) c.row-item.is,
    )

pub returns-in_err-change : goal.returns-in_err-change
returns-in_err-change g c =
    let view = g.V.TableView.rows c.args.view.now in
    let table = c.args.table.now in
    let own = λ (m : ℤ) (made : List Change) (cells : List TypedCell). row_put_in alone view c.args.number table.columns table.key (map (λ (ch : Change). ch.key) made) m cells in
    let e = c.in_err-change.field-0.0 in
    let gives = subst (λ (made : List Change). GivesAs (λ (ch : Change). ch) (Err e) (own (to_z w64 c.loop-row.next-bits) made c.row-item.result)) c.as_slice.ensures
    (subst (λ (cells : List TypedCell). GivesAs (λ (ch : Change). ch) (Err e) (own (to_z w64 c.loop-row.next-bits) c.as_slice.result.now cells)) c.as_slice-cells.ensures c.in_err-change.ensures) in
    let p = err_from_is_err_and c.from_residual.result c.from_residual.ensures.1 in
    rw (p.1, p.2) (code_on (λ (ch : Change). ch) (λ (cs : List Change). cs) e (own (to_z w64 c.loop-row.next-bits) c.loop-row.made c.row-item.result)
    (rows_given alone view c.args.number table.columns table.key [] c.args.next c.args.rows.now) gives
    (λ code is. ap (λ (m : ℤ). rows_given alone view c.args.number table.columns table.key [] m c.args.rows.now) (sym (to_z-of_z _ c.args.next c.ranges.next))
    ∙ rows_stop alone view c.args.number table.columns table.key c.args.rows.now c.loop-row.row-index c.row-item.result c.loop-row.made (to_z w64 c.loop-row.next-bits) _
    (omega arith) c.row-item.is c.loop-row.invariant.so_far code is))

pub next_row-next-requires : goal.next_row-next-requires
next_row-next-requires g c =
    let counted = counted_from row_draws c.args.rows.now c.loop-row.row-index c.row-item.result (omega arith) c.row-item.is in record {
      few = omega (arith, c.loop-row.invariant.few, ap row_draws c.as_slice-cells.ensures, counted);
      fits = omega (arith, ints, c.loop-row.invariant.fits, ap row_draws c.as_slice-cells.ensures, counted);
    }

pub loop-row-preserved : goal.loop-row-preserved
loop-row-preserved g c =
    let view = g.V.TableView.rows c.args.view.now in
    let table = c.args.table.now in
    let i = c.loop-row.row-index in
    let row = c.row-item.result in
    let rest = λ (m : ℤ) (made : List Change). put_before made (rows_given alone view c.args.number table.columns table.key (map (λ (ch : Change). ch.key) made) m (drop (i + 1) c.args.rows.now)) in
    let own = λ (made : List Change) (cells : List TypedCell). row_put_in alone view c.args.number table.columns table.key (map (λ (ch : Change). ch.key) made) (to_z w64 c.loop-row.next-bits) cells in
    let counted = counted_from row_draws c.args.rows.now i row (omega arith) c.row-item.is in
    let r = c.next_row-next.result in
    let fit : SFits w64 r = search rules in
    let gives = subst (λ (made : List Change). own made row ≡ Ok c.in_ok-change.change) c.as_slice.ensures
    (subst (λ (cells : List TypedCell). own c.as_slice.result.now cells ≡ Ok c.in_ok-change.change) c.as_slice-cells.ensures c.in_ok-change.ensures) in record {
      few = omega (arith, c.loop-row.invariant.few, counted);
      fits = omega (arith, ints, c.loop-row.invariant.fits, c.next_row-next.ensures, ap row_draws c.as_slice-cells.ensures, counted);
      so_far =
          ap (λ (m : ℤ). rest m c.push.new.self) (to_z-of_z w64 r fit ∙ (c.next_row-next.ensures ∙ ap (λ (cells : List TypedCell). (to_z w64 c.loop-row.next-bits) +ℤ pos (row_draws cells)) c.as_slice-cells.ensures))
          ∙ (ap (rest ((to_z w64 c.loop-row.next-bits) +ℤ pos (row_draws row))) c.in_ok-push.ensures.ok
          ∙ rows_next alone view c.args.number table.columns table.key c.args.rows.now i row c.loop-row.made (to_z w64 c.loop-row.next-bits) _ (omega arith) c.row-item.is c.loop-row.invariant.so_far
          c.in_ok-change.change gives);
    }

pub returns : goal.returns
returns g c =
    ap (λ (m : ℤ). rows_given alone (g.V.TableView.rows c.args.view.now) c.args.number c.args.table.now.columns c.args.table.now.key [] m c.args.rows.now)
    (sym (to_z-of_z _ c.args.next c.ranges.next))
    ∙ rows_done alone (g.V.TableView.rows c.args.view.now) c.args.number c.args.table.now.columns c.args.table.now.key c.args.rows.now c.loop-row.row-index
    c.loop-row.made _ _ (omega arith) c.loop-row.invariant.so_far
