use Rattle.std.proofs.Common.{◌≡◌, ℕ, ◌<◌, ◌++◌, [], ◌∷◌, List, map, take, length, vec_len, sym, ap, ◌∙◌, arith, Bor}
use Rattle.std.specs.Prelude.{Some, None, slice_get}
use Rattle.std.specs.Option.{option_map}
use Rattle.std.proofs.lemmas.List.{map_push}
use Rattle.sql_eval.specs.declared.row.Row.{Row}
use Rattle.sql_eval.specs.Views.{Entry, entries_in}
use Rattle.sql_eval.proofs.Finding.{row_first, row_goes_on, row_has_key, row_taken, rows_end}
use Rattle.sql_eval.proofs.rows.rows_of.Goals as goal

pub loop-next-init : goal.loop-next-init
loop-next-init g c =
    let view = g.V.TableView.rows c.args.view.now in
    let es = entries_in view c.args.table in record {
      so_far = ap (map (λ (r : Bor Row). r.now)) c.new-rows.ensures.items
          ∙ ap (λ (n : ℕ). map (λ (e : Entry). e.row) (take n es)) (sym c.new-rows.ensures.len);
      next = ap (λ (n : ℕ). option_map (λ (e : Entry). e.row) (slice_get es n)) c.new-rows.ensures.len
          ∙ (sym (row_first view c.args.table) ∙ sym c.after-next.ensures);
    }

pub loop-next-smaller-in-Some-get : goal.loop-next-smaller-in-Some-get
loop-next-smaller-in-Some-get g c =
    let es = entries_in (g.V.TableView.rows c.args.view.now) c.args.table in
    let is = c.loop-next.invariant.next ∙ ap (option_map (λ (r : Bor Row). r.now)) c.in-Some.is in
    let below = (row_taken es (vec_len c.loop-next.rows) c.in-Some.row.now is).0 in
    omega (arith, below, c.in_ok-push.ensures.len)

pub loop-next-preserved-in-Some-get : goal.loop-next-preserved-in-Some-get
loop-next-preserved-in-Some-get g c =
    let view = g.V.TableView.rows c.args.view.now in
    let es = entries_in view c.args.table in
    let n = vec_len c.loop-next.rows in
    let row = c.in-Some.row.now in
    let is = c.loop-next.invariant.next ∙ ap (option_map (λ (r : Bor Row). r.now)) c.in-Some.is in
    let taken = (row_taken es n row is).1 in record {
      so_far = ap (map (λ (r : Bor Row). r.now)) c.in_ok-push.ensures.items
          ∙ (map_push (λ (r : Bor Row). r.now) c.loop-next.rows.items c.in-Some.row
          ∙ (ap (λ (rs : List Row). rs ++ row ∷ []) c.loop-next.invariant.so_far
          ∙ (sym taken ∙ ap (λ (m : ℕ). map (λ (e : Entry). e.row) (take m es)) (sym c.in_ok-push.ensures.len))));
      next = ap (λ (m : ℕ). option_map (λ (e : Entry). e.row) (slice_get es m)) c.in_ok-push.ensures.len
          ∙ (sym (row_goes_on view c.args.table c.args.key c.requires n row c.in-Some-get.own.now is (sym c.in-Some-get.ensures))
          ∙ sym c.after-next-in-Some-get.ensures);
    }

pub loop-next-smaller : goal.loop-next-smaller
loop-next-smaller g c =
    let is = c.loop-next.invariant.next ∙ ap (option_map (λ (r : Bor Row). r.now)) c.in-Some.is in
    absurd (row_has_key (g.V.TableView.rows c.args.view.now) c.args.table c.args.key c.requires (vec_len c.loop-next.rows) c.in-Some.row.now is (sym c.in-None.ensures))

pub loop-next-preserved : goal.loop-next-preserved
loop-next-preserved g c =
    let is = c.loop-next.invariant.next ∙ ap (option_map (λ (r : Bor Row). r.now)) c.in-Some.is in
    absurd (row_has_key (g.V.TableView.rows c.args.view.now) c.args.table c.args.key c.requires (vec_len c.loop-next.rows) c.in-Some.row.now is (sym c.in-None.ensures))

pub returns : goal.returns
returns g c =
    let es = entries_in (g.V.TableView.rows c.args.view.now) c.args.table in
    c.loop-next.invariant.so_far ∙ ap (map (λ (e : Entry). e.row)) (rows_end es (vec_len c.loop-next.rows)
    (c.loop-next.invariant.next ∙ ap (option_map (λ (r : Bor Row). r.now)) c.in_default.is))
