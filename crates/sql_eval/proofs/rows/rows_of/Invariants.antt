use Rattle.std.proofs.Common.{◌≡◌, ◌-◌, map, take, length, vec_len}
use Rattle.std.specs.Prelude.{slice_get}
use Rattle.std.specs.Option.{option_map}
use Rattle.sql_eval.specs.Views.{entries_in}
use Rattle.sql_eval.proofs.rows.rows_of.Given as goal

abbrev pub invariant-loop-next : goal.invariant-loop-next
invariant-loop-next g l = record {
  so_far : map (λ r. r.now) l.rows.items ≡ map (λ e. e.row) (take (vec_len l.rows) (entries_in (g.V.TableView.rows l.view) l.table));
  next : option_map (λ e. e.row) (slice_get (entries_in (g.V.TableView.rows l.view) l.table) (vec_len l.rows)) ≡ option_map (λ r. r.now) l.next;
}

abbrev pub decreases-loop-next : goal.decreases-loop-next
decreases-loop-next g l = length (entries_in (g.V.TableView.rows l.view) l.table) - vec_len l.rows
