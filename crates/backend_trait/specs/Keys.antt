-- Where rows stand: by table, and then by key, in the order of what a statement sees.
use Rattle.std.specs.Prelude.{Bool}
use Rattle.std.specs.Ordering.{eq_by_cmp}
pub use Rattle.sql_eval.specs.Views.{rank_of, key_order, Place, place, table_of, key_of, place_order}

abbrev pub is_place : Place → Place → Bool
is_place = eq_by_cmp place_order
