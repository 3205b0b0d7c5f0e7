-- A walk over the entries of a table without some at which the step gives nothing.
use Rattle.std.proofs.Common.{◌≡◌, ℕ, List, [], ◌∷◌, map, refl, ap, sym, ◌∙◌, subst, inl, inr}
use Rattle.std.specs.Prelude.{true, Option, None, Ok}
use Rattle.std.specs.List.{AllByRecursion}
use Rattle.std.proofs.lemmas.List.Elements.{recursion_from_All}
use Rattle.pg_values.specs.declared.value.Value.{Value}
use Rattle.schema.specs.declared.catalogue.ColumnDef.{ColumnDef}
use Rattle.catalogue.specs.declared.checked.CheckedChange.{CheckedChange}
use Rattle.catalogue.specs.declared.checked.CheckedRemove.{CheckedRemove}
use Rattle.typed_sql.specs.declared.typed.TypedExpr.{TypedExpr}
use Rattle.sql_values.specs.Outcome.{or_null}
use Rattle.sql_eval.specs.declared.row.Row.{Row}
use Rattle.sql_eval.specs.Views.{View, Entry, entry_of, entries_in, IsUnderItsKey, IsKeyedBy}
use Rattle.sql_eval.specs.Walks.{Coded, behind, made, walked, with_some}
use Rattle.sql_eval.specs.Reads.{alone, kept, where_kept}
use Rattle.sql_eval.specs.Stored.{change_of, removal_of, removed, updated}
use Rattle.sql_eval.specs.Seeking.{AreBut, AreRowsBut, IsKeptOut, IsMissed, Seeks, is_missed}
use Rattle.sql_eval.proofs.Entries.{map_twice, rows_are_entries, walked_mapped}
use Rattle.sql_eval.proofs.Walking.{walked_first, none_before}

-- none is left out
pub all_but_none : (IsOut : Entry → Type 0) (es : List Entry) → AreBut IsOut es es
all_but_none IsOut [] = refl
all_but_none IsOut (e ∷ es) = inr (es, refl, all_but_none IsOut es)

-- all are left out
pub none_but : (IsOut : Entry → Type 0) (es : List Entry) → AllByRecursion IsOut es → AreBut IsOut es []
none_but IsOut [] all = refl
none_but IsOut (e ∷ es) all = inl (all.0, none_but IsOut es all.1)

-- what is left out for one reason is left out for another
pub but_for : (IsOut IsOther : Entry → Type 0) (es left : List Entry) → AllByRecursion (λ e. IsOut e → IsOther e) es → AreBut IsOut es left → AreBut IsOther es left
but_for IsOut IsOther [] left all but = but
but_for IsOut IsOther (e ∷ es) left all but =
    elim but [
      | inl out ↦ inl (all.0 out.0, but_for IsOut IsOther es left all.1 out.1)
      | inr more ↦ inr (more.0, more.1, but_for IsOut IsOther es more.0 all.1 more.2)
    ]

module _ {C : Type 0} (f : Entry → Coded (Option C)) (IsOut : Entry → Type 0) (passes : (e : Entry) → IsOut e → f e ≡ Ok None) where
  past : (e : Entry) (es : List Entry) → f e ≡ Ok None → walked f (e ∷ es) ≡ walked f es
  past e es is = walked_first f e es ∙ (ap (λ (o : Coded (Option C)). behind o (λ a. made (with_some a) (walked f es))) is ∙ none_before (walked f es))

  pub walked_but : (es left : List Entry) → AreBut IsOut es left → walked f left ≡ walked f es
  walked_but [] left but = ap (walked f) but
  walked_but (e ∷ es) left but =
      elim but [
        | inl out ↦ walked_but es left out.1 ∙ sym (past e es (passes e out.0))
        | inr more ↦ ap (walked f) more.1 ∙ (walked_first f e more.0
            ∙ (ap (λ (o : Coded (List C)). behind (f e) (λ a. made (with_some a) o)) (walked_but es more.0 more.2) ∙ sym (walked_first f e es)))
      ]

  -- the rows, each under the key in its column
  pub walk_of_rows : {X : Type 0} (now : X → Row) (rows : List X) (view : View) (table key : ℕ) → AreRowsBut IsOut view table key (map now rows)
      → walked (λ (r : X). f (entry_of key (now r))) rows ≡ walked f (entries_in view table)
  walk_of_rows now rows view table key but =
      walked_mapped f (λ r. entry_of key (now r)) rows
      ∙ walked_but (entries_in view table) (map (λ r. entry_of key (now r)) rows)
      (subst (AreBut IsOut (entries_in view table)) (sym (map_twice (entry_of key) now rows)) but)

-- all rows
pub whole_rows : {X : Type 0} (IsOut : Entry → Type 0) (now : X → Row) (rows : List X) (view : View) (table key : ℕ) → IsKeyedBy view table key
    → map now rows ≡ map (λ (e : Entry). e.row) (entries_in view table) → AreRowsBut IsOut view table key (map now rows)
whole_rows IsOut now rows view table key keyed are =
    subst (AreBut IsOut (entries_in view table))
    (sym (sym (map_twice (entry_of key) now rows) ∙ rows_are_entries now rows view table key keyed are)) (all_but_none IsOut (entries_in view table))

-- ---- what a filter keeps out

pub change_passes : (columns : List ColumnDef) (change : CheckedChange) (e : Entry) → IsKeptOut change.filter e → change_of alone columns change e ≡ Ok None
change_passes columns change e out = ap (λ (o : Coded (Option Entry)). behind o (updated alone columns change)) out

pub removal_passes : (remove : CheckedRemove) (e : Entry) → IsKeptOut remove.filter e → removal_of alone remove e ≡ Ok None
removal_passes remove e out = ap (made (removed remove.table)) out

module _ (filter : Option TypedExpr) (key : ℕ) (constant : Value) (seeks : Seeks filter key constant) where
  missed_out : (e : Entry) → IsUnderItsKey key e → IsMissed constant e → IsKeptOut filter e
  missed_out e under missed =
      ap (made (where_kept e)) (seeks e.row (subst (λ (k : Value). is_missed constant k ≡ true) (sym (ap or_null under)) missed))

  all_out : (es : List Entry) → AllByRecursion (IsUnderItsKey key) es → AllByRecursion (λ e. IsMissed constant e → IsKeptOut filter e) es
  all_out [] all = tt
  all_out (e ∷ es) all = (missed_out e all.0, all_out es all.1)

  -- rows that miss a constant are kept out where the filter asks for it
  pub sought_rows : (view : View) (table : ℕ) (rows : List Row) → IsKeyedBy view table key → AreRowsBut (IsMissed constant) view table key rows
      → AreRowsBut (IsKeptOut filter) view table key rows
  sought_rows view table rows keyed but =
      but_for (IsMissed constant) (IsKeptOut filter) (entries_in view table) (map (entry_of key) rows)
      (all_out (entries_in view table) (recursion_from_All (IsUnderItsKey key) (entries_in view table) keyed)) but
