-- Behind the DELETE of a copy no row of its table is seen, and of other tables what was.
use Rattle.std.proofs.Common.{◌≡◌, ◌∙◌, ℕ, List, [], ◌∷◌, length, map, take, refl, sym, ap, arith}
use Rattle.std.specs.Prelude.{◌==◌, ◌||◌, ◌-◌, cond, is_some, slice_get, Bool as Truth, true, false, Option, Some, None, Ok, if◌then◌else◌}
use Rattle.std.specs.FinMap as fin
use Rattle.std.specs.declared.cmp.Ordering.{Ordering}
use Rattle.std.specs.Ordering.{is_eq}
use Rattle.std.proofs.lemmas.Bool.{eq-eqb}
use Rattle.pg_values.specs.declared.value.Value.{Value}
use Rattle.schema.specs.declared.catalogue.TableDef.{TableDef}
use Rattle.catalogue.specs.declared.checked.CheckedRemove.{CheckedRemove}
use Rattle.sql_eval.specs.declared.row.Row.{Row}
use Rattle.sql_eval.specs.declared.effect.Change.{Change}
use Rattle.sql_eval.specs.Views.{Entry, entries_in, key_column}
use Rattle.sql_eval.specs.Walks.{made, walked, with_some}
use Rattle.sql_eval.specs.Reads.{alone}
use Rattle.sql_eval.specs.Stored.{changed, removal_of}
use Rattle.sql_eval.specs.Effects.{Writes}
use Rattle.backend_trait.proofs.Tables.{walked_first}
use Rattle.backend_trait.specs.declared.request.Request.TheVariants.{Run}
use Rattle.backend_trait.specs.declared.answer.Answer.{Answer}
use Rattle.backend_trait.specs.declared.answer.Answer.TheVariants as answers
use Rattle.backend_trait.specs.Keys.{Place, is_place, key_order, place, place_order}
use Rattle.backend_trait.specs.Rows.{Rows, Changes, no_changes}
use Rattle.backend_trait.specs.Effect.{Gives, changed_on, changes_of, place_changed, table_in}
use Rattle.backend_trait.specs.Store.{Live, Store, acted, next_for, view_of}
use Rattle.backend_trait.specs.Acts.{given_of}
use Rattle.backend_trait.proofs.KeyLaws.{place_total}
use Rattle.backend_trait.proofs.RowLaws.{row_over}
use Rattle.online_recovery.specs.Copies.{no_rows_in}
use Rattle.recovery_laws.specs.Copied.{Grants, IsFilled, Leaves, row_under}
use Rattle.recovery_laws.proofs.CopyAnswering.{given_is, gave, leaves, view_after, with_given}
use Rattle.recovery_laws.proofs.Drawing.{deletes_undrawn}
use Rattle.recovery_laws.proofs.Seeking.{found, found_in, is_same, place_is, same_table}

-- each row goes
abbrev gone : ℕ → List Entry → List Change
gone n es = map (λ (e : Entry). changed n e.key None) es

abbrev all_of_table : ℕ → CheckedRemove
all_of_table n = record { table = n; filter = None }

all_gone : (n : ℕ) (es : List Entry) → walked (removal_of alone (all_of_table n)) es ≡ Ok (gone n es)
all_gone n [] = refl
all_gone n (e ∷ es) = walked_first (removal_of alone (all_of_table n)) e es ∙ ap (made (with_some (Some (changed n e.key None)))) (all_gone n es)

same_changes_given : (a b : Answer) (c d : Changes) (p q : List Place) → Gives a c p ≡ Gives b d q → c ≡ d
same_changes_given a b c d p q is = cc

delete_gives : (st : Store) (n : ℕ) (t : Live)
    → given_of st (no_rows_in n) t
    ≡ Gives (answers.Count (length (gone n (entries_in (view_of t) n)))) (changes_of (gone n (entries_in (view_of t) n))) (map place_changed (gone n (entries_in (view_of t) n)))
delete_gives st n t =
    given_is st.tables (no_rows_in n) (view_of t) (next_for st.next (table_in (no_rows_in n))) (Ok (Writes (gone n (entries_in (view_of t) n))))
    (ap (made Writes) (all_gone n (entries_in (view_of t) n)))

-- ---- which places they are

abbrev among : ℕ → Place → List Entry → Truth
among n q [] = false
among n q (e ∷ es) = is_place q (place n e.key) || among n q es

one_gone : (a b : Truth) (o : Option (Option Row)) → cond a (Some None) (cond b (Some None) o) ≡ cond (b || a) (Some None) o
one_gone true true o = refl
one_gone true false o = refl
one_gone false true o = refl
one_gone false false o = refl

gone_at : (n : ℕ) (old : Changes) (es : List Entry) (q : Place) → fin.get (changed_on old (gone n es)) q ≡ cond (among n q es) (Some None) (fin.get old q)
gone_at n old [] q = refl
gone_at n old (e ∷ es) q =
    gone_at n (fin.insert old (place n e.key) None) es q
    ∙ (ap (cond (among n q es) (Some None)) (fin.get-insert place_total old (place n e.key) None q)
    ∙ one_gone (among n q es) (is_place q (place n e.key)) (fin.get old q))

some_or : (b : Truth) (row : Row) (o : Option Row) → (b || is_some o) ≡ is_some (cond b (Some row) o)
some_or true row o = refl
some_or false row o = refl

-- those of the table's own rows
among_found : (n : ℕ) (key : Value) (es : List Entry) → among n (place n key) es ≡ is_some (found key es)
among_found n key [] = refl
among_found n key (e ∷ es) =
    ap (λ (r : Ordering). is_eq r || among n (place n key) es) (same_table (place n key) (place n e.key) refl)
    ∙ (ap (λ (b : Truth). is_eq (key_order key e.key) || b) (among_found n key es) ∙ some_or (is_eq (key_order key e.key)) e.row (found key es))

not_among : (n : ℕ) (q : Place) (es : List Entry) → (q.table == n) ≡ false → among n q es ≡ false
not_among n q [] other = refl
not_among n q (e ∷ es) other = go (not_among n q es other) (is_place q (place n e.key)) refl
  where
    go : among n q es ≡ false → (b : Truth) → is_place q (place n e.key) ≡ b → (b || among n q es) ≡ false
    go more true is =
        let here : q.table ≡ n = ap (λ (p : Place). p.table) (is_same q (place n e.key) is) in
        let both : true ≡ false = sym (eq-eqb q.table n here) ∙ other in
        absurd (cc)
    go more false is = more

none_left : (o : Option Row) → row_over (cond (is_some o) (Some None) None) o ≡ None
none_left None = refl
none_left (Some row) = refl

none_taken : (column : ℕ) (key : Value) (rows : List Row) → row_under column key (take (length rows - length rows) rows) ≡ None
none_taken column key rows = let none : length rows - length rows ≡ 0 = omega arith in ap (λ (k : ℕ). row_under column key (take k rows)) none

module _ (tables : List TableDef) (n : ℕ) (rows : List Row) (view after : Rows) where
  abbrev es : List Entry
  es = entries_in view n

  emptied : ((q : Place) → fin.get after q ≡ row_over (fin.get (changes_of (gone n es)) q) (fin.get view q)) → IsFilled tables n rows (length rows) view after
  emptied is = λ q.
      is q ∙ (ap (λ (c : Option (Option Row)). row_over c (fin.get view q)) (gone_at n no_changes es q ∙ ap (cond (among n q es) (Some None)) (fin.get-empty place_order q))
      ∙ go q (q.table == n) refl)
    where
      go : (q : Place) (b : Truth) → (q.table == n) ≡ b
          → row_over (cond (among n q es) (Some None) None) (fin.get view q)
          ≡ (if b then row_under (key_column (slice_get tables n)) q.key (take (length rows - length rows) rows) else fin.get view q)
      go q true here =
          let same = place_is q n here in
          let seen : fin.get view q ≡ found q.key es = ap (fin.get view) same ∙ sym (found_in view n q.key) in
          let passed : among n q es ≡ is_some (fin.get view q) = ap (λ (p : Place). among n p es) same ∙ (among_found n q.key es ∙ ap is_some (sym seen)) in
          ap (λ (b : Truth). row_over (cond b (Some None) None) (fin.get view q)) passed
          ∙ (none_left (fin.get view q) ∙ sym (none_taken (key_column (slice_get tables n)) q.key rows))
      go q false here = ap (λ (b : Truth). row_over (cond b (Some None) None) (fin.get view q)) (not_among n q es here)

pub delete_leaves : (st : Store) (s n : ℕ) (t : Live) (answer : Answer) (rows : List Row) → Grants st s t (Run (no_rows_in n)) answer
    → Leaves st s t (IsFilled st.tables n rows (length rows) (view_of t)) (acted st s (Run (no_rows_in n)) answer)
delete_leaves st s n t answer rows g =
    let told = gave st s t (no_rows_in n) answer g in
    let cs = gone n (entries_in (view_of t) n) in
    let are : told.changes ≡ changes_of cs = same_changes_given answer (answers.Count (length cs)) told.changes (changes_of cs) told.places (map place_changed cs)
    (sym told.gives ∙ delete_gives st n t) in
    leaves st s t (no_rows_in n) answer g (deletes_undrawn st.tables st.next n) (IsFilled st.tables n rows (length rows) (view_of t)) told.changes told.places told.gives
    (emptied st.tables n rows (view_of t) (view_of (with_given t told.changes told.places)) (λ q.
    view_after t told.changes told.places q ∙ ap (λ (c : Changes). row_over (fin.get c q) (fin.get (view_of t) q)) are))
