-- A statement that takes no lock first draws no number; a moment changes neither.
use Rattle.std.proofs.Common.{◌≡◌, ◌∙◌, ◌+◌, ◌<◌, ℕ, ℤ, List, [], ◌∷◌, map, refl, ap, sym, arith}
use Rattle.std.specs.Prelude.{◌||◌, Bool as Truth, true, false, Option, Some, None, if◌then◌else◌}
use Rattle.std.specs.List.{fold, list_any}
use Rattle.catalogue.specs.declared.checked.CheckedBody.{CheckedBody}
use Rattle.catalogue.specs.declared.checked.CheckedBody.TheVariants as body
use Rattle.catalogue.specs.declared.checked.TypedCell.{TypedCell}
use Rattle.catalogue.specs.declared.checked.TypedCell.TheVariants as cell
use Rattle.classifier.specs.declared.class.Class.TheVariants as class
use Rattle.classifier.specs.Classes.{has_serial, is_serial, lock_of, locked}
use Rattle.sql_eval.specs.Effects.{DrawsFew}
use Rattle.sql_eval.specs.Inserts.{all_draws, draws_in, row_draws}
use Rattle.time_rewrite.specs.Rewriting.{body_at, cell_at}

-- ---- at a moment

cell_stays : (moment : ℤ) (c : TypedCell) → is_serial (cell_at moment c) ≡ is_serial c
cell_stays moment cell.Serial = refl
cell_stays moment cell.Now = refl
cell_stays moment (cell.Given e) = refl

row_stays : (moment : ℤ) (cells : List TypedCell) → list_any is_serial (map (cell_at moment) cells) ≡ list_any is_serial cells
row_stays moment [] = refl
row_stays moment (c ∷ cells) =
    ap (λ (b : Truth). b || list_any is_serial (map (cell_at moment) cells)) (cell_stays moment c) ∙ ap (λ (b : Truth). is_serial c || b) (row_stays moment cells)

rows_stay : (moment : ℤ) (rows : List (List TypedCell)) → has_serial (map (map (cell_at moment)) rows) ≡ has_serial rows
rows_stay moment [] = refl
rows_stay moment (row ∷ rows) =
    ap (λ (b : Truth). b || has_serial (map (map (cell_at moment)) rows)) (row_stays moment row) ∙ ap (λ (b : Truth). list_any is_serial row || b) (rows_stay moment rows)

pub lock_stays : (moment : ℤ) (b : CheckedBody) → lock_of (body_at moment b) ≡ lock_of b
lock_stays moment (body.Read read) = refl
lock_stays moment (body.Insert insert) = ap (λ (t : Truth). locked (if t then class.SerialInsert else class.Write) (Some insert.table)) (rows_stay moment insert.rows)
lock_stays moment (body.Change change) = refl
lock_stays moment (body.Remove remove) = refl

-- ---- none is drawn

neither : (a b : Truth) → (a || b) ≡ false → (a ≡ false) × (b ≡ false)
neither true b is = absurd (let f : true ≡ false = is in cc)
neither false b is = (refl, is)

none_in : (c : TypedCell) → is_serial c ≡ false → draws_in c ≡ 0
none_in cell.Serial is = absurd (let f : true ≡ false = is in cc)
none_in cell.Now is = refl
none_in (cell.Given e) is = refl

none_in_row : (cells : List TypedCell) → list_any is_serial cells ≡ false → row_draws cells ≡ 0
none_in_row [] is = refl
none_in_row (c ∷ cells) is =
    let both = neither (is_serial c) (list_any is_serial cells) is in
    let one = none_in c both.0 in
    let others = none_in_row cells both.1 in
    ap (λ n. fold ◌+◌ (0 + n) (map draws_in cells)) one ∙ others

none_drawn : (rows : List (List TypedCell)) → has_serial rows ≡ false → all_draws rows ≡ 0
none_drawn [] is = refl
none_drawn (row ∷ rows) is =
    let both = neither (list_any is_serial row) (has_serial rows) is in
    let one = none_in_row row both.0 in
    let others = none_drawn rows both.1 in
    ap (λ n. fold ◌+◌ (0 + n) (map row_draws rows)) one ∙ others

no_lock : (serial : Truth) (table : ℕ) → locked (if serial then class.SerialInsert else class.Write) (Some table) ≡ None → serial ≡ false
no_lock true table is = absurd (let f : Some table ≡ None = is in cc)
no_lock false table is = refl

pub few_drawn : (b : CheckedBody) → lock_of b ≡ None → DrawsFew b
few_drawn (body.Read read) is = tt
few_drawn (body.Insert insert) is = let none = none_drawn insert.rows (no_lock (has_serial insert.rows) insert.table is) in omega (arith, none)
few_drawn (body.Change change) is = tt
few_drawn (body.Remove remove) is = tt
