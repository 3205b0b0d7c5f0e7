-- The table of a name is the first thing of that name in a catalogue.
use Rattle.std.proofs.Common.{◌≡◌, ◌≤◌, ℕ, suc, length, slice_get, List, [], ◌∷◌, All, Option, Some, refl, ap, subst}
use Rattle.std.proofs.lemmas.List.Elements.{All-get_or}
use Rattle.std.proofs.lemmas.Option.{slice_get_within, get_or_from_slice_get}
use Rattle.std.specs.Prelude.{bytes_eq, if◌then◌else◌}
use Rattle.schema.specs.declared.catalogue.TableDef.{TableDef}
use Rattle.named_list.specs.Names.{found_from}
use Rattle.catalogue.specs.Statements.{table_from}

pub table_is_found : (number : ℕ) (name : List ℕ) (tables : List TableDef)
    → found_from (λ (t : TableDef). t.name) number name tables ≡ table_from number name tables
table_is_found number name [] = refl
table_is_found number name (table ∷ tables) =
    ap (λ (rest : Option (ℕ × TableDef)). if bytes_eq table.name name then Some (number, table) else rest) (table_is_found (suc number) name tables)

-- a table of a schema has at most 32 columns
pub table_is_few : (tables : List TableDef) (i : ℕ) (x : TableDef) → All (λ (t : TableDef). length t.columns ≤ 32) tables
    → slice_get tables i ≡ Some x → length x.columns ≤ 32
table_is_few tables i x all at =
    subst (λ (t : TableDef). length t.columns ≤ 32) (get_or_from_slice_get tables i x x at)
    (All-get_or (λ (t : TableDef). length t.columns ≤ 32) tables i x (slice_get_within tables i x at) all)
