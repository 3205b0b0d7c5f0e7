-- The code of what statements give: two of them are equal in one way at most.
use Rattle.std.specs.Prelude.{◌≡◌, ◌⊎◌, ℕ, List, refl}
use Rattle.std.specs.Coded.{Coded, code_by, coded×, coded⊎, coded_ℕ, coded_list, coded_option}
use Rattle.std.specs.FinMap as fin
use mathlib.Core.Logic.{inl, inr}
use Rattle.pg_values.specs.declared.value.Value.{Value}
use Rattle.pg_values.specs.contracts.value.Value as value
use Rattle.sql_eval.specs.contracts.row.Row as row
use Rattle.backend_trait.specs.declared.answer.Answer.{Answer}
use Rattle.backend_trait.specs.contracts.answer.Answer as answer
use Rattle.backend_trait.specs.Keys.{Place}
use Rattle.backend_trait.specs.Rows.{Changes, Rows}
use Rattle.backend_trait.specs.Effect.{Given, Fails, Gives}

abbrev pub value_code : Coded Value
value_code = (value.the_row).coded

abbrev pub place_code : Coded Place
place_code = code_by (ℕ × Value) (coded× coded_ℕ value_code) (λ p. (p.table, p.key)) (λ q. record { table = q.0; key = q.1 }) (λ _. refl)

abbrev pub changes_code : Coded Changes
changes_code = fin.code place_code (coded_option (row.the_row).coded)

abbrev pub rows_code : Coded Rows
rows_code = fin.code place_code (row.the_row).coded

abbrev Parts : Type 0
Parts = List ℕ ⊎ (Answer × (Changes × List Place))

abbrev to_parts : Given → Parts
to_parts (Fails code) = inl code
to_parts (Gives given changes places) = inr (given, (changes, places))

abbrev from_parts : Parts → Given
from_parts (inl code) = Fails code
from_parts (inr parts) = Gives parts.0 parts.1.0 parts.1.1

pub from_to_parts : (given : Given) → from_parts (to_parts given) ≡ given
from_to_parts (Fails code) = refl
from_to_parts (Gives given changes places) = refl

abbrev pub given_code : Coded Given
given_code =
    code_by Parts (coded⊎ (coded_list coded_ℕ) (coded× (answer.the_row).coded (coded× changes_code (coded_list place_code)))) to_parts from_parts from_to_parts
