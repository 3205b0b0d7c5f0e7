-- A statement that runs alone, in a transaction of its own that commits: what it answers, and the
-- rows that it leaves.
use Rattle.std.specs.Prelude.{◌≡◌, List, None}
use Rattle.pool_base.specs.declared.code.Code.{Code}
use Rattle.schema.specs.declared.catalogue.TableDef.{TableDef}
use Rattle.catalogue.specs.declared.checked.Checked.{Checked}
use Rattle.backend_trait.specs.declared.answer.Answer.{Answer}
use Rattle.backend_trait.specs.declared.answer.Answer.TheVariants as answers
use Rattle.backend_trait.specs.Rows.{Rows, laid_over}
use Rattle.backend_trait.specs.Effect.{Given, Fails, Gives, effect_of}

-- what the statement gives on the committed rows
abbrev pub given_on : List TableDef → Rows → Checked → Given
given_on tables rows statement = (effect_of tables statement rows None).given

-- the answer is the effect's: its code, or its result
abbrev pub IsEffect : Given → Answer → Type 0
IsEffect (Fails code) answer = (refusal : Code) × (answer ≡ answers.Refused refusal) × (refusal.bytes ≡ code)
IsEffect (Gives result changes places) answer = answer ≡ result

-- the rows afterwards: a refusal changes nothing
abbrev pub rows_left : Given → Rows → Rows
rows_left (Fails code) rows = rows
rows_left (Gives result changes places) rows = laid_over changes rows

abbrev pub rows_after : List TableDef → Rows → Checked → Rows
rows_after tables rows statement = rows_left (given_on tables rows statement) rows
