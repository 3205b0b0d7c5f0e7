-- What a transaction sees: its own changes over the first sets of an index.
use Rattle.std.specs.Prelude.{◌≡◌, ℕ, List, Option, None, Some}
use Rattle.std.specs.Coded.{Coded, Π_prop, coded_option}
use Rattle.std.proofs.Props.{props}
use Rattle.std.specs.FinMap as fin
use Rattle.sql_eval.specs.contracts.row.Row as row
use Rattle.sql_eval.specs.declared.row.Row.{Row}
use Rattle.sql_eval.specs.declared.effect.Change.{Change}
use Rattle.sql_eval.specs.Views.{Entry, entry}
use Rattle.backend_trait.specs.Keys.{Place}
use Rattle.backend_trait.specs.Effect.{changes_of}
use Rattle.backend_trait.specs.Rows.{Rows, laid_over}
use Rattle.outcomes.specs.declared.chain.Chain.{Chain}
use Rattle.outcomes.specs.declared.index.Index.{Index}
use Rattle.outcomes.specs.declared.shown.Shown.{Shown}
use Rattle.outcomes.specs.Chains.{Chained, shown_at}
use Rattle.outcomes.specs.Indexed.{rows_in_index}

abbrev pub entry_in : Shown → Entry
entry_in shown = entry shown.key.now shown.row.now

-- changes laid over the first sets of an index
abbrev pub seen_rows : List Change → Index → ℕ → Rows
seen_rows changes index mark = laid_over (changes_of changes) (rows_in_index index mark)

-- chains show what changes leave
abbrev pub AreMade : List Change → Chained → Type 0
AreMade changes es = (p : Place) → shown_at 1 es p ≡ fin.get (changes_of changes) p

abbrev left_code : Coded (Option (Option Row))
left_code = coded_option (coded_option (row.the_row).coded)

pub AreMade-prop : (changes : List Change) (es : Chained) → IsProp (AreMade changes es)
AreMade-prop changes es = Π_prop (λ p. Prim.hlevel (props, left_code))

-- there is no chain, or one of another table
abbrev pub IsElsewhere : ℕ → Option Chain → Type 0
IsElsewhere table None = Unit {0}
IsElsewhere table (Some chain) = chain.table ≡ table → ⊥
