-- What is read is the schema of the tokens.
use Rattle.std.proofs.Common.{◌≡◌, ℕ, ◌≤◌, ◌+◌, ◌-◌, inl, inr, List, [], ◌∷◌, ◌++◌, length, Result, refl, sym, ap, subst, ◌∙◌, arith}
use Rattle.std.proofs.lemmas.Bool.{lt-ltb}
use Rattle.sql_tokens.specs.declared.token.Placed.{Placed}
use Rattle.sql_tokens.specs.declared.token.Token.{Token}
use Rattle.schema.specs.declared.catalogue.TableDef.{TableDef}
use Rattle.schema.specs.declared.open.OpenTable.{OpenTable}
use Rattle.schema.specs.declared.open.Place.{Place}
use Rattle.schema.specs.declared.open.Place.TheVariants.{Create, Table, TableName, Columns, ColumnName, ColumnType, Column, End}
use Rattle.schema.specs.Steps.{Runs}
use Rattle.schema.specs.Grammar.{TablesOf, IsSchemaText, IsWithin, IsSchema, IsCutOff}
use Rattle.schema.specs.Reading.{tokens_of, start, IsRead, LeadsOn, StopsAt, IsSchemaSoFar, Begins, IsBadLine, line_of, as_text, Says, IsFaulty, AreTables}
use Rattle.sql_tokens.specs.Tokens.{TokensOf}
use Rattle.schema.specs.declared.fault.Refusal.{Refusal}
use Rattle.schema.proofs.Running.{State, part_of_table_runs, tables_run}
use Rattle.schema.proofs.Completing.{IsStop, head, StopOf, between_tables, between_columns, TablesEnd, completes}
use Rattle.schema.proofs.Bounds.{Bounded, within, bounded, at_first}
use Rattle.schema.proofs.Endings.{Ending, ending}
use Rattle.schema.proofs.Loop.{runs_join, runs_split}

fits : (tables : List TableDef) → IsWithin tables → 0 + length tables ≤ 64
fits tables w = omega (arith, w.0)

pub is_read : (ts : List Token) (tables : List TableDef) → IsSchema ts tables → IsRead ts tables
unfolding Runs
is_read ts tables s = tables_run [] tables ts [] (tables, Create) s.0 (fits tables s.1) s.1.1 refl

cut_off_runs : (ts : List Token) (c : IsCutOff ts) → Runs start ts (c.tables, ColumnName c.table)
cut_off_runs ts c = tables_run [] c.tables ts (head c.name c.inner) (c.tables, ColumnName c.table) c.whole (fits c.tables c.within) c.within.1
    (part_of_table_runs c.tables c.name c.inner (head c.name c.inner) c.count c.table refl c.is_new c.columns (lt-ltb (length c.tables) 64 c.few_tables) c.few_columns)

text_of : (ts : List Token) (tables more : List TableDef) (rest : List Token) → TablesOf [] ts more rest → StopOf more rest (tables, Create) → IsSchemaText ts tables
text_of ts tables more rest c (between_tables e f) =
    subst (λ (x : List TableDef). TablesOf [] ts x []) (sym (ap (λ (s : State). s.0) f)) (subst (λ (x : List Token). TablesOf [] ts more x) e c)
text_of ts tables more rest c (between_columns name inner count t e new columns f) = let g : Create ≡ ColumnName t = ap (λ (s : State). s.1) f in absurd cc

pub is_schema : (ts : List Token) (tables : List TableDef) → IsRead ts tables → IsSchema ts tables
is_schema ts tables r = let c : TablesEnd [] ts (tables, Create) = completes start ts (tables, Create) tt r in (text_of ts tables c.0 c.1 c.2 c.3, within ts tables r)

-- tokens that lead between two columns are a schema that is cut off there
cut_off : (ts : List Token) (tables more : List TableDef) (table : OpenTable) (rest : List Token) → TablesOf [] ts more rest → StopOf more rest (tables, ColumnName table) → Bounded tables (ColumnName table) → IsCutOff ts
cut_off ts tables more table rest c (between_tables e f) b = let g : ColumnName table ≡ Create = ap (λ (s : State). s.1) f in absurd cc
cut_off ts tables more table rest c (between_columns name inner count t e new columns f) b =
    let k : Bounded more (ColumnName t) = subst (λ (s : State). Bounded s.0 s.1) f b in
    record {
      tables = more;
      name = name;
      inner = inner;
      count = count;
      table = t;
      whole = subst (λ (x : List Token). TablesOf [] ts more x) e c;
      is_new = new;
      columns = columns;
      within = ((let few : length more ≤ 64 = omega (arith, k.0.some) in few), k.0.each);
      few_tables = k.0.some;
      few_columns = k.1;
    }

so_far : (ts : List Token) (tables : List TableDef) (place : Place) → IsStop place → Runs start ts (tables, place) → IsSchemaSoFar ts
so_far ts tables Create h r = inl (tables, is_schema ts tables r)
so_far ts tables (ColumnName t) h r =
    let c : TablesEnd [] ts (tables, ColumnName t) = completes start ts (tables, ColumnName t) h r in
    inr (cut_off ts tables c.0 t c.1 c.2 c.3 (bounded start ts (tables, ColumnName t) r at_first))
so_far ts tables Table h r = absurd h
so_far ts tables TableName h r = absurd h
so_far ts tables (Columns name) h r = absurd h
so_far ts tables (ColumnType t number name) h r = absurd h
so_far ts tables (Column t c d) h r = absurd h
so_far ts tables (End table) h r = absurd h

-- tokens lead somewhere where they begin a schema, and nowhere else
pub begins : (ts : List Token) → LeadsOn ts → Begins ts
begins ts h =
    let e : Ending h.0 = ending h.0.0 h.0.1 (bounded start ts h.0 h.1 at_first) in
    (e.ts, so_far (ts ++ e.ts) e.final.0 e.final.1 e.stops (runs_join start h.0 e.final ts e.ts h.1 e.runs))

front_leads : (ts more : List Token) (to : State) → Runs start (ts ++ more) to → LeadsOn ts
front_leads ts more to r = let s = runs_split start to ts more r in (s.mid, s.first)

leads_on_by : (ts more : List Token) → IsSchemaSoFar (ts ++ more) → LeadsOn ts
leads_on_by ts more (inl s) = front_leads ts more (s.0, Create) (is_read (ts ++ more) s.0 s.1)
leads_on_by ts more (inr c) = front_leads ts more (c.tables, ColumnName c.table) (cut_off_runs (ts ++ more) c)

pub leads_on_where : (ts : List Token) → Begins ts → LeadsOn ts
leads_on_where ts b = leads_on_by ts b.0 b.1

-- a line that is bad by what tokens lead to is bad by the grammar
pub at_token : (text : List ℕ) (tokens : List Placed) (place line : ℕ) → StopsAt tokens place → line ≡ line_of text place → IsBadLine text tokens line
at_token text tokens place line h e = inl (h.0, h.1, h.2, h.3, e ∙ ap (line_of text) h.4, begins (tokens_of h.0) h.5, λ b. h.6 (leads_on_where (tokens_of h.0 ++ h.2.token ∷ []) b))

pub at_end : (text : List ℕ) (tokens : List Placed) (line : ℕ) → LeadsOn (tokens_of tokens) → ((tables : List TableDef) → IsRead (tokens_of tokens) tables → ⊥) → line ≡ line_of text (length text - 1) → IsBadLine text tokens line
at_end text tokens line h none e = inr (e, begins (tokens_of tokens) h, λ tables s. none tables (is_read (tokens_of tokens) tables s))

-- ---- what a text says, and where it is none

pub says : (text : List ℕ) (tokens : List Placed) (tables : List TableDef) → TokensOf (as_text text) tokens → IsRead (tokens_of tokens) tables → Says text tables
says text tokens tables t r = (tokens, t, is_schema (tokens_of tokens) tables r)

pub only_tables : (text : List ℕ) (tokens : List Placed) (r : Result (List TableDef) Refusal) → ((ts : List Placed) → TokensOf (as_text text) ts → tokens ≡ ts) → ((tables : List TableDef) → IsRead (tokens_of tokens) tables → AreTables tables r) → (tables : List TableDef) → Says text tables → AreTables tables r
only_tables text tokens r one only tables s = only tables (is_read (tokens_of tokens) tables (subst (λ (x : List Placed). IsSchema (tokens_of x) tables) (sym (one s.0 s.1)) s.2))

pub faulty_at : (text : List ℕ) (tokens : List Placed) (place line : ℕ) → TokensOf (as_text text) tokens → StopsAt tokens place → line ≡ line_of (as_text text) place → IsFaulty text line
faulty_at text tokens place line t h e = (tokens, t, at_token (as_text text) tokens place line h e)

pub faulty_end : (text : List ℕ) (tokens : List Placed) (line : ℕ) → TokensOf (as_text text) tokens → LeadsOn (tokens_of tokens) → ((tables : List TableDef) → IsRead (tokens_of tokens) tables → ⊥) → line ≡ line_of (as_text text) (length (as_text text) - 1) → IsFaulty text line
faulty_end text tokens line t h none e = (tokens, t, at_end (as_text text) tokens line h none e)
