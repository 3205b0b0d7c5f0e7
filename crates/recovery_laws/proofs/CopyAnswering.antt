-- What an answer to a statement that runs leaves of a store.
use Rattle.std.proofs.Common.{◌≡◌, ◌∙◌, ℕ, ℤ, List, sym, ap, refl, subst}
use Rattle.std.specs.Prelude.{Bool as Truth, true, false, Option, Some, None, if◌then◌else◌}
use Rattle.std.specs.FinMap as fin
use Rattle.schema.specs.declared.catalogue.TableDef.{TableDef}
use Rattle.catalogue.specs.declared.checked.Checked.{Checked}
use Rattle.sql_eval.specs.declared.row.Row.{Row}
use Rattle.sql_eval.specs.Walks.{Coded}
use Rattle.sql_eval.specs.Reads.{alone}
use Rattle.sql_eval.specs.Effects as effects
use Rattle.sql_eval.specs.Effects.{given_by}
use Rattle.backend_trait.specs.declared.request.Request.TheVariants.{Run}
use Rattle.backend_trait.specs.declared.answer.Answer.{Answer}
use Rattle.backend_trait.specs.declared.answer.Answer.TheVariants as answers
use Rattle.backend_trait.specs.Keys.{Place}
use Rattle.backend_trait.specs.Rows.{Rows, Changes, joined_changes}
use Rattle.backend_trait.specs.Effect.{Given, Fails, Gives, effect_of, given_as, number_from, table_in}
use Rattle.backend_trait.specs.Store.{Alive, Live, Store, Transaction, WhereLive, acted, answered, drawn, given_to, is_refusal, refused, settled, view_of, where_live, with_places}
use Rattle.backend_trait.specs.Acts.{IsCrossed, MayGive, MayRun, given_of}
use Rattle.backend_trait.proofs.RowLaws.{change_over, get-joined_changes, get-laid_over, row_over}
use Rattle.recovery_laws.specs.Copied.{Grants, Leaves}

-- what a store gives is made of the effect
pub given_is : (tables : List TableDef) (checked : Checked) (view : Rows) (next : Option ℤ) (given : Coded effects.Given)
    → given_by alone tables checked.body view (number_from next) ≡ given → (effect_of tables checked view next).given ≡ given_as (table_in checked) given
unfolding effect_of
given_is tables checked view next given is = ap (given_as (table_in checked)) is

-- what is given where an answer is no refusal
pub record Gave (st : Store) (checked : Checked) (t : Live) (answer : Answer) : Type 0 where
  pub changes : Changes
  pub places : List Place
  pub gives : given_of st checked t ≡ Gives answer changes places

gave_in : (st : Store) (s : ℕ) (t : Live) (checked : Checked) (answer : Answer) (given : Given) → given_of st checked t ≡ given → MayGive st s t answer given → Gave st checked t answer
gave_in st s t checked answer (Fails code) is may = absurd may
gave_in st s t checked answer (Gives result changes places) is may =
    record { changes = changes; places = places; gives = is ∙ ap (λ (r : Answer). Gives r changes places) (sym may.0) }

gave_live : (st : Store) (s : ℕ) (t : Live) (checked : Checked) (answer : Answer) → st.transaction s ≡ Alive t
    → WhereLive (st.transaction s) (λ u. MayGive st s u answer (given_of st checked u)) → Gave st checked t answer
gave_live st s t checked answer live may =
    gave_in st s t checked answer (given_of st checked t) refl (subst (λ (r : Transaction). WhereLive r (λ u. MayGive st s u answer (given_of st checked u))) live may)

gave_run : (st : Store) (s : ℕ) (t : Live) (crossed : Type 0) (checked : Checked) (answer : Answer) → st.transaction s ≡ Alive t
    → MayRun st s crossed checked answer → is_refusal answer ≡ false → Gave st checked t answer
gave_run st s t crossed checked answers.Began live may given = absurd may
gave_run st s t crossed checked (answers.Rows rows) live may given = gave_live st s t checked (answers.Rows rows) live may
gave_run st s t crossed checked (answers.Count n) live may given = gave_live st s t checked (answers.Count n) live may
gave_run st s t crossed checked answers.Locked live may given = absurd may
gave_run st s t crossed checked answers.Done live may given = absurd may
gave_run st s t crossed checked (answers.Serial n) live may given = absurd may
gave_run st s t crossed checked (answers.Refused code) live may given = absurd (let f : true ≡ false = given in cc)

pub gave : (st : Store) (s : ℕ) (t : Live) (checked : Checked) (answer : Answer) → Grants st s t (Run checked) answer → Gave st checked t answer
gave st s t checked answer g = gave_run st s t (IsCrossed st s (record { request = Run checked; crossed = g.crossed })) checked answer g.live g.may g.given

-- the transaction behind what is given
abbrev pub with_given : Live → Changes → List Place → Live
with_given t changes places = record { base = t.base; changes = joined_changes changes t.changes; held = with_places t.held places; stale = t.stale }

over_over : (a b : Option (Option Row)) (r : Option Row) → row_over (change_over a b) r ≡ row_over a (row_over b r)
over_over None b r = refl
over_over (Some x) b r = refl

-- it sees the changes over what it saw
pub view_after : (t : Live) (changes : Changes) (places : List Place) (q : Place)
    → fin.get (view_of (with_given t changes places)) q ≡ row_over (fin.get changes q) (fin.get (view_of t) q)
view_after t changes places q =
    get-laid_over (joined_changes changes t.changes) t.base q
    ∙ (ap (λ (c : Option (Option Row)). row_over c (fin.get t.base q)) (get-joined_changes changes t.changes q)
    ∙ (over_over (fin.get changes q) (fin.get t.changes q) (fin.get t.base q)
    ∙ ap (row_over (fin.get changes q)) (sym (get-laid_over t.changes t.base q))))

module _ (st : Store) (s : ℕ) (t : Live) (checked : Checked) (answer : Answer) (g : Grants st s t (Run checked) answer) (undrawn : drawn st.tables st.next (Run checked) ≡ st.next) where
  pub left_by : (changes : Changes) (places : List Place) → given_of st checked t ≡ Gives answer changes places
      → acted st s (Run checked) answer ≡ settled st s (Alive (with_given t changes places))
  left_by changes places gives =
      ap (λ (b : Truth). if b then refused st s (Run checked) else answered st s (Run checked)) g.given
      ∙ (ap (λ (r : Transaction). record (settled st s (where_live (λ u. given_to (given_of st checked u) u) r)) { next = drawn st.tables st.next (Run checked) }) g.live
      ∙ (ap (λ (x : Given). record (settled st s (Alive (given_to x t))) { next = drawn st.tables st.next (Run checked) }) gives
      ∙ ap (λ (next : ℕ → Option ℤ). record (settled st s (Alive (with_given t changes places))) { next = next }) undrawn))

  pub leaves : (Sees : Rows → Type 0) (changes : Changes) (places : List Place) → given_of st checked t ≡ Gives answer changes places
      → Sees (view_of (with_given t changes places)) → Leaves st s t Sees (acted st s (Run checked) answer)
  leaves Sees changes places gives sees =
      record { live = with_given t changes places; left = left_by changes places gives; base = refl; sees = sees }
