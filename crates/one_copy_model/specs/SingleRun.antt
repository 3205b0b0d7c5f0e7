-- A run of one store: what sessions ask and get there, newest first; and deaths whose reason comes later.
use Rattle.std.specs.Prelude.{◌≡◌, ℕ, ◌-◌, Bool, true, false, ◌&&◌, ◌==◌, List, [], ◌∷◌, length, take, Option, Some, None}
use Rattle.pool_base.specs.declared.code.Code.{Code}
use Rattle.schema.specs.declared.catalogue.TableDef.{TableDef}
use Rattle.backend_trait.specs.declared.request.Request.{Request}
use Rattle.backend_trait.specs.declared.request.Request.TheVariants as requests
use Rattle.backend_trait.specs.declared.answer.Answer.{Answer}
use Rattle.backend_trait.specs.declared.answer.Answer.TheVariants as answers
use Rattle.backend_trait.specs.Store.{Store, Pending, MayPost, prepared, posted}
use Rattle.backend_trait.specs.Acts.{MayAnswer, WhereSome}
use Rattle.backend_trait.specs.Acting.{acted_at, died}
use Rattle.one_copy_model.specs.declared.deed.Deed.{Deed}
use Rattle.one_copy_model.specs.declared.deed.Deed.TheVariants.{Asks, Gets, Falls}
use Rattle.one_copy_model.specs.declared.deed.Entry.{Entry}
use Rattle.one_copy_model.specs.Marks.{marked}

-- what a store's answer leaves
abbrev pub after_answer : Store → ℕ → Answer → Store
after_answer st s answer = acted_at st s answer

-- a death leaves no transaction and nothing that waits, whatever its reason
abbrev pub after_death : Store → ℕ → Store
after_death st s = died st s

-- what a deed leaves
abbrev pub done_by : Store → ℕ → Deed → Store
done_by st s (Asks request) = marked (posted st s request)
done_by st s (Gets answer) = marked (after_answer st s answer)
done_by st s (Falls code) = marked (after_death st s)

-- the store of these tables behind these entries
abbrev pub store_after : List TableDef → List Entry → Store
store_after tables [] = prepared tables
store_after tables (e ∷ es) = done_by (store_after tables es) e.session e.deed

-- where a deed may come: a request that may be posted, where none of the session waits, but a rollback withdraws one; an answer
-- that the table allows to the request that waits; a refusal likewise
abbrev pub MayAsk : Option Pending → Request → Type 0
MayAsk pending requests.TakeSnapshot = pending ≡ None
MayAsk pending (requests.Run checked) = pending ≡ None
MayAsk pending (requests.Lock table) = pending ≡ None
MayAsk pending requests.Commit = pending ≡ None
MayAsk pending requests.Rollback = Unit {0}
MayAsk pending (requests.ReadSerial table) = pending ≡ None
MayAsk pending (requests.SetSerial table n) = pending ≡ None

abbrev pub MayDo : Store → ℕ → Deed → Type 0
MayDo st s (Asks request) = MayPost st s request × MayAsk (st.pending s) request
MayDo st s (Gets answer) = WhereSome (st.pending s) (λ p. MayAnswer st s p answer)
MayDo st s (Falls None) = Unit {0}
MayDo st s (Falls (Some code)) = WhereSome (st.pending s) (λ p. MayAnswer st s p (answers.Refused code))

-- a run of one store of these tables, the newest entry first
abbrev pub IsRun : List TableDef → List Entry → Type 0
IsRun tables [] = Unit {0}
IsRun tables (e ∷ es) = MayDo (store_after tables es) e.session e.deed × IsRun tables es

-- the latest death of a session was a refusal with this code
abbrev pub is_fall : Deed → Bool
is_fall (Asks request) = false
is_fall (Gets answer) = false
is_fall (Falls code) = true

abbrev pub amended_at : Bool → ℕ → Code → Entry → List Entry → List Entry → List Entry
amended_at true s code e es rest = record { session = s; deed = Falls (Some code) } ∷ es
amended_at false s code e es rest = e ∷ rest

abbrev pub amended : ℕ → Code → List Entry → List Entry
amended s code [] = []
amended s code (e ∷ es) = amended_at ((e.session == s) && is_fall e.deed) s code e es (amended s code es)

-- the deeds of a session, newest first
abbrev pub of_session : Bool → Deed → List Deed → List Deed
of_session true deed deeds = deed ∷ deeds
of_session false deed deeds = deeds

abbrev pub deeds_of : ℕ → List Entry → List Deed
deeds_of s [] = []
deeds_of s (e ∷ es) = of_session (e.session == s) e.deed (deeds_of s es)

-- those since the run had so many entries
abbrev pub deeds_since : ℕ → ℕ → List Entry → List Deed
deeds_since s entries history = deeds_of s (take (length history - entries) history)

-- the answer that deeds give, the newest first: the latest that it got, or the code of a death; a rollback takes none back
abbrev pub answer_in : List Deed → Option Answer
answer_in [] = None
answer_in (Asks request ∷ deeds) = answer_in deeds
answer_in (Gets answer ∷ deeds) = Some answer
answer_in (Falls None ∷ deeds) = answer_in deeds
answer_in (Falls (Some code) ∷ deeds) = Some (answers.Refused code)
