-- Where a store may give an answer, which of its requests are crossed, and what an answer leaves.
use Rattle.std.specs.Prelude.{◌≡◌, ◌↔◌, ℕ, ℤ, Bool, true, false, List, Option, Some, None}
use Rattle.schema.specs.declared.catalogue.TableDef.{TableDef}
use Rattle.backend_trait.specs.declared.request.Request.{Request}
use Rattle.backend_trait.specs.declared.answer.Answer.{Answer}
use Rattle.backend_trait.specs.Store.{Store, Absent, Pending, request_in, settled, drawn, acted}
use Rattle.backend_trait.specs.Acts.{MayAnswer, Crosses, IsCrossed, MustWait, IsInCycle, WhereSome}

-- it is not lost, a request of the session waits, and the table of answers allows it
abbrev pub MayAct : Store → ℕ → Answer → Type 0
MayAct st s answer = (st.lost ≡ false) × WhereSome (st.pending s) (λ p. MayAnswer st s p answer)

-- another session crosses the request that waits, now
abbrev pub IsCrossedNow : Store → ℕ → Type 0
IsCrossedNow st s = WhereSome (st.pending s) (λ p. Crosses st s p.request)

-- the mark of a request that waits tells whether another has crossed it since its post, or crosses it now
abbrev pub IsMarkedAt : Store → ℕ → Option Pending → Option Pending → Type 0
IsMarkedAt st s None new = new ≡ None
IsMarkedAt st s (Some p) new = (mark : Bool) × (new ≡ Some (record { request = p.request; crossed = mark })) × ((mark ≡ true) ↔ IsCrossed st s p)

-- the requests that another session crosses now are marked, and nothing else changes
pub record IsMarked (old new : Store) : Type 0 where
  pub tables : new.tables ≡ old.tables
  pub rows : new.rows ≡ old.rows
  pub next : new.next ≡ old.next
  pub transaction : new.transaction ≡ old.transaction
  pub lost : new.lost ≡ old.lost
  pub pending : (s : ℕ) → IsMarkedAt old s (old.pending s) (new.pending s)

-- the request that waits has to wait on
abbrev pub IsHeldUp : Store → ℕ → Type 0
IsHeldUp st s = WhereSome (st.pending s) (λ p. MustWait st s p.request)

-- an answer leaves what the table of answers says, where a request waits
abbrev pub acted_by : Store → ℕ → Answer → Option Pending → Store
acted_by st s answer None = st
acted_by st s answer (Some p) = acted st s p.request answer

abbrev pub acted_at : Store → ℕ → Answer → Store
acted_at st s answer = acted_by st s answer (st.pending s)

-- the next numbers where the request that waits has drawn its own
abbrev pub drawn_waiting : List TableDef → (ℕ → Option ℤ) → Option Request → ℕ → Option ℤ
drawn_waiting tables next None = next
drawn_waiting tables next (Some request) = drawn tables next request

-- a death leaves no transaction and nothing that waits, whatever its reason; what a run has drawn stays drawn
abbrev pub died : Store → ℕ → Store
died st s = record (settled st s Absent) { next = drawn_waiting st.tables st.next (request_in (st.pending s)) }
