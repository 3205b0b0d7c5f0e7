-- In a store of the plain program the marks of the definitions are those that it sets.
use Rattle.std.proofs.Common.{◌≡◌, ◌≤◌, ℕ, Bool, true, false, ◌||◌, length, refl, sym, ap, ◌∙◌, arith}
use Rattle.std.specs.Prelude.{Option, Some, None, slice_get}
use Rattle.std.proofs.lemmas.Option.{slice_get_past}
use Rattle.backend_trait.specs.declared.request.Request.{Request}
use Rattle.backend_trait.specs.declared.answer.Answer.{Answer}
use Rattle.backend_trait.specs.Store.{Pending, Store, posted}
use Rattle.backend_trait.specs.Acts.{Crosses, IsCrossed}
use Rattle.plain_store.specs.declared.data.Database.{Database}
use Rattle.plain_store.specs.Meaning.{mark_in, request_at, pending_of, store_of}
use Rattle.backend_trait.specs.Acting.{acted_at, died, IsMarkedAt, IsMarked}
use Rattle.backend_trait.proofs.Telling.{Tells, either_told, itself}
use Rattle.one_copy_model.specs.Marks.{is_crossed, with_mark, marked, AsksWithin}
use Rattle.one_copy_model.specs.SingleRun.{after_answer, after_death}
use Rattle.one_copy_model.proofs.MarkLaws.{marked_only, marked_all}

asks_within : (d : Database) → AsksWithin (store_of d)
asks_within d = λ o past.
    ap (λ (x : Option (Option Request)). pending_of (request_at x) (mark_in (slice_get d.crossed.items o)))
    (slice_get_past d.requests.items o (let z : length d.requests.items ≤ o = omega (arith, past, d.requested) in z))

crossed_told : (d : Database) (s : ℕ) (request : Request) → Tells (is_crossed (store_of d) s request) (Crosses (store_of d) s request)
crossed_told d s request = (marked_only (store_of d) s request, marked_all (store_of d) s request (asks_within d))

-- two tests of one fact are the same
same_test : (s t : Bool) (P : Type 0) → Tells s P → Tells t P → s ≡ t
same_test true true P f g = refl
same_test true false P f g = absurd (let h : false ≡ true = g.1 (f.0 refl) in cc)
same_test false true P f g = absurd (let h : false ≡ true = f.1 (g.0 refl) in cc)
same_test false false P f g = refl

mark_is : (d : Database) (s : ℕ) (x new : Option Pending) → IsMarkedAt (store_of d) s x new → new ≡ with_mark (store_of d) s x
mark_is d s None new is = is
mark_is d s (Some p) new (mark, is, told) =
    is
    ∙ ap (λ (m : Bool). Some (record { request = p.request; crossed = m }))
    (same_test mark (p.crossed || is_crossed (store_of d) s p.request) (IsCrossed (store_of d) s p) told
    (either_told _ _ _ _ (itself p.crossed) (crossed_told d s p.request)))

pub marked_is : (d : Database) (new : Store) → IsMarked (store_of d) new → new ≡ marked (store_of d)
marked_is d new m = λ i. record {
  tables = m.tables i;
  rows = m.rows i;
  next = m.next i;
  transaction = m.transaction i;
  pending = λ s. mark_is d s ((store_of d).pending s) (new.pending s) (m.pending s) i;
  lost = m.lost i;
}

-- a store that is asked, one that answers, and one behind a death
pub asked_is : (st : Store) (s : ℕ) (request : Request) (mid : Database) (new : Store) → store_of mid ≡ posted st s request → IsMarked (store_of mid) new → new ≡ marked (posted st s request)
asked_is st s request mid new is m = marked_is mid new m ∙ ap marked is

pub acted_is : (st : Store) (s : ℕ) (answer : Answer) (mid : Database) (new : Store) → store_of mid ≡ acted_at st s answer → IsMarked (store_of mid) new → new ≡ marked (after_answer st s answer)
acted_is st s answer mid new is m = marked_is mid new m ∙ ap marked is

pub died_is : (st : Store) (s : ℕ) (mid : Database) (new : Store) → store_of mid ≡ died st s → IsMarked (store_of mid) new → new ≡ marked (after_death st s)
died_is st s mid new is m = marked_is mid new m ∙ ap marked is
