-- A Look behind which a chain goes on, and one that shows no backend.
use Rattle.std.proofs.Common.{◌≡◌, ℕ, ◌<◌, ◌≤◌, Bool, true, false, List, [], ◌∷◌, refl, sym, ◌∙◌, subst, arith, inl, inr}
use Rattle.std.specs.Prelude.{Option, Some, None, if◌then◌else◌, is_some}
use Rattle.pool_base.specs.Sets.{has}
use Rattle.session_machine.specs.declared.machine.Machine.{Machine}
use Rattle.session_machine.specs.declared.machine.Session.{Session}
use Rattle.session_machine.specs.declared.machine.Stage.{Stage}
use Rattle.session_machine.specs.declared.machine.Stage.TheVariants.{Opening, Reading, Running, Locking, Inserting, Committing, Closing, RollingBack}
use Rattle.pool_base.specs.declared.backend_id.BackendId.{BackendId}
use Rattle.one_copy_model.specs.Chains.{IsInOrder}
use Rattle.one_copy_model.proofs.Finding.{one_of_eight}
use Rattle.session_machine.specs.declared.machine.Heard.{Heard}
use Rattle.one_copy_model.specs.Chains.{AreBelow, has_told}
use Rattle.one_copy_model.specs.Deaths.{heard_from}
use Rattle.std.specs.Prelude.{not, ◌&&◌, ◌==◌}
use Rattle.std.proofs.lemmas.Bool.Decides.{leb_tells, eqb_tells}
use Rattle.session_machine.specs.Answers.{lowest, has_answered, is_open, first_open, next_of, is_stopped}
use Rattle.write_path.specs.declared.kind.ChainKind.{ChainKind}
use Rattle.session_machine.specs.Rules.{kind_of, looked, asked}
use Rattle.one_copy_model.specs.Chains.{goes_up}
use Rattle.one_copy_model.specs.Places.{closing_at, closing_chain}
use Rattle.one_copy_model.proofs.Finding.{least_found, is_found}
use Rattle.one_copy_model.proofs.Livings.{and_true}

-- who has answered, by its number
pub answered_is : (hs : List Heard) (b : BackendId) → has_answered hs b ≡ is_some (heard_from hs b.number)
answered_is [] b = refl
answered_is (x ∷ hs) b = by (x.b.number == b.number) (answered_is hs b)
  where
    by : (v : Bool) → has_answered hs b ≡ is_some (heard_from hs b.number) → (if v then true else has_answered hs b) ≡ is_some (if v then Some x.answer else heard_from hs b.number)
    by true e = refl
    by false e = e

pub below_by : (b : ℕ) (hs : List Heard) → ((k : ℕ) → is_some (heard_from hs k) ≡ true → k < b) → AreBelow b hs
below_by b [] told = tt
below_by b (x ∷ hs) told = (told x.b.number (first (x.b.number == x.b.number) (itself x.b.number)), below_by b hs (λ k e. told k (more k (x.b.number == k) e)))
  where
    itself : (n : ℕ) → (n == n) ≡ true
    itself n = elim (eqb_tells n n) [ inl p ↦ p.0 | inr p ↦ absurd (p.1 refl) ]

    first : (v : Bool) → v ≡ true → is_some (if v then Some x.answer else heard_from hs x.b.number) ≡ true
    first true e = refl
    first false e = absurd (let z : false ≡ true = e in cc)

    more : (k : ℕ) (v : Bool) → is_some (heard_from hs k) ≡ true → is_some (if v then Some x.answer else heard_from hs k) ≡ true
    more k true e = refl
    more k false e = e

pub open_of : (kind : ChainKind) (attached : ℕ) (hs : List Heard) (found : Option BackendId) (b : BackendId) → next_of kind attached hs ≡ Some b → first_open attached hs ≡ Some b
open_of kind attached hs found b e = by (is_stopped kind hs (lowest attached)) e
  where
    by : (v : Bool) → (if v then None else first_open attached hs) ≡ Some b → first_open attached hs ≡ Some b
    by true e = absurd (let z : None ≡ Some b = e in cc)
    by false e = e

not_told : (x : Bool) → not x ≡ true → x ≡ true → ⊥
not_told true e f = let z : false ≡ true = e in cc
not_told false e f = let z : false ≡ true = f in cc

pub closed_is : (a x : Bool) → a ≡ true → (a && not x) ≡ false → x ≡ true
closed_is true true e f = refl
closed_is true false e f = absurd (let z : true ≡ false = f in cc)
closed_is false x e f = absurd (let z : false ≡ true = e in cc)

pub false_of : (x : Bool) → (x ≡ true → ⊥) → x ≡ false
false_of true h = absurd (h refl)
false_of false h = refl

pub looked_is : (session : Session) (stage : Stage) → goes_up stage ≡ true → looked session stage ≡ asked session stage (next_of (kind_of stage) session.view.attached.bits session.heard)
looked_is session (Opening work) e = refl
looked_is session (Reading work ticket) e = absurd (let z : false ≡ true = e in cc)
looked_is session (Running work) e = refl
looked_is session (Locking work table) e = refl
looked_is session (Inserting work posted) e = refl
looked_is session Committing e = refl
looked_is session Closing e = refl
looked_is session (RollingBack ending) e = refl

pub closing_is : (session : Session) (stage : Stage) → goes_up stage ≡ true → closing_at session stage ≡ closing_chain session (next_of (kind_of stage) session.view.attached.bits session.heard)
closing_is session (Opening work) e = refl
closing_is session (Reading work ticket) e = absurd (let z : false ≡ true = e in cc)
closing_is session (Running work) e = refl
closing_is session (Locking work table) e = refl
closing_is session (Inserting work posted) e = refl
closing_is session Committing e = refl
closing_is session Closing e = refl
closing_is session (RollingBack ending) e = refl

-- the one that is asked next stands above those that have answered, and of those below it each attached one has
module _ (attached : ℕ) (m : Machine) (stage : Stage) (few : attached < 256) (up : goes_up stage ≡ true) (o : IsInOrder attached m stage) (b : BackendId) (next : first_open attached m.session.heard ≡ Some b) where
  open_b : (has attached b.number ≡ true) × (not (has_answered m.session.heard b) ≡ true)
  open_b = and_true (has attached b.number) (not (has_answered m.session.heard b)) (is_found (is_open attached m.session.heard) b next)

  pub next_above : (k : ℕ) → has_told m k ≡ true → k < b.number
  next_above k told = elim (leb_tells b.number k) [
    | inl q ↦ absurd (not_told (has_answered m.session.heard b) open_b.1 (answered_is m.session.heard b ∙ elim (leb_tells k b.number) [
      | inl r ↦ subst (λ x. has_told m x ≡ true) (let one : b.number ≤ k = q.1 in let two : k ≤ b.number = r.1 in let z : k ≡ b.number = omega (arith, one, two) in z) told
      | inr r ↦ o.below b.number k up open_b.0 r.1 (inr told)
    ]))
    | inr q ↦ q.1
  ]

  pub next_below : (c : ℕ) → has attached c ≡ true → c < b.number → has_told m c ≡ true
  next_below c here under_it =
      let at_c : BackendId = record { number = c; below_8 = one_of_eight attached c few here } in
      let shut : is_open attached m.session.heard at_c ≡ false = false_of (is_open attached m.session.heard at_c) (λ e. let least = least_found (is_open attached m.session.heard) b at_c next e in omega (arith, least, under_it)) in
      sym (answered_is m.session.heard at_c) ∙ closed_is (has attached c) (has_answered m.session.heard at_c) here shut
