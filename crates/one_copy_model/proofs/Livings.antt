-- Who is alive is so at an attached backend; who is not live in the single run has no transaction there, and asks for nothing.
use Rattle.std.proofs.Common.{◌≡◌, ◌≢◌, ℕ, zero, suc, ◌<◌, Bool, true, false, ◌||◌, List, refl, sym, ap, ◌∙◌, arith}
use Rattle.std.specs.Prelude.{◌&&◌, Option, Some, None}
use Rattle.pool_base.specs.Sets.{has}
use Rattle.backend_trait.specs.declared.request.Request.{Request}
use Rattle.backend_trait.specs.Store.{Live, Transaction, Absent, Alive, Dead, Pending, Store}
use Rattle.one_copy_model.specs.Numbers.{some_below}
use Rattle.one_copy_model.specs.World.{World}
use Rattle.one_copy_model.specs.Deaths.{is_live, is_alive_at, is_alive, stage_at}
use Rattle.one_copy_model.specs.Tracking.{Tracked, single}
use Rattle.one_copy_model.specs.Standing.{Standing, Nowhere, Fresh, Ahead, Leaving, Fallen, Ending, Alike, Stands, standing_of, leaving_of}
use Rattle.one_copy_model.specs.Invariant.{Invariant, IsHere, is_dead, request_in, where_live, wants_of}

found_at : (n : ℕ) (p : ℕ → Bool) (rest : some_below p n ≡ true → (b : ℕ) × (b < n) × (p b ≡ true)) (v : Bool) → p n ≡ v → (v || some_below p n) ≡ true → (b : ℕ) × (b < suc n) × (p b ≡ true)
found_at n p rest true is e = (n, (let z : n < suc n = omega arith in z), is)
found_at n p rest false is e = let h = rest e in let under = h.1 in (h.0, (let z : h.0 < suc n = omega (arith, under) in z), h.2)

pub found_below : (p : ℕ → Bool) (n : ℕ) → some_below p n ≡ true → (b : ℕ) × (b < n) × (p b ≡ true)
found_below p zero e = absurd (cc)
found_below p (suc n) e = found_at n p (found_below p n) (p n) refl e

pub and_true : (a b : Bool) → (a && b) ≡ true → (a ≡ true) × (b ≡ true)
and_true true b e = (refl, e)
and_true false b e = absurd (cc)

pub alive_where : (w : World) (s : ℕ) → is_alive w s ≡ true → (b : ℕ) × IsHere w b × (is_live ((w.store b).transaction s) ≡ true)
unfolding is_alive
alive_where w s e =
    let h = found_below (is_alive_at w s) 8 e in
    let both = and_true (has w.gate.attached.bits h.0) (is_live ((w.store h.0).transaction s)) h.2 in
    (h.0, both.0, both.1)

pub live_is : (x : Transaction) → is_live x ≡ true → (t : Live) × (x ≡ Alive t)
live_is Absent e = absurd (cc)
live_is (Alive t) e = (t, refl)
live_is Dead e = absurd (cc)

pub absent_is : (x : Transaction) → is_live x ≡ false → is_dead x ≡ false → x ≡ Absent
absent_is Absent e f = refl
absent_is (Alive t) e f = absurd (cc)
absent_is Dead e f = absurd (cc)

pub asks_none : (p : Option Pending) → request_in p ≡ None → p ≡ None
asks_none None e = refl
asks_none (Some p) e = absurd (cc)

pub none_wanted : (live : Bool) (asks : Option Request) → asks ≡ None → where_live live asks ≡ None
none_wanted true asks e = e
none_wanted false asks e = refl

pub none_of : (live : Bool) → (live ≡ true → ⊥) → live ≡ false
none_of true h = absurd (h refl)
none_of false h = refl

-- a standing at which the one there is live needs one here
pub stands_live : (st : Store) (s : ℕ) (last : Transaction) (standing : Standing) (here there : Transaction) → Stands st s last standing here there
    → is_live here ≡ true → is_live there ≡ true → (asked : List Request) × (standing ≡ Ahead asked)
stands_live st s last Nowhere here there h at is = absurd (let n : false ≡ true = sym (ap is_live h.0) ∙ at in cc)
stands_live st s last Fresh here there h at is = absurd (let n : false ≡ true = sym (ap is_live h.1) ∙ is in cc)
stands_live st s last (Ahead asked) here there h at is = (asked, refl)
stands_live st s last Leaving here there h at is = absurd (let n : false ≡ true = sym (ap is_live h.1) ∙ is in cc)
stands_live st s last Fallen here there h at is = absurd (let n : false ≡ true = sym (ap is_live h) ∙ at in cc)
stands_live st s last Ending here there h at is = absurd (let n : false ≡ true = sym (ap is_live h) ∙ is in cc)

module _ (t : Tracked) (h : Invariant t) (s : ℕ) where
  -- who is live there is ahead of it, or as it is there, at some attached backend
  pub ahead_where : is_live ((single t).transaction s) ≡ true → (b : ℕ) × IsHere t.world b × ((asked : List Request) × (standing_of t.world s b ≡ Ahead asked))
  ahead_where live =
      let a = alive_where t.world s (h.alive s live) in
      (a.0, a.1, stands_live (single t) s (leaving_of t.world.tables s t.history) (standing_of t.world s a.0) ((t.world.store a.0).transaction s) ((single t).transaction s) (h.stands s a.0 a.1) a.2 live)

  -- who is ahead nowhere is not live there
  pub not_live : ((b : ℕ) (asked : List Request) → IsHere t.world b → standing_of t.world s b ≢ Ahead asked) → is_live ((single t).transaction s) ≡ false
  not_live none = none_of (is_live ((single t).transaction s)) (λ live. let a = ahead_where live in none a.0 a.2.0 a.1 a.2.1)

  pub absent : is_live ((single t).transaction s) ≡ false → (single t).transaction s ≡ Absent
  absent none = absent_is ((single t).transaction s) none (h.undead s)

  -- it asks for nothing there where it is not live, or where nothing is wanted
  pub clear_dead : is_live ((single t).transaction s) ≡ false → (single t).pending s ≡ None
  clear_dead none = asks_none ((single t).pending s) (h.posts s ∙ ap (λ (x : Bool). where_live x (wants_of (t.world.machine s).point (stage_at (t.world.machine s).point))) none)

  pub clear_idle : wants_of (t.world.machine s).point (stage_at (t.world.machine s).point) ≡ None → (single t).pending s ≡ None
  clear_idle none = asks_none ((single t).pending s) (h.posts s ∙ none_wanted (is_live ((single t).transaction s)) (wants_of (t.world.machine s).point (stage_at (t.world.machine s).point)) none)

-- where the transaction there is live, one that is as it is there, is live here
pub alike_live : (here there : Transaction) → Alike here there → (l : Live) × (u : Live) × (here ≡ Alive l) × (there ≡ Alive u)
alike_live (Alive l) (Alive u) a = (l, u, refl, refl)
alike_live here there a = absurd a
