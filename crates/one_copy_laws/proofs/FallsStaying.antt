-- Who is alive at an attached backend does not die: where such a session moves, the same sessions die of the same.
use Rattle.std.proofs.Common.{◌≡◌, ◌≢◌, ℕ, zero, suc, ◌<◌, Bool, true, false, ◌||◌, List, refl, sym, ap, ◌∙◌, arith, inl, inr}
use Rattle.std.specs.Prelude.{◌&&◌, not, Option, Some, None, if◌then◌else◌}
use Rattle.pool_base.specs.declared.backend_id.BackendId.{BackendId}
use Rattle.backend_trait.specs.Rows.{with_at}
use Rattle.session_machine.specs.declared.machine.Machine.{Machine}
use Rattle.session_machine.specs.declared.machine.Stage.{Stage}
use Rattle.session_machine.specs.declared.machine.Stage.TheVariants.{Opening, Reading, Running, Locking, Inserting, Committing, Closing, RollingBack}
use Rattle.session_machine.specs.Answers.{lowest}
use Rattle.one_copy_model.specs.declared.deed.Deed.{Deed}
use Rattle.one_copy_model.specs.declared.deed.Entry.{Entry}
use Rattle.one_copy_model.specs.Numbers.{some_below}
use Rattle.one_copy_model.specs.SingleRun.{store_after}
use Rattle.one_copy_model.specs.World.{World}
use Rattle.one_copy_model.specs.Deaths.{is_live, is_alive_at, is_alive, stage_at, heard_from, mail_or, code_from, code_of_lowest, death_of, death_in, recorded, fell, fallen}
use Rattle.one_copy_model.specs.Own.{IsIn}
use Rattle.one_copy_model.proofs.Places.{same_or_other, with_at-other}
use Rattle.one_copy_model.proofs.Landing.{alive_same}

or_left : (a c : Bool) → a ≡ true → (a || c) ≡ true
or_left true c e = refl
or_left false c e = absurd (cc)

or_right : (a c : Bool) → c ≡ true → (a || c) ≡ true
or_right true c e = refl
or_right false c e = e

some_at : (p : ℕ → Bool) (n b : ℕ) → b < n → p b ≡ true → some_below p n ≡ true
some_at p zero b below is = absurd (omega (arith, below))
some_at p (suc n) b below is = elim (same_or_other b n) [
  | inl e ↦ or_left (p n) (some_below p n) (ap p (sym e) ∙ is)
  | inr other ↦ or_right (p n) (some_below p n) (some_at p n b (let z : b < n = omega (arith, below, other) in z) is)
]

-- who is alive somewhere is alive
pub alive_at : (w : World) (s b : ℕ) → b < 8 → IsIn w.gate.attached.bits b → is_live ((w.store b).transaction s) ≡ true → is_alive w s ≡ true
unfolding is_alive
alive_at w s b below in_it live = some_at (is_alive_at w s) 8 b below (ap (λ v. v && is_live ((w.store b).transaction s)) in_it ∙ live)

saved : (live alive : Bool) (death h : List Entry) → alive ≡ true → (if live && not alive then death else h) ≡ h
saved true true death h e = refl
saved false alive death h e = refl
saved true false death h e = absurd (let z : false ≡ true = e in cc)

module _ (w : World) (s : ℕ) (n : Machine) (alive : is_alive w s ≡ true) where
  abbrev pub stepped : World
  stepped = record { tables = w.tables; gate = w.gate; machine = with_at w.machine s n; store = w.store; mail = w.mail }

  code_same : (o : ℕ) → o ≢ s → (low : Option BackendId) → code_of_lowest stepped o low ≡ code_of_lowest w o low
  code_same o other None = refl
  code_same o other (Some b) = ap (λ (m : Machine). code_from (mail_or (w.mail o b.number) (heard_from m.session.heard b.number))) (with_at-other w.machine s n o other)

  death_same : (o : ℕ) → o ≢ s → (found : Option Stage) → death_in stepped o found ≡ death_in w o found
  death_same o other (Some (Inserting work posted)) = ap (death_of work) (code_same o other (lowest w.gate.attached.bits))
  death_same o other (Some (Opening work)) = refl
  death_same o other (Some (Reading work ticket)) = refl
  death_same o other (Some (Running work)) = refl
  death_same o other (Some (Locking work table)) = refl
  death_same o other (Some Committing) = refl
  death_same o other (Some Closing) = refl
  death_same o other (Some (RollingBack ending)) = refl
  death_same o other None = refl

  abbrev lives : List Entry → ℕ → Bool
  lives g o = is_live ((store_after w.tables g).transaction o)

  own_same : (o : ℕ) (g : List Entry) → o ≡ s → fell stepped o g ≡ fell w o g
  own_same o g e =
      let there : is_alive w o ≡ true = ap (is_alive w) e ∙ alive in
      saved (lives g o) (is_alive stepped o) (recorded o (death_in stepped o (stage_at (stepped.machine o).point)) g) g (alive_same w stepped refl refl o ∙ there)
      ∙ sym (saved (lives g o) (is_alive w o) (recorded o (death_in w o (stage_at (w.machine o).point)) g) g there)

  other_same : (o : ℕ) (g : List Entry) → o ≢ s → fell stepped o g ≡ fell w o g
  other_same o g other =
      ap (λ (a : Bool). if lives g o && not a then recorded o (death_in stepped o (stage_at (stepped.machine o).point)) g else g) (alive_same w stepped refl refl o)
      ∙ ap (λ (d : List Deed). if lives g o && not (is_alive w o) then recorded o d g else g)
      (ap (λ (m : Machine). death_in stepped o (stage_at m.point)) (with_at-other w.machine s n o other) ∙ death_same o other (stage_at (w.machine o).point))

  fell_same : (o : ℕ) (g : List Entry) → fell stepped o g ≡ fell w o g
  fell_same o g = elim (same_or_other o s) [ inl e ↦ own_same o g e | inr other ↦ other_same o g other ]

  pub stepped_falls : (h : List Entry) (k : ℕ) → fallen stepped h k ≡ fallen w h k
  unfolding fallen
  stepped_falls h zero = refl
  stepped_falls h (suc k) = ap (fell stepped k) (stepped_falls h k) ∙ fell_same k (fallen w h k)
