-- One session among all.
use mathlib.Core.HLevel.{is_prop→PathP}
use native.Mathlib.Bridge.{le_prop}
use Rattle.std.proofs.Common.{◌≡◌, ◌<◌, ◌≤◌, ℕ, ◌==◌, Bool, true, false, refl, sym, ap, ◌∙◌, subst, inl, inr}
use Rattle.std.specs.Prelude.{if◌then◌else◌}
use Rattle.std.proofs.lemmas.Bool.Decides.{eqb_tells}
use Rattle.pool_base.specs.Sets.{has}
use Rattle.pool_base.specs.declared.session_id.SessionId.{SessionId}
use Rattle.session_machine.specs.declared.machine.Machine.{Machine}
use Rattle.session_machine.specs.Rules.{next_action}
use Rattle.online_recovery.specs.declared.standing.Standing.{Standing}
use Rattle.online_recovery.specs.Rules.{next_action as recovery_action}
use Rattle.session_seat.specs.Schedule.{with_machine}
use Rattle.recovery_seat.specs.Schedule.{with_standing}
use Rattle.recovery_seat.specs.Steps.{IsAt, RecoversAt, Fits}

same_number : (m n : ℕ) → (m == n) ≡ true → m ≡ n
same_number m n e = elim (eqb_tells m n) [
  | inl p ↦ p.1
  | inr p ↦ absurd (let f : true ≡ false = sym e ∙ p.0 in cc)
]

pub itself : (n : ℕ) → (n == n) ≡ true
itself n = elim (eqb_tells n n) [
  | inl p ↦ p.0
  | inr p ↦ absurd (p.1 refl)
]

-- a session is its number
pub same_session : (s t : SessionId) → s.number ≡ t.number → s ≡ t
same_session s t e =
    λ i. record {
      number = e i;
      from_one = is_prop→PathP (λ j. 1 ≤ e j) (λ j. le_prop) s.from_one t.from_one i;
      up_to_64 = is_prop→PathP (λ j. e j ≤ 64) (λ j. le_prop) s.up_to_64 t.up_to_64 i;
    }

pub is_that : (t s : SessionId) → (t.number == s.number) ≡ true → t ≡ s
is_that t s e = same_session t s (same_number t.number s.number e)

-- where session s stands as it stood, all do
self_at : {A : Type 0} (all : SessionId → A) (s t : SessionId) (m : A) → all s ≡ m → (b : Bool) → (b ≡ true → t ≡ s) → (if b then m else all t) ≡ all t
self_at all s t m is true same = sym is ∙ ap all (sym (same refl))
self_at all s t m is false same = refl

pub machine_self : (all : SessionId → Machine) (s : SessionId) (m : Machine) → all s ≡ m → with_machine all s m ≡ all
machine_self all s m is = λ i t. self_at all s t m is (t.number == s.number) (is_that t s) i

pub standing_self : (all : SessionId → Standing) (s : SessionId) (m : Standing) → all s ≡ m → with_standing all s m ≡ all
standing_self all s m is = λ i t. self_at all s t m is (t.number == s.number) (is_that t s) i

pub machine_here : (all : SessionId → Machine) (s : SessionId) (m : Machine) → with_machine all s m s ≡ m
machine_here all s m = ap (λ (b : Bool). if b then m else all s) (itself s.number)

pub standing_here : (all : SessionId → Standing) (s : SessionId) (m : Standing) → with_standing all s m s ≡ m
standing_here all s m = ap (λ (b : Bool). if b then m else all s) (itself s.number)

-- the others fit a set, wherever session s stands
pub still_fits : (others : ℕ) (s : SessionId) (machines : SessionId → Machine) (recoveries : SessionId → Standing) (m : Machine) (r : Standing)
    → Fits others s machines recoveries → Fits others s (with_machine machines s m) (with_standing recoveries s r)
still_fits others s machines recoveries m r fits = record {
  sessions = λ o b other is. fits.sessions o b other (subst (λ (c : Bool). IsAt b (next_action (if c then m else machines o))) other is);
  recovers = λ o b other is. fits.recovers o b other (subst (λ (c : Bool). RecoversAt b (recovery_action (if c then r else recoveries o))) other is);
}

-- and a larger set
pub fits_more : (few many : ℕ) (s : SessionId) (machines : SessionId → Machine) (recoveries : SessionId → Standing) → ((b : ℕ) → b < 8 → has few b ≡ true → has many b ≡ true)
    → Fits few s machines recoveries → Fits many s machines recoveries
fits_more few many s machines recoveries more fits = record {
  sessions = λ o b other is. more b.number b.below_8 (fits.sessions o b other is);
  recovers = λ o b other is. more b.number b.below_8 (fits.recovers o b other is);
}
