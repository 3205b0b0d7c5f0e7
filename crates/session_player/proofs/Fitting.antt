-- The backends of the other sessions.
use Rattle.std.proofs.Common.{◌≡◌, ℕ, suc, ◌+◌, ◌-◌, ◌<◌, ◌≤◌, ◌==◌, true, false, List, length, get_or, sym, ap, ◌∙◌, subst, inl, inr, arith}
use Rattle.std.proofs.lemmas.Bool.Decides.{eqb_tells, leb_tells}
use Rattle.std.proofs.lemmas.List.{get_or_past}
use Rattle.pool_base.specs.Sets.{has}
use Rattle.pool_base.specs.declared.backend_id.BackendId.{BackendId}
use Rattle.pool_base.specs.declared.session_id.SessionId.{SessionId}
use Rattle.session_machine.specs.declared.machine.ReadPolicy.{ReadPolicy}
use Rattle.online_recovery.specs.declared.layout.Layout.{Layout}
use Rattle.recovery_seat.specs.Steps.{Fits}
use Rattle.session_player.specs.declared.slots.Slot.{Slot}
use Rattle.session_player.specs.declared.slots.Slot.TheVariants.{Free}
use Rattle.session_player.specs.Journals.{machines_of, standings_of}
use Rattle.session_player.specs.Others.{IsAmong, OthersAreAmong}
use Rattle.session_player.proofs.Going.{slot_read}

-- another session is at another place
elsewhere : (s o : SessionId) (at : ℕ) → s.number ≡ suc at → (o.number == s.number) ≡ false → ¬ (o.number - 1 ≡ at)
elsewhere s o at is other same = elim (eqb_tells o.number s.number) [
  | inl p ↦ let never : true ≡ false = sym p.0 ∙ other in absurd (cc)
  | inr p ↦ p.1 (omega (arith, is, same, o.from_one))
]

pub fits_others : (policy : ReadPolicy) (layout : Layout) (slots : List Slot) (bits at : ℕ) (s : SessionId) → s.number ≡ suc at → OthersAreAmong bits at slots → Fits bits s (machines_of policy slots) (standings_of layout slots)
fits_others policy layout slots bits at s is among = record {
  sessions = λ o b other due. (among (o.number - 1) (elsewhere s o at is other)).session policy o b due;
  recovers = λ o b other due. (among (o.number - 1) (elsewhere s o at is other)).recovery layout o b due;
}

-- where no session is connected there is none
pub free_among : (bits : ℕ) → IsAmong bits Free
free_among bits = record { session = λ policy s b due. absurd due; recovery = λ layout s b due. absurd due }

-- a set with more in it
among_more : (bits more : ℕ) (slot : Slot) → ((b : BackendId) → has bits b.number ≡ true → has more b.number ≡ true) → IsAmong bits slot → IsAmong more slot
among_more bits more slot keeps among = record {
  session = λ policy s b due. keeps b (among.session policy s b due);
  recovery = λ layout s b due. keeps b (among.recovery layout s b due);
}

-- one more of the slots
pub among_next : (slots : List Slot) (bits more i at : ℕ) (slot : Slot) → i < length slots → slot ≡ get_or slots i slot → ((b : BackendId) → has bits b.number ≡ true → has more b.number ≡ true) → IsAmong more slot
    → ((j : ℕ) → j < i → ¬ (j ≡ at) → IsAmong bits (get_or slots j Free)) → (j : ℕ) → j < i + 1 → ¬ (j ≡ at) → IsAmong more (get_or slots j Free)
among_next slots bits more i at slot below read keeps here before j less other = elim (eqb_tells j i) [
  | inl p ↦ subst (IsAmong more) (sym (ap (λ (n : ℕ). get_or slots n Free) p.1 ∙ slot_read slots i slot below read)) here
  | inr p ↦ among_more bits more (get_or slots j Free) keeps (before j (omega (arith, less, p.1)) other)
]

-- that slot is passed over
pub among_but : (slots : List Slot) (bits i at : ℕ) → i ≡ at → ((j : ℕ) → j < i → ¬ (j ≡ at) → IsAmong bits (get_or slots j Free)) → (j : ℕ) → j < i + 1 → ¬ (j ≡ at) → IsAmong bits (get_or slots j Free)
among_but slots bits i at is before j less other = before j (omega (arith, less, is, other)) other

-- behind all slots there is none
pub among_all : (slots : List Slot) (bits i at : ℕ) → length slots ≤ i → ((j : ℕ) → j < i → ¬ (j ≡ at) → IsAmong bits (get_or slots j Free)) → OthersAreAmong bits at slots
among_all slots bits i at past before j other = elim (leb_tells i j) [
  | inl p ↦ subst (IsAmong bits) (sym (get_or_past slots j Free (omega (arith, past, p.1)))) (free_among bits)
  | inr p ↦ before j p.1 other
]
