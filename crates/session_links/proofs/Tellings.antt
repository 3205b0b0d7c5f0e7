-- What is told of a slot: whether it awaits an answer, and what is left where it is given up.
use Rattle.std.proofs.Common.{◌≡◌, ℕ, ◌<◌, Bool, true, false, List, length, Option, Some, None, refl, sym, ap, ◌∙◌, subst}
use Rattle.std.specs.Prelude.{is_some, is_none}
use Rattle.backend_trait.specs.declared.request.Request.{Request}
use Rattle.backend_trait.specs.Exchanges.{Exchange}
use Rattle.session_links.specs.declared.slot.Slot.{Slot}
use Rattle.session_links.specs.declared.slot.Slot.TheVariants.{Empty, Idle, Asked, Lost}
use Rattle.session_links.specs.Slots.{are_sound, is_awaited, is_sound, slot_at}
use Rattle.session_links.specs.Plans.{Linked, Gone, awaits, given_up, told_at, told_in}
use Rattle.session_links.proofs.Sound.{sound_at}

idle_told : (pending : Option Request) (plan : Option (List Exchange)) → is_none pending ≡ true → awaits (Linked pending plan) ≡ false
idle_told None plan is = refl
idle_told (Some request) plan is = absurd (cc)

asked_told : (pending : Option Request) (plan : Option (List Exchange)) → is_some pending ≡ true → awaits (Linked pending plan) ≡ true
asked_told None plan is = absurd (cc)
asked_told (Some request) plan is = refl

kept_told : (pending : Option Request) (plan : Option (List Exchange)) → is_none pending ≡ true → Linked pending plan ≡ given_up (Linked pending plan)
kept_told None plan is = refl
kept_told (Some request) plan is = absurd (cc)

gone_told : (pending : Option Request) (plan : Option (List Exchange)) → is_some pending ≡ true → Gone ≡ given_up (Linked pending plan)
gone_told None plan is = absurd (cc)
gone_told (Some request) plan is = refl

module _ {L : Type 0} (pending : L → Option Request) (plan : L → Option (List Exchange)) where
  awaits_told : (slot : Slot L) → is_sound pending slot ≡ true → awaits (told_in pending plan slot) ≡ is_awaited slot
  awaits_told Empty sound = refl
  awaits_told (Idle link) sound = idle_told (pending link) (plan link) sound
  awaits_told (Asked link) sound = asked_told (pending link) (plan link) sound
  awaits_told (Lost loss) sound = refl

  pub awaits_at : (slots : List (Slot L)) (b : ℕ) → are_sound pending slots ≡ true → b < length slots → awaits (told_at pending plan slots b) ≡ is_awaited (slot_at slots b)
  awaits_at slots b sound below = awaits_told (slot_at slots b) (sound_at pending slots b Empty sound below)

  -- what is asked is gone
  pub asked_gone : (slot : Slot L) (link : L) → slot ≡ Asked link → is_sound pending slot ≡ true → Gone ≡ given_up (told_in pending plan slot)
  asked_gone slot link is sound =
      subst (λ (s : Slot L). Gone ≡ given_up (told_in pending plan s)) (sym is) (gone_told (pending link) (plan link) (sym (ap (λ (s : Slot L). is_sound pending s) is) ∙ sound))

  -- what is not asked stays as it is
  pub same_told : (slot : Slot L) → is_sound pending slot ≡ true → ((link : L) → slot ≡ Asked link → ⊥) → told_in pending plan slot ≡ given_up (told_in pending plan slot)
  same_told Empty sound not = refl
  same_told (Idle link) sound not = kept_told (pending link) (plan link) sound
  same_told (Asked link) sound not = absurd (not link refl)
  same_told (Lost loss) sound not = refl
