use Rattle.std.proofs.Common.{◌≡◌, ℕ, ◌<◌, length, refl, ap, sym, subst, ◌∙◌, arith, rules}
use Rattle.session_player.specs.declared.slots.Slot.{Slot}
use Rattle.pool_base.specs.declared.session_id.SessionId.{SessionId}
use Rattle.session_machine.specs.declared.machine.ReadPolicy.{ReadPolicy}
use Rattle.online_recovery.specs.declared.layout.Layout.{Layout}
use Rattle.session_player.specs.Journals.{machine_in_slot, standing_in_slot}
use Rattle.session_player.specs.Slots.{IsPlaced}
use Rattle.session_player.proofs.Going.{machines_same, standings_same}
use Rattle.session_player.proofs.Placing.{placed_anew}
use Rattle.session_player.specs.Speaking.{hearer_in, hearers_of}
use Rattle.session_player.specs.Transcript.{input_ended}
use Rattle.session_player.proofs.Counting.{all_end, left_end, past_end}
use Rattle.session_player.proofs.player.end_each.Goals as goal

pub loop-slot-preserved : goal.loop-slot-preserved
loop-slot-preserved c =
    let i = c.loop-slot.slot-index in
    let slots = c.loop-slot.slots in
    let slot = c.slot-item.result in
    let below : i < length slots = omega (arith, c.loop-slot.auto.slots, c.loop-slot-test.true) in
    let Keeps : Slot → Type 0 = λ old. (before : ℕ) → IsPlaced before old → IsPlaced before c.end_input.new.slot in
    let Ends : Slot → Type 0 = λ old. hearer_in c.end_input.new.slot ≡ input_ended (hearer_in old) in
    let Same : Slot → Type 0 = λ old. (policy : ReadPolicy) → (s : SessionId) → machine_in_slot policy s c.end_input.new.slot ≡ machine_in_slot policy s old in
    let Rests : Slot → Type 0 = λ old. (layout : Layout) → (s : SessionId) → standing_in_slot layout s c.end_input.new.slot ≡ standing_in_slot layout s old in
    record {
      placed = placed_anew slots i slot c.end_input.new.slot c.loop-slot.invariant.placed below c.slot-item.is (subst Keeps (sym c.slot-item.is) c.end_input.ensures.placed);
      machines = λ policy. machines_same policy slots i slot c.end_input.new.slot below c.slot-item.is (λ s own. subst Same (sym c.slot-item.is) c.end_input.ensures.machine policy s) ∙ c.loop-slot.invariant.machines policy;
      done = λ n few. all_end slots c.args.slots.now i slot c.end_input.new.slot n below c.slot-item.is (subst Ends (sym c.slot-item.is) c.end_input.ensures.hearer) c.loop-slot.invariant.done c.loop-slot.invariant.left few;
      left = λ n past. left_end slots c.args.slots.now i c.end_input.new.slot n c.loop-slot.invariant.left past;
      standings = λ layout. standings_same layout slots i slot c.end_input.new.slot below c.slot-item.is (λ s own. subst Rests (sym c.slot-item.is) c.end_input.ensures.standing layout s) ∙ c.loop-slot.invariant.standings layout;
    }

pub loop-slot-init : goal.loop-slot-init
loop-slot-init c = record {
  placed = c.requires;
  machines = λ policy. refl;
  done = λ n few. let none : n ≡ 0 = omega (arith, few) in ap (hearers_of c.args.slots.now) none ∙ ap (λ (m : ℕ). input_ended (hearers_of c.args.slots.now m)) (sym none);
  left = λ n past. refl;
  standings = λ layout. refl;
}

pub returns-clause-hearers : goal.returns-clause-hearers
returns-clause-hearers c = λ n. past_end c.loop-slot.slots c.args.slots.now c.loop-slot.slot-index n (search rules) (search rules) c.loop-slot.invariant.done
