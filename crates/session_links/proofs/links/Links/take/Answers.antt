use Rattle.std.proofs.Common.{◌<◌, length, ap, ◌∙◌, arith}
use Rattle.session_links.specs.declared.slot.Slot.{Slot}
use Rattle.session_links.specs.Slots.{is_sound}
use Rattle.session_links.proofs.Sound.{set_length, sound_at, sound_set}
use Rattle.session_links.proofs.links.Links.take.Goals as goal

pub invariant_of-self : goal.invariant_of-self
invariant_of-self g c = record {
  eight = set_length c.args.self.now.slots.items c.args.b.number c.replace.new.dest ∙ c.args.self.now.eight;
  sound = sound_set g.L.Link.pending c.args.self.now.slots.items c.args.b.number c.replace.new.dest c.args.self.now.sound
      (ap (λ (slot : Slot g.row.L.Denot). is_sound g.L.Link.pending slot) c.replace.ensures.after);
}

pub returns-clause-sound : goal.returns-clause-sound
returns-clause-sound g c =
    let below : c.args.b.number < length c.args.self.now.slots.items = omega (arith, c.args.b.below_8, c.args.self.now.eight) in
    ap (λ (slot : Slot g.row.L.Denot). is_sound g.L.Link.pending slot) (c.replace.ensures.value ∙ c.index_mut.ensures.value)
    ∙ sound_at g.L.Link.pending c.args.self.now.slots.items c.args.b.number _ c.args.self.now.sound below
