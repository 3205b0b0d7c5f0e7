use Rattle.std.proofs.Common.{ap, ◌∙◌}
use Rattle.session_links.specs.declared.slot.Slot.{Slot}
use Rattle.session_links.specs.Slots.{is_sound}
use Rattle.session_links.proofs.Sound.{set_length, sound_set}
use Rattle.session_links.proofs.links.Links.put_back.Goals as goal

pub invariant_of-self : goal.invariant_of-self
invariant_of-self g c = record {
  eight = set_length c.args.self.now.slots.items c.args.b.number c.replace.new.dest ∙ c.args.self.now.eight;
  sound = sound_set g.L.Link.pending c.args.self.now.slots.items c.args.b.number c.replace.new.dest c.args.self.now.sound
      (ap (λ (slot : Slot g.row.L.Denot). is_sound g.L.Link.pending slot) c.replace.ensures.after ∙ c.requires);
}
