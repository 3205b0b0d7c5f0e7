use Rattle.std.proofs.Common.{ℕ, ℤ, List, None, ◌++◌, refl, sym, ap, subst, ◌∙◌, w32}
use Rattle.std.specs.Option.{option_map}
use Rattle.std.proofs.lemmas.Int.{to_z-of_z}
use Rattle.wire_session.specs.Giving.{advanced}
use Rattle.wire_session.specs.Kept.{portal_of}
use Rattle.wire_session.specs.Standing.{PortalStands}
use Rattle.wire_extended.specs.declared.executing.Executed.{Executed}
use Rattle.session_wire.specs.Heeds.{LeadsTo}
use Rattle.session_wire.specs.Hears.{with_session}
use Rattle.session_wire.specs.Shown.{shown}
use Rattle.session_wire.proofs.wire.Wire.led.Goals as goal

pub returns-in_ok-extend_from_slice-in-Bytes-clause-leads : goal.returns-in_ok-extend_from_slice-in-Bytes-clause-leads
returns-in_ok-extend_from_slice-in-Bytes-clause-leads c =
    let old = c.args.self.now.session.portals in
    let session = record c.args.self.now.session { portals = c.advance.new.self } in
    subst (λ (e : Executed). LeadsTo e c.args.portal c.args.limit None (shown c.args.self.now)
    (record (with_session session (shown c.args.self.now)) { output = c.extend_from_slice.new.self.items })) (sym c.in-Bytes.is) (
      c.advance.new.self,
      subst (λ (name : List ℕ). PortalStands name (option_map (advanced c.args.limit) (portal_of name old)) old c.advance.new.self) c.as_slice-in-Bytes.ensures
          (subst (λ (limit : ℤ). PortalStands c.as_slice-in-Bytes.result.now (option_map (advanced limit) (portal_of c.as_slice-in-Bytes.result.now old)) old c.advance.new.self) (to_z-of_z w32 c.args.limit c.ranges.limit) c.advance.ensures),
      refl,
      ap (λ (bytes : List ℕ). record (with_session session (shown c.args.self.now)) { output = bytes })
          (c.in_ok-extend_from_slice-in-Bytes.ensures.items ∙ ap (λ (bytes : List ℕ). c.args.self.now.output.bytes.items ++ bytes) c.as_slice.ensures),
    )
