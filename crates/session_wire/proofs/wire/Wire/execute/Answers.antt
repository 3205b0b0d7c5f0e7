use Rattle.std.proofs.Common.{ℕ, ℤ, List, subst, w32}
use Rattle.std.proofs.lemmas.Int.{to_z-of_z}
use Rattle.wire_session.specs.Kept.{portal_of}
use Rattle.wire_extended.specs.Executing.{Leaves, TellsExecute}
use Rattle.session_wire.specs.Asking.{has_failed}
use Rattle.session_wire.specs.Heeds.{LeadsTo}
use Rattle.session_wire.specs.Hears.{with_session}
use Rattle.session_wire.specs.Shown.{View, shown}
use Rattle.session_wire.proofs.wire.Wire.execute.Goals as goal

pub returns-clause-executes : goal.returns-clause-executes
returns-clause-executes c = record {
  what = c.in_ok-executed.executed;
  tells = subst (λ (v : View). TellsExecute (has_failed v) v.session.implicit c.args.limit (portal_of c.args.portal v.session.portals) c.in_ok-executed.executed) c.in_ok-make_room.ensures.same
      (subst (λ (name : List ℕ). TellsExecute (has_failed (shown c.make_room.new.self)) c.make_room.new.self.session.implicit c.args.limit (portal_of name c.make_room.new.self.session.portals) c.in_ok-executed.executed) c.as_slice.ensures
      (subst (λ (limit : ℤ). TellsExecute (has_failed (shown c.make_room.new.self)) c.make_room.new.self.session.implicit limit (portal_of c.as_slice.result.now c.make_room.new.self.session.portals) c.in_ok-executed.executed) (to_z-of_z w32 c.args.limit c.ranges.limit)
      c.in_ok-executed.ensures.tells));
  session = c.execute.new.session;
  leaves = subst (λ (v : View). Leaves c.in_ok-executed.executed c.args.portal v.session c.execute.new.session) c.in_ok-make_room.ensures.same
      (subst (λ (name : List ℕ). Leaves c.in_ok-executed.executed name c.make_room.new.self.session c.execute.new.session) c.as_slice.ensures c.in_ok-executed.ensures.leaves);
  leads = subst (λ (v : View). LeadsTo c.in_ok-executed.executed c.args.portal c.args.limit c.in_ok-body.body (with_session c.execute.new.session v) (shown c.led.new.self)) c.in_ok-make_room.ensures.same
      (subst (λ (limit : ℤ). LeadsTo c.in_ok-executed.executed c.args.portal limit c.in_ok-body.body (with_session c.execute.new.session (shown c.make_room.new.self)) (shown c.led.new.self)) (to_z-of_z w32 c.args.limit c.ranges.limit)
      c.in_ok-body.ensures.leads);
}
