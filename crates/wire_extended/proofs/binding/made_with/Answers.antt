use Rattle.std.proofs.Common.{Option, subst}
use Rattle.wire_session.specs.declared.refusal.Refusal.{Refusal}
use Rattle.wire_extended.specs.declared.values.Read.{Read}
use Rattle.wire_extended.specs.Binding.{TellsRead}
use Rattle.wire_extended.specs.Naming.{TellsNewPortal}
use Rattle.wire_extended.proofs.BindLemmas.{taken_so}
use Rattle.wire_extended.proofs.binding.made_with.Goals as goal

pub returns-in-Some : goal.returns-in-Some
returns-in-Some c = taken_so c.args.what.now c.args.session.now.portals c.args.binding.now c.in-Some.refusal c.kinds_of.result.now c.as_slice-formats.result.now
    c.as_slice.result.now c.as_slice-in-Values.result.now c.in-Values.values c.kinds_of.ensures c.as_slice-formats.ensures c.as_slice.ensures c.as_slice-in-Values.ensures
    (subst (λ (read : Read). TellsRead c.kinds_of.result.now c.as_slice-formats.result.now c.as_slice.result.now read) c.in-Values.is c.in_ok-code.ensures)
    (subst (λ (why : Option Refusal). TellsNewPortal c.as_slice-in-Values.result.now c.args.session.now.portals why) c.in-Some.is c.in_ok-refusal-in-Values.ensures)
