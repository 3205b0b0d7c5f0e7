use Rattle.std.proofs.Common.{subst, sym}
use Rattle.plain_store.specs.Giving.{AreGiven}
use Rattle.plain_store.specs.States.{states_of}
use Rattle.plain_store.proofs.WaitLaws.{in_cycle_as}
use Rattle.plain_store.proofs.waiting.is_in_cycle.Goals as goal

pub of-all-requires : goal.of-all-requires
of-all-requires c = subst (AreGiven c.args.store.now) (sym c.as_slice.ensures.value) c.in_ok-given.ensures

pub returns : goal.returns
returns c = in_cycle_as c.args.store.now c.args.s.number (states_of c.of-all.result) c.leads_back.result c.of-all.ensures.states c.leads_back.ensures
