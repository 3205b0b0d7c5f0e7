use Rattle.std.proofs.Common.{subst, sym}
use Rattle.std.specs.Prelude.{option_map}
use Rattle.plain_store.specs.Phases.{claim_of}
use Rattle.plain_store.specs.Giving.{AreGiven}
use Rattle.plain_store.specs.States.{states_of}
use Rattle.plain_store.proofs.WaitLaws.{held_up_as}
use Rattle.plain_store.proofs.waiting.is_held_up.Goals as goal

pub of-all-requires : goal.of-all-requires
of-all-requires c = subst (AreGiven c.args.store.now) (sym c.as_slice.ensures.value) c.in_ok-given.ensures

pub returns : goal.returns
returns c =
    held_up_as c.args.store.now c.args.s.number (states_of c.of-all.result) (option_map claim_of c.wish_at.result) c.taken_wish.result c.of-all.ensures.states c.wish_at.ensures c.taken_wish.ensures
