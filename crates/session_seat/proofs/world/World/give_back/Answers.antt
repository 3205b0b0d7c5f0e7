use Rattle.backend_rolls.specs.declared.spares.Spare.TheVariants.{Free}
use Rattle.session_seat.proofs.RollLemmas.{blank_put}
use Rattle.session_seat.proofs.SwapLemmas.{aside_unspent}
use Rattle.session_seat.proofs.world.World.give_back.Goals as goal

pub invariant_of-self : goal.invariant_of-self
invariant_of-self g c =
    let world = c.args.self.now in
    record {
      enough = world.enough;
      known = world.known;
      honest = world.honest;
      prompt = world.prompt;
      steady = world.steady;
      told = world.told;
      counts = world.counts;
      blank = blank_put g.B.Backend.meaning world.count world.shelf.items world.spares c.put.new.self c.args.spare Free world.blank (aside_unspent world.spares c.args.spare (c.is_aside.ensures.is.0 c.if-is_aside.true)) c.put.ensures;
    }
