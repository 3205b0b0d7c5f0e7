use Rattle.backend_rolls.specs.declared.spares.Spare.TheVariants.{Aside}
use Rattle.session_seat.proofs.RollLemmas.{blank_put}
use Rattle.session_seat.proofs.SwapLemmas.{free_unspent}
use Rattle.session_seat.proofs.world.World.set_aside.Goals as goal

pub invariant_of-self-2 : goal.invariant_of-self-2
invariant_of-self-2 g c =
    let world = c.args.self.now in
    record {
      enough = world.enough;
      known = world.known;
      honest = world.honest;
      prompt = world.prompt;
      steady = world.steady;
      told = world.told;
      counts = world.counts;
      blank = blank_put g.B.Backend.meaning world.count world.shelf.items world.spares c.put.new.self c.in_ok-found.found Aside world.blank (free_unspent world.spares c.in_ok-found.found c.in_ok-found.ensures.first.free) c.put.ensures;
    }
