use Rattle.std.proofs.Common.{◌∙◌, sym, ap, arith}
use Rattle.std.proofs.lemmas.List.{length-set}
use Rattle.backend_trait.specs.Store.{Store}
use Rattle.backend_rolls.proofs.CountLemmas.{counts_same}
use Rattle.session_seat.proofs.RollLemmas.{blank_next, counting_next, honest_next, known_lost, told_lost}
use Rattle.session_seat.proofs.SharedLemmas.{loss_at}
use Rattle.session_seat.proofs.world.World.lose.Goals as goal

pub invariant_of-self : goal.invariant_of-self
invariant_of-self g c =
    let world = c.args.self.now in
    record {
      enough = omega (arith, length-set world.shelf.items c.from-at.result c.lose.new.self, world.enough);
      known = known_lost g.B.Backend.meaning world.tables world.count world.shelf.items world.rolls c.from-at.result c.index_mut.result.now c.lose.new.self world.known (omega arith) world.enough c.index_mut.ensures.value
          c.lose.ensures.lost;
      honest = honest_next g.B.Backend.is_honest world.shelf.items c.from-at.result c.index_mut.result.now c.lose.new.self world.honest (omega (arith, world.enough)) c.index_mut.ensures.value c.lose.ensures.honest;
      prompt = honest_next g.B.Backend.is_prompt world.shelf.items c.from-at.result c.index_mut.result.now c.lose.new.self world.prompt (omega (arith, world.enough)) c.index_mut.ensures.value c.lose.ensures.prompt;
      steady = honest_next g.B.Backend.is_steady world.shelf.items c.from-at.result c.index_mut.result.now c.lose.new.self world.steady (omega (arith, world.enough)) c.index_mut.ensures.value c.lose.ensures.steady;
      told = told_lost g.B.Backend.meaning world.lost.bits c.with-self.result.bits world.count world.shelf.items c.from-at.result c.args.b.number c.lose.new.self world.told (omega arith) (omega (arith, world.enough))
          c.with-self.ensures.members (ap (λ (st : Store). st.lost) c.lose.ensures.lost);
      counts = counting_next g.B.Backend.meaning world.tables world.count world.shelf.items c.from-at.result c.index_mut.result.now c.lose.new.self world.counts (omega arith) world.enough c.index_mut.ensures.value
          (counts_same world.tables (g.B.Backend.meaning c.index_mut.result.now) (g.B.Backend.meaning c.lose.new.self) (ap (λ (st : Store). st.next) c.lose.ensures.lost));
      blank = blank_next g.B.Backend.meaning world.count world.shelf.items world.spares c.from-at.result c.lose.new.self world.blank (omega arith);
    }

pub returns-clause-lost : goal.returns-clause-lost
returns-clause-lost g c =
    let world = c.args.self.now in
    λ always. loss_at g.B.Backend.meaning world.gate.state world.tables world.count world.shelf.items c.from-at.result c.args.b c.index_mut.result.now c.lose.new.self world.lost.bits (omega arith) (omega arith) world.enough
    c.index_mut.ensures.value world.told (sym c.has.ensures ∙ c.if-has.false) c.lose.ensures.lost
