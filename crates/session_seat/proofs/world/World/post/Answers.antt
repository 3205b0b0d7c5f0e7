use Rattle.std.proofs.Common.{arith}
use Rattle.std.proofs.lemmas.List.{length-set}
use Rattle.backend_trait.specs.Store.{posted}
use Rattle.backend_rolls.proofs.CountLemmas.{counts_same}
use Rattle.session_seat.proofs.RollLemmas.{blank_next, counting_next, honest_next, known_next, told_next}
use Rattle.session_seat.proofs.SharedLemmas.{idle_at, stores_by, where_on}
use Rattle.session_seat.proofs.world.World.post.Goals as goal

pub invariant_of-self : goal.invariant_of-self
invariant_of-self g c =
    let world = c.args.self.now in
    record {
      enough = omega (arith, length-set world.shelf.items c.from-at.result c.post_at.new.store, world.enough);
      known = known_next g.B.Backend.meaning world.tables world.count world.shelf.items world.rolls c.from-at.result c.index_mut.result.now c.post_at.new.store c.post_at.new.roll world.known (omega arith) world.enough (omega arith)
          c.index_mut.ensures.value c.post_at.ensures.tables c.post_at.ensures.known;
      honest = honest_next g.B.Backend.is_honest world.shelf.items c.from-at.result c.index_mut.result.now c.post_at.new.store world.honest (omega (arith, world.enough)) c.index_mut.ensures.value c.post_at.ensures.honest;
      prompt = honest_next g.B.Backend.is_prompt world.shelf.items c.from-at.result c.index_mut.result.now c.post_at.new.store world.prompt (omega (arith, world.enough)) c.index_mut.ensures.value c.post_at.ensures.prompt;
      steady = honest_next g.B.Backend.is_steady world.shelf.items c.from-at.result c.index_mut.result.now c.post_at.new.store world.steady (omega (arith, world.enough)) c.index_mut.ensures.value c.post_at.ensures.steady;
      told = told_next g.B.Backend.meaning world.lost.bits world.count world.shelf.items c.from-at.result c.index_mut.result.now c.post_at.new.store world.told (omega arith) world.enough c.index_mut.ensures.value c.post_at.ensures.lost;
      counts = counting_next g.B.Backend.meaning world.tables world.count world.shelf.items c.from-at.result c.index_mut.result.now c.post_at.new.store world.counts (omega arith) world.enough c.index_mut.ensures.value
          (counts_same world.tables (g.B.Backend.meaning c.index_mut.result.now) (g.B.Backend.meaning c.post_at.new.store) c.post_at.ensures.next);
      blank = blank_next g.B.Backend.meaning world.count world.shelf.items world.spares c.from-at.result c.post_at.new.store world.blank (omega arith);
    }

pub returns-clause-idle : goal.returns-clause-idle
returns-clause-idle g c =
    let world = c.args.self.now in
    where_on c.post_at.result
    (idle_at g.B.Backend.meaning world.tables world.count world.shelf.items c.from-at.result c.args.b.number c.index_mut.result.now c.post_at.new.store (omega arith) (omega arith) world.enough c.index_mut.ensures.value c.args.s.number)
    c.post_at.ensures.idle

pub returns-clause-posted : goal.returns-clause-posted
returns-clause-posted g c =
    let world = c.args.self.now in
    where_on c.post_at.result
    (stores_by g.B.Backend.meaning world.tables world.count world.shelf.items c.from-at.result c.args.b.number c.index_mut.result.now c.post_at.new.store (omega arith) (omega arith) world.enough c.index_mut.ensures.value
    (λ st. posted st c.args.s.number c.args.request))
    c.post_at.ensures.posted
