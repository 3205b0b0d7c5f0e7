use Rattle.std.proofs.Common.{◌<◌, rules}
use Rattle.session_seat.proofs.RollLemmas.{blank_first, counting_first, honest_first, known_first, told_first}
use Rattle.session_seat.proofs.SharedLemmas.{first_at}
use Rattle.session_seat.proofs.world.World.new.Goals as goal

pub invariant_of-result : goal.invariant_of-result
invariant_of-result g c = record {
  enough = c.requires.enough;
  known = known_first g.B.Backend.meaning c.args.tables c.args.count c.args.shelf.items 8 c.new-roll.result c.new-roll.ensures c.requires.enough c.requires.prepared;
  honest = honest_first g.B.Backend.is_honest c.args.shelf.items c.requires.honest;
  prompt = honest_first g.B.Backend.is_prompt c.args.shelf.items c.requires.prompt;
  steady = honest_first g.B.Backend.is_steady c.args.shelf.items c.requires.steady;
  told = told_first g.B.Backend.meaning c.args.tables c.args.count c.args.shelf.items c.requires.enough c.requires.prepared;
  counts = counting_first g.B.Backend.meaning c.args.tables c.args.count c.args.shelf.items c.requires.enough c.requires.prepared;
  blank = blank_first g.B.Backend.meaning c.args.count c.args.shelf.items c.new.result c.requires.spare;
}

pub returns-clause-first : goal.returns-clause-first
returns-clause-first g c =
    let few : c.first_of.result.bits < 256 = search rules in
    first_at g.B.Backend.meaning c.new-gate.result.state c.args.tables c.args.count c.args.shelf.items c.first_of.result few c.first_of.ensures c.new-gate.ensures c.requires.prepared
