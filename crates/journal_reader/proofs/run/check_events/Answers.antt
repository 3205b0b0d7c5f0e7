use Rattle.std.proofs.Common.{rules, ◌≡◌, ◌<◌, length, arith}
use Rattle.std.proofs.lemmas.Bool.Decides.{nat_tests}
use Rattle.world_program.specs.Meaning.{world_of}
use Rattle.journal_reader.proofs.Tables.{within_of}
use Rattle.journal_reader.proofs.Running.{front_is_fit, front_leads, front_of_one_store, none_left}
use Rattle.journal_reader.proofs.run.check_events.Goals as goal

pub behind-requires-clause-within : goal.behind-requires-clause-within
behind-requires-clause-within c = within_of c.args.start.now.catalogue c.requires.allowed

pub behind-requires-clause-fit : goal.behind-requires-clause-fit
behind-requires-clause-fit c =
    front_is_fit c.args.start.now c.args.lines.now c.lines.left.now c.lines.n (world_of c.lines.w) c.lines.invariant.0

pub lines-preserved : goal.lines-preserved
lines-preserved c =
    let back = c.split_at.ensures.back_len in
    let some = c.in-Some.ensures.some in
    let room = c.lines.invariant.1 in (
      front_leads c.args.start.now c.args.lines.now c.lines.left.now c.split_at.result.0.now c.split_at.result.1.now c.lines.n (world_of c.lines.w) (world_of c.in-Ok.next)
          c.lines.invariant.0 c.split_at.ensures.by_index.0 c.in-Ok.ensures,
      omega (arith, back, some, room),
    )

pub returns-clause-one_store : goal.returns-clause-one_store
returns-clause-one_store c =
    let few : c.args.start.now.attached.bits < 256 = search rules in
    let none : length c.lines.left.now ≡ 0 = grind (arith, nat_tests) in
    front_of_one_store c.args.start.now c.args.lines.now c.lines.left.now c.lines.n (world_of c.lines.w) c.requires.allowed few (none_left c.lines.left.now none) c.lines.invariant.0
