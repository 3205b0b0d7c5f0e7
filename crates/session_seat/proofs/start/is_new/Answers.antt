use Rattle.session_engine.specs.Cores.{machine_in}
use Rattle.session_engine.specs.Meaning.{machine_of}
use Rattle.session_seat.proofs.StepLemmas.{new_as, start_of}
use Rattle.session_seat.proofs.start.is_new.Goals as goal

pub returns : goal.returns
returns c =
    let standing = c.standing-standing.result.now in
    let own = c.is_session.ensures.0 c.if-not-is_session.false in
    let way = c.is_policy.ensures.0 c.if-not-is_policy.false in (
      λ is. new_as (machine_of standing) (machine_in c.args.core.now) standing.id c.args.s standing.policy c.args.policy.now c.standing-standing.ensures (c.is_at_start.ensures.0 is) own way,
      λ start. c.is_at_start.ensures.1 (start_of (machine_of standing) (machine_in c.args.core.now) standing.id c.args.s standing.policy c.args.policy.now c.standing-standing.ensures start own way),
    )
