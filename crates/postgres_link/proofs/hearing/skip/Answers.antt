use Rattle.std.proofs.Common.{arith, refl, ap, length}
use Rattle.postgres_link.proofs.Fronts.{first_is, long_has_bytes, never_here, long_here, told_before}
use Rattle.postgres_link.proofs.hearing.skip.Goals as goal

pub returns-in_default : goal.returns-in_default
returns-in_default g c = absurd (let some = long_has_bytes c.args.inbox.now c.args.stated c.requires.long in let come = ap length c.as_slice.ensures in omega (arith, some, come))

pub returns-then-not-exceed : goal.returns-then-not-exceed
returns-then-not-exceed g c =
    let first = first_is c.args.inbox.now (long_has_bytes c.args.inbox.now c.args.stated c.requires.long) in
    never_here c.args.listening.now.hearer c.args.listening.now.heard c.args.listening.now.left _ c.args.stated c.args.inbox.now _ c.requires.none_left first c.requires.long (rw c.as_slice.ensures at c.if-not-exceed.ensures)

pub returns : goal.returns
returns g c =
    let first = first_is c.args.inbox.now (long_has_bytes c.args.inbox.now c.args.stated c.requires.long) in
    told_before c.pass_over.result _ _ _
    (long_here c.args.listening.now.hearer c.exceed.new.self c.args.listening.now.heard c.args.listening.now.left _ _ c.args.stated c.args.inbox.now _ c.requires.none_left refl first c.requires.long (rw c.as_slice.ensures at c.if-not-exceed.ensures))
    refl c.pass_over.ensures
