use Rattle.std.proofs.Common.{◌≡◌, ◌<◌, false, length, arith}
use Rattle.plain_store.specs.States.{states_of}
use Rattle.plain_store.specs.Deciding.{waits_for}
use Rattle.plain_store.proofs.WaitLaws.{walk_begun, walk_on, walk_ended, fewer_left, nothing_left}
use Rattle.plain_store.proofs.waiting.leads_back.Goals as goal

pub walk-init : goal.walk-init
walk-init c =
    walk_begun (waits_for (states_of c.args.all)) c.args.at c.nobody-found.result c.mark_next.new.found c.nobody-followed.result c.nobody-found.ensures.none c.nobody-followed.ensures.none
    c.nobody-followed.ensures.len c.mark_next.ensures.next c.mark_next.ensures.only

pub walk-smaller : goal.walk-smaller
walk-smaller c =
    let below : c.in-Some.next < length c.walk.followed = omega (arith, c.walk.invariant.all, c.in-Some.ensures.some.0) in
    fewer_left c.walk.followed c.in-Some.next below c.in-Some.ensures.some.2

pub walk-preserved : goal.walk-preserved
walk-preserved c =
    let below : c.in-Some.next < length c.walk.followed = omega (arith, c.walk.invariant.all, c.in-Some.ensures.some.0) in
    walk_on (waits_for (states_of c.args.all)) c.args.at c.walk.found c.mark_next-in-Some.new.found c.walk.followed c.in-Some.next below c.in-Some.ensures.some.1
    c.mark_next-in-Some.ensures.kept c.mark_next-in-Some.ensures.next c.mark_next-in-Some.ensures.only c.walk.invariant

pub returns : goal.returns
returns c =
    walk_ended (waits_for (states_of c.args.all)) c.args.at c.walk.found c.walk.followed (c.first_open.ensures.none (nothing_left c.first_open.result c.in_default.not-Some)) c.walk.invariant
