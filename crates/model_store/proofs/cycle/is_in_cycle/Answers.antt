use Rattle.std.proofs.Common.{◌<◌, ◌∙◌, false, length, arith}
use Rattle.model_store.specs.Seats.{store_of}
use Rattle.model_store.proofs.WalkLaws.{walk_begun, walk_on, walk_ended, fewer_left, nothing_left, on_length}
use Rattle.model_store.proofs.cycle.is_in_cycle.Goals as goal

pub walk-init : goal.walk-init
walk-init c = record {
  all = c.nobody-followed.ensures.len;
  walked = λ numbers tables given.
      walk_begun (store_of numbers tables c.args.log.now c.args.seats.now false) c.args.at c.nobody-found.result c.mark_next.new.found c.nobody-followed.result c.nobody-found.ensures.none c.nobody-followed.ensures.none c.nobody-followed.ensures.len
      (c.mark_next.ensures.next numbers tables given) (c.mark_next.ensures.only numbers tables given);
}

pub walk-smaller : goal.walk-smaller
walk-smaller c =
    let below : c.in-Some.next < length c.walk.followed = omega (arith, c.walk.invariant.all, c.in-Some.ensures.some.0) in
    fewer_left c.walk.followed c.in-Some.next below c.in-Some.ensures.some.2

pub walk-preserved : goal.walk-preserved
walk-preserved c =
    let below : c.in-Some.next < length c.walk.followed = omega (arith, c.walk.invariant.all, c.in-Some.ensures.some.0) in record {
      all = on_length c.walk.followed c.in-Some.next ∙ c.walk.invariant.all;
      walked = λ numbers tables given.
          walk_on (store_of numbers tables c.args.log.now c.args.seats.now false) c.args.at c.walk.found c.mark_next-in-Some.new.found c.walk.followed c.in-Some.next below c.in-Some.ensures.some.1
          c.mark_next-in-Some.ensures.kept (c.mark_next-in-Some.ensures.next numbers tables given) (c.mark_next-in-Some.ensures.only numbers tables given) (c.walk.invariant.walked numbers tables given);
    }

pub returns : goal.returns
returns c = λ numbers tables given.
    walk_ended (store_of numbers tables c.args.log.now c.args.seats.now false) c.args.at c.walk.found c.walk.followed (c.first_open.ensures.none (nothing_left c.first_open.result c.in_default.not-Some)) (c.walk.invariant.walked numbers tables given)
