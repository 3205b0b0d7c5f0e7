use Rattle.std.proofs.Common.{◌<◌, arith, subst, sym}
use Rattle.std.proofs.lemmas.Option.{slice_get_read}
use Rattle.plain_store.specs.Giving.{AreGiven}
use Rattle.plain_store.specs.States.{states_of}
use Rattle.plain_store.proofs.AnswerLaws.{lost_told, act_as}
use Rattle.plain_store.proofs.answering.may_act.Goals as goal

pub of-all-requires : goal.of-all-requires
of-all-requires c = subst (AreGiven c.args.store.now) (sym c.as_slice.ensures.value) c.in_ok-given.ensures

pub returns-then-store : goal.returns-then-store
returns-then-store c = lost_told c.args.store.now c.args.s.number c.args.answer.now c.if-store.true

pub returns : goal.returns
returns c =
    let d = c.args.store.now in
    let below : c.args.s.number < 65 = omega (arith, c.args.s.up_to_64) in
    act_as d c.args.s.number c.args.answer.now (states_of c.of-all.result) c.index-mark.result.now c.may_pending.result c.if-store.false c.of-all.ensures.states
    (slice_get_read d.crossed.items 65 c.args.s.number c.index-mark.result.now (sym d.marked) below c.index-mark.ensures) c.may_pending.ensures
