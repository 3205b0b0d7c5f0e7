use Rattle.plain_store.specs.Meaning.{store_of}
use Rattle.plain_store.proofs.AnsweredLaws.{refused_is, answered_is}
use Rattle.plain_store.proofs.steps.act_on.Goals as goal

pub returns-then-is_refusal : goal.returns-then-is_refusal
returns-then-is_refusal c =
    refused_is c.args.store.now c.args.s (store_of c.refuse.new.store) c.args.request.now c.args.told.now c.is_refusal.result c.is_refusal.ensures c.if-is_refusal.true c.refuse.ensures

pub returns : goal.returns
returns c =
    answered_is c.args.store.now c.args.s (store_of c.answer.new.store) c.args.request.now c.args.told.now c.is_refusal.result c.answer.result c.is_refusal.ensures c.if-is_refusal.false c.answer.ensures
