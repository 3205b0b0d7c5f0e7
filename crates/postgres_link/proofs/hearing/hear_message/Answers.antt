use Rattle.std.proofs.Common.{refl}
use Rattle.postgres_link.specs.Hearing.{breaks, ends}
use Rattle.postgres_link.proofs.Fronts.{went_on, shorter}
use Rattle.postgres_link.proofs.hearing.hear_message.Goals as goal

pub returns-in-Goes-clause-told : goal.returns-in-Goes-clause-told
returns-in-Goes-clause-told g c = (
  went_on c.args.listening.now.hearer c.step.new.self c.args.message.now c.args.length c.args.listening.now.heard _ c.args.listening.now.left c.args.inbox.now c.pass.new.self
      c.requires.fronts refl c.requires.room c.requires.none_left c.pass.ensures (rw c.in-Goes.is at c.in_ok-step.ensures.step),
  shorter c.args.length c.args.inbox.now c.pass.new.self c.pass.ensures c.requires.some c.requires.fronts.1,
)

pub returns-in-Ends-clause-told : goal.returns-in-Ends-clause-told
returns-in-Ends-clause-told g c =
    rw c.pass-in-Ends.ensures (ends {so_far = c.args.listening.now.heard} c.args.message.now c.args.length c.in-Ends.reply c.requires.fronts c.requires.room (rw c.in-Ends.is at c.in_ok-step.ensures.step))

pub returns-in-Breaks-clause-told : goal.returns-in-Breaks-clause-told
returns-in-Breaks-clause-told g c = breaks c.args.message.now c.args.length c.requires.fronts c.requires.room (rw c.in-Breaks.is at c.in_ok-step.ensures.step)
