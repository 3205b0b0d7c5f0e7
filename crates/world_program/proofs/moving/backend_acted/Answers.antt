use Rattle.std.proofs.Common.{◌∙◌, ap, Some}
use Rattle.backend_trait.specs.declared.answer.Answer.{Answer}
use Rattle.one_copy_model.specs.World.{World}
use Rattle.world_program.specs.Meaning.{world_of}
use Rattle.world_program.specs.Steps.{with_answer}
use Rattle.world_program.proofs.moving.backend_acted.Goals as goal

pub returns : goal.returns
returns c =
    c.mailed.ensures
    ∙ ap (λ (answer : Answer). with_answer (world_of c.in_ok-acted.acted) c.args.s.number c.args.b.number (Some answer)) c.in_ok-copy.ensures.cases
    ∙ ap (λ (w : World). with_answer w c.args.s.number c.args.b.number (Some c.args.answer.now)) c.in_ok-acted.ensures
