use Rattle.std.proofs.Common.{sym, ap, ◌∙◌}
use Rattle.backend_trait.proofs.Telling.{never}
use Rattle.session_machine.specs.Rules.{next_action}
use Rattle.session_engine.specs.Cores.{machine_in}
use Rattle.world_program.specs.Deciding.{post_due}
use Rattle.world_program.proofs.Sessions.{no_post}
use Rattle.world_program.proofs.takes.may_post.Goals as goal

pub posts-requires : goal.posts-requires
posts-requires c = sym (c.post_due.ensures ∙ ap post_due c.asks.ensures.is) ∙ c.in-Some.is

pub returns-in-None : goal.returns-in-None
returns-in-None c =
    never _ (no_post (next_action (machine_in c.args.core.now)) c.args.b c.args.request.now (sym (c.post_due.ensures ∙ ap post_due c.asks.ensures.is) ∙ c.in-None.is))
