use Rattle.std.proofs.Common.{Bool, sym, subst}
use Rattle.backend_trait.proofs.Telling.{Tells}
use Rattle.session_machine.specs.Rules.{next_action}
use Rattle.session_machine.specs.Allowed.{MayHappen}
use Rattle.session_machine.specs.declared.action.SessionEvent.TheVariants as events
use Rattle.session_engine.specs.Cores.{machine_in}
use Rattle.world_program.proofs.Sessions.{post_is, post_told}
use Rattle.world_program.proofs.takes.posts.Goals as goal

pub request-requires : goal.request-requires
request-requires c = post_is (next_action (machine_in c.args.core.now)) c.args.due c.requires

pub returns : goal.returns
returns c =
    let m = machine_in c.args.core.now in
    subst (λ (t : Bool). Tells t (MayHappen m (events.Posted c.args.b c.args.request.now))) (sym c.is_post.ensures)
    (post_told (next_action m) c.args.due c.args.b _ c.args.request.now c.requires c.in_ok-made.ensures.is)
