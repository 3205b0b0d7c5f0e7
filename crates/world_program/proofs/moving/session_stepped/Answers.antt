use Rattle.std.proofs.Common.{sym, ap, ◌∙◌, subst}
use Rattle.session_machine.specs.Allowed.{MayHappen as MachineMay}
use Rattle.one_copy_model.specs.World.{World}
use Rattle.world_program.specs.Meaning.{world_of}
use Rattle.world_program.specs.Steps.{with_backends}
use Rattle.world_program.proofs.Playing.{post_kept}
use Rattle.world_program.proofs.Stepping.{lets_move, of_session, kept_behind, stepped_is}
use Rattle.world_program.proofs.moving.session_stepped.Goals as goal

pub gated-gated-requires : goal.gated-gated-requires
gated-gated-requires c = lets_move (world_of c.args.w) c.args.s.number c.args.event.now c.requires.may.1

pub backends_moved-requires-clause-of_session : goal.backends_moved-requires-clause-of_session
backends_moved-requires-clause-of_session c = of_session ((world_of c.args.w).machine c.args.s.number) c.args.event.now c.requires.may.0

pub backends_moved-requires-clause-kept : goal.backends_moved-requires-clause-kept
backends_moved-requires-clause-kept c =
    kept_behind (world_of c.args.w) (world_of c.gated-gated.result) c.args.event.now c.gated-gated.ensures
    (post_kept (world_of c.args.w) c.args.s.number c.args.event.now c.requires.fit c.requires.may.0)

pub session_moved-requires : goal.session_moved-requires
session_moved-requires c =
    let w = world_of c.args.w in
    subst (λ (x : World). MachineMay (x.machine c.args.s.number) c.args.event.now)
    (sym (c.in_ok-asked.ensures ∙ ap (λ (x : World). with_backends x c.args.s.number c.args.event.now) c.gated-gated.ensures)) c.requires.may.0

pub returns : goal.returns
returns c =
    stepped_is (world_of c.args.w) (world_of c.gated-gated.result) (world_of c.in_ok-asked.asked) c.session_moved.result c.args.s c.args.event.now
    c.gated-gated.ensures c.in_ok-asked.ensures c.session_moved.ensures
