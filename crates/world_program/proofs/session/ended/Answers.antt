use Rattle.std.proofs.Common.{◌∙◌}
use Rattle.session_engine.specs.Cores.{machine_in}
use Rattle.world_program.proofs.Sessions.{end_given}
use Rattle.world_program.proofs.session.ended.Goals as goal

pub returns : goal.returns
returns c =
    let m = machine_in c.args.core.now in
    c.end.ensures ∙ end_given m.session m.point c.requires
