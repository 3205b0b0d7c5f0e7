use Rattle.std.proofs.Common.{sym, subst}
use Rattle.session_player.specs.Others.{IsAmong}
use Rattle.session_player.proofs.Fitting.{free_among}
use Rattle.session_player.proofs.others.with_backend.Goals as goal

pub returns-in-Free-clause-among : goal.returns-in-Free-clause-among
returns-in-Free-clause-among c = subst (IsAmong c.args.set.bits) (sym c.in-Free.is) (free_among c.args.set.bits)

pub returns-in-Taken-clause-among : goal.returns-in-Taken-clause-among
returns-in-Taken-clause-among c =
    subst (IsAmong c.with_its_backend.result.bits) (sym c.in-Taken.is) (record {
      session = λ policy s b due. c.with_its_backend.ensures.session b due;
      recovery = λ layout s b due. c.with_its_backend.ensures.recovery layout b due;
    })
