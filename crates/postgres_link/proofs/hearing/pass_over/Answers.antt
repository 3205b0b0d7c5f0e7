use Rattle.std.proofs.Common.{arith, refl, ap, length}
use Rattle.postgres_link.proofs.Fronts.{empty_here, passed, shorter}
use Rattle.postgres_link.proofs.hearing.pass_over.Goals.{then-listening-come, else-listening-come}
use Rattle.postgres_link.proofs.hearing.pass_over.Goals as goal

pub returns-then-come-eq0 : goal.returns-then-come-eq0
returns-then-come-eq0 g c =
    let come = ap length c.as_slice-come.ensures in
    empty_here c.args.listening.now.hearer c.args.listening.now.heard c.args.listening.now.left c.args.inbox.now (omega (arith, come, c.if-come-eq0.true))

pub returns : goal.returns
returns g c =
    let come = ap length c.as_slice-come.ensures in
    elim c.if-listening-come.branch [
      | then-listening-come w ↦ rw w.listening-is (rw w.inbox-is (
        passed c.args.listening.now.hearer c.args.listening.now.left c.args.listening.now.heard c.args.listening.now.left 0 c.args.inbox.now w.pass.new.self
            (omega arith) (omega (arith, come, w.if-listening-come.true)) (omega arith) w.pass.ensures,
        shorter c.args.listening.now.left c.args.inbox.now w.pass.new.self w.pass.ensures (omega (arith, c.requires)) (omega (arith, come, w.if-listening-come.true)),
      ))
      | else-listening-come w ↦ rw w.listening-is (rw w.inbox-is (
        passed c.args.listening.now.hearer (length c.as_slice-come.result.now) c.args.listening.now.heard c.args.listening.now.left _ c.args.inbox.now w.pass-else-listening-come.new.self
            (omega (arith, w.if-listening-come.false)) (omega (arith, come)) refl w.pass-else-listening-come.ensures,
        shorter (length c.as_slice-come.result.now) c.args.inbox.now w.pass-else-listening-come.new.self w.pass-else-listening-come.ensures (omega (arith, c.if-come-eq0.false)) (omega (arith, come)),
      ))
    ]
