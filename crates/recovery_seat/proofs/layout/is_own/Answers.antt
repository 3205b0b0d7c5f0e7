use Rattle.online_recovery.specs.Asking.{standing_in}
use Rattle.recovery_seat.proofs.LayoutLemmas.{one_layout, own_by}
use Rattle.recovery_seat.proofs.layout.is_own.Goals as goal

pub returns-then-held-s : goal.returns-then-held-s
returns-then-held-s c = λ same layout is.
    let found = c.standing.result.now in
    own_by found (standing_in c.args.recovery.now) c.args.s layout c.standing.ensures c.if-held-s.true
    (one_layout c.args.setting.config.now c.args.setting.tables.now found.held.layout layout (c.is_layout.ensures same) is)
