use Rattle.std.proofs.Common.{◌≡◌, ◌∙◌, ℕ, List, subst}
use Rattle.pool_base.specs.Outside.{Appends}
use Rattle.journal_check.specs.Endings.{event_line}
use Rattle.journal_check.proofs.asking.tell_event.Goals as goal

pub returns-in-Ok : goal.returns-in-Ok
returns-in-Ok g c = λ told before later.
    let spelled : c.as_bytes.result.now ≡ event_line c.args.n = c.as_bytes.ensures.value ∙ c.in_ok-line.ensures in
    (c.args.n, subst (λ (z : List ℕ). Appends (g.O.Sink.taken c.args.out.now) (g.O.Sink.taken c.write_all.new.out) z) spelled c.in-Ok.ensures.all)
