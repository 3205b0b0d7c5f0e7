use Rattle.std.proofs.Common.{◌≡◌, ◌∙◌, ℕ, List, inl, subst}
use Rattle.pool_base.specs.Outside.{Appends}
use Rattle.journal_check.specs.Endings.{bad_line}
use Rattle.journal_check.proofs.asking.tell_bad_line.Goals as goal

pub returns-in-Ok : goal.returns-in-Ok
returns-in-Ok g c = λ told before later.
    let spelled : c.as_bytes.result.now ≡ bad_line c.args.n = c.as_bytes.ensures.value ∙ c.in_ok-line.ensures in
    inl (c.args.n, subst (λ (z : List ℕ). Appends (g.O.Sink.taken c.args.out.now) (g.O.Sink.taken c.write_all.new.out) z) spelled c.in-Ok.ensures.all)
