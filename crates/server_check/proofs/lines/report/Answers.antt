use Rattle.std.proofs.Common.{ap, length, arith}
use Rattle.std.proofs.lemmas.List.{nil_from_length}
use Rattle.server_check.proofs.Goodness.{equal_none, none_equal}
use Rattle.server_check.proofs.lines.report.Goals as goal

pub returns-clause-equal : goal.returns-clause-equal
returns-clause-equal c =
    let total = c.in_ok-put_servers.ensures in
    let first = ap (λ xs. length xs) c.new-lines.ensures in (
      (λ none. none_equal c.args.questions.now c.args.kept.now c.args.servers.now (omega (arith, total, first, ap (λ xs. length xs) none))),
      (λ equal. nil_from_length _ (omega (arith, total, first, equal_none c.args.questions.now c.args.kept.now c.args.servers.now equal))),
    )
