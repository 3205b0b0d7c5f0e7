use Rattle.statement_laws.proofs.Checks.{never_both}
use Rattle.statement_laws.proofs.one_answer.none_is_checked_and_refused.Goals as goal

pub returns : goal.returns
returns c = never_both
