use Rattle.plain_store.proofs.LawLemmas.{keeps_rows}
use Rattle.plain_store.proofs.laws.commits_keep_rows.Goals as goal

pub returns : goal.returns
returns c = keeps_rows
