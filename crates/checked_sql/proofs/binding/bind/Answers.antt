use Rattle.checked_sql.proofs.KeptStatements.{made_is_of}
use Rattle.checked_sql.proofs.binding.bind.Goals as goal

pub returns-clause-kept : goal.returns-clause-kept
returns-clause-kept c = λ tables is fit.
    made_is_of tables c.args.checked.now c.args.values.now c.in_ok-body.body c.in_ok-columns.columns c.new.result
    c.in_ok-body.ensures c.in_ok-columns.ensures c.new.ensures is fit
