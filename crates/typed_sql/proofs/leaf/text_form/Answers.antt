use Rattle.typed_sql.proofs.Faults.{unread_answers}
use Rattle.typed_sql.proofs.leaf.text_form.Goals as goal

pub returns-in-Err : goal.returns-in-Err
returns-in-Err c =
    unread_answers c.args.kind c.as_bytes.result.now c.args.text.now c.args.known.now c.in-Err.fault c.unread.result
    c.as_bytes.ensures c.in-Err.ensures.code c.unread.ensures
