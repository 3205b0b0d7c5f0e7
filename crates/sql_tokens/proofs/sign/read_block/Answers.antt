use Rattle.sql_tokens.proofs.Ends.{ends_comment}
use Rattle.sql_tokens.proofs.sign.read_block.Goals as goal

pub next-requires : goal.next-requires
next-requires c = ends_comment c.args.bytes.now c.in-Some.after.now c.in-Some.ensures
