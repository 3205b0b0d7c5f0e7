use Rattle.sql_tokens.proofs.Quotes.{closes_last}
use Rattle.sql_tokens.proofs.quoted.read_string.Goals as goal

pub next-requires : goal.next-requires
next-requires c = closes_last 39 c.args.bytes.now c.in-Some.text c.in-Some.after.now (rw c.in-Some.is at c.in_ok-text.ensures)
