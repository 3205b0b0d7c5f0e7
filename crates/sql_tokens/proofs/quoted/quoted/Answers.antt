use Rattle.std.specs.Prelude.{string_bytes}
use Rattle.sql_tokens.proofs.Quotes.{never_closed}
use Rattle.sql_tokens.proofs.quoted.quoted.Goals as goal

pub returns-in-Unended : goal.returns-in-Unended
returns-in-Unended c =
    never_closed c.args.quote c.args.bytes.now (string_bytes c.loop-part.text) c.loop-part.left.now c.loop-part.invariant.parts c.in-Unended.ensures
