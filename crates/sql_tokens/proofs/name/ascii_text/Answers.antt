use Rattle.std.proofs.lemmas.Str.{IsUtf8-from_ascii}
use Rattle.sql_tokens.proofs.name.ascii_text.Goals as goal

pub unreachable-requires : goal.unreachable-requires
unreachable-requires c = cc (c.in-Err.ensures.succeeds (IsUtf8-from_ascii c.args.bytes.items c.requires))
