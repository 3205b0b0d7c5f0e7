use Rattle.std.proofs.lemmas.Str.{IsUtf8-from_ascii}
use Rattle.pg_values.proofs.printer.ascii_text.Goals as goal

pub unreachable-requires : goal.unreachable-requires
unreachable-requires c = cc (c.in-Err.ensures.succeeds (IsUtf8-from_ascii c.args.bytes.items c.requires))
