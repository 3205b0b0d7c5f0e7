use Rattle.std.proofs.Common.{subst, sym}
use Rattle.std.specs.Prelude.{IsAscii}
use Rattle.sql_tokens.specs.declared.bytes.Class.TheVariants.{Strange}
use Rattle.sql_tokens.proofs.Runs.{front_ascii, strange_low}
use Rattle.sql_tokens.proofs.piece.read_strange.Goals as goal

pub read_run-requires : goal.read_run-requires
read_run-requires c = subst IsAscii (sym c.split_run.ensures.run) (front_ascii Strange strange_low c.args.bytes.now)
