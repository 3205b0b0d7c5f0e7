use Rattle.std.proofs.Common.{subst, sym}
use Rattle.std.specs.Prelude.{IsAscii}
use Rattle.sql_tokens.specs.declared.bytes.Class.TheVariants.{Name}
use Rattle.sql_tokens.proofs.Runs.{front_ascii, name_low}
use Rattle.sql_tokens.proofs.name.read_name.Goals as goal

pub lower-requires : goal.lower-requires
lower-requires c = subst IsAscii (sym c.split_run.ensures.run) (front_ascii Name name_low c.args.bytes.now)
