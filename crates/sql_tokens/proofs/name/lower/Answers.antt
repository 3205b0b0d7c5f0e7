use Rattle.std.proofs.Common.{subst, sym}
use Rattle.std.specs.Prelude.{IsAscii}
use Rattle.std.specs.Char.{to_ascii_lowercase}
use Rattle.std.proofs.lemmas.Str.Ascii.{IsAscii-map, lowercase_ascii}
use Rattle.sql_tokens.proofs.name.lower.Goals as goal

pub ascii_text-requires : goal.ascii_text-requires
ascii_text-requires c =
    subst IsAscii (sym c.in_ok-lowered.ensures) (IsAscii-map to_ascii_lowercase c.args.run.now lowercase_ascii c.requires)
