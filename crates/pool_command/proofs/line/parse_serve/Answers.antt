use Rattle.std.proofs.Common.{◌≡◌}
use Rattle.clap.specs.Words.{app_of}
use Rattle.pool_command.specs.Clap.{serve_app}
use Rattle.pool_command.proofs.Parsed.{serve_simple, serve_free, rows_are, no_fault, some_fault}
use Rattle.pool_command.proofs.line.parse_serve.Goals as goal

pub returns : goal.returns
returns c =
    let app_is : app_of c.in_ok-command.command ≡ serve_app = c.in_ok-command.ensures in
    record {
      rows = rows_are _ _ _ _ app_is serve_simple c.try_get_matches_from.ensures.matches;
      faultless = no_fault _ _ _ _ app_is serve_free c.try_get_matches_from.ensures.kinds;
      faulty = some_fault _ _ _ _ app_is serve_free c.try_get_matches_from.ensures.kinds;
    }
