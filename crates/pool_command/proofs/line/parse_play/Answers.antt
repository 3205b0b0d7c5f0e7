use Rattle.std.proofs.Common.{ap₂, ◌≡◌, ◌∙◌}
use Rattle.clap.specs.Words.{app_of, with_rule}
use Rattle.pool_command.specs.Clap.{play_app}
use Rattle.pool_command.proofs.Parsed.{play_simple, play_free, rows_are, no_fault, some_fault}
use Rattle.pool_command.proofs.line.parse_play.Goals as goal

pub returns : goal.returns
returns c =
    let app_is : app_of c.in_ok-command-5.command ≡ play_app =
    c.in_ok-command-5.ensures ∙ ap₂ with_rule
    (c.in_ok-command-4.ensures ∙ ap₂ with_rule
    (c.in_ok-command-3.ensures ∙ ap₂ with_rule
    (c.in_ok-command-2.ensures ∙ ap₂ with_rule c.in_ok-command.ensures c.new.ensures.rule)
    c.flag.ensures.rule) c.option.ensures.rule) c.option-2.ensures.rule in
    record {
      rows = rows_are _ _ _ _ app_is play_simple c.try_get_matches_from.ensures.matches;
      faultless = no_fault _ _ _ _ app_is play_free c.try_get_matches_from.ensures.kinds;
      faulty = some_fault _ _ _ _ app_is play_free c.try_get_matches_from.ensures.kinds;
    }
