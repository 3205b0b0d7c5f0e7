use Rattle.std.proofs.Common.{rules, List, sym, subst, ◌∙◌, ap}
use Rattle.pool_config.specs.Taken.{AllTaken}
use Rattle.pool_config.specs.Configuration.{missing_of}
use Rattle.pool_config.specs.Reader.{Gives, unless_missing}
use Rattle.pool_config.specs.declared.assemble.Setting.{Setting}
use Rattle.pool_config.proofs.Reading.{answer_fails, answer_is, read_taken, fails_again}
use Rattle.pool_config.proofs.parse.answer_to.Goals as goal

pub returns-in_err-settings : goal.returns-in_err-settings
returns-in_err-settings c = fails_again c.from_residual.result c.in_err-settings.field-0.0 _ (search rules) (answer_fails c.args.text.now c.in_err-settings.field-0.0 c.in_err-settings.ensures)

pub configuration-requires : goal.configuration-requires
configuration-requires c = subst AllTaken (sym c.as_slice.ensures) (read_taken 1 _ _ c.in_ok-settings.ensures)

pub returns : goal.returns
returns c = subst (Gives c.configuration.result) (ap (λ (said : List Setting). unless_missing (missing_of said) said) c.as_slice.ensures ∙ sym (answer_is c.args.text.now c.in_ok-settings.settings c.in_ok-settings.ensures)) c.configuration.ensures
