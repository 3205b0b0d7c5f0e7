use Rattle.std.proofs.Common.{List, ℕ, ap, ◌++◌, ◌∙◌}
use Rattle.std.specs.Prelude.{codes}
use Rattle.server_check.specs.Texts.{lock_text}
use Rattle.server_check.proofs.sql.lock_sql.Goals as goal

pub returns : goal.returns
unfolding lock_text
returns c =
    c.from_string.ensures ∙ c.in_ok-push_str.ensures.bytes ∙ ap (λ (front : List ℕ). front ++ codes " IN SHARE MODE") c.in_ok-text.ensures
