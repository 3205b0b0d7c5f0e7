use Rattle.std.proofs.Common.{List, ℕ, Option, ◌++◌, ap, sym, ◌∙◌, string_bytes}
use Rattle.pool_config.specs.Printed.{password_text}
use Rattle.pool_config.proofs.write.write_password.Goals as goal

pub returns-in_ok-write : goal.returns-in_ok-write
returns-in_ok-write c =
    rw c.as_str-password.ensures at c.in_ok-write.ensures.bytes
    ∙ ap (λ (o : Option (List ℕ)). string_bytes c.args.text.now ++ password_text o) (sym c.in-Some.is)
