use Rattle.std.proofs.Common.{List, ℕ, sym, subst}
use Rattle.std.specs.Prelude.{Option, Some}
use Rattle.pool_run.specs.Texts.{IsRead, config_name}
use Rattle.pool_run.proofs.Ending.{config_read}
use Rattle.pool_run.proofs.serving.read_command.Goals as goal

pub returns-clause-ends : goal.returns-clause-ends
returns-clause-ends g c = λ s o e.
    let contents = g.F.Files.contents in
    let faults = g.F.Files.fault_count in
    let is : List ℕ → Type 0 = λ text. IsRead (contents c.args.files.now (config_name c.args.command.now)) 65536 (Some text) in
    let kept : Option (List ℕ) → Type 0 = λ text. IsRead (contents c.args.files.now (config_name c.args.command.now)) 65536 text in
    config_read (contents c.args.files.now) (contents c.read_config.new.files) (faults c.args.files.now) (faults c.read_config.new.files) (faults c.read_by.new.files) c.args.command.now c.as_slice.result.now s o
    c.in-Ok-Some.ensures.kept c.in-Ok-Some.ensures.later (subst is (sym c.as_slice.ensures) (subst kept c.in-Ok-Some.field-0-is c.in-Ok-Some.ensures.read)) (c.in-Err-read_by.ensures.ends s o e)
