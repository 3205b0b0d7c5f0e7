use Rattle.std.proofs.Common.{List, ℕ, sym, subst}
use Rattle.std.specs.Prelude.{Option, Some}
use Rattle.pool_run.specs.Texts.{IsRead, config_name}
use Rattle.pool_run.specs.Ends.{unread, long}
use Rattle.pool_run.proofs.Stages.{unread_stops}
use Rattle.pool_run.proofs.Ending.{config_read}
use Rattle.pool_run.proofs.asking.ask_command.Goals as goal

pub returns-in-Err-clause-ends : goal.returns-in-Err-clause-ends
returns-in-Err-clause-ends g c = λ s o e.
    let faults = g.F.Files.fault_count in
    unread e.0 (unread_stops c.in-Err.status s (faults c.args.files.now) (faults c.read_config.new.files) o c.in-Err.ensures.fault e.1)

pub returns-in-Ok-None-clause-ends : goal.returns-in-Ok-None-clause-ends
returns-in-Ok-None-clause-ends g c = λ s o e.
    let kept : Option (List ℕ) → Type 0 = λ text. IsRead (g.F.Files.contents c.args.files.now (config_name c.args.command.now)) 65536 text in
    long (subst kept c.in-Ok-None.field-0-is c.in-Ok-None.ensures.read) e.0 e.1

pub returns-in-Ok-Some-clause-ends : goal.returns-in-Ok-Some-clause-ends
returns-in-Ok-Some-clause-ends g c = λ s o e.
    let contents = g.F.Files.contents in
    let faults = g.F.Files.fault_count in
    let is : List ℕ → Type 0 = λ text. IsRead (contents c.args.files.now (config_name c.args.command.now)) 65536 (Some text) in
    let kept : Option (List ℕ) → Type 0 = λ text. IsRead (contents c.args.files.now (config_name c.args.command.now)) 65536 text in
    config_read (contents c.args.files.now) (contents c.read_config.new.files) (faults c.args.files.now) (faults c.read_config.new.files) (faults c.ask_config.new.files) c.args.command.now c.as_slice.result.now s o
    c.in-Ok-Some.ensures.kept c.in-Ok-Some.ensures.later (subst is (sym c.as_slice.ensures) (subst kept c.in-Ok-Some.field-0-is c.in-Ok-Some.ensures.read)) (c.ask_config.ensures.ends s o e)
