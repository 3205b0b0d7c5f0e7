use Rattle.std.proofs.Common.{◌∷◌, ap, ◌∙◌, option_map}
use Rattle.pool_config.specs.Bytes.{lines_behind}
use Rattle.pool_advice.proofs.Alone.{ends_so}
use Rattle.pool_advice.proofs.faults.line_faults.Goals as goal

pub returns-in_default : goal.returns-in_default
returns-in_default c =
    ends_so c.loop-faults.number c.args.text.now c.cut_line.result.0.now _ _ _ c.loop-faults.invariant.so
    (c.cut_line.ensures.lines ∙ ap (λ r. c.cut_line.result.0.now ∷ lines_behind (option_map (λ rest. rest.now) r)) c.in_default.is)
    c.in_ok-add_fault.ensures
