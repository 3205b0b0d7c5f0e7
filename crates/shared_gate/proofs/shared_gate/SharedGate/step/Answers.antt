use Rattle.std.proofs.Common.{subst}
use Rattle.crossbeam_utils.specs.Seq.{cell_view}
use Rattle.shared_gate.specs.History.{Known, known, Tells}
use Rattle.shared_gate.proofs.Passes.{tells}
use Rattle.shared_gate.proofs.shared_gate.SharedGate.step.Goals as goal

pub returns-clause-tells : goal.returns-clause-tells
returns-clause-tells g c =
    let w = c.step_as.new.seat in
    let P : Known → Type 0 = λ k. Tells k c.args.call c.step_as.result (known w.table_id w.id (cell_view w)) in
    subst P c.pass.view_is (tells _ _ _ _ _ _ _ _ _ c.step_as.ensures.call)
