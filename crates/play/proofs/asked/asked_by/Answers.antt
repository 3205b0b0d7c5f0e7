use Rattle.std.proofs.Common.{ℤ, w64, subst}
use Rattle.std.specs.Prelude.{IfOk}
use Rattle.std.proofs.lemmas.Int.{to_z-of_z}
use Rattle.play.specs.Asked.{Asks}
use Rattle.play.specs.Told.{asked_of}
use Rattle.play.proofs.Said.{of_said}
use Rattle.play.proofs.asked.asked_by.Goals as goal

pub returns-in-Ok : goal.returns-in-Ok
returns-in-Ok c =
    let asks = subst (λ (m : ℤ). IfOk c.text_asks.result (λ asked. Asks c.args.catalogue.now m c.in-Ok.said.now (asked_of asked))) (to_z-of_z w64 c.args.moment c.ranges.moment) c.text_asks.ensures in
    of_said c.args.catalogue.now c.args.moment c.args.text.now c.in-Ok.said.now c.text_asks.result c.in-Ok.ensures.cases.0 c.in-Ok.ensures.cases.1 asks
