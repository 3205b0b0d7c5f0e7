use Rattle.std.proofs.Common.{ℤ, w64, ◌∙◌, ap, sym, subst}
use Rattle.std.specs.Prelude.{IfOk}
use Rattle.std.proofs.lemmas.Int.{to_z-of_z}
use Rattle.play.specs.Codes.{about}
use Rattle.play.specs.Told.{asked_of}
use Rattle.play.proofs.Said.{IsAskedAt, checked_said, later_said, wrong_said}
use Rattle.play.proofs.asked.statement_asks.Goals as goal

pub returns-in-Some : goal.returns-in-Some
returns-in-Some c = later_said c.args.catalogue.now c.args.moment c.args.statement.now c.in-Some.name.now c.left.result (sym c.in-Some.ensures) c.left.ensures

pub returns-in-Ok : goal.returns-in-Ok
returns-in-Ok c =
    let asked = subst (λ (m : ℤ). IfOk c.checked_asks.result (λ asked. IsAskedAt m c.in-Ok.checked (asked_of asked))) (to_z-of_z w64 c.args.moment c.ranges.moment) c.checked_asks.ensures in
    checked_said c.args.catalogue.now c.args.moment c.args.statement.now c.in-Ok.checked c.checked_asks.result c.in-Ok.ensures asked

pub returns-in_ok-about-in-Err-Refused : goal.returns-in_ok-about-in-Err-Refused
returns-in_ok-about-in-Err-Refused c =
    let s = c.args.statement.now in
    let code = c.in-Err-Refused.code in
    wrong_said c.args.catalogue.now c.args.moment s code c.in-Err-Refused.name c.in_ok-about-in-Err-Refused.field-0
    (rw c.in-Err-Refused.field-0-is at c.in-Err-Refused.ensures) (c.in_ok-about-in-Err-Refused.ensures ∙ ap (about s code.bytes) c.as_str.ensures)
