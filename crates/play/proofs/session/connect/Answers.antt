use Rattle.std.proofs.Common.{◌≡◌, true, false, length, refl, sym, ap, ◌∙◌}
use Rattle.std.proofs.lemmas.Bool.{false≢true}
use Rattle.play.specs.Opening.{is_start, start_message}
use Rattle.play.proofs.Asking.{begins_with}
use Rattle.play.proofs.session.connect.Goals as goal

pub returns-then-not-is_start : goal.returns-then-not-is_start
returns-then-not-is_start c = λ holds.
    let read = (c.in_ok-read.ensures.whole start_message (length c.args.input.now)).1 (begins_with c.args.input.now holds) in
    let never : false ≡ true = sym c.if-not-is_start.true ∙ c.is_start.ensures ∙ ap is_start read in
    absurd (false≢true never)

pub returns : goal.returns
returns c = λ holds. (refl, c.in_ok-send_start_up.ensures)
