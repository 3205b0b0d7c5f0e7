use Rattle.std.proofs.Common.{List, ℕ, ℤ, w64, refl, sym, subst}
use Rattle.std.specs.Prelude.{true}
use Rattle.std.proofs.lemmas.Int.{to_z-of_z}
use Rattle.pg_messages.specs.declared.client.ClientMessage.TheVariants.{Query}
use Rattle.play.specs.Answering.{IsAnswered}
use Rattle.play.specs.Opening.{HoldsClient}
use Rattle.play.specs.Showing.{none_told}
use Rattle.play.proofs.Asking.{whatever}
use Rattle.play.proofs.Steps.{answer_shown, answer_in_part}
use Rattle.play.proofs.player.query.Goals as goal

pub returns-in_err-input-clause-front : goal.returns-in_err-input-clause-front
returns-in_err-input-clause-front g c = whatever c.from_residual.result (none_told refl)

pub returns-in_err-output-clause-front : goal.returns-in_err-output-clause-front
returns-in_err-output-clause-front g c = whatever c.from_residual-in_err-output.result (none_told refl)

pub returns-in_err-connected-clause-front : goal.returns-in_err-connected-clause-front
returns-in_err-connected-clause-front g c = whatever c.from_residual-in_err-connected.result (none_told refl)

pub returns-in_err-put_replies-clause-front : goal.returns-in_err-put_replies-clause-front
returns-in_err-put_replies-clause-front g c =
    let taken = g.O.Sink.taken in
    let rows = g.D.Database.rows in
    let text = c.args.text.now in
    let held : HoldsClient c.as_slice-bytes.result.now (Query text) = subst (λ (bytes : List ℕ). HoldsClient bytes (Query text)) (sym c.as_slice-bytes.ensures) c.in_ok-input.ensures in
    let answered = subst (λ (m : ℤ). IsAnswered c.args.catalogue.now (rows c.args.database.now) m text c.in_ok-output.output c.serve.new.output (rows c.serve.new.database)) (to_z-of_z w64 c.args.moment c.ranges.moment) (c.in_ok-connected.ensures.query text held).1 in
    whatever c.from_residual-in_err-put_replies.result
    (answer_in_part c.args.catalogue.now true (rows c.args.database.now) (rows c.serve.new.database) c.args.moment text c.in_ok-output.output c.serve.new.output c.as_slice.result.now (taken c.args.out.now) (taken c.put_replies.new.out)
    refl c.in_ok-output.ensures c.as_slice.ensures answered c.in_err-put_replies.ensures.front)

pub returns-clause-online : goal.returns-clause-online
returns-clause-online g c =
    let text = c.args.text.now in
    let held : HoldsClient c.as_slice-bytes.result.now (Query text) = subst (λ (bytes : List ℕ). HoldsClient bytes (Query text)) (sym c.as_slice-bytes.ensures) c.in_ok-input.ensures in
    (c.in_ok-connected.ensures.query text held).0

pub returns-clause-all : goal.returns-clause-all
returns-clause-all g c =
    let taken = g.O.Sink.taken in
    let rows = g.D.Database.rows in
    let text = c.args.text.now in
    let held : HoldsClient c.as_slice-bytes.result.now (Query text) = subst (λ (bytes : List ℕ). HoldsClient bytes (Query text)) (sym c.as_slice-bytes.ensures) c.in_ok-input.ensures in
    let answered = subst (λ (m : ℤ). IsAnswered c.args.catalogue.now (rows c.args.database.now) m text c.in_ok-output.output c.serve.new.output (rows c.serve.new.database)) (to_z-of_z w64 c.args.moment c.ranges.moment) (c.in_ok-connected.ensures.query text held).1 in
    answer_shown c.args.catalogue.now true (rows c.args.database.now) (rows c.serve.new.database) c.args.moment text c.in_ok-output.output c.serve.new.output c.as_slice.result.now (taken c.args.out.now) (taken c.put_replies.new.out)
    refl c.in_ok-output.ensures c.as_slice.ensures answered c.in_ok-put_replies.ensures.all
