use Rattle.std.proofs.Common.{◌≡◌, ◌∙◌, List, ℕ, ℤ, w64, Option, Some, None, sym, ap, subst}
use Rattle.std.specs.Prelude.{unwrap_or}
use Rattle.std.proofs.lemmas.Int.{to_z-of_z}
use Rattle.std.proofs.lemmas.Option.{none-some}
use Rattle.play.specs.Answering.{IsAnswered}
use Rattle.play.specs.Opening.{query_in}
use Rattle.play.proofs.Asking.{query_short}
use Rattle.play.proofs.Telling.{answered}
use Rattle.play.proofs.session.serve.Goals as goal

pub answer_query-online-requires-clause-short : goal.answer_query-online-requires-clause-short
answer_query-online-requires-clause-short g c = query_short c.in_ok-read.read c.in-Some.text.now c.args.input.now (sym c.in-Some.ensures) (λ m n is. (c.in_ok-read.ensures.whole m n).0 is)

pub returns-in-Some-clause-query : goal.returns-in-Some-clause-query
returns-in-Some-clause-query g c =
    answered c.answer_query-online.result c.answer_query-online.ensures.online c.answer_query-online.ensures.query
    (λ is online on text holds.
    let same : Some c.in-Some.text.now ≡ Some text = c.in-Some.ensures ∙ ap query_in (c.in_ok-read.ensures.exact ∙ holds) in
    let text_is : c.in-Some.text.now ≡ text = ap (λ (o : Option (List ℕ)). unwrap_or o text) same in
    let rows = g.S.Database.rows c.args.database.now in
    let left = g.S.Database.rows c.answer_query-online.new.database in
    let now = subst (λ (m : ℤ). IsAnswered c.args.catalogue.now rows m c.in-Some.text.now c.args.output.now c.answer_query-online.new.output left) (to_z-of_z w64 c.args.moment c.ranges.moment) is in
    (on, subst (λ (t : List ℕ). IsAnswered c.args.catalogue.now rows c.args.moment t c.args.output.now c.answer_query-online.new.output left) text_is now))

pub returns-in-Some-clause-terminate : goal.returns-in-Some-clause-terminate
returns-in-Some-clause-terminate g c =
    answered c.answer_query-online.result c.answer_query-online.ensures.online c.answer_query-online.ensures.query
    (λ is online on holds.
    let never : Some c.in-Some.text.now ≡ None = c.in-Some.ensures ∙ ap query_in (c.in_ok-read.ensures.exact ∙ holds) in
    absurd (none-some c.in-Some.text.now (sym never)))
