use Rattle.std.proofs.Common.{ℕ, List, ◌++◌, ◌∙◌, ap}
use Rattle.session_seat.proofs.DueLemmas.{none_other, none_whole, not_whole}
use Rattle.session_seat.proofs.replies.put_reply.Goals as goal

pub returns-in_ok-say-in-Whole-clause-within : goal.returns-in_ok-say-in-Whole-clause-within
returns-in_ok-say-in-Whole-clause-within c = ((c.in_ok-message.ensures.whole c.in-Whole.message c.in-Whole.length).0 c.in-Whole.is).0

pub returns-in_ok-say-in-Whole-clause-none : goal.returns-in_ok-say-in-Whole-clause-none
returns-in_ok-say-in-Whole-clause-none c =
    λ zero. none_whole c.in_ok-message.field-0 c.args.bytes.now c.in-Whole.message c.in-Whole.length c.in-Whole.is zero c.in_ok-message.ensures.whole

pub returns-in-More-clause-none : goal.returns-in-More-clause-none
returns-in-More-clause-none c =
    λ zero. none_other c.in_ok-message.field-0 c.args.bytes.now (not_whole c.in_ok-message.field-0 c.in-More.is) c.in_ok-message.ensures.whole

pub returns-in_ok-say-in-Whole-clause-shows : goal.returns-in_ok-say-in-Whole-clause-shows
returns-in_ok-say-in-Whole-clause-shows c = λ some. (
  c.in-Whole.message,
  (c.in_ok-message.ensures.whole c.in-Whole.message c.in-Whole.length).0 c.in-Whole.is,
  c.in_ok-say-in-Whole.ensures.lines ∙ ap (λ (z : List ℕ). c.args.book.now.lines ++ z) (c.as_bytes.ensures ∙ c.in_ok-line-in-Whole.ensures),
)
