-- Which form what was said has, and what a statement's reply is answered as.
use Rattle.std.specs.Prelude.{◌≡◌, nat_le, Bool, true, false, List, codes}
use Rattle.std.specs.List.{list_all}
use Rattle.sql_eval.specs.declared.row.Row.{Row}
use Rattle.sql_eval.specs.Reads.{row_size}
use Rattle.backend_trait.specs.declared.request.Request.{Request}
use Rattle.backend_trait.specs.declared.answer.Answer.{Answer}
use Rattle.backend_trait.specs.declared.answer.Answer.TheVariants as answers
use Rattle.postgres_link.specs.declared.asked.Reply.{Reply}
use Rattle.postgres_link.specs.declared.asked.Reply.TheVariants as reply
use Rattle.backend_trait.specs.Acts.{IsOf}
use Rattle.postgres_talk.specs.declared.talk.Said.{Said}
use Rattle.postgres_talk.specs.declared.talk.Said.TheVariants as said

-- what was said to a request, if it is an answer, has the form of one to it
abbrev pub IsSaid : Request → Said → Type 0
IsSaid asked said.NotYet = Unit {0}
IsSaid asked (said.Answer answer) = IsOf asked answer
IsSaid asked said.Broken = Unit {0}

-- no larger than a row may be
abbrev pub is_small : Row → Bool
is_small row = nat_le (row_size row) 1048000

-- rows are answered as they are; where one is larger than a row may be, with 54000
abbrev pub AnswersRows : List Row → Answer → Type 0
AnswersRows rows (answers.Rows given) = (given ≡ rows) × (list_all is_small rows ≡ true)
AnswersRows rows (answers.Refused code) = (code.bytes ≡ codes "54000") × (list_all is_small rows ≡ false)
AnswersRows rows answer = ⊥

-- a statement is answered with the rows, the count or the refusal of the reply
abbrev pub AnswersRun : Reply → Answer → Type 0
AnswersRun (reply.Rows rows) answer = AnswersRows rows answer
AnswersRun (reply.Count n) answer = answer ≡ answers.Count n
AnswersRun (reply.Refused code) answer = answer ≡ answers.Refused code
AnswersRun reply.Done answer = ⊥
