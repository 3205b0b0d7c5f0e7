use Rattle.std.proofs.Common.{refl, inr}
use Rattle.postgres_talk.proofs.answers.lock_answer.Goals as goal

pub returns-in-Refused : goal.returns-in-Refused
returns-in-Refused c = inr (c.in-Refused.code, refl)
