use Rattle.std.proofs.Common.{◌∙◌, sym, subst}
use Rattle.play.specs.Answering.{IsShort}
use Rattle.play.proofs.Short.{code_short}
use Rattle.play.proofs.session.send_answer.Goals as goal

pub send_error-requires : goal.send_error-requires
send_error-requires c = subst IsShort (sym (c.as_bytes.ensures.value ∙ c.text_of_code.ensures)) (code_short c.in-Refused.code.bytes)
