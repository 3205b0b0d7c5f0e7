use Rattle.std.proofs.Common.{◌≡◌, ◌∙◌, sym, ap, subst, length}
use Rattle.pg_messages.specs.Server.{Fits}
use Rattle.pg_messages.specs.declared.server.ServerMessage.TheVariants.{Error}
use Rattle.play.specs.Replies.{error_message, error_parts}
use Rattle.play.proofs.SendingLemmas.{error_fits, code_is}
use Rattle.play.proofs.replies.error_message.Goals as goal

pub returns-clause-error : goal.returns-clause-error
unfolding error_message
returns-clause-error c = ap Error (c.in_ok-parts.ensures ∙ ap (λ code. error_parts code c.args.text.now) c.code_bytes.ensures.same)

pub returns-clause-fits : goal.returns-clause-fits
unfolding error_message
returns-clause-fits c = λ short.
    let same : Error c.in_ok-parts.parts ≡ error_message c.args.code.bytes c.args.text.now = ap Error (c.in_ok-parts.ensures ∙ ap (λ code. error_parts code c.args.text.now) c.code_bytes.ensures.same) in
    let five : length c.args.code.bytes ≡ 5 = sym (ap length c.code_bytes.ensures.same) ∙ c.code_bytes.ensures.five in
    subst Fits (sym same) (error_fits c.args.code.bytes c.args.text.now five (code_is c.args.code.bytes c.args.code.spelled) short)
