use Rattle.std.proofs.Common.{◌∙◌, sym}
use Rattle.scram.proofs.Sides.{answered_by, no_challenge_by}
use Rattle.scram.proofs.client.ScramClient.answer.Goals as goal

pub returns-in-Some-clause-answered : goal.returns-in-Some-clause-answered
returns-in-Some-clause-answered c =
    answered_by c.args.self.now c.in_ok-proven-in-Some.proven.next c.in-Opened.password c.in-Opened.nonce c.in-Opened.bare c.args.message.now c.in_ok-said-in-Some.said c.in_ok-proven-in-Some.proven.reply
    c.as_slice-in-Some-2.result.now c.as_slice.result.now c.as_slice-in-Some.result.now c.as_slice-in-Some-3.result.now c.in_ok-challenge-in-Opened.field-0 c.in-Some.challenge
    (sym c.replace.ensures.value ∙ c.in-Opened.is) c.as_slice.ensures c.in-Some.is c.in_ok-challenge-in-Opened.ensures c.as_slice-in-Some.ensures c.in_ok-said-in-Some.ensures
    c.as_slice-in-Some-2.ensures c.as_slice-in-Some-3.ensures c.in_ok-proven-in-Some.ensures

pub returns-in-Opened-clause-malformed : goal.returns-in-Opened-clause-malformed
returns-in-Opened-clause-malformed c = λ fault.
    no_challenge_by c.args.self.now c.in-Opened.password c.in-Opened.nonce c.in-Opened.bare c.args.message.now c.as_slice.result.now c.in_ok-challenge-in-Opened.field-0
    (sym c.replace.ensures.value ∙ c.in-Opened.is) c.as_slice.ensures c.in-None.is c.in_ok-challenge-in-Opened.ensures
