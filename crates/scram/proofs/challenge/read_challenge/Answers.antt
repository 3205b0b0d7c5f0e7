use Rattle.std.proofs.Common.{List, ℕ, ◌≡◌, ◌∙◌, sym, subst, true≢false}
use Rattle.base64.specs.GeneralPurpose.{IsBytes}
use Rattle.scram.specs.Words.{IsNonce, in_base64}
use Rattle.scram.specs.Messages.{Extends}
use Rattle.scram.proofs.Readers.{texts_of_first, first_no_texts, reads_nothing}
use Rattle.scram.proofs.challenge.read_challenge.Goals as goal

pub returns-in_default : goal.returns-in_default
returns-in_default c = λ x is. first_no_texts c.args.own.now c.args.message.now x.nonce x.salt x.rounds c.in_default.ensures is

pub returns-then-not-is_nonce : goal.returns-then-not-is_nonce
returns-then-not-is_nonce c = λ x is.
    let t = texts_of_first c.args.own.now c.args.message.now c.in-Some.texts.nonce.now c.in-Some.texts.salt.now c.in-Some.texts.rounds.now x.nonce x.salt x.rounds c.in-Some.ensures.0 c.in-Some.ensures.1 c.in-Some.ensures.2 is in
    true≢false (sym (c.is_nonce.ensures.1 (subst IsNonce (sym t.nonce_is) is.printable)) ∙ c.if-not-is_nonce.true)

pub returns-then-not-extends : goal.returns-then-not-extends
returns-then-not-extends c = λ x is.
    let t = texts_of_first c.args.own.now c.args.message.now c.in-Some.texts.nonce.now c.in-Some.texts.salt.now c.in-Some.texts.rounds.now x.nonce x.salt x.rounds c.in-Some.ensures.0 c.in-Some.ensures.1 c.in-Some.ensures.2 is in
    true≢false (sym (c.extends.ensures.1 (subst (Extends c.args.own.now) (sym t.nonce_is) is.extends)) ∙ c.if-not-extends.true)

pub returns-in_default-read_rounds : goal.returns-in_default-read_rounds
returns-in_default-read_rounds c = λ x is.
    let t = texts_of_first c.args.own.now c.args.message.now c.in-Some.texts.nonce.now c.in-Some.texts.salt.now c.in-Some.texts.rounds.now x.nonce x.salt x.rounds c.in-Some.ensures.0 c.in-Some.ensures.1 c.in-Some.ensures.2 is in
    c.in_default-read_rounds.ensures x.rounds (is.range, t.rounds_are)

pub returns-in_default-2 : goal.returns-in_default-2
returns-in_default-2 c = λ x is.
    let t = texts_of_first c.args.own.now c.args.message.now c.in-Some.texts.nonce.now c.in-Some.texts.salt.now c.in-Some.texts.rounds.now x.nonce x.salt x.rounds c.in-Some.ensures.0 c.in-Some.ensures.1 c.in-Some.ensures.2 is in
    reads_nothing (λ (b : List ℕ). IsBytes b × (c.in-Some.texts.salt.now ≡ in_base64 b)) c.in_ok-salt.field-0 c.in_default-2.is c.in_ok-salt.ensures x.salt (is.bytes, t.salt_is)
