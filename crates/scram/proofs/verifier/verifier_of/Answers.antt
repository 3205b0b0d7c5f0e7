use Rattle.std.proofs.Common.{◌≡◌, List, ℕ}
use Rattle.base64.specs.GeneralPurpose.{IsBytes}
use Rattle.scram.specs.Words.{IsDigest, in_base64}
use Rattle.scram.proofs.Readers.{values_of, text_no_values, reads_nothing}
use Rattle.scram.proofs.verifier.verifier_of.Goals as goal

pub returns-in_default : goal.returns-in_default
returns-in_default c = λ x is. text_no_values c.args.text.now x c.in_default.ensures is

pub returns-in_default-read_rounds : goal.returns-in_default-read_rounds
returns-in_default-read_rounds c = λ x is.
    let t = values_of c.args.text.now c.in-Some.texts.rounds.now c.in-Some.texts.salt.now c.in-Some.texts.stored.now c.in-Some.texts.server.now x c.in-Some.ensures.0 c.in-Some.ensures.1 c.in-Some.ensures.2 c.in-Some.ensures.3 is in
    c.in_default-read_rounds.ensures x.rounds (is.range, t.rounds_are)

pub returns-in_default-2 : goal.returns-in_default-2
returns-in_default-2 c = λ x is.
    let t = values_of c.args.text.now c.in-Some.texts.rounds.now c.in-Some.texts.salt.now c.in-Some.texts.stored.now c.in-Some.texts.server.now x c.in-Some.ensures.0 c.in-Some.ensures.1 c.in-Some.ensures.2 c.in-Some.ensures.3 is in
    reads_nothing (λ (b : List ℕ). IsDigest b × (c.in-Some.texts.stored.now ≡ in_base64 b)) c.in_ok-stored.field-0 c.in_default-2.is c.in_ok-stored.ensures x.stored (is.stored, t.stored_is)

pub returns-in_default-3 : goal.returns-in_default-3
returns-in_default-3 c = λ x is.
    let t = values_of c.args.text.now c.in-Some.texts.rounds.now c.in-Some.texts.salt.now c.in-Some.texts.stored.now c.in-Some.texts.server.now x c.in-Some.ensures.0 c.in-Some.ensures.1 c.in-Some.ensures.2 c.in-Some.ensures.3 is in
    reads_nothing (λ (b : List ℕ). IsDigest b × (c.in-Some.texts.server.now ≡ in_base64 b)) c.in_ok-server.field-0 c.in_default-3.is c.in_ok-server.ensures x.server (is.server, t.server_is)

pub returns-in_default-4 : goal.returns-in_default-4
returns-in_default-4 c = λ x is.
    let t = values_of c.args.text.now c.in-Some.texts.rounds.now c.in-Some.texts.salt.now c.in-Some.texts.stored.now c.in-Some.texts.server.now x c.in-Some.ensures.0 c.in-Some.ensures.1 c.in-Some.ensures.2 c.in-Some.ensures.3 is in
    reads_nothing (λ (b : List ℕ). IsBytes b × (c.in-Some.texts.salt.now ≡ in_base64 b)) c.in_ok-salt.field-0 c.in_default-4.is c.in_ok-salt.ensures x.salt (is.bytes, t.salt_is)
