use Rattle.scram.proofs.Readers.{texts_no_salt, texts_no_rounds}
use Rattle.scram.proofs.challenge.texts_of.Goals as goal

pub returns-in_err-salt : goal.returns-in_err-salt
returns-in_err-salt c =
    rw c.from_residual-in_err-salt.ensures
    (texts_no_salt c.args.message.now c.in_ok-nonce.nonce.now c.in_ok-nonce.behind.now c.in_ok-nonce.ensures.0 c.in_ok-nonce.ensures.1 c.in_err-salt.ensures)

pub returns-in_err-rounds : goal.returns-in_err-rounds
returns-in_err-rounds c =
    rw c.from_residual-in_err-rounds.ensures
    (texts_no_rounds c.args.message.now c.in_ok-nonce.nonce.now c.in_ok-nonce.behind.now c.in_ok-salt.salt.now c.in_ok-salt.behind.now c.in_ok-nonce.ensures.0 c.in_ok-nonce.ensures.1
    c.in_ok-salt.ensures.0 c.in_ok-salt.ensures.1 c.in_err-rounds.ensures)
