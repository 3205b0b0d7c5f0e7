use Rattle.scram.proofs.Readers.{verifier_no_rounds, verifier_no_salt, verifier_no_stored}
use Rattle.scram.proofs.verifier.texts_of.Goals as goal

pub returns-in_err-rounds : goal.returns-in_err-rounds
returns-in_err-rounds c = rw c.from_residual.ensures (verifier_no_rounds c.args.text.now c.in_err-rounds.ensures)

pub returns-in_err-salt : goal.returns-in_err-salt
returns-in_err-salt c =
    rw c.from_residual-in_err-salt.ensures
    (verifier_no_salt c.args.text.now c.in_ok-rounds.rounds.now c.in_ok-rounds.behind.now c.in_ok-rounds.ensures.0 c.in_ok-rounds.ensures.1 c.in_err-salt.ensures)

pub returns-in_err-stored : goal.returns-in_err-stored
returns-in_err-stored c =
    rw c.from_residual-in_err-stored.ensures
    (verifier_no_stored c.args.text.now c.in_ok-rounds.rounds.now c.in_ok-rounds.behind.now c.in_ok-salt.salt.now c.in_ok-salt.behind.now c.in_ok-rounds.ensures.0 c.in_ok-rounds.ensures.1
    c.in_ok-salt.ensures.0 c.in_ok-salt.ensures.1 c.in_err-stored.ensures)
