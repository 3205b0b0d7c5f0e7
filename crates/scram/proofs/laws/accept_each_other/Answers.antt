use Rattle.scram.proofs.Exchange.{opening_is_taken, challenge_is_taken, proof_is_taken, proof_is_right, verdict_is_taken, verdict_is_right}
use Rattle.scram.proofs.laws.accept_each_other.Goals as goal

pub returns : goal.returns
returns c = record {
  opening = opening_is_taken;
  challenge = challenge_is_taken;
  last = proof_is_taken;
  proof = proof_is_right;
  verdict = verdict_is_taken;
  signature = verdict_is_right;
}
