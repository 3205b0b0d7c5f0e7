use Rattle.std.proofs.Common.{◌≡◌, ◌++◌, List, ℕ, codes}
use Rattle.scram.specs.Words.{IsDigest, in_base64}
use Rattle.scram.proofs.Readers.{ok_reads_through, final_is, final_behind, final_code}
use Rattle.scram.proofs.proof.read_proof.Goals as goal

pub returns-in_default-after : goal.returns-in_default-after
returns-in_default-after c = λ x is.
    c.in_default-after.ensures (in_base64 x) (final_behind c.args.unproved.now c.args.message.now c.in-Some.behind.now x c.in-Some.ensures is.1)

pub returns : goal.returns
returns c =
    ok_reads_through (λ (b : List ℕ). IsDigest b × (c.in-Some-after.code.now ≡ in_base64 b))
    (λ (b : List ℕ). IsDigest b × (c.args.message.now ≡ c.args.unproved.now ++ codes ",p=" ++ in_base64 b)) c.read_digest.result
    (λ b is. (is.0, final_is c.args.unproved.now c.args.message.now c.in-Some.behind.now c.in-Some-after.code.now b c.in-Some.ensures c.in-Some-after.ensures is.1))
    (λ b is. (is.0, final_code c.args.unproved.now c.args.message.now c.in-Some.behind.now c.in-Some-after.code.now b c.in-Some.ensures c.in-Some-after.ensures is.1))
    c.read_digest.ensures
