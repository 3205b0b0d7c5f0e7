use Rattle.scram.proofs.Found.{digest_read}
use Rattle.scram.proofs.coding.read_digest.Goals as goal

pub returns-in-Some : goal.returns-in-Some
returns-in-Some c =
    digest_read c.args.text.now c.in-Some.bytes c.as_slice.result.now c.in_ok-bytes.field-0 c.digest_of.result c.in-Some.is c.as_slice.ensures c.in_ok-bytes.ensures c.digest_of.ensures
