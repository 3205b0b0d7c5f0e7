use Rattle.login.proofs.Fitting.{told_fits}
use Rattle.login.proofs.refusal.refusal_bytes.Goals as goal

pub write_server-requires : goal.write_server-requires
write_server-requires c =
    told_fits c.args.refusal _ _ _ _ (rw c.new-parts.ensures at c.in_ok-put_part.ensures) c.in_ok-put_part-2.ensures (rw c.code.ensures at c.in_ok-put_part-3.ensures)
    (rw c.text.ensures at c.in_ok-put_part-4.ensures)
