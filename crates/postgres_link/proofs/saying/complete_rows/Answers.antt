use Rattle.std.proofs.Common.{arith}
use Rattle.postgres_link.proofs.saying.complete_rows.Goals as goal

pub returns-in_default-counted : goal.returns-in_default-counted
returns-in_default-counted c = rw c.in-Rows-Rows.is-0 (rw c.in-Rows-Rows.is-1 (λ s done. c.in_default-counted.ensures _ done.0))

pub returns-then-count-len : goal.returns-then-count-len
returns-then-count-len c = rw c.in-Rows-Rows.is-0 (rw c.in-Rows-Rows.is-1 (λ s done. let e = c.in-Some-counted.ensures.1 _ done.0 in omega (arith, e)))
