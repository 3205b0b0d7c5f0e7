use Rattle.std.proofs.Common.{refl, inr}
use Rattle.postgres_link.proofs.saying.gain.Goals as goal

pub returns-in-Unread-clause-carries : goal.returns-in-Unread-clause-carries
returns-in-Unread-clause-carries c =
    let shows = c.has_rows.ensures in
    let has = c.if-not-has_rows.false in
    let rows = c.if-not-has_rows.ensures in
    (refl, rw c.in-Rows.is (cc, inr (c.in-Unread.code, rw c.as_slice.ensures at (rw c.in-Unread.is at c.in_ok-cells.ensures), c.set.ensures)))
