-- What is left behind an outcome: nothing of a text behind an error, and no portals behind a Settle outside a block.
use Rattle.std.proofs.Common.{◌≡◌, ℕ, Bool, List, [], length, true, false, refl, subst, arith}
use Rattle.std.specs.Prelude.{◌&&◌, drop, nat_eq, not}
use Rattle.std.proofs.lemmas.List.{drop_all}
use Rattle.sql_tree.specs.declared.statement.Statement.{Statement}
use Rattle.session_orders.specs.declared.outcome.Outcome.{Outcome}
use Rattle.session_wire.specs.declared.due.Due.{Due}
use Rattle.session_wire.specs.declared.due.Due.TheVariants as due
use Rattle.session_wire.specs.Answers.{ends_block, keeps_portals}

-- behind an error of a Query nothing is left of its text
pub none_left : (text : List Statement) → drop (length text) text ≡ []
none_left text = drop_all (length text) text (omega arith)

not_true : (b : Bool) → not b ≡ true → b ≡ false
not_true true e = let never : false ≡ true = e in absurd (cc)
not_true false e = refl

both_true : (a b : Bool) → (a && b) ≡ true → (a ≡ true) × (b ≡ true)
both_true true b e = (refl, e)
both_true false b e = let never : false ≡ true = e in absurd (cc)

-- where the portals stay behind a Settle, the session stands in a block
pub keeps_within : (d : Due) (o : Outcome) (status : ℕ) → d ≡ due.Settle → keeps_portals d o status ≡ true → nat_eq status 73 ≡ false
keeps_within d o status is keeps =
    not_true (nat_eq status 73) (both_true (not (nat_eq status 73)) (not (ends_block o)) (subst (λ (z : Due). keeps_portals z o status ≡ true) is keeps)).0
