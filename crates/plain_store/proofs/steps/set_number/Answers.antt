use Rattle.std.proofs.Common.{refl, ap, ◌∙◌, arith}
use Rattle.std.specs.Prelude.{ℤ, Some}
use Rattle.std.proofs.lemmas.Int.{ints, to_z-of_z}
use Rattle.backend_trait.specs.Rows.{with_at}
use Rattle.outcomes.specs.Next.{next_of}
use Rattle.plain_store.specs.Meaning.{store_of}
use Rattle.plain_store.proofs.AnsweredLaws.{store_with, set_is, one_positive}
use Rattle.plain_store.proofs.steps.set_number.Goals as goal

pub set-requires : goal.set-requires
set-requires c = one_positive _ (omega (arith, ints, c.requires.positive))

pub returns : goal.returns
returns c =
    set_is c.args.store.now c.args.s (store_with c.tell.new.store c.set.new.self) (store_of c.tell.new.store) c.args.table c.args.next (next_of c.set.new.self) c.tell.ensures
    (c.set.ensures ∙ ap (λ (z : ℤ). with_at (store_of c.tell.new.store).next c.args.table (Some z)) (to_z-of_z _ c.args.next c.ranges.next)) refl
