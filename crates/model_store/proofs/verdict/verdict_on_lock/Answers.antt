use Rattle.std.proofs.Common.{◌≡◌, sym, ◌∙◌, true, false}
use Rattle.backend_trait.specs.Store.{table_lock}
use Rattle.model_store.proofs.VerdictLaws.{taken, free}
use Rattle.model_store.proofs.verdict.verdict_on_lock.Goals as goal

pub returns-then-is_taken : goal.returns-then-is_taken
returns-then-is_taken c = λ numbers tables log. taken numbers tables log c.args.seats.now false c.args.at (table_lock c.args.table) (c.is_taken.ensures.0 c.if-is_taken.true)

pub returns-else-is_taken : goal.returns-else-is_taken
returns-else-is_taken c =
    λ numbers tables log. free numbers tables log c.args.seats.now false c.args.at (table_lock c.args.table) (λ held. let f : true ≡ false = sym (c.is_taken.ensures.1 held) ∙ c.if-is_taken.false in cc)
