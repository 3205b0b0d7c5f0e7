use Rattle.std.proofs.Common.{rules, Some, ap, sym, ◌∙◌, take, drop}
use Rattle.pool_base.proofs.Reading.{read_on}
use Rattle.pool_base.proofs.remaining.Remaining.read.Goals as goal

pub returns-clause-gives : goal.returns-clause-gives
returns-clause-gives c =
    let n = c.copy_front-count.result in (
      search rules,
      search rules,
      ap Some (sym c.self.view_is ∙ read_on c.self.inside.bytes c.self.inside.place n (take n c.copy_front-count.new.into) (c.copy_front-count.ensures.bytes ∙ ap (take n) c.split_at.ensures.back ∙ ap (λ xs. take n (drop c.self.inside.place xs)) c.as_slice.ensures)),
    )
