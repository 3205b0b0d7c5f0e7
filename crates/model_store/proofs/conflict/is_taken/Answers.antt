use Rattle.std.proofs.Common.{◌≡◌, true, false, refl, sym, ◌∙◌}
use Rattle.model_store.specs.Conflicts.{wants_of}
use Rattle.model_store.proofs.ConflictLaws.{none_more, none_at_all}
use Rattle.model_store.proofs.conflict.is_taken.Goals as goal

pub returns-then-holds_other : goal.returns-then-holds_other
returns-then-holds_other c =
    let found = c.holds_other.ensures.0 c.if-holds_other.true in
    (λ e. (c.loop-other.other, found.0, found.1), λ e. refl)

pub loop-other-preserved : goal.loop-other-preserved
loop-other-preserved c = none_more c.args.seats.now c.args.at (wants_of c.args.wanted) c.loop-other.other c.loop-other.invariant (λ p. let f : true ≡ false = sym (c.holds_other.ensures.1 p) ∙ c.if-holds_other.false in cc)

pub returns : goal.returns
returns c = (
  λ e. absurd (let f : false ≡ true = e in cc),
  λ there. absurd (none_at_all c.args.seats.now c.args.at (wants_of c.args.wanted) c.loop-other.other c.loop-other-test.false c.loop-other.invariant there),
)
