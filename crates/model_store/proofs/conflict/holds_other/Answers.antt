use Rattle.std.proofs.Common.{sym, subst, ap, ◌∙◌}
use Rattle.backend_trait.specs.Effect.{Wants, Conflicts}
use Rattle.model_store.specs.declared.seat.Seat.{Seat}
use Rattle.model_store.specs.Phases.{held_by_phase}
use Rattle.model_store.specs.Conflicts.{wants_of}
use Rattle.model_store.proofs.ConflictLaws.{held_at}
use Rattle.model_store.proofs.conflict.holds_other.Goals as goal

pub returns : goal.returns
returns c =
    let is = held_at c.args.seats.now c.args.other c.index-seats-other.result c.requires c.index-seats-other.is ∙ ap (λ (seat : Seat). held_by_phase seat.phase) c.index-seats-other.is in (
      λ e. (c.if-other-at.false, subst (λ (held : Wants). Conflicts (wants_of c.args.wanted) held) (sym is) (c.holds.ensures.0 e)),
      λ p. c.holds.ensures.1 (subst (λ (held : Wants). Conflicts (wants_of c.args.wanted) held) is p.1),
    )
