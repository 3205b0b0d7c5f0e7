use Rattle.std.proofs.Common.{ℤ, refl, sym, subst, ◌∙◌, w64}
use Rattle.std.proofs.lemmas.Int.{to_z-of_z}
use Rattle.session_wire.specs.Shown.{shown}
use Rattle.session_wire.specs.Steps.{GoesAt}
use Rattle.session_wire.proofs.Cuts.{takes_none}
use Rattle.session_wire.proofs.Awaited.{goes_awaits, goes_on}
use Rattle.session_wire.proofs.wire.Wire.one.Goals as goal

pub returns-then-is_some-clause-goes : goal.returns-then-is_some-clause-goes
returns-then-is_some-clause-goes c = goes_awaits c.args.tables.now c.args.moment c.args.self.now.due (shown c.args.self.now) (sym c.is_some.ensures ∙ c.if-is_some.true)

pub returns-then-is_some-clause-takes : goal.returns-then-is_some-clause-takes
returns-then-is_some-clause-takes c = takes_none (shown c.args.self.now) (shown c.args.self.now) refl (λ begun agrees. agrees)

pub returns-clause-goes : goal.returns-clause-goes
returns-clause-goes c = goes_on c.args.tables.now c.args.moment c.args.self.now.due (shown c.args.self.now) (shown c.at_stage.new.self) c.in_ok-step.step (sym c.is_some.ensures ∙ c.if-is_some.false)
    (subst (λ (moment : ℤ). GoesAt c.args.tables.now moment (shown c.args.self.now).stage (shown c.args.self.now) c.in_ok-step.step (shown c.at_stage.new.self)) (to_z-of_z w64 c.args.moment c.ranges.moment) c.in_ok-step.ensures.goes)
