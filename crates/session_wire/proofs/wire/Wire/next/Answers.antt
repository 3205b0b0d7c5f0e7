use Rattle.std.proofs.Common.{ℤ, [], ◌∷◌, Option, of_z, subst, to_z, w64}
use Rattle.std.proofs.lemmas.Int.{to_z-of_z}
use Rattle.session_wire.specs.declared.wire.WireStep.{WireStep}
use Rattle.session_wire.specs.Shown.{shown}
use Rattle.session_wire.specs.Steps.{Goes, IsNext}
use Rattle.session_wire.proofs.Cuts.{takes_twice}
use Rattle.session_wire.proofs.Awaited.{next_answered, next_awaits, nothing_left}
use Rattle.session_wire.proofs.Quiet.{next_closes, next_waits}
use Rattle.session_wire.proofs.wire.Wire.next.Goals as goal

pub returns-in-Some-clause-takes : goal.returns-in-Some-clause-takes
returns-in-Some-clause-takes c = takes_twice (shown c.args.self.now) (shown c.loop-step.self) (shown c.one.new.self) c.loop-step.invariant.0 c.in_ok-step.ensures.takes

pub returns-in-Some-clause-exact : goal.returns-in-Some-clause-exact
returns-in-Some-clause-exact c = (subst (λ (moment : ℤ). IsNext c.args.tables.now moment (shown c.args.self.now) c.in-Some.step (shown c.one.new.self)) (to_z-of_z w64 c.args.moment c.ranges.moment)
    (c.loop-step.invariant.1 [] c.in-Some.step (shown c.one.new.self)
    (subst (λ (s : Option WireStep). Goes c.args.tables.now (to_z w64 (of_z w64 c.args.moment)) (shown c.loop-step.self) s (shown c.one.new.self)) c.in-Some.is c.in_ok-step.ensures.goes)))

pub returns-in-Some-clause-due : goal.returns-in-Some-clause-due
returns-in-Some-clause-due c = λ o e. next_answered c.args.tables.now c.args.moment (shown c.args.self.now) (shown c.one.new.self) c.in-Some.step o
    (subst (λ (moment : ℤ). IsNext c.args.tables.now moment (shown c.args.self.now) c.in-Some.step (shown c.one.new.self)) (to_z-of_z w64 c.args.moment c.ranges.moment)
    (c.loop-step.invariant.1 [] c.in-Some.step (shown c.one.new.self)
    (subst (λ (s : Option WireStep). Goes c.args.tables.now (to_z w64 (of_z w64 c.args.moment)) (shown c.loop-step.self) s (shown c.one.new.self)) c.in-Some.is c.in_ok-step.ensures.goes))) e

pub returns-in-Some-clause-awaits : goal.returns-in-Some-clause-awaits
returns-in-Some-clause-awaits c = λ some. next_awaits c.args.tables.now c.args.moment (shown c.args.self.now) (shown c.one.new.self) c.in-Some.step some
    (subst (λ (moment : ℤ). IsNext c.args.tables.now moment (shown c.args.self.now) c.in-Some.step (shown c.one.new.self)) (to_z-of_z w64 c.args.moment c.ranges.moment)
    (c.loop-step.invariant.1 [] c.in-Some.step (shown c.one.new.self)
    (subst (λ (s : Option WireStep). Goes c.args.tables.now (to_z w64 (of_z w64 c.args.moment)) (shown c.loop-step.self) s (shown c.one.new.self)) c.in-Some.is c.in_ok-step.ensures.goes)))

pub returns-in-Some-clause-waits : goal.returns-in-Some-clause-waits
returns-in-Some-clause-waits c = next_waits c.args.tables.now c.args.moment (shown c.args.self.now) (shown c.one.new.self) c.in-Some.step
    (subst (λ (moment : ℤ). IsNext c.args.tables.now moment (shown c.args.self.now) c.in-Some.step (shown c.one.new.self)) (to_z-of_z w64 c.args.moment c.ranges.moment)
    (c.loop-step.invariant.1 [] c.in-Some.step (shown c.one.new.self)
    (subst (λ (s : Option WireStep). Goes c.args.tables.now (to_z w64 (of_z w64 c.args.moment)) (shown c.loop-step.self) s (shown c.one.new.self)) c.in-Some.is c.in_ok-step.ensures.goes)))

pub returns-in-Some-clause-closes : goal.returns-in-Some-clause-closes
returns-in-Some-clause-closes c = λ refused. next_closes c.args.tables.now c.args.moment (shown c.args.self.now) (shown c.one.new.self) c.in-Some.step refused
    (subst (λ (moment : ℤ). IsNext c.args.tables.now moment (shown c.args.self.now) c.in-Some.step (shown c.one.new.self)) (to_z-of_z w64 c.args.moment c.ranges.moment)
    (c.loop-step.invariant.1 [] c.in-Some.step (shown c.one.new.self)
    (subst (λ (s : Option WireStep). Goes c.args.tables.now (to_z w64 (of_z w64 c.args.moment)) (shown c.loop-step.self) s (shown c.one.new.self)) c.in-Some.is c.in_ok-step.ensures.goes)))

pub loop-step-preserved : goal.loop-step-preserved
loop-step-preserved c = (
  takes_twice (shown c.args.self.now) (shown c.loop-step.self) (shown c.one.new.self) c.loop-step.invariant.0 c.in_ok-step.ensures.takes,
  λ mids step new leads. c.loop-step.invariant.1 (shown c.one.new.self ∷ mids) step new (
    subst (λ (s : Option WireStep). Goes c.args.tables.now (to_z w64 (of_z w64 c.args.moment)) (shown c.loop-step.self) s (shown c.one.new.self))
        (nothing_left c.in_ok-step.field-0 c.in_default.not-Some) c.in_ok-step.ensures.goes,
    leads,
  ),
)
