use Rattle.std.proofs.Common.{ℤ, ◌∙◌, sym, subst, w64}
use Rattle.std.proofs.lemmas.Int.{to_z-of_z}
use Rattle.pg_messages.specs.declared.client.ClientMessage.{ClientMessage}
use Rattle.pg_messages.specs.declared.read.Read.{Read}
use Rattle.pg_messages.specs.declared.read.Read.TheVariants.{Whole}
use Rattle.session_wire.specs.Shown.{shown}
use Rattle.session_wire.specs.Steps.{Meets}
use Rattle.session_wire.proofs.wire.Wire.message.Goals as goal

pub returns-in_ok-step-in-Whole-clause-meets : goal.returns-in_ok-step-in-Whole-clause-meets
returns-in_ok-step-in-Whole-clause-meets c =
    subst (λ (front : Read ClientMessage). Meets c.args.tables.now c.args.moment front (shown c.args.self.now) c.in_ok-step-in-Whole.step (shown c.take_later.new.self)) (sym c.in-Whole.is ∙ c.in_ok-later_front.ensures.exact)
    (subst (λ (moment : ℤ). Meets c.args.tables.now moment (Whole c.in-Whole.message c.in-Whole.length) (shown c.args.self.now) c.in_ok-step-in-Whole.step (shown c.take_later.new.self)) (to_z-of_z w64 c.args.moment c.ranges.moment)
    c.in_ok-step-in-Whole.ensures.meets)
