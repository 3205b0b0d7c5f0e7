use Rattle.std.proofs.Common.{◌+◌, Some, drop, refl, sym, ap, subst, ◌∙◌, eqb}
use Rattle.wire_query.specs.declared.asking.Asked.{Asked}
use Rattle.session_wire.specs.Asking.{Orders}
use Rattle.session_wire.specs.Shown.{shown}
use Rattle.session_wire.proofs.Asked.{behind_drop, last_so, refused_so, taken_so}
use Rattle.session_wire.proofs.wire.Wire.take_asked.Goals as goal

pub returns-in-Order-clause-orders : goal.returns-in-Order-clause-orders
returns-in-Order-clause-orders c = subst (λ (a : Asked). Orders a c.in-Order.body (shown c.args.self.now)
    (record (shown c.args.self.now) { left = drop (c.args.self.now.at + 1) c.args.self.now.text; due = Some c.due_of.result })) (sym c.in-Order.is) (
      refl,
      taken_so (shown c.args.self.now) (drop (c.args.self.now.at + 1) c.args.self.now.text) (eqb (c.args.self.now.at + 1) c.len-count.result) c.in-Order.body c.in-Order.description c.due_of.result
          (behind_drop c.args.self.now.text c.args.self.now.at c.requires.some) (ap (λ n. eqb (c.args.self.now.at + 1) n) c.len-count.ensures ∙ last_so c.args.self.now.text c.args.self.now.at c.requires.some) c.due_of.ensures,
    )

pub returns-in-Refused-clause-orders : goal.returns-in-Refused-clause-orders
returns-in-Refused-clause-orders c = subst (λ (a : Asked). Orders a c.refuse_query.result (shown c.args.self.now) (shown c.refuse_query.new.self)) (sym c.in-Refused.is) (
  c.refuse_query.ensures.order,
  refused_so (shown c.args.self.now) c.in-Refused.refusal (drop (c.args.self.now.at + 1) c.args.self.now.text) (eqb (c.args.self.now.at + 1) c.len-count.result) (shown c.refuse_query.new.self)
      (behind_drop c.args.self.now.text c.args.self.now.at c.requires.some) (ap (λ n. eqb (c.args.self.now.at + 1) n) c.len-count.ensures ∙ last_so c.args.self.now.text c.args.self.now.at c.requires.some) c.refuse_query.ensures.shown,
)
