use Rattle.std.proofs.Common.{◌∙◌, List, set, sym, ap, subst, arith}
use Rattle.std.proofs.lemmas.List.{length-set}
use Rattle.session_seat.specs.Rolls.{AreBlank, AllCount, AreHonest, ArePrompt, AreSteady, AreTold, AreTrue, IsBlank}
use Rattle.session_seat.specs.Shared.{stores_of}
use Rattle.session_seat.proofs.BlankLemmas.{is_blank}
use Rattle.session_seat.proofs.RollLemmas.{honest_next}
use Rattle.session_seat.proofs.SwapLemmas.{blank_at, blank_front, blank_swap, counting_front, counting_swap, honest_swap, known_front, known_swap, on_err, stores_front, stores_swap, swapped_is, told_front, told_swap}
use Rattle.session_seat.proofs.world.World.swap.Goals as goal

pub prepare-requires-clause-blank : goal.prepare-requires-clause-blank
prepare-requires-clause-blank g c =
    let world = c.args.self.now in
    let may = c.may_swap.ensures.is.0 c.if-not-may_swap.false in
    is_blank (g.B.Backend.meaning c.index_mut.result.now)
    (blank_at g.B.Backend.meaning world.count world.shelf.items world.spares c.args.spare c.index_mut.result.now world.blank may.behind may.there may.aside c.index_mut.ensures.value)

pub invariant_of-self : goal.invariant_of-self
invariant_of-self g c =
    let world = c.args.self.now in
    let may = c.may_swap.ensures.is.0 c.if-not-may_swap.false in
    record {
      enough = omega (arith, length-set world.shelf.items c.args.spare c.prepare.new.self, world.enough);
      known = known_front world.count world.shelf.items c.args.spare c.prepare.new.self may.behind may.there g.B.Backend.meaning world.tables world.rolls world.known;
      honest = honest_next g.B.Backend.is_honest world.shelf.items c.args.spare c.index_mut.result.now c.prepare.new.self world.honest may.there c.index_mut.ensures.value c.prepare.ensures.honest;
      prompt = honest_next g.B.Backend.is_prompt world.shelf.items c.args.spare c.index_mut.result.now c.prepare.new.self world.prompt may.there c.index_mut.ensures.value c.prepare.ensures.prompt;
      steady = honest_next g.B.Backend.is_steady world.shelf.items c.args.spare c.index_mut.result.now c.prepare.new.self world.steady may.there c.index_mut.ensures.value c.prepare.ensures.steady;
      told = told_front world.count world.shelf.items c.args.spare c.prepare.new.self may.behind may.there g.B.Backend.meaning world.lost.bits world.told;
      counts = counting_front world.count world.shelf.items c.args.spare c.prepare.new.self may.behind may.there g.B.Backend.meaning world.tables world.counts;
      blank = blank_front world.count world.shelf.items c.args.spare c.prepare.new.self may.behind may.there g.B.Backend.meaning world.spares world.blank
          (subst IsBlank (sym c.in_err-prepare.ensures.unchanged)
          (blank_at g.B.Backend.meaning world.count world.shelf.items world.spares c.args.spare c.index_mut.result.now world.blank may.behind may.there may.aside c.index_mut.ensures.value));
    }

pub returns-in_err-prepare-clause-as_before : goal.returns-in_err-prepare-clause-as_before
returns-in_err-prepare-clause-as_before g c =
    let world = c.args.self.now in
    let may = c.may_swap.ensures.is.0 c.if-not-may_swap.false in
    on_err c.from_residual.result (stores_front world.count world.shelf.items c.args.spare c.prepare.new.self may.behind may.there g.B.Backend.meaning world.tables)

pub put-requires : goal.put-requires
put-requires g c = c.may_swap.ensures.within c.if-not-may_swap.false

pub invariant_of-self-2 : goal.invariant_of-self-2
invariant_of-self-2 g c =
    let world = c.args.self.now in
    let may = c.may_swap.ensures.is.0 c.if-not-may_swap.false in
    let at = c.from-at.result in
    let is = swapped_is world.count world.shelf.items at c.args.spare c.prepare.new.self (omega (arith, may.configured)) may.behind may.there c.swap.new.self.items c.swap.ensures.items in
    record {
      enough = omega (arith, c.swap.ensures.len, length-set world.shelf.items c.args.spare c.prepare.new.self, world.enough);
      known = subst (λ (xs : List g.row.B.Denot). AreTrue g.B.Backend.meaning world.tables world.count xs (set world.rolls at c.new.result)) (sym is)
          (known_swap world.count world.shelf.items at c.args.spare c.prepare.new.self (omega (arith, may.configured)) may.behind may.there g.B.Backend.meaning world.tables world.rolls c.new.result world.known (omega arith) c.new.ensures
          c.in_ok-prepare.ensures.prepared);
      honest = subst (λ (xs : List g.row.B.Denot). AreHonest g.B.Backend.is_honest xs) (sym is)
          (honest_swap world.count world.shelf.items at c.args.spare c.prepare.new.self (omega (arith, may.configured)) may.behind may.there g.B.Backend.is_honest c.index_mut.result.now world.honest c.index_mut.ensures.value
          c.prepare.ensures.honest);
      prompt = subst (λ (xs : List g.row.B.Denot). ArePrompt g.B.Backend.is_prompt xs) (sym is)
          (honest_swap world.count world.shelf.items at c.args.spare c.prepare.new.self (omega (arith, may.configured)) may.behind may.there g.B.Backend.is_prompt c.index_mut.result.now world.prompt c.index_mut.ensures.value
          c.prepare.ensures.prompt);
      steady = subst (λ (xs : List g.row.B.Denot). AreSteady g.B.Backend.is_steady xs) (sym is)
          (honest_swap world.count world.shelf.items at c.args.spare c.prepare.new.self (omega (arith, may.configured)) may.behind may.there g.B.Backend.is_steady c.index_mut.result.now world.steady c.index_mut.ensures.value
          c.prepare.ensures.steady);
      told = subst (λ (xs : List g.row.B.Denot). AreTold g.B.Backend.meaning c.without-self.result.bits world.count xs) (sym is)
          (told_swap world.count world.shelf.items at c.args.spare c.prepare.new.self (omega (arith, may.configured)) may.behind may.there g.B.Backend.meaning world.tables world.lost.bits c.without-self.result.bits c.args.b.number
          (omega arith) world.told c.without-self.ensures.members c.in_ok-prepare.ensures.prepared);
      counts = subst (λ (xs : List g.row.B.Denot). AllCount g.B.Backend.meaning world.tables world.count xs) (sym is)
          (counting_swap world.count world.shelf.items at c.args.spare c.prepare.new.self (omega (arith, may.configured)) may.behind may.there g.B.Backend.meaning world.tables world.counts c.in_ok-prepare.ensures.prepared);
      blank = subst (λ (xs : List g.row.B.Denot). AreBlank g.B.Backend.meaning world.count xs c.put.new.self) (sym is)
          (blank_swap world.count world.shelf.items at c.args.spare c.prepare.new.self (omega (arith, may.configured)) may.behind may.there g.B.Backend.meaning world.spares c.put.new.self world.blank c.put.ensures);
    }

pub returns-clause-swapped : goal.returns-clause-swapped
returns-clause-swapped g c =
    let world = c.args.self.now in
    let may = c.may_swap.ensures.is.0 c.if-not-may_swap.false in
    let at = c.from-at.result in
    let is = swapped_is world.count world.shelf.items at c.args.spare c.prepare.new.self (omega (arith, may.configured)) may.behind may.there c.swap.new.self.items c.swap.ensures.items in
    ap (stores_of g.B.Backend.meaning world.tables world.count) is
    ∙ stores_swap world.count world.shelf.items at c.args.spare c.prepare.new.self (omega (arith, may.configured)) may.behind may.there g.B.Backend.meaning world.tables c.args.b.number (omega arith) c.in_ok-prepare.ensures.prepared
