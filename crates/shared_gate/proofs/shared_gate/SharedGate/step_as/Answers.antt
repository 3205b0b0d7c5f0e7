use Rattle.std.proofs.Common.{rules, ◌∙◌, sym, ap}
use Rattle.crossbeam_utils.specs.Seq.{cell_view}
use Rattle.snapshot_gate.specs.Function.{Turn}
use Rattle.shared_gate.specs.History.{is_grant}
use Rattle.shared_gate.proofs.Turns.{reads_as, read_same, exchange_as, made_as, missed}
use Rattle.shared_gate.proofs.shared_gate.SharedGate.step_as.Goals as goal

pub load_as-found-requires : goal.load_as-found-requires
load_as-found-requires g c =
    let inv = c.loop.invariant in (
      search rules,
      (search rules, (inv.3.0 ∙ (c.requires.gate ∙ sym c.self.view_is), reads_as _ _ c.args.call _ (cell_view c.args.seat.now) _ (c.requires.asking.0 ∙ sym inv.3.1) c.requires.asking.1 inv.2 c.requires.begun c.requires.phase)),
    )

pub compare_exchange_as-requires : goal.compare_exchange_as-requires
compare_exchange_as-requires g c =
    let inv = c.loop.invariant in
    let load = c.load_as-found.ensures in
    let is = sym (ap (λ (u : Turn). is_grant u.1) c.step-answer.ensures) ∙ (sym c.is_granted.ensures ∙ c.if-not-is_granted.false) in
    let same = read_same _ c.args.call _ _ _ c.load_as-found.result c.requires.asking.1 load.rule is ∙ inv.2 in (
      search rules,
      (
        search rules,
        (
          load.cell.0 ∙ (inv.3.0 ∙ (c.requires.gate ∙ sym c.self.view_is)),
          exchange_as _ _ c.args.call _ (cell_view c.args.seat.now) _ c.load_as-found.result c.step-answer.new.self (c.requires.asking.0 ∙ sym (load.cell.1 ∙ inv.3.1)) c.requires.asking.1 same c.requires.begun c.requires.phase is
              (ap (λ (u : Turn). u.0) c.step-answer.ensures),
        ),
      ),
    )

pub returns-then-is_ok-clause-call : goal.returns-then-is_ok-clause-call
returns-then-is_ok-clause-call g c =
    let inv = c.loop.invariant in
    let load = c.load_as-found.ensures in
    let is = sym (ap (λ (u : Turn). is_grant u.1) c.step-answer.ensures) ∙ (sym c.is_granted.ensures ∙ c.if-not-is_granted.false) in
    let same = read_same _ c.args.call _ _ _ c.load_as-found.result c.requires.asking.1 load.rule is ∙ inv.2 in
    made_as _ _ c.args.call _ (cell_view c.args.seat.now) _ _ c.load_as-found.result c.step-answer.new.self _ c.compare_exchange_as.result c.requires.asking.0 c.requires.asking.1 same (sym c.is_ok.ensures.value ∙ c.if-is_ok.true)
    (sym c.step-answer.ensures) is c.compare_exchange_as.ensures.rule

pub loop-preserved : goal.loop-preserved
loop-preserved g c =
    let inv = c.loop.invariant in
    let load = c.load_as-found.ensures in
    let exchange = c.compare_exchange_as.ensures in
    let is = sym (ap (λ (u : Turn). is_grant u.1) c.step-answer.ensures) ∙ (sym c.is_granted.ensures ∙ c.if-not-is_granted.false) in
    let same = read_same _ c.args.call _ _ _ c.load_as-found.result c.requires.asking.1 load.rule is ∙ inv.2 in
    (tt, tt, missed _ _ _ _ c.load_as-found.result c.step-answer.new.self c.compare_exchange_as.result (sym c.is_ok.ensures.value ∙ c.if-is_ok.false) exchange.rule ∙ same, (exchange.cell.0 ∙ (load.cell.0 ∙ inv.3.0), exchange.cell.1 ∙ (load.cell.1 ∙ inv.3.1)))
