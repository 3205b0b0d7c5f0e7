use Rattle.std.proofs.Common.{◌≡◌, refl, sym, arith, ap, ◌∙◌, subst, map}
use Rattle.std.specs.Prelude.{Some, slice_get}
use Rattle.backend_trait.specs.declared.request.Request.{Request}
use Rattle.backend_trait.specs.Store.{Store, MayPost}
use Rattle.write_path.specs.Chains.{answer_of, has_refused}
use Rattle.session_core.specs.Standing.{IsAlone}
use Rattle.session_core.specs.Chains.{AskedAt}
use Rattle.session_core.proofs.Going.{more, closed_more, unasked, no_answer, may_next}
use Rattle.session_core.proofs.ask.go_down.Goals as goal

pub loop-init : goal.loop-init
loop-init g c = record {
  asked = unasked c.args.s.number _ _ _ _ c.begin.ensures.none;
  below = λ k h. absurd (omega arith);
  kind = c.begin.ensures.kind;
  len = refl;
  honest = c.requires.honest;
  prompt = c.requires.prompt;
  steady = c.requires.steady;
}

pub ask_at-requires-clause-may : goal.ask_at-requires-clause-may
ask_at-requires-clause-may g c =
    let olds = map g.B.Backend.meaning c.args.shelf.now in
    let mids = map g.B.Backend.meaning c.loop.shelf in
    let s = c.args.s.number in
    let b = c.in-Some.b.number in
    let none = (no_answer c.loop.chain c.args.attached.bits b c.in-Some.ensures.next.0).0 in
    subst (λ (r : Request). (st : Store) → slice_get mids b ≡ Some st → IsAlone s st × MayPost st s r) (sym c.in_ok-request.ensures)
    (may_next s _ (answer_of c.loop.chain) (has_refused c.loop.chain) olds mids b c.requires.may c.loop.invariant.asked none)

pub loop-preserved : goal.loop-preserved
loop-preserved g c =
    let olds = map g.B.Backend.meaning c.args.shelf.now in
    let mids = map g.B.Backend.meaning c.loop.shelf in
    let news = map g.B.Backend.meaning c.ask_at.new.shelf in
    let b = c.in-Some.b.number in
    let answer = c.in_ok-answer.answer in
    let none = (no_answer c.loop.chain c.args.attached.bits b c.in-Some.ensures.next.0).0 in
    let at = subst (λ (r : Request). AskedAt c.args.s.number r b answer mids news) c.in_ok-request.ensures c.in_ok-answer.ensures.asked in
    record {
      asked = more c.args.s.number _ olds mids news c.loop.chain c.take_answer.new.self b answer c.is_refusal-refused.result
          c.loop.invariant.asked none at c.is_refusal-refused.ensures c.take_answer.ensures;
      below = closed_more c.loop.chain c.take_answer.new.self c.args.attached.bits b answer c.is_refusal-refused.result c.loop.counter c.in-Some.ensures.next c.loop.invariant.below c.take_answer.ensures;
      kind = c.take_answer.ensures.kind ∙ c.loop.invariant.kind;
      len = c.ask_at.ensures.len ∙ c.loop.invariant.len;
      honest = c.ask_at.ensures.honest;
      prompt = c.ask_at.ensures.prompt;
      steady = c.ask_at.ensures.steady;
    }
