use Rattle.std.proofs.Common.{◌≡◌, ◌≢◌, false, true, None, ◌+◌, take, sym, subst, ◌∙◌}
use Rattle.std.proofs.lemmas.Slice.Eq.{bytes_eq-Decides}
use Rattle.wire_session.specs.Kept.{portal_in}
use Rattle.wire_session.specs.Standing.{IsAt}
use Rattle.wire_session.proofs.Places.{found_at, none_yet}
use Rattle.wire_session.proofs.portals.Portals.place_of.Goals as goal

pub returns-then-eq : goal.returns-then-eq
returns-then-eq c =
    let own = sym c.as_slice.ensures ∙ (bytes_eq-Decides c.as_slice.result.now c.args.name.now).0 (sym c.eq.ensures ∙ c.if-eq.true) in
    subst (λ ps. IsAt c.args.name.now ps c.loop-at.at) c.as_slice-portal-items.ensures.value
    (found_at c.args.name.now c.as_slice-portal-items.result.now c.loop-at.at c.portal-item.result c.loop-at-test.true c.portal-item.is own
    (subst (λ ps. portal_in c.args.name.now (take c.loop-at.at ps) ≡ None) (sym c.as_slice-portal-items.ensures.value) c.loop-at.invariant))

pub loop-at-preserved : goal.loop-at-preserved
loop-at-preserved c =
    let differs : c.portal-item.result.name ≢ c.args.name.now = λ e. let b : false ≡ true = sym c.if-eq.false ∙ c.eq.ensures ∙ (bytes_eq-Decides c.as_slice.result.now c.args.name.now).1 (c.as_slice.ensures ∙ e) in cc in
    subst (λ ps. portal_in c.args.name.now (take (c.loop-at.at + 1) ps) ≡ None) c.as_slice-portal-items.ensures.value
    (none_yet c.args.name.now c.as_slice-portal-items.result.now c.loop-at.at c.portal-item.result c.loop-at-test.true c.portal-item.is differs
    (subst (λ ps. portal_in c.args.name.now (take c.loop-at.at ps) ≡ None) (sym c.as_slice-portal-items.ensures.value) c.loop-at.invariant))
