use Rattle.std.proofs.Common.{◌≡◌, Bool, true, ℤ, w64, sym, subst, rules}
use Rattle.std.specs.Prelude.{FitsSigned, IfOk, OnOk, OnErr}
use Rattle.std.proofs.lemmas.Int.{to_z-of_z}
use Rattle.std.proofs.lemmas.Result.{on_ok_weaker, on_err_weaker}
use Rattle.play.specs.Showing.{IsQueryShown, IsQueryShownInPart}
use Rattle.play.proofs.Steps.{gone_shown, gone_in_part}
use Rattle.play.proofs.player.ask.Goals as goal

pub returns-then-scene-clause-online : goal.returns-then-scene-clause-online
returns-then-scene-clause-online g c = subst (λ (o : Bool). IfOk c.query.result (λ (after : Bool). after ≡ o)) (sym c.if-scene.true) c.query.ensures.online

pub returns-then-scene-clause-all : goal.returns-then-scene-clause-all
returns-then-scene-clause-all g c =
    let taken = g.O.Sink.taken in
    let rows = g.D.Database.rows in
    let Shown : Bool → ℤ → Type 0 = λ o m. OnOk c.query.result (IsQueryShown o c.args.catalogue.now (rows c.args.database.now) m c.args.text.now (taken c.args.out.now) (taken c.query.new.out) (rows c.query.new.database)) in
    let fits : FitsSigned w64 c.args.scene.moment = search rules in
    subst (λ (o : Bool). Shown o c.args.scene.moment) (sym c.if-scene.true) (subst (Shown true) (to_z-of_z w64 c.args.scene.moment fits) c.query.ensures.all)

pub returns-then-scene-clause-front : goal.returns-then-scene-clause-front
returns-then-scene-clause-front g c =
    let taken = g.O.Sink.taken in
    let Shown : Bool → ℤ → Type 0 = λ o m. OnErr c.query.result (IsQueryShownInPart o c.args.catalogue.now (g.D.Database.rows c.args.database.now) m c.args.text.now (taken c.args.out.now) (taken c.query.new.out)) in
    let fits : FitsSigned w64 c.args.scene.moment = search rules in
    subst (λ (o : Bool). Shown o c.args.scene.moment) (sym c.if-scene.true) (subst (Shown true) (to_z-of_z w64 c.args.scene.moment fits) c.query.ensures.front)

pub returns-clause-online : goal.returns-clause-online
returns-clause-online g c = subst (λ (o : Bool). IfOk c.gone.result (λ (after : Bool). after ≡ o)) (sym c.if-scene.false) c.gone.ensures.online

pub returns-clause-all : goal.returns-clause-all
returns-clause-all g c =
    let taken = g.O.Sink.taken in
    on_ok_weaker c.gone.result
    (λ wrote. gone_shown c.args.catalogue.now c.args.scene.online (g.D.Database.rows c.args.database.now) c.args.scene.moment c.args.text.now (taken c.args.out.now) (taken c.gone.new.out) c.if-scene.false wrote) c.gone.ensures.all

pub returns-clause-front : goal.returns-clause-front
returns-clause-front g c =
    let taken = g.O.Sink.taken in
    on_err_weaker c.gone.result
    (λ wrote. gone_in_part c.args.catalogue.now c.args.scene.online (g.D.Database.rows c.args.database.now) c.args.scene.moment c.args.text.now (taken c.args.out.now) (taken c.gone.new.out) c.if-scene.false wrote) c.gone.ensures.front
