use Rattle.std.proofs.Common.{Bool, sym, subst}
use Rattle.std.specs.Prelude.{OnOk, OnErr}
use Rattle.pool_base.specs.Outside.{Appends, AppendsFront}
use Rattle.play.specs.Transcript.{shown_leave}
use Rattle.play.proofs.player.leave.Goals as goal

pub returns-then-scene-clause-all : goal.returns-then-scene-clause-all
returns-then-scene-clause-all g c =
    subst (λ (o : Bool). OnOk c.terminate.result (Appends (g.O.Sink.taken c.args.out.now) (g.O.Sink.taken c.terminate.new.out) (shown_leave o))) (sym c.if-scene.true) c.terminate.ensures.all

pub returns-then-scene-clause-front : goal.returns-then-scene-clause-front
returns-then-scene-clause-front g c =
    subst (λ (o : Bool). OnErr c.terminate.result (AppendsFront (g.O.Sink.taken c.args.out.now) (g.O.Sink.taken c.terminate.new.out) (shown_leave o))) (sym c.if-scene.true) c.terminate.ensures.front

pub returns-clause-all : goal.returns-clause-all
returns-clause-all g c =
    subst (λ (o : Bool). OnOk c.gone.result (Appends (g.O.Sink.taken c.args.out.now) (g.O.Sink.taken c.gone.new.out) (shown_leave o))) (sym c.if-scene.false) c.gone.ensures.all

pub returns-clause-front : goal.returns-clause-front
returns-clause-front g c =
    subst (λ (o : Bool). OnErr c.gone.result (AppendsFront (g.O.Sink.taken c.args.out.now) (g.O.Sink.taken c.gone.new.out) (shown_leave o))) (sym c.if-scene.false) c.gone.ensures.front
