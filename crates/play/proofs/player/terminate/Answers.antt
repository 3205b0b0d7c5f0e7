use Rattle.std.proofs.Common.{Bool, List, ℕ, not, sym, subst}
use Rattle.std.specs.Prelude.{true}
use Rattle.pool_base.specs.Outside.{Appends, AppendsFront}
use Rattle.pg_messages.specs.declared.client.ClientMessage.TheVariants.{Terminate}
use Rattle.play.specs.Opening.{HoldsClient}
use Rattle.play.specs.Transcript.{closing}
use Rattle.play.proofs.Asking.{whatever}
use Rattle.play.proofs.Replying.{front_nothing}
use Rattle.play.proofs.player.terminate.Goals as goal

pub returns-in_err-input-clause-front : goal.returns-in_err-input-clause-front
returns-in_err-input-clause-front g c = whatever c.from_residual.result (front_nothing (g.O.Sink.taken c.args.out.now) (closing true))

pub returns-in_err-connected-clause-front : goal.returns-in_err-connected-clause-front
returns-in_err-connected-clause-front g c = whatever c.from_residual-in_err-connected.result (front_nothing (g.O.Sink.taken c.args.out.now) (closing true))

pub returns-in_err-close-clause-front : goal.returns-in_err-close-clause-front
returns-in_err-close-clause-front g c =
    let held : HoldsClient c.as_slice-bytes.result.now Terminate = subst (λ (bytes : List ℕ). HoldsClient bytes Terminate) (sym c.as_slice-bytes.ensures) c.in_ok-input.ensures in
    let off = (c.in_ok-connected.ensures.terminate held).0 in
    whatever c.from_residual-in_err-close.result
    (subst (λ (o : Bool). AppendsFront (g.O.Sink.taken c.args.out.now) (g.O.Sink.taken c.close.new.out) (closing (not o))) off c.in_err-close.ensures.front)

pub returns-clause-online : goal.returns-clause-online
returns-clause-online g c =
    let held : HoldsClient c.as_slice-bytes.result.now Terminate = subst (λ (bytes : List ℕ). HoldsClient bytes Terminate) (sym c.as_slice-bytes.ensures) c.in_ok-input.ensures in
    (c.in_ok-connected.ensures.terminate held).0

pub returns-clause-all : goal.returns-clause-all
returns-clause-all g c =
    let held : HoldsClient c.as_slice-bytes.result.now Terminate = subst (λ (bytes : List ℕ). HoldsClient bytes Terminate) (sym c.as_slice-bytes.ensures) c.in_ok-input.ensures in
    let off = (c.in_ok-connected.ensures.terminate held).0 in
    subst (λ (o : Bool). Appends (g.O.Sink.taken c.args.out.now) (g.O.Sink.taken c.close.new.out) (closing (not o))) off c.in_ok-close.ensures.all

pub returns-clause-rows : goal.returns-clause-rows
returns-clause-rows g c =
    let held : HoldsClient c.as_slice-bytes.result.now Terminate = subst (λ (bytes : List ℕ). HoldsClient bytes Terminate) (sym c.as_slice-bytes.ensures) c.in_ok-input.ensures in
    (c.in_ok-connected.ensures.terminate held).1
