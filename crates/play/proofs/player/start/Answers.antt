use Rattle.std.proofs.Common.{Bool, sym, subst}
use Rattle.pool_base.specs.Outside.{Appends, AppendsFront}
use Rattle.play.specs.Replies.{start_up}
use Rattle.play.specs.Transcript.{shown_connect}
use Rattle.play.proofs.Asking.{whatever, start_form, sent_bytes}
use Rattle.play.proofs.player.start.Goals as goal

pub returns-in_err-put_replies-clause-front : goal.returns-in_err-put_replies-clause-front
returns-in_err-put_replies-clause-front g c =
    let sent = (c.in_ok-connected.ensures start_form).1 in
    let Shown : Bool → Type 0 = λ o. AppendsFront (g.O.Sink.taken c.args.out.now) (g.O.Sink.taken c.put_replies.new.out) (shown_connect o) in
    whatever c.from_residual-in_err-put_replies.result (subst Shown (sym c.if-online.false)
    (c.in_err-put_replies.ensures.front (start_up 1) sent.again (sent_bytes c.new-output.result c.connect.new.output c.as_slice.result.now (start_up 1) c.new-output.ensures c.as_slice.ensures sent)))

pub returns-clause-online : goal.returns-clause-online
returns-clause-online g c = (c.in_ok-connected.ensures start_form).0

pub returns-clause-all : goal.returns-clause-all
returns-clause-all g c =
    let sent = (c.in_ok-connected.ensures start_form).1 in
    let Shown : Bool → Type 0 = λ o. Appends (g.O.Sink.taken c.args.out.now) (g.O.Sink.taken c.put_replies.new.out) (shown_connect o) in
    subst Shown (sym c.if-online.false)
    (c.in_ok-put_replies.ensures.all (start_up 1) sent.again (sent_bytes c.new-output.result c.connect.new.output c.as_slice.result.now (start_up 1) c.new-output.ensures c.as_slice.ensures sent))
