use Rattle.std.proofs.Common.{◌∙◌, ap, sym}
use Rattle.std.proofs.lemmas.Result.{on_ok_weaker}
use Rattle.session_player.specs.declared.deed.Wish.{Wish}
use Rattle.session_player.specs.Speaking.{hearer_of}
use Rattle.session_player.specs.Transcript.{wished}
use Rattle.session_player.proofs.connecting.grant_client.Goals as goal

pub returns-in-Hold-clause-hears : goal.returns-in-Hold-clause-hears
returns-in-Hold-clause-hears c = ap (λ (w : Wish). wished w (hearer_of c.args.client.now.place.seat)) (sym c.in-Hold.is)

pub returns-in-Go-clause-hears : goal.returns-in-Go-clause-hears
returns-in-Go-clause-hears c = ap (λ (w : Wish). wished w (hearer_of c.args.client.now.place.seat)) (sym c.in-Go.is)

pub returns-in-Until-clause-hears : goal.returns-in-Until-clause-hears
returns-in-Until-clause-hears c = ap (λ (w : Wish). wished w (hearer_of c.args.client.now.place.seat)) (sym c.in-Until.is)

pub returns-in-Send-clause-hears : goal.returns-in-Send-clause-hears
returns-in-Send-clause-hears c =
    on_ok_weaker c.send.result
    (λ hears. (λ i. record { view = hears i; over = c.send.ensures.over i; turn = c.send.ensures.turn i }) ∙ ap (λ (w : Wish). wished w (hearer_of c.args.client.now.place.seat)) (sym c.in-Send.is)) c.send.ensures.hears
