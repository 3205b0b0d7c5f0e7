use Rattle.std.proofs.Common.{List, ℕ, subst, ap, ◌∙◌, ◌++◌}
use Rattle.pg_messages.specs.declared.client.ClientMessage.TheVariants.{Query}
use Rattle.pg_messages.specs.Client.{spelling}
use Rattle.play.specs.Opening.{HoldsClient}
use Rattle.play.proofs.Asking.{holds_one}
use Rattle.play.proofs.player.query_bytes.Goals as goal

pub returns : goal.returns
returns c =
    let P : List ℕ → Type 0 = λ text. HoldsClient c.write_client-written.new.onto (Query text) in
    subst P c.in_ok-text.ensures (holds_one c.write_client-written.new.onto (Query c.in_ok-text.text) (c.in_ok-written.ensures.spelled ∙ ap (λ old. old ++ spelling (Query c.in_ok-text.text)) c.in_ok-input.ensures) c.in_ok-written.ensures.again)
