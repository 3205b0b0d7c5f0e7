use Rattle.std.proofs.Common.{◌≡◌, ◌≤◌, ◌∷◌, [], ℤ, pos, to_z, w32, subst, arith}
use Rattle.std.proofs.lemmas.Int.{to_z_pos}
use Rattle.pg_messages.specs.declared.server.ServerMessage.TheVariants.{BackendKey}
use Rattle.play.specs.Replies.{Sent}
use Rattle.play.proofs.session.send_key.Goals as goal

pub returns : goal.returns
returns c =
    let P : ℤ → Type 0 = λ z. Sent c.args.output.now c.send.new.output (BackendKey z (pos 0) ∷ []) in
    let low : c.args.session.number ≤ 64 = c.args.session.up_to_64 in
    let same : to_z w32 c.args.session.number ≡ pos c.args.session.number = to_z_pos w32 c.args.session.number (omega arith) in
    subst P same c.in_ok-send.ensures
