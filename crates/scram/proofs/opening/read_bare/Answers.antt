use Rattle.std.proofs.Common.{◌∙◌, sym, true≢false}
use Rattle.scram.proofs.Readers.{bare_no_name, bare_no_nonce, bare_not}
use Rattle.scram.proofs.opening.read_bare.Goals as goal
use Rattle.scram.proofs.opening.read_bare.Goals.{else-is_name-via-then-is_name+else-is_nonce, else-is_name-via-else-is_name}

pub returns-in_err-user : goal.returns-in_err-user
returns-in_err-user c = rw c.from_residual.ensures (bare_no_name c.args.bare.now c.in_err-user.ensures)

pub returns-in_err-nonce : goal.returns-in_err-nonce
returns-in_err-nonce c =
    rw c.from_residual-in_err-nonce.ensures
    (bare_no_nonce c.args.bare.now c.in_ok-user.user.now c.in_ok-user.behind.now c.in_ok-user.ensures.0 c.in_ok-user.ensures.1 c.in_err-nonce.ensures)

pub returns-else-is_name : goal.returns-else-is_name
returns-else-is_name c =
    bare_not c.args.bare.now c.in_ok-user.user.now c.in_ok-user.behind.now c.in_ok-nonce.nonce.now c.in_ok-user.ensures.0 c.in_ok-user.ensures.1 c.in_ok-nonce.ensures
    (λ name printable. elim c.else-is_name.branch [
      | else-is_name-via-then-is_name+else-is_nonce w ↦ true≢false (sym (w.is_nonce.ensures.1 printable) ∙ w.if-is_nonce.false)
      | else-is_name-via-else-is_name w ↦ true≢false (sym (c.is_name.ensures.1 name) ∙ w.if-is_name.false)
    ])
