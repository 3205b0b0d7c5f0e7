use Rattle.std.proofs.Common.{List, length, arith, subst, sym, ap, refl, ◌∙◌}
use Rattle.std.proofs.lemmas.Bool.{eqb-true}
use Rattle.std.proofs.lemmas.List.{nil_from_length}
use Rattle.sql_tokens.specs.declared.piece.Piece.{Piece}
use Rattle.sql_tokens.specs.declared.piece.Piece.TheVariants.{Gap}
use Rattle.sql_tokens.specs.declared.token.Placed.{Placed}
use Rattle.sql_tokens.specs.Pieces.{PieceOf}
use Rattle.sql_tokens.proofs.Loop.{Going, starts, skips, takes, full, ends, behind_piece, token_shorter}
use Rattle.sql_tokens.proofs.reader.tokens_of.Goals as goal

pub loop-left-init : goal.loop-left-init
loop-left-init c = subst (λ (tokens : List Placed). Going c.args.text.now tokens c.args.text.now) (sym (c.reserve.ensures ∙ c.new-tokens.ensures)) (starts c.args.text.now)

pub loop-left-smaller-in-Gap : goal.loop-left-smaller-in-Gap
loop-left-smaller-in-Gap c =
    (behind_piece c.loop-left.left.now c.in_ok-piece.after.now Gap
    (subst (λ (piece : Piece). PieceOf c.loop-left.left.now piece c.in_ok-piece.after.now) c.in-Gap.is c.in_ok-piece.ensures)).1

pub loop-left-preserved-in-Gap : goal.loop-left-preserved-in-Gap
loop-left-preserved-in-Gap c =
    skips c.args.text.now c.loop-left.left.now c.in_ok-piece.after.now c.loop-left.tokens c.loop-left.invariant
    (subst (λ (piece : Piece). PieceOf c.loop-left.left.now piece c.in_ok-piece.after.now) c.in-Gap.is c.in_ok-piece.ensures)

pub returns-then-len-eq-MOST_TOKENS : goal.returns-then-len-eq-MOST_TOKENS
returns-then-len-eq-MOST_TOKENS c =
    full c.args.text.now c.loop-left.left.now c.in_ok-piece.after.now c.loop-left.tokens c.push.new.self c.in-Token.token _
    c.in_ok-push-in-Token.ensures.ok c.loop-left.invariant
    (subst (λ (piece : Piece). PieceOf c.loop-left.left.now piece c.in_ok-piece.after.now) c.in-Token.is c.in_ok-piece.ensures)
    c.past_limit-token.ensures (omega arith) (omega arith)

pub loop-left-smaller : goal.loop-left-smaller
loop-left-smaller c =
    let behind = ap length c.read_behind-left.ensures in
    let short = token_shorter c.loop-left.left.now c.in_ok-piece.after.now c.in-Token.token
    (subst (λ (piece : Piece). PieceOf c.loop-left.left.now piece c.in_ok-piece.after.now) c.in-Token.is c.in_ok-piece.ensures) in
    omega arith

pub loop-left-preserved : goal.loop-left-preserved
loop-left-preserved c =
    takes c.args.text.now c.loop-left.left.now c.in_ok-piece.after.now c.read_behind-left.result.now c.loop-left.tokens c.push-in-Token.new.self c.in-Token.token _
    c.in_ok-push-in-Token-2.ensures.ok c.loop-left.invariant
    (subst (λ (piece : Piece). PieceOf c.loop-left.left.now piece c.in_ok-piece.after.now) c.in-Token.is c.in_ok-piece.ensures)
    refl c.read_behind-left.ensures (λ e. c.if-len-eq-MOST_TOKENS.false (c.len.ensures ∙ e)) (omega arith)

pub returns : goal.returns
returns c =
    ends c.args.text.now c.loop-left.left.now c.loop-left.tokens c.loop-left.invariant
    (nil_from_length c.loop-left.left.now (eqb-true (length c.loop-left.left.now) 0 (sym c.is_empty.ensures ∙ c.loop-left-test.false)))
