use Rattle.std.proofs.Common.{◌≡◌, ◌∙◌, ℕ, List, min, length, take, ap, arith}
use Rattle.std.proofs.lemmas.List.{take_min}
use Rattle.sql_tokens.specs.declared.token.Token.TheVariants.{Fault}
use Rattle.sql_tokens.specs.declared.token.TokenFault.TheVariants.{Run}
use Rattle.sql_tokens.proofs.sign.strange.Goals as goal

pub returns : goal.returns
returns c =
    let least : c.min.result ≡ min 63 (length c.args.run.now) = omega arith in
    let shown = ap (λ (n : ℕ). take n c.args.run.now) least ∙ take_min 63 c.args.run.now in
    ap (λ (xs : List ℕ). Fault (Run xs)) (c.ascii_text-text.ensures ∙ (c.in_ok-from_slice.ensures.items ∙ shown))
