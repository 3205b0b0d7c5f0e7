use Rattle.std.proofs.Common.{arith, ap, ◌∙◌, sym}
use Rattle.sql_tokens.specs.Words.{spelling}
use Rattle.sql_tokens.proofs.Words.{not_spelled}
use Rattle.sql_tokens.proofs.name.word_of.Goals as goal

pub loop-word-preserved : goal.loop-word-preserved
loop-word-preserved c =
    not_spelled c.words_like-word-items.result.now c.loop-word.word-index _ c.args.text.now c.loop-word-test.true c.loop-word.invariant
    (c.as_bytes.ensures.value ∙ c.spelling.ensures) (sym c.if-eq.ensures)

pub returns : goal.returns
returns c = λ word e.
    let at = c.words_like-word-items.ensures word e in
    c.loop-word.invariant at.0 word (omega (arith, at.1, c.loop-word-test.false)) (ap spelling at.2 ∙ e)
