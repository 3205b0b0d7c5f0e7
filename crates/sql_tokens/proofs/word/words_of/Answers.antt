use Rattle.std.proofs.Common.{◌≡◌, ◌∙◌, ◌<◌, ◌≤◌, ◌+◌, ◌-◌, ℕ, true, List, length, take, drop, rules, sym, ap, subst}
use Rattle.std.specs.Prelude.{Contains}
use Rattle.sql_tokens.specs.declared.word.Word.{Word}
use Rattle.sql_tokens.specs.Bytes.{begins_with}
use Rattle.sql_tokens.specs.Words.{spelling}
use Rattle.sql_tokens.proofs.Letters.{start, bounds, contained}
use Rattle.sql_tokens.proofs.word.words_of.Goals as goal

pub returns : goal.returns
returns c = λ word begins.
    let n = c.from-letter.result in
    let below : n < 26 = search rules in
    let letter : 97 + n ≡ c.args.first = search rules in
    let within = bounds n below in
    let size : start (n + 1) ≤ length c.all_words.result.now =
    subst (λ (ws : List Word). start (n + 1) ≤ length ws) (sym c.all_words.ensures.table) within.1 in
    let is = c.words_between.ensures within.0 size ∙ ap (λ (ws : List Word). take (start (n + 1) - start n) (drop (start n) ws)) c.all_words.ensures.table in
    subst (λ (ws : List Word). Contains ws word) (sym is)
    (contained n below word (subst (λ (b : ℕ). begins_with b (spelling word) ≡ true) (sym letter) begins))
