use Rattle.std.proofs.Common.{◌≡◌, true, eqb, List, [], ℕ, length, sym, ap, ◌∙◌}
use Rattle.pg_values.specs.Reading.{after_spaces, word_front, word_rest}
use Rattle.pg_values.proofs.WordLemmas.{no_items, bool_again, truth_told}
use Rattle.pg_values.proofs.word_reader.truth.Goals as goal

pub returns-then-not-is_empty : goal.returns-then-not-is_empty
returns-then-not-is_empty c truth text =
    let found = bool_again c.args.text.now truth text in
    let rest = ap after_spaces (c.word.ensures.rest ∙ ap word_rest c.after_spaces.ensures) in
    let nothing : c.after_spaces-2.result.now ≡ [] = c.after_spaces-2.ensures ∙ rest ∙ found.ends in
    let empty : eqb (length c.after_spaces-2.result.now) 0 ≡ true = ap (λ (x : List ℕ). eqb (length x) 0) nothing in
    cc (c.if-not-is_empty.true, c.is_empty.ensures)

pub returns : goal.returns
returns c =
    let rest = ap after_spaces (c.word.ensures.rest ∙ ap word_rest c.after_spaces.ensures) in
    let nothing : c.after_spaces-2.result.now ≡ [] = no_items _ (sym c.is_empty.ensures ∙ c.if-not-is_empty.false) in
    truth_told c.args.text.now c.word.result.0.now c.truth_of_word.result (c.word.ensures.front ∙ ap word_front c.after_spaces.ensures)
    (sym rest ∙ sym c.after_spaces-2.ensures ∙ nothing) c.truth_of_word.ensures
