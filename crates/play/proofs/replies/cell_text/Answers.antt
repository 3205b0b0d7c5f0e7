use Rattle.std.proofs.Common.{List, ℕ, Option, Some, sym, subst}
use Rattle.pg_values.specs.Text.{IsTextOf}
use Rattle.play.specs.Answering.{IsCellText}
use Rattle.play.proofs.RowLemmas.{cell_is}
use Rattle.play.proofs.replies.cell_text.Goals as goal

pub returns-in-Some : goal.returns-in-Some
returns-in-Some c =
    subst (λ (text : List ℕ). IsCellText c.args.value.now (Some text)) (sym c.bytes_of.ensures)
    (cell_is c.args.value.now (Some c.in-Some.text) c.is_held.ensures (subst (λ (text : Option (List ℕ)). IsTextOf c.args.value.now text) c.in-Some.is c.in_ok-text_of.ensures))
