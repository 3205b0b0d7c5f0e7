-- One row more of a result.
use Rattle.std.proofs.Common.{◌≡◌, ℕ, suc, ◌<◌, ◌+◌, List, [], ◌∷◌, ◌++◌, length, drop, get_or, sym, ap, subst, refl, ◌∙◌, append_assoc, drop-cons, add-one}
use Rattle.sql_eval.specs.declared.row.Row.{Row}
use Rattle.wire_reply.specs.Rows.{IsRow, AreRows}

pub rows_step : (f : List ℕ) (rows : List Row) (i : ℕ) (row : Row) (made one : List ℕ)
    → i < length rows → row ≡ get_or rows i row → IsRow f row one
    → ((more : List ℕ) → AreRows f (drop i rows) more → AreRows f rows (made ++ more))
    → (more : List ℕ) → AreRows f (drop (i + 1) rows) more → AreRows f rows ((made ++ one) ++ more)
rows_step f rows i row made one below is own so_far more rest =
    let cons : drop i rows ≡ row ∷ drop (i + 1) rows =
    drop-cons rows i row below ∙ ap (λ x. x ∷ drop (suc i) rows) (sym is) ∙ ap (λ n. row ∷ drop n rows) (sym (add-one i)) in
    let both : AreRows f (drop i rows) (one ++ more) = subst (λ xs. AreRows f xs (one ++ more)) (sym cons) (one, more, own, rest, refl) in
    subst (λ xs. AreRows f rows xs) (sym (append_assoc made one more)) (so_far (one ++ more) both)
