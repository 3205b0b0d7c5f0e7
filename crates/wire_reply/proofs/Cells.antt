-- One cell more of a row.
use Rattle.std.proofs.Common.{◌≡◌, ℕ, suc, ◌<◌, ◌+◌, List, [], ◌∷◌, ◌++◌, length, drop, get_or, sym, ap, subst, ◌∙◌, append_assoc, drop-cons, add-one}
use Rattle.std.specs.Prelude.{Option}
use Rattle.pg_values.specs.declared.value.Value.{Value}
use Rattle.wire_reply.specs.Rows.{IsCell, AreCells, format_at}

pub cells_step : (f : List ℕ) (vs : List Value) (i : ℕ) (v : Value) (made : List (Option (List ℕ))) (c : Option (List ℕ))
    → i < length vs → v ≡ get_or vs i v → IsCell (format_at f i) v c
    → ((more : List (Option (List ℕ))) → AreCells f i (drop i vs) more → AreCells f 0 vs (made ++ more))
    → (more : List (Option (List ℕ))) → AreCells f (i + 1) (drop (i + 1) vs) more → AreCells f 0 vs ((made ++ c ∷ []) ++ more)
cells_step f vs i v made c below is cell so_far more rest =
    let cons : drop i vs ≡ v ∷ drop (i + 1) vs =
    drop-cons vs i v below ∙ ap (λ x. x ∷ drop (suc i) vs) (sym is) ∙ ap (λ n. v ∷ drop n vs) (sym (add-one i)) in
    let both : AreCells f i (drop i vs) (c ∷ more) = subst (λ xs. AreCells f i xs (c ∷ more)) (sym cons) (cell, rest) in
    subst (λ xs. AreCells f 0 vs xs) (sym (append_assoc made (c ∷ []) more)) (so_far (c ∷ more) both)
