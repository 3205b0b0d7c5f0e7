-- Pieces that are put behind one another.
use Rattle.std.proofs.Common.{◌≡◌, ℕ, List, ◌++◌, ap, ◌∙◌, append_assoc}

pub chain_four : (o a b c d p q r s : List ℕ) → p ≡ o ++ a → q ≡ p ++ b → r ≡ q ++ c → s ≡ r ++ d → s ≡ o ++ (a ++ (b ++ (c ++ d)))
chain_four o a b c d p q r s e f g h =
    h ∙ ap (λ x. x ++ d) (g ∙ ap (λ x. x ++ c) (f ∙ ap (λ x. x ++ b) e))
    ∙ append_assoc (o ++ a ++ b) c d ∙ append_assoc (o ++ a) b (c ++ d) ∙ append_assoc o a (b ++ (c ++ d))
