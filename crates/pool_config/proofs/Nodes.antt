-- The text of the backends, one after another.
use Rattle.std.proofs.Common.{◌≡◌, ◌≤◌, ◌+◌, ◌-◌, ℕ, List, [], ◌∷◌, ◌++◌, length, take, drop, ap, sym, ◌∙◌, arith, append_assoc, append-nil, slice_index_or}
use Rattle.std.proofs.Math.Seq.{take-length}
use Rattle.pool_config.specs.Printed.{node_text, nodes_text}
use Rattle.pool_config.specs.declared.config.Node.{Node}

pub node_tail : (b : Node) (rest : List Node) → take (length (b ∷ rest) - 1) (drop 1 (b ∷ rest)) ≡ rest
node_tail b rest =
    let n : length (b ∷ rest) - 1 ≡ length rest = omega arith in
    ap (λ (k : ℕ). take k rest) n ∙ take-length rest

pub nodes_length : (xs : List Node) → 1 ≤ length xs → length (take (length xs - 1) (drop 1 xs)) + 1 ≡ length xs
nodes_length [] h = absurd (omega arith)
nodes_length (b ∷ rest) h = let e = ap length (node_tail b rest) in omega arith

-- one more backend is written
pub one_more_node : (start before after : List ℕ) (n : ℕ) (left : List Node) (b : Node) (rest : List Node) → left ≡ b ∷ rest
    → after ≡ before ++ node_text n b → before ++ nodes_text n left ≡ start → after ++ nodes_text (n + 1) rest ≡ start
one_more_node start before after n left b rest e f h =
    ap (λ (t : List ℕ). t ++ nodes_text (n + 1) rest) f
    ∙ (append_assoc before (node_text n b) (nodes_text (n + 1) rest)
    ∙ (ap (λ (xs : List Node). before ++ nodes_text n xs) (sym e) ∙ h))

pub item_first : (left : List Node) (b : Node) → 1 ≤ length left → b ≡ slice_index_or left 0 b → left ≡ b ∷ take (length left - 1) (drop 1 left)
item_first [] b h e = absurd (omega arith)
item_first (x ∷ rest) b h e = ap (λ (y : Node). y ∷ rest) (sym e) ∙ ap (λ (xs : List Node). b ∷ xs) (sym (node_tail x rest))

-- pieces that are written one after another
pub three : (t a b c p q r : List ℕ) → p ≡ t ++ a → q ≡ p ++ b → r ≡ q ++ c → r ≡ t ++ (a ++ (b ++ c))
three t a b c p q r e f g =
    g ∙ (ap (λ (x : List ℕ). x ++ c) (f ∙ ap (λ (x : List ℕ). x ++ b) e)
    ∙ (append_assoc (t ++ a) b c ∙ append_assoc t a (b ++ c)))

pub two : (t a b p q : List ℕ) → p ≡ t ++ a → q ≡ p ++ b → q ≡ t ++ (a ++ b)
two t a b p q e f = f ∙ (ap (λ (x : List ℕ). x ++ b) e ∙ append_assoc t a b)

pub four : (t a b c d u p q r s v : List ℕ) → p ≡ t ++ a → q ≡ p ++ b → r ≡ q ++ c → s ≡ r ++ d → v ≡ s ++ u → v ≡ t ++ (a ++ (b ++ (c ++ (d ++ u))))
four t a b c d u p q r s v e f g h k =
    three r d u [] s v v (h) k (sym (append-nil v)) ∙ (ap (λ (x : List ℕ). r ++ (d ++ x)) (append-nil u)
    ∙ (ap (λ (x : List ℕ). x ++ (d ++ u)) (three t a b c p q r e f g)
    ∙ (append_assoc t (a ++ (b ++ c)) (d ++ u)
    ∙ ap (λ (x : List ℕ). t ++ x) (append_assoc a (b ++ c) (d ++ u) ∙ ap (λ (x : List ℕ). a ++ x) (append_assoc b c (d ++ u))))))
