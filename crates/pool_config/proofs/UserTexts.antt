-- The text of the users, one after another.
use Rattle.std.proofs.Common.{◌≡◌, ◌≤◌, ◌+◌, ◌-◌, ℕ, List, [], ◌∷◌, ◌++◌, length, take, drop, ap, sym, ◌∙◌, arith, append_assoc, slice_index_or}
use Rattle.std.proofs.Math.Seq.{take-length}
use Rattle.pool_config.specs.Printed.{user_text, users_text}
use Rattle.pool_config.specs.declared.config.ScramUser.{ScramUser}

pub user_tail : (b : ScramUser) (rest : List ScramUser) → take (length (b ∷ rest) - 1) (drop 1 (b ∷ rest)) ≡ rest
user_tail b rest =
    let n : length (b ∷ rest) - 1 ≡ length rest = omega arith in
    ap (λ (k : ℕ). take k rest) n ∙ take-length rest

pub users_length : (xs : List ScramUser) → 1 ≤ length xs → length (take (length xs - 1) (drop 1 xs)) + 1 ≡ length xs
users_length [] h = absurd (omega arith)
users_length (b ∷ rest) h = let e = ap length (user_tail b rest) in omega arith

-- one more user is written
pub one_more_user : (start before after : List ℕ) (n : ℕ) (left : List ScramUser) (b : ScramUser) (rest : List ScramUser) → left ≡ b ∷ rest
    → after ≡ before ++ user_text n b → before ++ users_text n left ≡ start → after ++ users_text (n + 1) rest ≡ start
one_more_user start before after n left b rest e f h =
    ap (λ (t : List ℕ). t ++ users_text (n + 1) rest) f
    ∙ (append_assoc before (user_text n b) (users_text (n + 1) rest)
    ∙ (ap (λ (xs : List ScramUser). before ++ users_text n xs) (sym e) ∙ h))

pub user_first : (left : List ScramUser) (b : ScramUser) → 1 ≤ length left → b ≡ slice_index_or left 0 b → left ≡ b ∷ take (length left - 1) (drop 1 left)
user_first [] b h e = absurd (omega arith)
user_first (x ∷ rest) b h e = ap (λ (y : ScramUser). y ∷ rest) (sym e) ∙ ap (λ (xs : List ScramUser). b ∷ xs) (sym (user_tail x rest))
