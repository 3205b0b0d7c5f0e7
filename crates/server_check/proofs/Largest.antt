-- Where there is a server that is as it is wanted, one is of a largest group.
use Rattle.std.proofs.Common.{◌≡◌, ℕ, ◌+◌, ◌<◌, ◌≤◌, ◌⊎◌, Bool, true, false, ◌&&◌, cond, List, [], ◌∷◌, Option, Some, None, refl, sym, ◌∙◌, ap, inl, inr, arith}
use Rattle.std.specs.Prelude.{find, nat_le, nat_lt}
use Rattle.std.specs.List.{list_all}
use Rattle.std.proofs.lemmas.Bool.{cases_lt, false≢true, le-leb, ltb-false}
use Rattle.std.proofs.lemmas.Option.{none-some}
use Rattle.server_check.specs.declared.server.Server.{Server}
use Rattle.server_check.specs.declared.question.Question.{Question}
use Rattle.server_check.specs.Servers.{AreUnfit, group_size, is_fit, is_kept, is_no_larger, kept, weight}

abbrev Among : Server → List Server → Type 0
Among m [] = ⊥
Among m (x ∷ xs) = (m ≡ x) ⊎ Among m xs

abbrev AreAtMost : (Server → ℕ) → ℕ → List Server → Type 0
AreAtMost f n [] = Unit {0}
AreAtMost f n (x ∷ xs) = (f x ≤ n) × AreAtMost f n xs

record Top (f : Server → ℕ) (xs : List Server) : Type 0 where
  top : Server
  among : Among top xs
  most : AreAtMost f (f top) xs

at_most_more : (f : Server → ℕ) (n m : ℕ) (xs : List Server) → n ≤ m → AreAtMost f n xs → AreAtMost f m xs
at_most_more f n m [] le all = tt
at_most_more f n m (x ∷ xs) le all = (omega (arith, le, all.0), at_most_more f n m xs le all.1)

higher : (f : Server → ℕ) (x : Server) (xs : List Server) (t : Top f xs) → (f t.top < f x) ⊎ (f x ≤ f t.top) → Top f (x ∷ xs)
higher f x xs t (inr le) = record { top = t.top; among = inr t.among; most = (le, t.most) }
higher f x xs t (inl lt) =
    record { top = x; among = inl refl; most = (omega arith, at_most_more f (f t.top) (f x) xs (omega (arith, lt)) t.most) }

top_of : (f : Server → ℕ) (x : Server) (xs : List Server) → Top f (x ∷ xs)
top_of f x [] = record { top = x; among = inl refl; most = (omega arith, tt) }
top_of f x (y ∷ ys) = let t = top_of f y ys in higher f x (y ∷ ys) t (cases_lt (f t.top) (f x))

both : (a b : Bool) → a ≡ true → b ≡ true → (a && b) ≡ true
both true b a_true b_true = b_true
both false b a_true b_true = a_true

all_pass : (f : Server → ℕ) (n : ℕ) (xs : List Server) → AreAtMost f n xs → list_all (λ x. nat_le (f x) n) xs ≡ true
all_pass f n [] le = refl
all_pass f n (x ∷ xs) le = both (nat_le (f x) n) _ (le-leb (f x) n le.0) (all_pass f n xs le.1)

top_is_kept : (qs : List Question) (all : List Server) (t : Top (weight qs all) all) → nat_lt 0 (weight qs all t.top) ≡ true → is_kept qs all t.top ≡ true
unfolding is_kept is_no_larger
top_is_kept qs all t some = both (nat_lt 0 (weight qs all t.top)) _ some (all_pass (weight qs all) (weight qs all t.top) all t.most)

nothing_first : (b : Bool) (x : Server) (found : Option Server) → cond b (Some x) found ≡ None → (b ≡ false) × (found ≡ None)
nothing_first true x found none = absurd (none-some x (sym none))
nothing_first false x found none = (refl, none)

nowhere : (p : Server → Bool) (m : Server) (xs : List Server) → Among m xs → p m ≡ true → find p xs ≡ None → ⊥
nowhere p m [] among passes none = among
nowhere p m (x ∷ xs) (inl e) passes none =
    false≢true (sym (nothing_first (p x) x (find p xs) none).0 ∙ sym (ap p e) ∙ passes)
nowhere p m (x ∷ xs) (inr among) passes none = nowhere p m xs among passes (nothing_first (p x) x (find p xs) none).1

no_weight : (fit : Bool) (n : ℕ) → cond fit (1 + n) 0 ≤ 0 → fit ≡ false
no_weight true n le = absurd (omega (arith, le))
no_weight false n le = refl

are_unfit : (qs : List Question) (all xs : List Server) → AreAtMost (weight qs all) 0 xs → AreUnfit qs xs
are_unfit qs all [] none = tt
are_unfit qs all (x ∷ xs) none = (no_weight (is_fit qs x) (group_size all x) none.0, are_unfit qs all xs none.1)

by_top : (qs : List Question) (all : List Server) (t : Top (weight qs all) all) (b : Bool) → nat_lt 0 (weight qs all t.top) ≡ b → kept qs all ≡ None → AreUnfit qs all
by_top qs all t true some none = absurd (nowhere (is_kept qs all) t.top all t.among (top_is_kept qs all t some) none)
by_top qs all t false small none =
    are_unfit qs all all (at_most_more (weight qs all) (weight qs all t.top) 0 all (ltb-false 0 (weight qs all t.top) small) t.most)

pub none_is_kept : (qs : List Question) (all : List Server) → kept qs all ≡ None → AreUnfit qs all
none_is_kept qs [] none = tt
none_is_kept qs (x ∷ xs) none = let t = top_of (weight qs (x ∷ xs)) x xs in by_top qs (x ∷ xs) t (nat_lt 0 (weight qs (x ∷ xs) t.top)) refl none

-- where nothing is wanted each server is as it is wanted
pub nobody_is_chosen : (all : List Server) → AreUnfit [] all → all ≡ []
nobody_is_chosen [] unfit = refl
nobody_is_chosen (x ∷ xs) unfit = absurd (false≢true (sym unfit.0))
