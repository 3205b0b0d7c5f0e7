-- What a sink has taken, one piece after another.
use Rattle.std.proofs.Common.{◌≡◌, ℕ, ◌≤◌, List, [], ◌++◌, refl, sym, ap, ◌∙◌, take, drop, inl, inr, arith}
use Rattle.std.specs.Prelude.{Option, Some, None}
use Rattle.std.proofs.lemmas.List.{append_assoc, append-nil, take-append-drop}
use Rattle.pool_base.specs.Outside.{Appends, AppendsFront, Rose}

-- some of the bytes are gone to the sink, and the rest is to follow
pub record Sends (before now : Option (List ℕ)) (bytes rest : List ℕ) : Type 0 where
  pub gone : List ℕ
  pub parts : bytes ≡ gone ++ rest
  pub took : Appends before now gone

pub appends_nothing : {X : Type 0} (a : Option (List X)) → Appends a a []
appends_nothing None = refl
appends_nothing (Some old) = ap Some (sym (append-nil old))

-- one piece and then another are both, joined
pub appends_on : {X : Type 0} (a b c : Option (List X)) (x y : List X) → Appends a b x → Appends b c y → Appends a c (x ++ y)
appends_on None b c x y p q = elim b as (λ b. b ≡ None → Appends b c y → c ≡ None) [ None ↦ (λ e h. h) | Some old ↦ (λ e h. absurd (cc)) ] p q
appends_on (Some a) b c x y p q = elim b as (λ b. b ≡ Some (a ++ x) → Appends b c y → c ≡ Some (a ++ (x ++ y))) [
  | None ↦ (λ e h. absurd (cc))
  | Some old ↦ (λ e h. let same : old ≡ a ++ x = cc in h ∙ ap (λ z. Some (z ++ y)) same ∙ ap Some (append_assoc a x y))
] p q

-- all of one piece, and then a front of another
pub front_on : (a b c : Option (List ℕ)) (x y : List ℕ) → Appends a b x → AppendsFront b c y → AppendsFront a c (x ++ y)
front_on a b c x y p q = record { front = x ++ q.front; rest = q.rest; parts = ap (λ z. x ++ z) q.parts ∙ sym (append_assoc x q.front q.rest); has = appends_on a b c x q.front p q.has }

-- a front of a piece is a front of the piece and more
pub front_of_more : (a c : Option (List ℕ)) (x y : List ℕ) → AppendsFront a c x → AppendsFront a c (x ++ y)
front_of_more a c x y q = record { front = q.front; rest = q.rest ++ y; parts = ap (λ z. z ++ y) q.parts ∙ append_assoc q.front q.rest y; has = q.has }

-- a whole piece is a front of the piece and more
pub front_of_all : (a c : Option (List ℕ)) (x y : List ℕ) → Appends a c x → AppendsFront a c (x ++ y)
front_of_all a c x y p = record { front = x; rest = y; parts = refl; has = p }

pub sends_on : (a b c : Option (List ℕ)) (bytes rest : List ℕ) (n : ℕ) → Sends a b bytes rest → Appends b c (take n rest) → Sends a c bytes (drop n rest)
sends_on a b c bytes rest n s p = record {
  gone = s.gone ++ take n rest;
  parts = s.parts ∙ ap (λ z. s.gone ++ z) (sym (take-append-drop n rest)) ∙ sym (append_assoc s.gone (take n rest) (drop n rest));
  took = appends_on a b c s.gone (take n rest) s.took p;
}

-- a count that rose after some time rose in the whole time
pub rose_after : (a b c : ℕ) → a ≤ b → Rose b c → Rose a c
rose_after a b c h r = elim r as (λ r. Rose a c) [ inl l ↦ inl (omega arith) | inr l ↦ inr l ]

-- a count that rose, and then did not fall, rose in the whole time
pub rose_before : (a b c : ℕ) → Rose a b → b ≤ c → Rose a c
rose_before a b c r h = elim r as (λ r. Rose a c) [ inl l ↦ inl (omega arith) | inr l ↦ inr (omega arith) ]

-- nothing is a front of anything
pub front_nothing : (a : Option (List ℕ)) (x : List ℕ) → AppendsFront a a x
front_nothing a x = record { front = []; rest = x; parts = refl; has = appends_nothing a }
