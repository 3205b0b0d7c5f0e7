-- Walks as loops take them: what was given so far, before what the rest gives.
use Rattle.std.proofs.Common.{◌≡◌, ℕ, zero, suc, ◌+◌, ◌<◌, ◌≤◌, arith, List, [], ◌∷◌, ◌++◌, map, drop, get_or, length, ap, sym, ◌∙◌, refl, append_assoc}
use Rattle.std.specs.Prelude.{Option, Some, None, Ok, Err}
use Rattle.std.proofs.lemmas.List.{at_drop_more, append-nil}
use Rattle.pg_values.specs.declared.value.Value.{Value}
use Rattle.sql_values.specs.declared.fault.ExprFault.{ExprFault}
use Rattle.sql_values.specs.declared.fault.ExprFault.TheVariants.{Refused, NoMemory}
use Rattle.sql_values.specs.Outcome.{Outcome, Gives}
use Rattle.sql_eval.specs.Walks.{Coded, behind, made, all_of, with_some, those_there, walked, GivesAs}

-- a fault of a part is a fault of the whole
pub code_on : {A B C D : Type 0} (view : A → B) (other : C → D) (e : ExprFault) (told : Coded B) (whole : Coded D) → GivesAs view (Err e) told
    → ((code : List ℕ) → told ≡ Err code → whole ≡ Err code) → GivesAs other (Err e) whole
code_on view other (Refused code) told whole gives on = on code.bytes gives
code_on view other NoMemory told whole gives on = tt

pub value_code_on : {C D : Type 0} (other : C → D) (e : ExprFault) (told : Outcome) (whole : Coded D) → Gives (Err e) told
    → ((code : List ℕ) → told ≡ Err code → whole ≡ Err code) → GivesAs other (Err e) whole
value_code_on other (Refused code) told whole gives on = on code.bytes gives
value_code_on other NoMemory told whole gives on = tt

-- the same for values
pub value_gives_on : (e : ExprFault) (told whole : Outcome) → Gives (Err e) told → ((code : List ℕ) → told ≡ Err code → whole ≡ Err code) → Gives (Err e) whole
value_gives_on (Refused code) told whole gives on = on code.bytes gives
value_gives_on NoMemory told whole gives on = tt

abbrev pub put_before : {A : Type 0} → List A → Coded (List A) → Coded (List A)
put_before front told = made (λ back. front ++ back) told

pub nothing_before : {A : Type 0} (told : Coded (List A)) → put_before [] told ≡ told
nothing_before (Ok back) = refl
nothing_before (Err code) = refl

-- nothing is left
pub whole_before : {A : Type 0} (front : List A) → put_before front (Ok []) ≡ Ok front
whole_before front = ap Ok (append-nil front)

pub one_before : {A : Type 0} (front : List A) (a : A) (told : Coded (List A))
    → put_before front (made (λ others. a ∷ others) told) ≡ put_before (front ++ a ∷ []) told
one_before front a (Ok back) = ap Ok (sym (append_assoc front (a ∷ []) back))
one_before front a (Err code) = refl

past_end : {A : Type 0} (xs : List A) (i : ℕ) → length xs ≤ i → drop i xs ≡ []
past_end [] zero long = refl
past_end [] (suc i) long = refl
past_end (x ∷ xs) zero long = absurd (omega arith)
past_end (x ∷ xs) (suc i) long = past_end xs i (omega arith)

-- all were gone through
pub all_end : {X A : Type 0} (f : X → Coded A) (xs : List X) (i : ℕ) (front : List A) (whole : Coded (List A))
    → length xs ≤ i → put_before front (all_of (map f (drop i xs))) ≡ whole → whole ≡ Ok front
all_end f xs i front whole long so_far =
    sym so_far ∙ (ap (λ ys. put_before front (all_of (map f ys))) (past_end xs i long) ∙ whole_before front)

pub walked_end : {X A : Type 0} (f : X → Coded (Option A)) (xs : List X) (i : ℕ) (front : List A) (whole : Coded (List A))
    → length xs ≤ i → put_before front (walked f (drop i xs)) ≡ whole → whole ≡ Ok front
walked_end f xs i front whole long so_far =
    sym so_far ∙ (ap (λ ys. put_before front (walked f ys)) (past_end xs i long) ∙ whole_before front)

module _ {X A : Type 0} (f : X → Coded A) (xs : List X) (i : ℕ) (x : X) (front : List A) (whole : Coded (List A))
    (below : i < length xs) (is : x ≡ get_or xs i x) (so_far : put_before front (all_of (map f (drop i xs))) ≡ whole) where
  all_stepped : whole ≡ put_before front (behind (f x) (λ a. made (λ others. a ∷ others) (all_of (map f (drop (i + 1) xs)))))
  all_stepped = sym so_far ∙ (at_drop_more (λ ys. put_before front (all_of (map f ys))) xs i x below
      ∙ ap (λ y. put_before front (behind (f y) (λ a. made (λ others. a ∷ others) (all_of (map f (drop (i + 1) xs)))))) (sym is))

  pub all_stops : (code : List ℕ) → f x ≡ Err code → whole ≡ Err code
  all_stops code fails =
      all_stepped ∙ ap (λ (o : Coded A). put_before front (behind o (λ a. made (λ others. a ∷ others) (all_of (map f (drop (i + 1) xs)))))) fails

  pub all_next : (a : A) → f x ≡ Ok a → put_before (front ++ a ∷ []) (all_of (map f (drop (i + 1) xs))) ≡ whole
  all_next a gives =
      sym (all_stepped ∙ (ap (λ (o : Coded A). put_before front (behind o (λ a. made (λ others. a ∷ others) (all_of (map f (drop (i + 1) xs)))))) gives
      ∙ one_before front a (all_of (map f (drop (i + 1) xs)))))

-- the first of a walk, and the others
pub walked_first : {X A : Type 0} (f : X → Coded (Option A)) (x : X) (xs : List X)
    → walked f (x ∷ xs) ≡ behind (f x) (λ a. made (with_some a) (walked f xs))
walked_first f x xs = first (f x) (all_of (map f xs))
  where
    others : {A : Type 0} (a : Option A) (told : Coded (List (Option A)))
        → made those_there (made (λ others. a ∷ others) told) ≡ made (with_some a) (made those_there told)
    others a (Ok more) = refl
    others a (Err code) = refl

    first : {A : Type 0} (o : Coded (Option A)) (told : Coded (List (Option A)))
        → made those_there (behind o (λ a. made (λ others. a ∷ others) told)) ≡ behind o (λ a. made (with_some a) (made those_there told))
    first (Ok a) told = others a told
    first (Err code) told = refl

pub none_before : {A : Type 0} (told : Coded (List A)) → made (with_some None) told ≡ told
none_before (Ok back) = refl
none_before (Err code) = refl

module _ {X A : Type 0} (f : X → Coded (Option A)) (xs : List X) (i : ℕ) (x : X) (front : List A) (whole : Coded (List A))
    (below : i < length xs) (is : x ≡ get_or xs i x) (so_far : put_before front (walked f (drop i xs)) ≡ whole) where
  walked_stepped : whole ≡ put_before front (behind (f x) (λ a. made (with_some a) (walked f (drop (i + 1) xs))))
  walked_stepped = sym so_far ∙ (at_drop_more (λ ys. put_before front (walked f ys)) xs i x below
      ∙ (ap (λ y. put_before front (walked f (y ∷ drop (i + 1) xs))) (sym is)
      ∙ ap (put_before front) (walked_first f x (drop (i + 1) xs))))

  pub walked_stops : (code : List ℕ) → f x ≡ Err code → whole ≡ Err code
  walked_stops code fails =
      walked_stepped ∙ ap (λ (o : Coded (Option A)). put_before front (behind o (λ a. made (with_some a) (walked f (drop (i + 1) xs))))) fails

  pub walked_past : f x ≡ Ok None → put_before front (walked f (drop (i + 1) xs)) ≡ whole
  walked_past gives =
      sym (walked_stepped ∙ (ap (λ (o : Coded (Option A)). put_before front (behind o (λ a. made (with_some a) (walked f (drop (i + 1) xs))))) gives
      ∙ ap (put_before front) (none_before (walked f (drop (i + 1) xs)))))

  pub walked_next : (a : A) → f x ≡ Ok (Some a) → put_before (front ++ a ∷ []) (walked f (drop (i + 1) xs)) ≡ whole
  walked_next a gives =
      sym (walked_stepped ∙ (ap (λ (o : Coded (Option A)). put_before front (behind o (λ a. made (with_some a) (walked f (drop (i + 1) xs))))) gives
      ∙ one_before front a (walked f (drop (i + 1) xs))))

  -- what the step gives, if it gives something, stands behind the others
  pub walked_step : (a : Option A) → f x ≡ Ok a → put_before (front ++ with_some a []) (walked f (drop (i + 1) xs)) ≡ whole
  walked_step None gives = ap (λ ys. put_before ys (walked f (drop (i + 1) xs))) (append-nil front) ∙ walked_past gives
  walked_step (Some a) gives = walked_next a gives
