-- Steps of a chain, whose parts are evaluated one after another.
use Rattle.std.proofs.Common.{◌≡◌, ℕ, ◌+◌, ◌<◌, List, [], ◌∷◌, map, drop, get_or, length, ap, sym, ◌∙◌, refl}
use Rattle.std.specs.Prelude.{Option, Some, None, Ok, Err}
use Rattle.std.proofs.lemmas.List.{at_drop_more}
use Rattle.pg_values.specs.declared.value.Value.{Value}
use Rattle.sql_values.specs.declared.fault.ExprFault.{ExprFault}
use Rattle.sql_values.specs.declared.fault.ExprFault.TheVariants.{Refused, NoMemory}
use Rattle.sql_values.specs.Outcome.{Outcome, of_both, chained, Gives}
use Rattle.sql_values.specs.Order.{joined}
use Rattle.sql_values.specs.Meaning.{chained_texts, joined_to, text_of}

-- a fault of a part is a fault of the whole
pub gives_fault : (e : ExprFault) (told whole : Outcome) → Gives (Err e) told
    → ((code : List ℕ) → told ≡ Err code → whole ≡ Err code) → Gives (Err e) whole
gives_fault (Refused code) told whole gives on = on code.bytes gives
gives_fault NoMemory told whole gives on = tt

pub chain_code : {P : Type 0} (part_of : P → Outcome) (put : P → Value → Value → Outcome) (code : List ℕ) (parts : List P)
    → chained part_of put (Err code) parts ≡ Err code
chain_code part_of put code [] = refl
chain_code part_of put code (part ∷ parts) = chain_code part_of put code parts

module _ {A P : Type 0} (f : A → P) (part_of : P → Outcome) (put : P → Value → Value → Outcome) (xs : List A) (i : ℕ) (x : A) (left : Value) (whole : Outcome)
    (below : i < length xs) (is : x ≡ get_or xs i x) (so_far : chained part_of put (Ok left) (map f (drop i xs)) ≡ whole) where
  stepped : whole ≡ chained part_of put (of_both (put (f x)) (Ok left) (part_of (f x))) (map f (drop (i + 1) xs))
  stepped = sym so_far ∙ (at_drop_more (λ ys. chained part_of put (Ok left) (map f ys)) xs i x below
      ∙ ap (λ y. chained part_of put (of_both (put (f y)) (Ok left) (part_of (f y))) (map f (drop (i + 1) xs))) (sym is))

  -- the next part has a code
  pub chain_stops : (code : List ℕ) → part_of (f x) ≡ Err code → whole ≡ Err code
  chain_stops code fails =
      stepped ∙ (ap (λ o. chained part_of put (of_both (put (f x)) (Ok left) o) (map f (drop (i + 1) xs))) fails
      ∙ chain_code part_of put code (map f (drop (i + 1) xs)))

  put_in : (v : Value) → part_of (f x) ≡ Ok v → whole ≡ chained part_of put (put (f x) left v) (map f (drop (i + 1) xs))
  put_in v gives = stepped ∙ ap (λ o. chained part_of put (of_both (put (f x)) (Ok left) o) (map f (drop (i + 1) xs))) gives

  -- what stands to the left and the next part come to a code
  pub put_stops : (v : Value) (code : List ℕ) → part_of (f x) ≡ Ok v → put (f x) left v ≡ Err code → whole ≡ Err code
  put_stops v code gives fails =
      put_in v gives ∙ (ap (λ o. chained part_of put o (map f (drop (i + 1) xs))) fails
      ∙ chain_code part_of put code (map f (drop (i + 1) xs)))

  -- they come to a value
  pub put_next : (v new : Value) → part_of (f x) ≡ Ok v → put (f x) left v ≡ Ok new
      → chained part_of put (Ok new) (map f (drop (i + 1) xs)) ≡ whole
  put_next v new gives comes = sym (put_in v gives ∙ ap (λ o. chained part_of put o (map f (drop (i + 1) xs))) comes)

-- what texts come to behind one, or where none is there yet
abbrev pub texts_behind : Option Value → List Outcome → Outcome
texts_behind None parts = text_of parts
texts_behind (Some front) parts = chained_texts (Ok front) parts

texts_stopped : (front : Option Value) (code : List ℕ) (parts : List Outcome) → texts_behind front (Err code ∷ parts) ≡ Err code
texts_stopped None code parts = chain_code (λ part. part) (λ part. joined) code parts
texts_stopped (Some front) code parts = chain_code (λ part. part) (λ part. joined) code parts

texts_passed : (front : Option Value) (back : Value) (parts : List Outcome)
    → texts_behind front (Ok back ∷ parts) ≡ chained_texts (joined_to front back) parts
texts_passed None back parts = refl
texts_passed (Some front) back parts = refl

module _ {A : Type 0} (f : A → Outcome) (xs : List A) (i : ℕ) (x : A) (front : Option Value) (whole : Outcome)
    (below : i < length xs) (is : x ≡ get_or xs i x) (so_far : texts_behind front (map f (drop i xs)) ≡ whole) where
  texts_stepped : whole ≡ texts_behind front (f x ∷ map f (drop (i + 1) xs))
  texts_stepped = sym so_far ∙ (at_drop_more (λ ys. texts_behind front (map f ys)) xs i x below
      ∙ ap (λ y. texts_behind front (f y ∷ map f (drop (i + 1) xs))) (sym is))

  pub texts_stop : (code : List ℕ) → f x ≡ Err code → whole ≡ Err code
  texts_stop code fails =
      texts_stepped ∙ (ap (λ o. texts_behind front (o ∷ map f (drop (i + 1) xs))) fails ∙ texts_stopped front code (map f (drop (i + 1) xs)))

  joined_in : (back : Value) → f x ≡ Ok back → whole ≡ chained_texts (joined_to front back) (map f (drop (i + 1) xs))
  joined_in back gives =
      texts_stepped ∙ (ap (λ o. texts_behind front (o ∷ map f (drop (i + 1) xs))) gives ∙ texts_passed front back (map f (drop (i + 1) xs)))

  pub joined_stops : (back : Value) (code : List ℕ) → f x ≡ Ok back → joined_to front back ≡ Err code → whole ≡ Err code
  joined_stops back code gives fails =
      joined_in back gives ∙ (ap (λ o. chained_texts o (map f (drop (i + 1) xs))) fails
      ∙ chain_code (λ part. part) (λ part. joined) code (map f (drop (i + 1) xs)))

  pub joined_next : (back new : Value) → f x ≡ Ok back → joined_to front back ≡ Ok new
      → texts_behind (Some new) (map f (drop (i + 1) xs)) ≡ whole
  joined_next back new gives comes = sym (joined_in back gives ∙ ap (λ o. chained_texts o (map f (drop (i + 1) xs))) comes)
