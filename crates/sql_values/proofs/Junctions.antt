-- Steps of a walk that stops at the first part that decides.
use Rattle.std.proofs.Common.{◌≡◌, ℕ, ◌+◌, ◌<◌, List, [], ◌∷◌, map, drop, get_or, length, ap, sym, ◌∙◌, refl}
use Rattle.std.specs.Prelude.{◌||◌, Bool as Truth, true, false, not, cond, if◌then◌else◌, unwrap_or, Some, Ok, Err}
use Rattle.std.specs.List.{list_any, find}
use Rattle.std.proofs.lemmas.List.{at_drop_more}
use Rattle.pg_values.specs.declared.value.Value.{Value}
use Rattle.pg_values.specs.declared.value.Value.TheVariants as value
use Rattle.sql_values.specs.Outcome.{Outcome}
use Rattle.sql_values.specs.Logic.{is_truth, decides, is_known, is_unknown}

-- what a walk comes to behind parts that do not decide, of which one is unknown or none is
abbrev pub behind_parts : Truth → Truth → List Outcome → Outcome
behind_parts stop unknown parts =
    unwrap_or (find (decides stop) parts) (Ok (if unknown || list_any is_unknown parts then value.Null else value.Bool (not stop)))

joined_or : (known unknown rest : Truth) → (unknown || (not known || rest)) ≡ ((if known then unknown else true) || rest)
joined_or true unknown rest = refl
joined_or false true rest = refl
joined_or false false rest = refl

-- a part of which it is known that it does not decide
passed : (stop unknown : Truth) (v : Value) (parts : List Outcome) → is_truth stop v ≡ false
    → behind_parts stop unknown (Ok v ∷ parts) ≡ behind_parts stop (if is_known v then unknown else true) parts
passed stop unknown v parts passes =
    ap (λ (b : Truth). unwrap_or (cond b (Some (Ok v)) (find (decides stop) parts))
    (Ok (if unknown || (not (is_known v) || list_any is_unknown parts) then value.Null else value.Bool (not stop)))) passes
    ∙ ap (λ (b : Truth). unwrap_or (find (decides stop) parts) (Ok (if b then value.Null else value.Bool (not stop))))
    (joined_or (is_known v) unknown (list_any is_unknown parts))

module _ {A : Type 0} (f : A → Outcome) (xs : List A) (i : ℕ) (x : A) (stop unknown : Truth) (whole : Outcome)
    (below : i < length xs) (is : x ≡ get_or xs i x) (so_far : behind_parts stop unknown (map f (drop i xs)) ≡ whole) where
  stepped : whole ≡ behind_parts stop unknown (f x ∷ map f (drop (i + 1) xs))
  stepped = sym so_far ∙ (at_drop_more (λ ys. behind_parts stop unknown (map f ys)) xs i x below
      ∙ ap (λ y. behind_parts stop unknown (f y ∷ map f (drop (i + 1) xs))) (sym is))

  -- the part has a code
  pub part_stops : (code : List ℕ) → f x ≡ Err code → whole ≡ Err code
  part_stops code fails = stepped ∙ ap (λ o. behind_parts stop unknown (o ∷ map f (drop (i + 1) xs))) fails

  -- the part decides
  pub part_decides : (v : Value) → f x ≡ Ok v → is_truth stop v ≡ true → whole ≡ Ok v
  part_decides v gives chosen =
      stepped ∙ (ap (λ o. behind_parts stop unknown (o ∷ map f (drop (i + 1) xs))) gives
      ∙ ap (λ (b : Truth). unwrap_or (cond b (Some (Ok v)) (find (decides stop) (map f (drop (i + 1) xs))))
      (Ok (if unknown || (not (is_known v) || list_any is_unknown (map f (drop (i + 1) xs))) then value.Null else value.Bool (not stop)))) chosen)

  -- it does not
  pub part_passes : (v : Value) → f x ≡ Ok v → is_truth stop v ≡ false
      → behind_parts stop (if is_known v then unknown else true) (map f (drop (i + 1) xs)) ≡ whole
  part_passes v gives passes =
      sym (stepped ∙ (ap (λ o. behind_parts stop unknown (o ∷ map f (drop (i + 1) xs))) gives
      ∙ passed stop unknown v (map f (drop (i + 1) xs)) passes))

-- no part is left
pub none_left : (stop unknown : Truth) → behind_parts stop unknown [] ≡ Ok (if unknown then value.Null else value.Bool (not stop))
none_left stop true = refl
none_left stop false = refl
