-- The SETs of an UPDATE: their values are put in one by one.
use Rattle.std.proofs.Common.{◌≡◌, ℕ, ◌+◌, ◌<◌, List, ◌∷◌, map, drop, get_or, set, length, ap, sym, ◌∙◌, refl}
use Rattle.std.specs.Prelude.{Ok, Err}
use Rattle.std.proofs.lemmas.List.{at_drop_more}
use Rattle.pg_values.specs.declared.value.Value.{Value}
use Rattle.catalogue.specs.declared.checked.TypedSet.{TypedSet}
use Rattle.sql_values.specs.Outcome.{Outcome}
use Rattle.sql_eval.specs.Walks.{Coded, behind, made, all_of}
use Rattle.sql_eval.specs.Stored.{put_sets}

put_first : (s : TypedSet) (rest : List TypedSet) (cells : List Value) (v : Value) (told : Coded (List Value))
    → made (λ values. put_sets (s ∷ rest) values cells) (made (λ others. v ∷ others) told) ≡ made (λ values. put_sets rest values (set cells s.column v)) told
put_first s rest cells v (Ok values) = refl
put_first s rest cells v (Err code) = refl

module _ (f : TypedSet → Outcome) (sets : List TypedSet) (i : ℕ) (s : TypedSet) (cells : List Value) (whole : Coded (List Value))
    (below : i < length sets) (is : s ≡ get_or sets i s)
    (so_far : made (λ values. put_sets (drop i sets) values cells) (all_of (map f (drop i sets))) ≡ whole) where
  abbrev from_first : TypedSet → Outcome → Coded (List Value)
  from_first t o = made (λ values. put_sets (t ∷ drop (i + 1) sets) values cells) (behind o (λ a. made (λ others. a ∷ others) (all_of (map f (drop (i + 1) sets)))))

  sets_stepped : whole ≡ from_first s (f s)
  sets_stepped = sym so_far ∙ (at_drop_more (λ ts. made (λ values. put_sets ts values cells) (all_of (map f ts))) sets i s below
      ∙ ap (λ t. from_first t (f t)) (sym is))

  pub sets_stop : (code : List ℕ) → f s ≡ Err code → whole ≡ Err code
  sets_stop code fails = sets_stepped ∙ ap (from_first s) fails

  pub sets_next : (v : Value) → f s ≡ Ok v
      → made (λ values. put_sets (drop (i + 1) sets) values (set cells s.column v)) (all_of (map f (drop (i + 1) sets))) ≡ whole
  sets_next v gives =
      sym (sets_stepped ∙ (ap (from_first s) gives ∙ put_first s (drop (i + 1) sets) cells v (all_of (map f (drop (i + 1) sets)))))
