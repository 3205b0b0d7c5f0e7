-- The types of a list, from one on, and which type a number is of.
use Rattle.std.proofs.Common.{◌≡◌, ℕ, ◌+◌, ◌<◌, get_or, drop, length, List, [], ◌∷◌, ◌++◌, refl, ap, sym, ◌∙◌, subst, append_assoc, eqb, false}
use Rattle.std.proofs.lemmas.List.{at_drop_more}
use Rattle.std.proofs.lemmas.Bool.{ne_eqb}
use Rattle.std.specs.Prelude.{Option, Some, None, Result, Ok, Err, codes}
use Rattle.std.specs.Fmt.{decimal}
use Rattle.pg_values.specs.declared.col_type.ColType.{ColType}
use Rattle.pg_values.specs.declared.col_type.ColType.TheVariants as kind
use Rattle.pg_values.specs.Kinds.{oid_number}
use Rattle.typed_sql.specs.Steps.{Known, Fault, fault}
use Rattle.catalogue.specs.Statements.{kind_numbered, kinds_listed, with_first}

-- types behind these
abbrev pub listed_behind : Known → Result Known Fault → Result Known Fault
listed_behind front (Ok kinds) = Ok (front ++ kinds)
listed_behind front (Err e) = Err e

behind_one : (front : Known) (kind : Option ColType) (others : Result Known Fault)
    → listed_behind front (with_first (Ok kind) others) ≡ listed_behind (front ++ kind ∷ []) others
behind_one front kind (Ok kinds) = ap (λ (k : Known). Ok k) (sym (append_assoc front (kind ∷ []) kinds))
behind_one front kind (Err e) = refl

-- a number more
pub listed_next : (numbers : List ℕ) (i x : ℕ) (front pushed : Known) (kind : Option ColType) → i < length numbers → x ≡ get_or numbers i x
    → kinds_listed numbers ≡ listed_behind front (kinds_listed (drop i numbers)) → kind_numbered x ≡ Ok kind → pushed ≡ front ++ kind ∷ []
    → kinds_listed numbers ≡ listed_behind pushed (kinds_listed (drop (i + 1) numbers))
listed_next numbers i x front pushed kind below is so_far numbered pushed_is =
    so_far ∙ (at_drop_more (λ ns. listed_behind front (kinds_listed ns)) numbers i x below
    ∙ (ap (λ (n : ℕ). listed_behind front (with_first (kind_numbered n) (kinds_listed (drop (i + 1) numbers)))) (sym is)
    ∙ (ap (λ (k : Result (Option ColType) Fault). listed_behind front (with_first k (kinds_listed (drop (i + 1) numbers)))) numbered
    ∙ (behind_one front kind (kinds_listed (drop (i + 1) numbers))
    ∙ ap (λ (f : Known). listed_behind f (kinds_listed (drop (i + 1) numbers))) (sym pushed_is)))))

-- a number of no type
pub listed_ends : (numbers : List ℕ) (i x : ℕ) (front : Known) (e : Fault) → i < length numbers → x ≡ get_or numbers i x
    → kinds_listed numbers ≡ listed_behind front (kinds_listed (drop i numbers)) → kind_numbered x ≡ Err e → kinds_listed numbers ≡ Err e
listed_ends numbers i x front e below is so_far numbered =
    so_far ∙ (at_drop_more (λ ns. listed_behind front (kinds_listed ns)) numbers i x below
    ∙ (ap (λ (n : ℕ). listed_behind front (with_first (kind_numbered n) (kinds_listed (drop (i + 1) numbers)))) (sym is)
    ∙ ap (λ (k : Result (Option ColType) Fault). listed_behind front (with_first k (kinds_listed (drop (i + 1) numbers)))) numbered))

-- a number of no type, as it is told
pub numbered_none : (n : ℕ) → (n ≡ 0 → ⊥) → ((k : ColType) → oid_number k ≡ n → ⊥)
    → kind_numbered n ≡ Err (fault (codes "0A000") (codes "parameter type " ++ decimal n))
numbered_none n is_some none =
    let e0 : eqb n 0 ≡ false = ne_eqb n 0 is_some in
    let e1 : eqb n 16 ≡ false = ne_eqb n 16 (λ e. none kind.Bool (sym e)) in
    let e2 : eqb n 23 ≡ false = ne_eqb n 23 (λ e. none kind.Int4 (sym e)) in
    let e3 : eqb n 20 ≡ false = ne_eqb n 20 (λ e. none kind.Int8 (sym e)) in
    let e4 : eqb n 25 ≡ false = ne_eqb n 25 (λ e. none kind.Text (sym e)) in
    let e5 : eqb n 1184 ≡ false = ne_eqb n 1184 (λ e. none kind.Moment (sym e)) in
    rw (e0, e1, e2, e3, e4, e5) refl

-- a type's number is of that type
pub numbered_found : (k : ColType) (n : ℕ) → oid_number k ≡ n → kind_numbered n ≡ Ok (Some k)
numbered_found kind.Bool n is = subst (λ (m : ℕ). kind_numbered m ≡ Ok (Some kind.Bool)) is refl
numbered_found kind.Int4 n is = subst (λ (m : ℕ). kind_numbered m ≡ Ok (Some kind.Int4)) is refl
numbered_found kind.Int8 n is = subst (λ (m : ℕ). kind_numbered m ≡ Ok (Some kind.Int8)) is refl
numbered_found kind.Text n is = subst (λ (m : ℕ). kind_numbered m ≡ Ok (Some kind.Text)) is refl
numbered_found kind.Moment n is = subst (λ (m : ℕ). kind_numbered m ≡ Ok (Some kind.Moment)) is refl
