-- What is sound stays so at a moment.
use Rattle.std.proofs.Common.{◌≡◌, ℕ, zero, suc, ℤ, List, [], ◌∷◌, map, ap, sym, ◌∙◌, refl, subst}
use Rattle.std.specs.Prelude.{◌&&◌, Bool as Truth, true, false, Option, Some, None, slice_get}
use Rattle.std.specs.List.{list_all}
use Rattle.pg_values.specs.declared.col_type.ColType.{ColType}
use Rattle.pg_values.specs.declared.col_type.ColType.TheVariants.{Bool, Int4, Int8, Text, Moment}
use Rattle.pg_values.specs.declared.value.Value.{Value}
use Rattle.pg_values.specs.declared.value.Value.TheVariants as value
use Rattle.schema.specs.declared.catalogue.ColumnDef.{ColumnDef}
use Rattle.typed_sql.specs.declared.asks.Takes.{Takes}
use Rattle.typed_sql.specs.declared.asks.Takes.TheVariants.{Any, Whole, Like}
use Rattle.typed_sql.specs.declared.typed.TypedExpr.{TypedExpr, roll-TypedExpr}
use Rattle.typed_sql.specs.declared.typed.TypedForm.{TypedForm, roll-TypedForm, map-TypedForm}
use Rattle.typed_sql.specs.declared.typed.TypedForm.TheOpen.{TypedForm-F, TypedExpr-F, TypedProductPart-F, TypedSumPart-F}
use Rattle.typed_sql.specs.declared.typed.TypedForm.TheFolds.{ind-TypedExpr}
use Rattle.typed_sql.specs.declared.typed.TypedForm.TheVariants as form
use Rattle.typed_sql.specs.declared.typed.TypedSumPart.{TypedSumPart}
use Rattle.typed_sql.specs.declared.typed.TypedProductPart.{TypedProductPart}
use Rattle.typed_sql.specs.Places.{same_kind, takes as takes_kind}
use Rattle.checked_sql.specs.Sound.{Names, chain_kind, form_in, has_one, has_two, is_moment, is_sound, is_value, stands}
use Rattle.checked_sql.specs.OfCatalogue.{around}
use Rattle.time_rewrite.specs.Rewriting.{expr_at, factor_at, form_at, summand_at}
use Rattle.checked_sql.proofs.Forms.{fits_and, fits_column, fits_compare, fits_concat, fits_current, fits_is_null, fits_literal, fits_member, fits_minus, fits_not, fits_now, fits_or, fits_param, fits_product, fits_sum, fits_transaction, gives_and, gives_column, gives_compare, gives_concat, gives_current, gives_is_null, gives_literal, gives_member, gives_minus, gives_not, gives_now, gives_or, gives_param, gives_product, gives_sum, gives_transaction, one_map, sound_by_form, two_map}
use Rattle.checked_sql.proofs.Kept.{and_true, both_true}
use Rattle.time_rewrite.proofs.Forms.{expr_by_form}
use Rattle.statement_laws.proofs.At.{at_and, at_column, at_compare, at_concat, at_current, at_is_null, at_literal, at_member, at_minus, at_not, at_now, at_or, at_param, at_product, at_sum, at_transaction}

-- what holds of each part
abbrev pub Each : {X : Type 0} → (X → Type 0) → List X → Type 0
Each P [] = Unit {0}
Each P (x ∷ xs) = P x × Each P xs

each_of : {X E : Type 0} (f : X → E) (P : E → Type 0) → ((x : X) → P (f x)) → (xs : List X) → Each P (map f xs)
each_of f P all [] = tt
each_of f P all (x ∷ xs) = (all x, each_of f P all xs)

-- the type stays
pub kind_stays : (moment : ℤ) (e : TypedExpr) → (expr_at moment e).kind ≡ e.kind
kind_stays moment e = ap (λ (x : TypedExpr). x.kind) (expr_by_form moment e)

summand_kinds : (moment : ℤ) (ss : List TypedSumPart) → map (λ s. s.part.kind) (map (summand_at moment) ss) ≡ map (λ s. s.part.kind) ss
summand_kinds moment [] = refl
summand_kinds moment (s ∷ ss) = ap (λ (k : ColType). k ∷ map (λ s. s.part.kind) (map (summand_at moment) ss)) (kind_stays moment s.part)
    ∙ ap (λ (ks : List ColType). s.part.kind ∷ ks) (summand_kinds moment ss)

factor_kinds : (moment : ℤ) (fs : List TypedProductPart) → map (λ f. f.part.kind) (map (factor_at moment) fs) ≡ map (λ f. f.part.kind) fs
factor_kinds moment [] = refl
factor_kinds moment (f ∷ fs) = ap (λ (k : ColType). k ∷ map (λ f. f.part.kind) (map (factor_at moment) fs)) (kind_stays moment f.part)
    ∙ ap (λ (ks : List ColType). f.part.kind ∷ ks) (factor_kinds moment fs)

module _ (columns : List ColumnDef) (kinds : List ColType) (moment : ℤ) (within : is_moment moment ≡ true) where
  abbrev before : Names
  before = around columns kinds

  abbrev after : Names
  after = around columns kinds

  -- a sound expression stays sound
  abbrev pub Kept : TypedExpr → Type 0
  Kept e = is_sound before e ≡ true → is_sound after (expr_at moment e) ≡ true

  abbrev KeptForm : TypedForm → Type 0
  KeptForm f = ((kind : ColType) → (form_in before f).gives kind ≡ true → (form_in after (form_at moment f)).gives kind ≡ true)
      × ((form_in before f).fits ≡ true → (form_in after (form_at moment f)).fits ≡ true)

  -- where it may stand it may stand
  stands_kept : (t : Takes) (e : TypedExpr) → Kept e → stands before t e ≡ true → stands after t (expr_at moment e) ≡ true
  stands_kept t e kept is =
      let both = and_true (takes_kind t e.kind) (is_sound before e) is in
      both_true (takes_kind t (expr_at moment e).kind) (is_sound after (expr_at moment e)) (ap (takes_kind t) (kind_stays moment e) ∙ both.0) (kept both.1)

  all_kept : (t : Takes) (es : List TypedExpr) → Each Kept es → list_all (stands before t) es ≡ true → list_all (stands after t) (map (expr_at moment) es) ≡ true
  all_kept t [] each is = refl
  all_kept t (e ∷ es) each is =
      let both = and_true (stands before t e) (list_all (stands before t) es) is in
      both_true (stands after t (expr_at moment e)) (list_all (stands after t) (map (expr_at moment) es)) (stands_kept t e each.0 both.0) (all_kept t es each.1 both.1)

  joined_kept : (t : Takes) (es : List TypedExpr) → Each Kept es → (has_two es && list_all (stands before t) es) ≡ true
      → (has_two (map (expr_at moment) es) && list_all (stands after t) (map (expr_at moment) es)) ≡ true
  joined_kept t es each is =
      let both = and_true (has_two es) (list_all (stands before t) es) is in
      both_true (has_two (map (expr_at moment) es)) (list_all (stands after t) (map (expr_at moment) es)) (two_map (expr_at moment) es ∙ both.0) (all_kept t es each both.1)

  further_kept : (t : Takes) (es : List TypedExpr) → Each Kept es → (has_one es && list_all (stands before t) es) ≡ true
      → (has_one (map (expr_at moment) es) && list_all (stands after t) (map (expr_at moment) es)) ≡ true
  further_kept t es each is =
      let both = and_true (has_one es) (list_all (stands before t) es) is in
      both_true (has_one (map (expr_at moment) es)) (list_all (stands after t) (map (expr_at moment) es)) (one_map (expr_at moment) es ∙ both.0) (all_kept t es each both.1)

  summands_kept : (ss : List TypedSumPart) → Each (λ s. Kept s.part) ss → list_all (λ s. stands before Whole s.part) ss ≡ true
      → list_all (λ s. stands after Whole s.part) (map (summand_at moment) ss) ≡ true
  summands_kept [] each is = refl
  summands_kept (s ∷ ss) each is =
      let both = and_true (stands before Whole s.part) (list_all (λ s. stands before Whole s.part) ss) is in
      both_true (stands after Whole (expr_at moment s.part)) (list_all (λ s. stands after Whole s.part) (map (summand_at moment) ss))
      (stands_kept Whole s.part each.0 both.0) (summands_kept ss each.1 both.1)

  factors_kept : (fs : List TypedProductPart) → Each (λ f. Kept f.part) fs → list_all (λ f. stands before Whole f.part) fs ≡ true
      → list_all (λ f. stands after Whole f.part) (map (factor_at moment) fs) ≡ true
  factors_kept [] each is = refl
  factors_kept (f ∷ fs) each is =
      let both = and_true (stands before Whole f.part) (list_all (λ f. stands before Whole f.part) fs) is in
      both_true (stands after Whole (expr_at moment f.part)) (list_all (λ f. stands after Whole f.part) (map (factor_at moment) fs))
      (stands_kept Whole f.part each.0 both.0) (factors_kept fs each.1 both.1)

  -- operands of a type with the first
  beside_kept : (a b : TypedExpr) → Kept a → Kept b → (stands before Any a && stands before (Like a.kind) b) ≡ true
      → (stands after Any (expr_at moment a) && stands after (Like (expr_at moment a).kind) (expr_at moment b)) ≡ true
  beside_kept a b ka kb is =
      let both = and_true (stands before Any a) (stands before (Like a.kind) b) is in
      both_true (stands after Any (expr_at moment a)) (stands after (Like (expr_at moment a).kind) (expr_at moment b)) (stands_kept Any a ka both.0)
      (ap (λ (k : ColType). stands after (Like k) (expr_at moment b)) (kind_stays moment a) ∙ stands_kept (Like a.kind) b kb both.1)

  among_kept : (a : TypedExpr) (es : List TypedExpr) → Kept a → Each Kept es → (stands before Any a && (has_one es && list_all (stands before (Like a.kind)) es)) ≡ true
      → (stands after Any (expr_at moment a) && (has_one (map (expr_at moment) es) && list_all (stands after (Like (expr_at moment a).kind)) (map (expr_at moment) es))) ≡ true
  among_kept a es ka kes is =
      let both = and_true (stands before Any a) (has_one es && list_all (stands before (Like a.kind)) es) is in
      both_true (stands after Any (expr_at moment a)) (has_one (map (expr_at moment) es) && list_all (stands after (Like (expr_at moment a).kind)) (map (expr_at moment) es)) (stands_kept Any a ka both.0)
      (ap (λ (k : ColType). has_one (map (expr_at moment) es) && list_all (stands after (Like k)) (map (expr_at moment) es)) (kind_stays moment a) ∙ further_kept (Like a.kind) es kes both.1)

  sum_kept : (a : TypedExpr) (ss : List TypedSumPart) → Kept a → Each (λ s. Kept s.part) ss → (stands before Whole a && (has_one ss && list_all (λ s. stands before Whole s.part) ss)) ≡ true
      → (stands after Whole (expr_at moment a) && (has_one (map (summand_at moment) ss) && list_all (λ s. stands after Whole s.part) (map (summand_at moment) ss))) ≡ true
  sum_kept a ss ka kss is =
      let both = and_true (stands before Whole a) (has_one ss && list_all (λ s. stands before Whole s.part) ss) is in
      let more = and_true (has_one ss) (list_all (λ s. stands before Whole s.part) ss) both.1 in
      both_true (stands after Whole (expr_at moment a)) (has_one (map (summand_at moment) ss) && list_all (λ s. stands after Whole s.part) (map (summand_at moment) ss))
      (stands_kept Whole a ka both.0)
      (both_true (has_one (map (summand_at moment) ss)) (list_all (λ s. stands after Whole s.part) (map (summand_at moment) ss)) (one_map (summand_at moment) ss ∙ more.0) (summands_kept ss kss more.1))

  product_kept : (a : TypedExpr) (fs : List TypedProductPart) → Kept a → Each (λ f. Kept f.part) fs → (stands before Whole a && (has_one fs && list_all (λ f. stands before Whole f.part) fs)) ≡ true
      → (stands after Whole (expr_at moment a) && (has_one (map (factor_at moment) fs) && list_all (λ f. stands after Whole f.part) (map (factor_at moment) fs))) ≡ true
  product_kept a fs ka kfs is =
      let both = and_true (stands before Whole a) (has_one fs && list_all (λ f. stands before Whole f.part) fs) is in
      let more = and_true (has_one fs) (list_all (λ f. stands before Whole f.part) fs) both.1 in
      both_true (stands after Whole (expr_at moment a)) (has_one (map (factor_at moment) fs) && list_all (λ f. stands after Whole f.part) (map (factor_at moment) fs))
      (stands_kept Whole a ka both.0)
      (both_true (has_one (map (factor_at moment) fs)) (list_all (λ f. stands after Whole f.part) (map (factor_at moment) fs)) (one_map (factor_at moment) fs ∙ more.0) (factors_kept fs kfs more.1))

  -- the type of a chain
  sum_type : (a : TypedExpr) (ss : List TypedSumPart) (kind : ColType)
      → same_kind (chain_kind (expr_at moment a).kind (map (λ s. s.part.kind) (map (summand_at moment) ss))) kind ≡ same_kind (chain_kind a.kind (map (λ s. s.part.kind) ss)) kind
  sum_type a ss kind =
      ap (λ (k : ColType). same_kind (chain_kind k (map (λ s. s.part.kind) (map (summand_at moment) ss))) kind) (kind_stays moment a)
      ∙ ap (λ (ks : List ColType). same_kind (chain_kind a.kind ks) kind) (summand_kinds moment ss)

  product_type : (a : TypedExpr) (fs : List TypedProductPart) (kind : ColType)
      → same_kind (chain_kind (expr_at moment a).kind (map (λ f. f.part.kind) (map (factor_at moment) fs))) kind ≡ same_kind (chain_kind a.kind (map (λ f. f.part.kind) fs)) kind
  product_type a fs kind =
      ap (λ (k : ColType). same_kind (chain_kind k (map (λ f. f.part.kind) (map (factor_at moment) fs))) kind) (kind_stays moment a)
      ∙ ap (λ (ks : List ColType). same_kind (chain_kind a.kind ks) kind) (factor_kinds moment fs)

  -- the literal of the moment has its type
  moment_gives : (kind : ColType) (f : TypedForm) → f ≡ form.Literal (value.Moment moment) → same_kind Moment kind ≡ true → (form_in after f).gives kind ≡ true
  moment_gives Moment f is at = gives_literal after f Moment (value.Moment moment) is ∙ within
  moment_gives kind f is at = absurd (let g : false ≡ true = at in cc)

  kept_expr : (e : TypedExpr) → KeptForm e.form → Kept e
  kept_expr e kept is =
      let both = and_true ((form_in before e.form).gives e.kind) (form_in before e.form).fits (sym (sound_by_form before e) ∙ is) in
      let made : TypedExpr = record { kind = e.kind; form = form_at moment e.form } in
      ap (is_sound after) (expr_by_form moment e) ∙ (sound_by_form after made
      ∙ both_true ((form_in after made.form).gives e.kind) (form_in after made.form).fits (kept.0 e.kind both.0) (kept.1 both.1))

  module _ {F E P S : Type 0} (f_of : F → TypedForm) (e_of : E → TypedExpr) (p_of : P → TypedProductPart) (s_of : S → TypedSumPart) (ex : (x : E) → Kept (e_of x)) (py : (y : P) → Kept (p_of y).part) (sz : (z : S) → Kept (s_of z).part) where
    layer : (y : TypedForm-F F E P S) → KeptForm (roll-TypedForm (map-TypedForm F E P S TypedForm TypedExpr TypedProductPart TypedSumPart f_of e_of p_of s_of y))
    layer (TypedForm-F.Or parts) =
        let es = map e_of parts in
        let f = roll-TypedForm (TypedForm-F.Or es) in
        let is = form.rolls-Or es in
        let to = at_or moment f es is in (
          λ kind at. gives_or after (form_at moment f) kind (map (expr_at moment) es) to ∙ (sym (gives_or before f kind es is) ∙ at),
          λ fits. fits_or after (form_at moment f) (map (expr_at moment) es) to ∙ joined_kept (Like Bool) es (each_of e_of Kept ex parts) (sym (fits_or before f es is) ∙ fits),
        )
    layer (TypedForm-F.And parts) =
        let es = map e_of parts in
        let f = roll-TypedForm (TypedForm-F.And es) in
        let is = form.rolls-And es in
        let to = at_and moment f es is in (
          λ kind at. gives_and after (form_at moment f) kind (map (expr_at moment) es) to ∙ (sym (gives_and before f kind es is) ∙ at),
          λ fits. fits_and after (form_at moment f) (map (expr_at moment) es) to ∙ joined_kept (Like Bool) es (each_of e_of Kept ex parts) (sym (fits_and before f es is) ∙ fits),
        )
    layer (TypedForm-F.Not x) =
        let e = e_of x in
        let f = roll-TypedForm (TypedForm-F.Not e) in
        let is = form.rolls-Not e in
        let to = at_not moment f e is in (
          λ kind at. gives_not after (form_at moment f) kind (expr_at moment e) to ∙ (sym (gives_not before f kind e is) ∙ at),
          λ fits. fits_not after (form_at moment f) (expr_at moment e) to ∙ stands_kept (Like Bool) e (ex x) (sym (fits_not before f e is) ∙ fits),
        )
    layer (TypedForm-F.IsNull x tests) =
        let e = e_of x in
        let f = roll-TypedForm (TypedForm-F.IsNull e tests) in
        let is = form.rolls-IsNull e tests in
        let to = at_is_null moment f e tests is in (
          λ kind at. gives_is_null after (form_at moment f) kind (expr_at moment e) tests to ∙ (sym (gives_is_null before f kind e tests is) ∙ at),
          λ fits. let both = and_true (has_one tests) (stands before Any e) (sym (fits_is_null before f e tests is) ∙ fits) in
              fits_is_null after (form_at moment f) (expr_at moment e) tests to
              ∙ both_true (has_one tests) (stands after Any (expr_at moment e)) both.0 (stands_kept Any e (ex x) both.1),
        )
    layer (TypedForm-F.Compare how x y) =
        let a = e_of x in
        let b = e_of y in
        let f = roll-TypedForm (TypedForm-F.Compare how a b) in
        let is = form.rolls-Compare how a b in
        let to = at_compare moment f how a b is in (
          λ kind at. gives_compare after (form_at moment f) kind how (expr_at moment a) (expr_at moment b) to ∙ (sym (gives_compare before f kind how a b is) ∙ at),
          λ fits. fits_compare after (form_at moment f) how (expr_at moment a) (expr_at moment b) to ∙ beside_kept a b (ex x) (ex y) (sym (fits_compare before f how a b is) ∙ fits),
        )
    layer (TypedForm-F.Member x negated parts) =
        let a = e_of x in
        let es = map e_of parts in
        let f = roll-TypedForm (TypedForm-F.Member a negated es) in
        let is = form.rolls-Member a negated es in
        let to = at_member moment f a negated es is in (
          λ kind at. gives_member after (form_at moment f) kind (expr_at moment a) negated (map (expr_at moment) es) to ∙ (sym (gives_member before f kind a negated es is) ∙ at),
          λ fits. fits_member after (form_at moment f) (expr_at moment a) negated (map (expr_at moment) es) to
              ∙ among_kept a es (ex x) (each_of e_of Kept ex parts) (sym (fits_member before f a negated es is) ∙ fits),
        )
    layer (TypedForm-F.Concat parts) =
        let es = map e_of parts in
        let f = roll-TypedForm (TypedForm-F.Concat es) in
        let is = form.rolls-Concat es in
        let to = at_concat moment f es is in (
          λ kind at. gives_concat after (form_at moment f) kind (map (expr_at moment) es) to ∙ (sym (gives_concat before f kind es is) ∙ at),
          λ fits. fits_concat after (form_at moment f) (map (expr_at moment) es) to ∙ joined_kept (Like Text) es (each_of e_of Kept ex parts) (sym (fits_concat before f es is) ∙ fits),
        )
    layer (TypedForm-F.Sum x parts) =
        let a = e_of x in
        let ss = map s_of parts in
        let f = roll-TypedForm (TypedForm-F.Sum a ss) in
        let is = form.rolls-Sum a ss in
        let to = at_sum moment f a ss is in (
          λ kind at. gives_sum after (form_at moment f) kind (expr_at moment a) (map (summand_at moment) ss) to ∙ (sum_type a ss kind ∙ (sym (gives_sum before f kind a ss is) ∙ at)),
          λ fits. fits_sum after (form_at moment f) (expr_at moment a) (map (summand_at moment) ss) to
              ∙ sum_kept a ss (ex x) (each_of s_of (λ s. Kept s.part) sz parts) (sym (fits_sum before f a ss is) ∙ fits),
        )
    layer (TypedForm-F.Product x parts) =
        let a = e_of x in
        let fs = map p_of parts in
        let f = roll-TypedForm (TypedForm-F.Product a fs) in
        let is = form.rolls-Product a fs in
        let to = at_product moment f a fs is in (
          λ kind at. gives_product after (form_at moment f) kind (expr_at moment a) (map (factor_at moment) fs) to ∙ (product_type a fs kind ∙ (sym (gives_product before f kind a fs is) ∙ at)),
          λ fits. fits_product after (form_at moment f) (expr_at moment a) (map (factor_at moment) fs) to
              ∙ product_kept a fs (ex x) (each_of p_of (λ p. Kept p.part) py parts) (sym (fits_product before f a fs is) ∙ fits),
        )
    layer (TypedForm-F.Minus x) =
        let e = e_of x in
        let f = roll-TypedForm (TypedForm-F.Minus e) in
        let is = form.rolls-Minus e in
        let to = at_minus moment f e is in (
          λ kind at. gives_minus after (form_at moment f) kind (expr_at moment e) to
              ∙ (ap (λ (k : ColType). same_kind k kind) (kind_stays moment e) ∙ (sym (gives_minus before f kind e is) ∙ at)),
          λ fits. fits_minus after (form_at moment f) (expr_at moment e) to ∙ stands_kept Whole e (ex x) (sym (fits_minus before f e is) ∙ fits),
        )
    layer (TypedForm-F.Literal v) =
        let f = roll-TypedForm (TypedForm-F.Literal v) in
        let is = form.rolls-Literal v in
        let to = at_literal moment f v is in (
          λ kind at. gives_literal after (form_at moment f) kind v to ∙ (sym (gives_literal before f kind v is) ∙ at),
          λ fits. fits_literal after (form_at moment f) v to,
        )
    layer (TypedForm-F.Param n) =
        let f = roll-TypedForm (TypedForm-F.Param n) in
        let is = form.rolls-Param n in
        let to = at_param moment f n is in
        (λ kind at. gives_param after (form_at moment f) kind n to ∙ (sym (gives_param before f kind n is) ∙ at), λ fits. fits_param after (form_at moment f) n to)
    layer (TypedForm-F.Column n) =
        let f = roll-TypedForm (TypedForm-F.Column n) in
        let is = form.rolls-Column n in
        let to = at_column moment f n is in (
          λ kind at. gives_column after (form_at moment f) kind n to ∙ (sym (gives_column before f kind n is) ∙ at),
          λ fits. fits_column after (form_at moment f) n to,
        )
    layer TypedForm-F.CurrentTimestamp =
        let f = roll-TypedForm TypedForm-F.CurrentTimestamp in
        let is = form.rolls-CurrentTimestamp in
        let to = at_current moment f is in
        (λ kind at. moment_gives kind (form_at moment f) to (sym (gives_current before f kind is) ∙ at), λ fits. fits_literal after (form_at moment f) (value.Moment moment) to)
    layer TypedForm-F.Now =
        let f = roll-TypedForm TypedForm-F.Now in
        let is = form.rolls-Now in
        let to = at_now moment f is in
        (λ kind at. moment_gives kind (form_at moment f) to (sym (gives_now before f kind is) ∙ at), λ fits. fits_literal after (form_at moment f) (value.Moment moment) to)
    layer TypedForm-F.TransactionTimestamp =
        let f = roll-TypedForm TypedForm-F.TransactionTimestamp in
        let is = form.rolls-TransactionTimestamp in
        let to = at_transaction moment f is in
        (λ kind at. moment_gives kind (form_at moment f) to (sym (gives_transaction before f kind is) ∙ at), λ fits. fits_literal after (form_at moment f) (value.Moment moment) to)

  from_layer : {F E P S : Type 0} (y : TypedForm-F F E P S) (f_of : F → TypedForm) (e_of : E → TypedExpr) (p_of : P → TypedProductPart) (s_of : S → TypedSumPart)
      → ((x : E) → Kept (e_of x)) → ((y : P) → Kept (p_of y).part) → ((z : S) → Kept (s_of z).part)
      → KeptForm (roll-TypedForm (map-TypedForm F E P S TypedForm TypedExpr TypedProductPart TypedSumPart f_of e_of p_of s_of y))
  from_layer y f_of e_of p_of s_of ex py sz = layer f_of e_of p_of s_of ex py sz y

  -- every expression
  pub sound_kept : (e : TypedExpr) → Kept e
  sound_kept = ind-TypedExpr KeptForm Kept (λ p. Kept p.part) (λ s. Kept s.part)
      (λ x y is. subst (λ (z : TypedForm-F TypedForm TypedExpr TypedProductPart TypedSumPart). KeptForm (roll-TypedForm z)) is
      (from_layer y (λ f. f.0) (λ e. e.0) (λ p. p.0) (λ s. s.0) (λ e. e.1) (λ p. p.1) (λ s. s.1)))
      (λ x y is. subst (λ (z : TypedExpr-F TypedForm TypedExpr TypedProductPart TypedSumPart). Kept (roll-TypedExpr z)) is
      (kept_expr (record { kind = y.kind; form = y.form.0 }) y.form.1))
      (λ x y is. subst (λ (z : TypedProductPart-F TypedForm TypedExpr TypedProductPart TypedSumPart). Kept z.part) is y.part.1)
      (λ x y is. subst (λ (z : TypedSumPart-F TypedForm TypedExpr TypedProductPart TypedSumPart). Kept z.part) is y.part.1)

  pub stood_kept : (t : Takes) (e : TypedExpr) → stands before t e ≡ true → stands after t (expr_at moment e) ≡ true
  stood_kept t e = stands_kept t e (sound_kept e)
