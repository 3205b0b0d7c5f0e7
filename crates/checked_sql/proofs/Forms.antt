-- What each form of an expression gives, and whether its parts may stand where they stand.
use Rattle.std.proofs.Common.{rules, ◌≡◌, ℕ, List, [], ◌∷◌, map, ap, sym, ◌∙◌, refl}
use Rattle.std.specs.Prelude.{◌&&◌, Bool as Truth, true}
use Rattle.std.specs.List.{list_all}
use Rattle.pg_values.specs.declared.col_type.ColType.{ColType}
use Rattle.pg_values.specs.declared.col_type.ColType.TheVariants.{Bool, Text, Moment}
use Rattle.pg_values.specs.declared.value.Value.{Value}
use Rattle.sql_tree.specs.declared.expr.Comparison.{Comparison}
use Rattle.typed_sql.specs.declared.asks.Takes.{Takes}
use Rattle.typed_sql.specs.declared.asks.Takes.TheVariants.{Any, Whole, Like}
use Rattle.typed_sql.specs.declared.typed.TypedExpr.{TypedExpr}
use Rattle.typed_sql.specs.declared.typed.TypedForm.TheOpen.{TypedForm-F}
use Rattle.typed_sql.specs.declared.typed.TypedForm.{TypedForm, the_lemmas}
use Rattle.typed_sql.specs.declared.typed.TypedForm.TheFolds.{fold-TypedSumPart, fold-TypedProductPart, fold-roll-TypedForm}
use Rattle.typed_sql.specs.declared.typed.TypedForm.TheVariants as form
use Rattle.typed_sql.specs.declared.typed.TypedSumPart.{TypedSumPart}
use Rattle.typed_sql.specs.declared.typed.TypedProductPart.{TypedProductPart}
use Rattle.typed_sql.specs.Places.{same_kind, takes as takes_kind}
use Rattle.checked_sql.specs.Sound.{Names, Formed, Node, chain_kind, form_in, formed_of, has_one, has_two, is_column, is_parameter, is_sound, is_taken, is_value, node_in, stands, whole}

-- as many as there were
pub one_map : {A B : Type 0} (f : A → B) (xs : List A) → has_one (map f xs) ≡ has_one xs
one_map f [] = refl
one_map f (x ∷ xs) = refl

pub two_map : {A B : Type 0} (f : A → B) (xs : List A) → has_two (map f xs) ≡ has_two xs
two_map f [] = refl
two_map f (x ∷ []) = refl
two_map f (x ∷ y ∷ xs) = refl

module _ (names : Names) where
  abbrev pub summand_in : TypedSumPart → Node
  summand_in = fold-TypedSumPart Formed Node Node Node (formed_of names) whole (λ f. f.part) (λ s. s.part)

  abbrev pub factor_in : TypedProductPart → Node
  factor_in = fold-TypedProductPart Formed Node Node Node (formed_of names) whole (λ f. f.part) (λ s. s.part)

  pub sound_by_form : (e : TypedExpr) → is_sound names e ≡ ((form_in names e.form).gives e.kind && (form_in names e.form).fits)
  sound_by_form e = search (rules, the_lemmas)

  node_kind : (e : TypedExpr) → (node_in names e).kind ≡ e.kind
  node_kind e = search (rules, the_lemmas)

  -- parts, one and all
  taken_is : (takes : Takes) (e : TypedExpr) → is_taken takes (node_in names e) ≡ stands names takes e
  taken_is takes e = ap (λ (k : ColType). takes_kind takes k && is_sound names e) (node_kind e)

  all_stand : (takes : Takes) (es : List TypedExpr) → list_all (is_taken takes) (map (node_in names) es) ≡ list_all (stands names takes) es
  all_stand takes [] = refl
  all_stand takes (e ∷ es) = ap (λ (b : Truth). b && list_all (is_taken takes) (map (node_in names) es)) (taken_is takes e)
      ∙ ap (λ (b : Truth). stands names takes e && b) (all_stand takes es)

  both : (a b c d : Truth) → a ≡ c → b ≡ d → (a && b) ≡ (c && d)
  both a b c d first second = ap (λ (x : Truth). x && b) first ∙ ap (λ (x : Truth). c && x) second

  joined_is : (takes : Takes) (es : List TypedExpr) → (has_two (map (node_in names) es) && list_all (is_taken takes) (map (node_in names) es))
      ≡ (has_two es && list_all (stands names takes) es)
  joined_is takes es = both _ _ _ _ (two_map (node_in names) es) (all_stand takes es)

  further_is : (takes : Takes) (es : List TypedExpr) → (has_one (map (node_in names) es) && list_all (is_taken takes) (map (node_in names) es))
      ≡ (has_one es && list_all (stands names takes) es)
  further_is takes es = both _ _ _ _ (one_map (node_in names) es) (all_stand takes es)

  compared_is : (left right : TypedExpr) → (is_taken Any (node_in names left) && is_taken (Like (node_in names left).kind) (node_in names right))
      ≡ (stands names Any left && stands names (Like left.kind) right)
  compared_is left right = both _ _ _ _ (taken_is Any left)
      (ap (λ (k : ColType). is_taken (Like k) (node_in names right)) (node_kind left) ∙ taken_is (Like left.kind) right)

  among_is : (of : TypedExpr) (es : List TypedExpr)
      → (is_taken Any (node_in names of) && (has_one (map (node_in names) es) && list_all (is_taken (Like (node_in names of).kind)) (map (node_in names) es)))
      ≡ (stands names Any of && (has_one es && list_all (stands names (Like of.kind)) es))
  among_is of es = both _ _ _ _ (taken_is Any of)
      (ap (λ (k : ColType). has_one (map (node_in names) es) && list_all (is_taken (Like k)) (map (node_in names) es)) (node_kind of) ∙ further_is (Like of.kind) es)

  summand_is : (s : TypedSumPart) → summand_in s ≡ node_in names s.part
  summand_is s = search (rules, the_lemmas)

  factor_is : (f : TypedProductPart) → factor_in f ≡ node_in names f.part
  factor_is f = search (rules, the_lemmas)

  summands_stand : (ss : List TypedSumPart) → list_all (is_taken Whole) (map summand_in ss) ≡ list_all (λ s. stands names Whole s.part) ss
  summands_stand [] = refl
  summands_stand (s ∷ ss) = both _ _ _ _ (ap (is_taken Whole) (summand_is s) ∙ taken_is Whole s.part) (summands_stand ss)

  factors_stand : (fs : List TypedProductPart) → list_all (is_taken Whole) (map factor_in fs) ≡ list_all (λ f. stands names Whole f.part) fs
  factors_stand [] = refl
  factors_stand (f ∷ fs) = both _ _ _ _ (ap (is_taken Whole) (factor_is f) ∙ taken_is Whole f.part) (factors_stand fs)

  sum_is : (first : TypedExpr) (ss : List TypedSumPart) → (is_taken Whole (node_in names first) && (has_one (map summand_in ss) && list_all (is_taken Whole) (map summand_in ss)))
      ≡ (stands names Whole first && (has_one ss && list_all (λ s. stands names Whole s.part) ss))
  sum_is first ss = both _ _ _ _ (taken_is Whole first) (both _ _ _ _ (one_map summand_in ss) (summands_stand ss))

  product_is : (first : TypedExpr) (fs : List TypedProductPart) → (is_taken Whole (node_in names first) && (has_one (map factor_in fs) && list_all (is_taken Whole) (map factor_in fs)))
      ≡ (stands names Whole first && (has_one fs && list_all (λ f. stands names Whole f.part) fs))
  product_is first fs = both _ _ _ _ (taken_is Whole first) (both _ _ _ _ (one_map factor_in fs) (factors_stand fs))

  -- the types of the parts of a chain
  summand_kinds : (ss : List TypedSumPart) → map (λ (n : Node). n.kind) (map summand_in ss) ≡ map (λ s. s.part.kind) ss
  summand_kinds [] = refl
  summand_kinds (s ∷ ss) = ap (λ (k : ColType). k ∷ map (λ (n : Node). n.kind) (map summand_in ss)) (ap (λ (n : Node). n.kind) (summand_is s) ∙ node_kind s.part)
      ∙ ap (λ (ks : List ColType). s.part.kind ∷ ks) (summand_kinds ss)

  factor_kinds : (fs : List TypedProductPart) → map (λ (n : Node). n.kind) (map factor_in fs) ≡ map (λ f. f.part.kind) fs
  factor_kinds [] = refl
  factor_kinds (f ∷ fs) = ap (λ (k : ColType). k ∷ map (λ (n : Node). n.kind) (map factor_in fs)) (ap (λ (n : Node). n.kind) (factor_is f) ∙ node_kind f.part)
      ∙ ap (λ (ks : List ColType). f.part.kind ∷ ks) (factor_kinds fs)

  -- forms
  at_or : (f : TypedForm) (parts : List TypedExpr) → f ≡ form.Or parts → form_in names f ≡ formed_of names (TypedForm-F.Or (map (node_in names) parts))
  at_or f parts is = ap (form_in names) (is ∙ sym (form.rolls-Or parts))
      ∙ fold-roll-TypedForm Formed Node Node Node (formed_of names) whole (λ f. f.part) (λ s. s.part) (TypedForm-F.Or parts)

  pub gives_or : (f : TypedForm) (kind : ColType) (parts : List TypedExpr) → f ≡ form.Or parts → (form_in names f).gives kind ≡ same_kind Bool kind
  gives_or f kind parts is = ap (λ (r : Formed). r.gives kind) (at_or f parts is)

  pub fits_or : (f : TypedForm) (parts : List TypedExpr) → f ≡ form.Or parts → (form_in names f).fits ≡ (has_two parts && list_all (stands names (Like Bool)) parts)
  fits_or f parts is = ap (λ (r : Formed). r.fits) (at_or f parts is) ∙ joined_is (Like Bool) parts

  at_and : (f : TypedForm) (parts : List TypedExpr) → f ≡ form.And parts → form_in names f ≡ formed_of names (TypedForm-F.And (map (node_in names) parts))
  at_and f parts is = ap (form_in names) (is ∙ sym (form.rolls-And parts))
      ∙ fold-roll-TypedForm Formed Node Node Node (formed_of names) whole (λ f. f.part) (λ s. s.part) (TypedForm-F.And parts)

  pub gives_and : (f : TypedForm) (kind : ColType) (parts : List TypedExpr) → f ≡ form.And parts → (form_in names f).gives kind ≡ same_kind Bool kind
  gives_and f kind parts is = ap (λ (r : Formed). r.gives kind) (at_and f parts is)

  pub fits_and : (f : TypedForm) (parts : List TypedExpr) → f ≡ form.And parts → (form_in names f).fits ≡ (has_two parts && list_all (stands names (Like Bool)) parts)
  fits_and f parts is = ap (λ (r : Formed). r.fits) (at_and f parts is) ∙ joined_is (Like Bool) parts

  at_not : (f : TypedForm) (of : TypedExpr) → f ≡ form.Not of → form_in names f ≡ formed_of names (TypedForm-F.Not (node_in names of))
  at_not f of is = ap (form_in names) (is ∙ sym (form.rolls-Not of))
      ∙ fold-roll-TypedForm Formed Node Node Node (formed_of names) whole (λ f. f.part) (λ s. s.part) (TypedForm-F.Not of)

  pub gives_not : (f : TypedForm) (kind : ColType) (of : TypedExpr) → f ≡ form.Not of → (form_in names f).gives kind ≡ same_kind Bool kind
  gives_not f kind of is = ap (λ (r : Formed). r.gives kind) (at_not f of is)

  pub fits_not : (f : TypedForm) (of : TypedExpr) → f ≡ form.Not of → (form_in names f).fits ≡ stands names (Like Bool) of
  fits_not f of is = ap (λ (r : Formed). r.fits) (at_not f of is) ∙ taken_is (Like Bool) of

  at_is_null : (f : TypedForm) (of : TypedExpr) (tests : List Truth) → f ≡ form.IsNull of tests → form_in names f ≡ formed_of names (TypedForm-F.IsNull (node_in names of) tests)
  at_is_null f of tests is = ap (form_in names) (is ∙ sym (form.rolls-IsNull of tests))
      ∙ fold-roll-TypedForm Formed Node Node Node (formed_of names) whole (λ f. f.part) (λ s. s.part) (TypedForm-F.IsNull of tests)

  pub gives_is_null : (f : TypedForm) (kind : ColType) (of : TypedExpr) (tests : List Truth) → f ≡ form.IsNull of tests → (form_in names f).gives kind ≡ same_kind Bool kind
  gives_is_null f kind of tests is = ap (λ (r : Formed). r.gives kind) (at_is_null f of tests is)

  pub fits_is_null : (f : TypedForm) (of : TypedExpr) (tests : List Truth) → f ≡ form.IsNull of tests → (form_in names f).fits ≡ (has_one tests && stands names Any of)
  fits_is_null f of tests is = ap (λ (r : Formed). r.fits) (at_is_null f of tests is) ∙ ap (λ (b : Truth). has_one tests && b) (taken_is Any of)

  at_compare : (f : TypedForm) (how : Comparison) (left : TypedExpr) (right : TypedExpr) → f ≡ form.Compare how left right → form_in names f ≡ formed_of names (TypedForm-F.Compare how (node_in names left) (node_in names right))
  at_compare f how left right is = ap (form_in names) (is ∙ sym (form.rolls-Compare how left right))
      ∙ fold-roll-TypedForm Formed Node Node Node (formed_of names) whole (λ f. f.part) (λ s. s.part) (TypedForm-F.Compare how left right)

  pub gives_compare : (f : TypedForm) (kind : ColType) (how : Comparison) (left : TypedExpr) (right : TypedExpr) → f ≡ form.Compare how left right → (form_in names f).gives kind ≡ same_kind Bool kind
  gives_compare f kind how left right is = ap (λ (r : Formed). r.gives kind) (at_compare f how left right is)

  pub fits_compare : (f : TypedForm) (how : Comparison) (left : TypedExpr) (right : TypedExpr) → f ≡ form.Compare how left right → (form_in names f).fits ≡ (stands names Any left && stands names (Like left.kind) right)
  fits_compare f how left right is = ap (λ (r : Formed). r.fits) (at_compare f how left right is) ∙ compared_is left right

  at_member : (f : TypedForm) (of : TypedExpr) (negated : Truth) (entries : List TypedExpr) → f ≡ form.Member of negated entries → form_in names f ≡ formed_of names (TypedForm-F.Member (node_in names of) negated (map (node_in names) entries))
  at_member f of negated entries is = ap (form_in names) (is ∙ sym (form.rolls-Member of negated entries))
      ∙ fold-roll-TypedForm Formed Node Node Node (formed_of names) whole (λ f. f.part) (λ s. s.part) (TypedForm-F.Member of negated entries)

  pub gives_member : (f : TypedForm) (kind : ColType) (of : TypedExpr) (negated : Truth) (entries : List TypedExpr) → f ≡ form.Member of negated entries → (form_in names f).gives kind ≡ same_kind Bool kind
  gives_member f kind of negated entries is = ap (λ (r : Formed). r.gives kind) (at_member f of negated entries is)

  pub fits_member : (f : TypedForm) (of : TypedExpr) (negated : Truth) (entries : List TypedExpr) → f ≡ form.Member of negated entries → (form_in names f).fits ≡ (stands names Any of && (has_one entries && list_all (stands names (Like of.kind)) entries))
  fits_member f of negated entries is = ap (λ (r : Formed). r.fits) (at_member f of negated entries is) ∙ among_is of entries

  at_concat : (f : TypedForm) (parts : List TypedExpr) → f ≡ form.Concat parts → form_in names f ≡ formed_of names (TypedForm-F.Concat (map (node_in names) parts))
  at_concat f parts is = ap (form_in names) (is ∙ sym (form.rolls-Concat parts))
      ∙ fold-roll-TypedForm Formed Node Node Node (formed_of names) whole (λ f. f.part) (λ s. s.part) (TypedForm-F.Concat parts)

  pub gives_concat : (f : TypedForm) (kind : ColType) (parts : List TypedExpr) → f ≡ form.Concat parts → (form_in names f).gives kind ≡ same_kind Text kind
  gives_concat f kind parts is = ap (λ (r : Formed). r.gives kind) (at_concat f parts is)

  pub fits_concat : (f : TypedForm) (parts : List TypedExpr) → f ≡ form.Concat parts → (form_in names f).fits ≡ (has_two parts && list_all (stands names (Like Text)) parts)
  fits_concat f parts is = ap (λ (r : Formed). r.fits) (at_concat f parts is) ∙ joined_is (Like Text) parts

  at_sum : (f : TypedForm) (first : TypedExpr) (parts : List TypedSumPart) → f ≡ form.Sum first parts → form_in names f ≡ formed_of names (TypedForm-F.Sum (node_in names first) (map summand_in parts))
  at_sum f first parts is = ap (form_in names) (is ∙ sym (form.rolls-Sum first parts))
      ∙ fold-roll-TypedForm Formed Node Node Node (formed_of names) whole (λ f. f.part) (λ s. s.part) (TypedForm-F.Sum first parts)

  pub gives_sum : (f : TypedForm) (kind : ColType) (first : TypedExpr) (parts : List TypedSumPart) → f ≡ form.Sum first parts → (form_in names f).gives kind ≡ same_kind (chain_kind first.kind (map (λ s. s.part.kind) parts)) kind
  gives_sum f kind first parts is = ap (λ (r : Formed). r.gives kind) (at_sum f first parts is)
      ∙ (ap (λ (k : ColType). same_kind (chain_kind k (map (λ (n : Node). n.kind) (map summand_in parts))) kind) (node_kind first)
      ∙ ap (λ (ks : List ColType). same_kind (chain_kind first.kind ks) kind) (summand_kinds parts))

  pub fits_sum : (f : TypedForm) (first : TypedExpr) (parts : List TypedSumPart) → f ≡ form.Sum first parts → (form_in names f).fits ≡ (stands names Whole first && (has_one parts && list_all (λ s. stands names Whole s.part) parts))
  fits_sum f first parts is = ap (λ (r : Formed). r.fits) (at_sum f first parts is) ∙ sum_is first parts

  at_product : (f : TypedForm) (first : TypedExpr) (parts : List TypedProductPart) → f ≡ form.Product first parts → form_in names f ≡ formed_of names (TypedForm-F.Product (node_in names first) (map factor_in parts))
  at_product f first parts is = ap (form_in names) (is ∙ sym (form.rolls-Product first parts))
      ∙ fold-roll-TypedForm Formed Node Node Node (formed_of names) whole (λ f. f.part) (λ s. s.part) (TypedForm-F.Product first parts)

  pub gives_product : (f : TypedForm) (kind : ColType) (first : TypedExpr) (parts : List TypedProductPart) → f ≡ form.Product first parts → (form_in names f).gives kind ≡ same_kind (chain_kind first.kind (map (λ f. f.part.kind) parts)) kind
  gives_product f kind first parts is = ap (λ (r : Formed). r.gives kind) (at_product f first parts is)
      ∙ (ap (λ (k : ColType). same_kind (chain_kind k (map (λ (n : Node). n.kind) (map factor_in parts))) kind) (node_kind first)
      ∙ ap (λ (ks : List ColType). same_kind (chain_kind first.kind ks) kind) (factor_kinds parts))

  pub fits_product : (f : TypedForm) (first : TypedExpr) (parts : List TypedProductPart) → f ≡ form.Product first parts → (form_in names f).fits ≡ (stands names Whole first && (has_one parts && list_all (λ f. stands names Whole f.part) parts))
  fits_product f first parts is = ap (λ (r : Formed). r.fits) (at_product f first parts is) ∙ product_is first parts

  at_minus : (f : TypedForm) (of : TypedExpr) → f ≡ form.Minus of → form_in names f ≡ formed_of names (TypedForm-F.Minus (node_in names of))
  at_minus f of is = ap (form_in names) (is ∙ sym (form.rolls-Minus of))
      ∙ fold-roll-TypedForm Formed Node Node Node (formed_of names) whole (λ f. f.part) (λ s. s.part) (TypedForm-F.Minus of)

  pub gives_minus : (f : TypedForm) (kind : ColType) (of : TypedExpr) → f ≡ form.Minus of → (form_in names f).gives kind ≡ same_kind of.kind kind
  gives_minus f kind of is = ap (λ (r : Formed). r.gives kind) (at_minus f of is)
      ∙ ap (λ (k : ColType). same_kind k kind) (node_kind of)

  pub fits_minus : (f : TypedForm) (of : TypedExpr) → f ≡ form.Minus of → (form_in names f).fits ≡ stands names Whole of
  fits_minus f of is = ap (λ (r : Formed). r.fits) (at_minus f of is) ∙ taken_is Whole of

  at_literal : (f : TypedForm) (v : Value) → f ≡ form.Literal v → form_in names f ≡ formed_of names (TypedForm-F.Literal v)
  at_literal f v is = ap (form_in names) (is ∙ sym (form.rolls-Literal v))
      ∙ fold-roll-TypedForm Formed Node Node Node (formed_of names) whole (λ f. f.part) (λ s. s.part) (TypedForm-F.Literal v)

  pub gives_literal : (f : TypedForm) (kind : ColType) (v : Value) → f ≡ form.Literal v → (form_in names f).gives kind ≡ is_value kind v
  gives_literal f kind v is = ap (λ (r : Formed). r.gives kind) (at_literal f v is)

  pub fits_literal : (f : TypedForm) (v : Value) → f ≡ form.Literal v → (form_in names f).fits ≡ true
  fits_literal f v is = ap (λ (r : Formed). r.fits) (at_literal f v is)

  at_param : (f : TypedForm) (number : ℕ) → f ≡ form.Param number → form_in names f ≡ formed_of names (TypedForm-F.Param number)
  at_param f number is = ap (form_in names) (is ∙ sym (form.rolls-Param number))
      ∙ fold-roll-TypedForm Formed Node Node Node (formed_of names) whole (λ f. f.part) (λ s. s.part) (TypedForm-F.Param number)

  pub gives_param : (f : TypedForm) (kind : ColType) (number : ℕ) → f ≡ form.Param number → (form_in names f).gives kind ≡ is_parameter names.kinds number kind
  gives_param f kind number is = ap (λ (r : Formed). r.gives kind) (at_param f number is)

  pub fits_param : (f : TypedForm) (number : ℕ) → f ≡ form.Param number → (form_in names f).fits ≡ true
  fits_param f number is = ap (λ (r : Formed). r.fits) (at_param f number is)

  at_column : (f : TypedForm) (number : ℕ) → f ≡ form.Column number → form_in names f ≡ formed_of names (TypedForm-F.Column number)
  at_column f number is = ap (form_in names) (is ∙ sym (form.rolls-Column number))
      ∙ fold-roll-TypedForm Formed Node Node Node (formed_of names) whole (λ f. f.part) (λ s. s.part) (TypedForm-F.Column number)

  pub gives_column : (f : TypedForm) (kind : ColType) (number : ℕ) → f ≡ form.Column number → (form_in names f).gives kind ≡ is_column names.columns number kind
  gives_column f kind number is = ap (λ (r : Formed). r.gives kind) (at_column f number is)

  pub fits_column : (f : TypedForm) (number : ℕ) → f ≡ form.Column number → (form_in names f).fits ≡ true
  fits_column f number is = ap (λ (r : Formed). r.fits) (at_column f number is)

  at_current : (f : TypedForm) → f ≡ form.CurrentTimestamp → form_in names f ≡ formed_of names TypedForm-F.CurrentTimestamp
  at_current f is = ap (form_in names) (is ∙ sym (form.rolls-CurrentTimestamp))
      ∙ fold-roll-TypedForm Formed Node Node Node (formed_of names) whole (λ f. f.part) (λ s. s.part) TypedForm-F.CurrentTimestamp

  pub gives_current : (f : TypedForm) (kind : ColType) → f ≡ form.CurrentTimestamp → (form_in names f).gives kind ≡ same_kind Moment kind
  gives_current f kind is = ap (λ (r : Formed). r.gives kind) (at_current f is)

  pub fits_current : (f : TypedForm) → f ≡ form.CurrentTimestamp → (form_in names f).fits ≡ true
  fits_current f is = ap (λ (r : Formed). r.fits) (at_current f is)

  at_now : (f : TypedForm) → f ≡ form.Now → form_in names f ≡ formed_of names TypedForm-F.Now
  at_now f is = ap (form_in names) (is ∙ sym (form.rolls-Now))
      ∙ fold-roll-TypedForm Formed Node Node Node (formed_of names) whole (λ f. f.part) (λ s. s.part) TypedForm-F.Now

  pub gives_now : (f : TypedForm) (kind : ColType) → f ≡ form.Now → (form_in names f).gives kind ≡ same_kind Moment kind
  gives_now f kind is = ap (λ (r : Formed). r.gives kind) (at_now f is)

  pub fits_now : (f : TypedForm) → f ≡ form.Now → (form_in names f).fits ≡ true
  fits_now f is = ap (λ (r : Formed). r.fits) (at_now f is)

  at_transaction : (f : TypedForm) → f ≡ form.TransactionTimestamp → form_in names f ≡ formed_of names TypedForm-F.TransactionTimestamp
  at_transaction f is = ap (form_in names) (is ∙ sym (form.rolls-TransactionTimestamp))
      ∙ fold-roll-TypedForm Formed Node Node Node (formed_of names) whole (λ f. f.part) (λ s. s.part) TypedForm-F.TransactionTimestamp

  pub gives_transaction : (f : TypedForm) (kind : ColType) → f ≡ form.TransactionTimestamp → (form_in names f).gives kind ≡ same_kind Moment kind
  gives_transaction f kind is = ap (λ (r : Formed). r.gives kind) (at_transaction f is)

  pub fits_transaction : (f : TypedForm) → f ≡ form.TransactionTimestamp → (form_in names f).fits ≡ true
  fits_transaction f is = ap (λ (r : Formed). r.fits) (at_transaction f is)

-- what the forms give
pub ruleset given = (gives_or, gives_and, gives_not, gives_is_null, gives_compare, gives_member, gives_concat, gives_sum, gives_product, gives_minus, gives_literal, gives_param, gives_column, gives_current, gives_now, gives_transaction)

-- whether their parts may stand
pub ruleset fitting = (fits_or, fits_and, fits_not, fits_is_null, fits_compare, fits_member, fits_concat, fits_sum, fits_product, fits_minus, fits_literal, fits_param, fits_column, fits_current, fits_now, fits_transaction)
