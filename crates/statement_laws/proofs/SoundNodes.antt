-- Each node of what an expression is at its place has the type that the rules give it.
use Rattle.std.proofs.Common.{◌≡◌, ◌∙◌, ℕ, ◌≤◌, ℤ, List, [], ◌∷◌, length, map, arith, refl, ap, sym, subst, inl, inr}
use Rattle.std.specs.Prelude.{◌⊎◌, ◌&&◌, Bool as Truth, true, false, Option, Some, None, Ok, Err, codes, pos, neg_ℤ}
use Rattle.std.specs.List.{AllByRecursion, list_all}
use Rattle.pg_values.specs.declared.col_type.ColType.{ColType}
use Rattle.pg_values.specs.declared.col_type.ColType.TheVariants as kind
use Rattle.pg_values.specs.declared.value.Value.{Value}
use Rattle.pg_values.specs.declared.value.Value.TheVariants as value
use Rattle.pg_values.specs.Answers.{ReadsText, RefusesText}
use Rattle.schema.specs.declared.catalogue.ColumnDef.{ColumnDef}
use Rattle.sql_tree.specs.declared.expr.Comparison.{Comparison}
use Rattle.sql_tree.specs.declared.expr.Expr.{Expr, roll-Expr, map-Expr, out-roll-Expr}
use Rattle.sql_tree.specs.declared.expr.Expr.TheOpen.{Expr-F, ProductPart-F, SumPart-F}
use Rattle.sql_tree.specs.declared.expr.Expr.TheFolds.{ind-Expr}
use Rattle.sql_tree.specs.declared.expr.SumPart.{SumPart}
use Rattle.sql_tree.specs.declared.expr.ProductPart.{ProductPart}
use Rattle.sql_tree.specs.Trees.{IsTree, IsLayer, IsString}
use Rattle.typed_sql.specs.declared.asks.Asks.{Asks}
use Rattle.typed_sql.specs.declared.asks.Takes.{Takes}
use Rattle.typed_sql.specs.declared.asks.Takes.TheVariants.{Any, Whole, Like}
use Rattle.typed_sql.specs.declared.typed.TypedExpr.{TypedExpr}
use Rattle.typed_sql.specs.declared.typed.TypedForm.TheVariants as form
use Rattle.typed_sql.specs.declared.typed.TypedSumPart.{TypedSumPart}
use Rattle.typed_sql.specs.declared.typed.TypedProductPart.{TypedProductPart}
use Rattle.typed_sql.specs.Places.{same_kind, is_whole, sum_kind, number_kind, or_text, takes as takes_kind, asks_bool, asks_text, asks_nothing, asks_number, asks_beside, asks_like, asks_entry}
use Rattle.typed_sql.specs.Own.{Scope, own, own_kind, joined_kind, first_kind, column_meant}
use Rattle.typed_sql.specs.Steps.{Known, fault, Answer, Walk, reached, Each, Told, known_kind}
use Rattle.typed_sql.specs.Typing.{Place, Typed, Layer, Form, Fits, fitting, Compared, ComparedWith, AmongBeside, EntriesOf, ChainBeside, Parts, Others, PartOf, behind_part, Negative, Parameter, parameter_of, String, TextForm, number_of, column_expr, literal, typed, truth, moment, own_of_first, summand_of, factor_of}
use Rattle.typed_sql.specs.Meaning.{under}
use Rattle.statement_laws.proofs.SoundTrees.{tree_layer}
use Rattle.typed_sql.proofs.Forms.{typed_is}
use Rattle.checked_sql.specs.Sound.{Names, chain_kind, form_in, has_one, has_two, is_column, is_parameter, is_sound, is_value, stands}
use Rattle.checked_sql.specs.OfCatalogue.{around}
use Rattle.checked_sql.proofs.Forms.{fits_and, fits_column, fits_compare, fits_concat, fits_current, fits_is_null, fits_literal, fits_member, fits_minus, fits_not, fits_now, fits_or, fits_param, fits_product, fits_sum, fits_transaction, gives_and, gives_column, gives_compare, gives_concat, gives_current, gives_is_null, gives_literal, gives_member, gives_minus, gives_not, gives_now, gives_or, gives_param, gives_product, gives_sum, gives_transaction, sound_by_form}
use Rattle.checked_sql.proofs.Kept.{and_true, both_true}
use Rattle.statement_laws.proofs.KnownTypes.{stays, grows, told_now, parameter_there, same_refl}
use Rattle.statement_laws.proofs.Keeping.{Meant, Holds, Keeps, All, along, gives, fails, followed, made, walk_long, each_long, told}
use Rattle.statement_laws.proofs.SoundLeaves.{columns_in, column_is, no_zero, plain, value_read}

-- ---- made of sound parts

module _ (names : Names) where
  sound_if : (e : TypedExpr) → (form_in names e.form).gives e.kind ≡ true → (form_in names e.form).fits ≡ true → is_sound names e ≡ true
  sound_if e gives fits = sound_by_form names e ∙ both_true ((form_in names e.form).gives e.kind) (form_in names e.form).fits gives fits

  pub all_true : {A : Type 0} (test : A → Truth) (xs : List A) → All (λ x. test x ≡ true) xs → list_all test xs ≡ true
  all_true test [] all = refl
  all_true test (x ∷ xs) all = both_true (test x) (list_all test xs) all.0 (all_true test xs all.1)

  one_true : {A : Type 0} (xs : List A) → 1 ≤ length xs → has_one xs ≡ true
  one_true [] some = absurd (omega arith)
  one_true (x ∷ xs) some = refl

  two_true : {A : Type 0} (xs : List A) → 2 ≤ length xs → has_two xs ≡ true
  two_true [] two = absurd (omega arith)
  two_true (x ∷ []) two = absurd (omega arith)
  two_true (x ∷ y ∷ xs) two = refl

  joined_true : (t : Takes) (es : List TypedExpr) → 2 ≤ length es → All (λ e. stands names t e ≡ true) es → (has_two es && list_all (stands names t) es) ≡ true
  joined_true t es two all = both_true (has_two es) (list_all (stands names t) es) (two_true es two) (all_true (stands names t) es all)

  further_true : {A : Type 0} (test : A → Truth) (xs : List A) → 1 ≤ length xs → All (λ x. test x ≡ true) xs → (has_one xs && list_all test xs) ≡ true
  further_true test xs some all = both_true (has_one xs) (list_all test xs) (one_true xs some) (all_true test xs all)

  or_sound : (es : List TypedExpr) → 2 ≤ length es → All (λ e. stands names (Like kind.Bool) e ≡ true) es → is_sound names (truth (form.Or es)) ≡ true
  or_sound es two all =
      sound_if (truth (form.Or es)) (gives_or names (form.Or es) kind.Bool es refl) (fits_or names (form.Or es) es refl ∙ joined_true (Like kind.Bool) es two all)

  and_sound : (es : List TypedExpr) → 2 ≤ length es → All (λ e. stands names (Like kind.Bool) e ≡ true) es → is_sound names (truth (form.And es)) ≡ true
  and_sound es two all =
      sound_if (truth (form.And es)) (gives_and names (form.And es) kind.Bool es refl) (fits_and names (form.And es) es refl ∙ joined_true (Like kind.Bool) es two all)

  not_sound : (e : TypedExpr) → stands names (Like kind.Bool) e ≡ true → is_sound names (truth (form.Not e)) ≡ true
  not_sound e is = sound_if (truth (form.Not e)) (gives_not names (form.Not e) kind.Bool e refl) (fits_not names (form.Not e) e refl ∙ is)

  null_sound : (e : TypedExpr) (tests : List Truth) → 1 ≤ length tests → stands names Any e ≡ true → is_sound names (truth (form.IsNull e tests)) ≡ true
  null_sound e tests some is =
      sound_if (truth (form.IsNull e tests)) (gives_is_null names (form.IsNull e tests) kind.Bool e tests refl)
      (fits_is_null names (form.IsNull e tests) e tests refl ∙ both_true (has_one tests) (stands names Any e) (one_true tests some) is)

  compare_sound : (how : Comparison) (a b : TypedExpr) → stands names Any a ≡ true → stands names (Like a.kind) b ≡ true → is_sound names (truth (form.Compare how a b)) ≡ true
  compare_sound how a b first second =
      sound_if (truth (form.Compare how a b)) (gives_compare names (form.Compare how a b) kind.Bool how a b refl)
      (fits_compare names (form.Compare how a b) how a b refl ∙ both_true (stands names Any a) (stands names (Like a.kind) b) first second)

  member_sound : (a : TypedExpr) (negated : Truth) (es : List TypedExpr) → stands names Any a ≡ true → 1 ≤ length es → All (λ e. stands names (Like a.kind) e ≡ true) es
      → is_sound names (truth (form.Member a negated es)) ≡ true
  member_sound a negated es first some others =
      sound_if (truth (form.Member a negated es)) (gives_member names (form.Member a negated es) kind.Bool a negated es refl)
      (fits_member names (form.Member a negated es) a negated es refl ∙ both_true (stands names Any a) (has_one es && list_all (stands names (Like a.kind)) es) first (further_true (stands names (Like a.kind)) es some others))

  concat_sound : (es : List TypedExpr) → 2 ≤ length es → All (λ e. stands names (Like kind.Text) e ≡ true) es → is_sound names (typed kind.Text (form.Concat es)) ≡ true
  concat_sound es two all = sound_if (typed kind.Text (form.Concat es)) (gives_concat names (form.Concat es) kind.Text es refl)
      (fits_concat names (form.Concat es) es refl ∙ joined_true (Like kind.Text) es two all)

  -- the type of a chain is that of its parts from the left
  reached_chain : {Q : Type 0} (kind_of : Q → ColType) (qs : List Q) (kind : ColType) → chain_kind kind (map kind_of qs) ≡ reached (behind_part kind_of) kind qs
  reached_chain kind_of [] kind = refl
  reached_chain kind_of (q ∷ qs) kind = reached_chain kind_of qs (sum_kind kind (kind_of q))

  sum_sound : (a : TypedExpr) (qs : List TypedSumPart) → stands names Whole a ≡ true → 1 ≤ length qs → All (λ q. stands names Whole q.part ≡ true) qs
      → is_sound names (typed (reached (behind_part (λ q. q.part.kind)) a.kind qs) (form.Sum a qs)) ≡ true
  sum_sound a qs first some others =
      let of = reached (behind_part (λ (q : TypedSumPart). q.part.kind)) a.kind qs in
      sound_if (typed of (form.Sum a qs))
      (gives_sum names (form.Sum a qs) of a qs refl ∙ (ap (λ (k : ColType). same_kind k of) (reached_chain (λ q. q.part.kind) qs a.kind) ∙ same_refl of))
      (fits_sum names (form.Sum a qs) a qs refl ∙ both_true (stands names Whole a) (has_one qs && list_all (λ q. stands names Whole q.part) qs) first (further_true (λ (q : TypedSumPart). stands names Whole q.part) qs some others))

  product_sound : (a : TypedExpr) (qs : List TypedProductPart) → stands names Whole a ≡ true → 1 ≤ length qs → All (λ q. stands names Whole q.part ≡ true) qs
      → is_sound names (typed (reached (behind_part (λ q. q.part.kind)) a.kind qs) (form.Product a qs)) ≡ true
  product_sound a qs first some others =
      let of = reached (behind_part (λ (q : TypedProductPart). q.part.kind)) a.kind qs in
      sound_if (typed of (form.Product a qs))
      (gives_product names (form.Product a qs) of a qs refl ∙ (ap (λ (k : ColType). same_kind k of) (reached_chain (λ q. q.part.kind) qs a.kind) ∙ same_refl of))
      (fits_product names (form.Product a qs) a qs refl ∙ both_true (stands names Whole a) (has_one qs && list_all (λ q. stands names Whole q.part) qs) first (further_true (λ (q : TypedProductPart). stands names Whole q.part) qs some others))

  negated_kind : (k : ColType) → is_whole k ≡ true → same_kind k (joined_kind (Some k) None) ≡ true
  negated_kind kind.Int4 is = refl
  negated_kind kind.Int8 is = refl
  negated_kind k is = absurd (let f : false ≡ true = is in cc)

  minus_sound : (e : TypedExpr) → stands names Whole e ≡ true → is_sound names (typed (joined_kind (Some e.kind) None) (form.Minus e)) ≡ true
  minus_sound e is =
      let of = joined_kind (Some e.kind) None in
      sound_if (typed of (form.Minus e)) (gives_minus names (form.Minus e) of e refl ∙ negated_kind e.kind (and_true (is_whole e.kind) (is_sound names e) is).0) (fits_minus names (form.Minus e) e refl ∙ is)

  pub literal_sound : (k : ColType) (v : Value) → is_value k v ≡ true → is_sound names (literal k v) ≡ true
  literal_sound k v is = sound_if (literal k v) (gives_literal names (form.Literal v) k v refl ∙ is) (fits_literal names (form.Literal v) v refl)

  number_sound : (k : ColType) (n : ℤ) → is_sound names (number_of k n) ≡ true
  number_sound kind.Int4 n = literal_sound kind.Int4 (value.Int4 n) refl
  number_sound kind.Int8 n = literal_sound kind.Int8 (value.Int8 n) refl
  number_sound k n = literal_sound kind.Int8 (value.Int8 n) refl

  param_sound : (k : ColType) (n : ℕ) → is_parameter names.kinds n k ≡ true → is_sound names (typed k (form.Param n)) ≡ true
  param_sound k n is = sound_if (typed k (form.Param n)) (gives_param names (form.Param n) k n refl ∙ is) (fits_param names (form.Param n) n refl)

  pub column_sound : (x : ℕ × ColumnDef) → is_column names.columns x.0 (x.1).kind ≡ true → is_sound names (column_expr x) ≡ true
  column_sound x is = sound_if (column_expr x) (gives_column names (form.Column x.0) (x.1).kind x.0 refl ∙ is) (fits_column names (form.Column x.0) x.0 refl)

  current_sound : is_sound names (moment form.CurrentTimestamp) ≡ true
  current_sound = sound_if (moment form.CurrentTimestamp) (gives_current names form.CurrentTimestamp kind.Moment refl) (fits_current names form.CurrentTimestamp refl)

  now_sound : is_sound names (moment form.Now) ≡ true
  now_sound = sound_if (moment form.Now) (gives_now names form.Now kind.Moment refl) (fits_now names form.Now refl)

  transaction_sound : is_sound names (moment form.TransactionTimestamp) ≡ true
  transaction_sound = sound_if (moment form.TransactionTimestamp) (gives_transaction names form.TransactionTimestamp kind.Moment refl) (fits_transaction names form.TransactionTimestamp refl)

-- ---- at their places

module _ (scope : Scope) where
  abbrev pub names_at : Known → Names
  names_at final = around (columns_in scope) (map or_text final)

  abbrev pub Sound : Meant TypedExpr
  Sound final e = is_sound (names_at final) e ≡ true

  abbrev pub Stood : Takes → Meant TypedExpr
  Stood takes final e = stands (names_at final) takes e ≡ true

  -- an expression of the grammar, whatever its place asks
  abbrev pub Good : Expr → Type 0
  Good e = IsTree e → (asks : Asks) → Keeps (Stood asks.takes) (Typed scope e asks)

  -- ---- leaves

  text_at : (k : ColType) (text : List ℕ) (known : Known) (answer : Answer TypedExpr)
      → ((read : Value) × ReadsText k text read × (answer ≡ Ok (literal k read, known))) ⊎ ((code : List ℕ) × RefusesText k text code × (answer ≡ Err (fault code [])))
      → Holds Sound known answer
  text_at k text known answer (inl x) =
      subst (Holds Sound known) (sym x.2) (stays known, λ final more. literal_sound (names_at final) k x.0 (value_read k text x.0 x.1))
  text_at k text known answer (inr x) = subst (Holds Sound known) (sym x.2) tt

  text_keeps : (k : ColType) (text : List ℕ) → Keeps Sound (TextForm k text)
  text_keeps k text known answer is = text_at k text known answer is

  string_keeps : (leaf : ColType) (text : List ℕ) → IsString text → Keeps Sound (String leaf text)
  string_keeps kind.Text text string = gives Sound (literal kind.Text (value.Text text)) (λ final. literal_sound (names_at final) kind.Text (value.Text text) (no_zero text (plain text string)))
  string_keeps kind.Bool text string = text_keeps kind.Bool text
  string_keeps kind.Int4 text string = text_keeps kind.Int4 text
  string_keeps kind.Int8 text string = text_keeps kind.Int8 text
  string_keeps kind.Moment text string = text_keeps kind.Moment text

  -- a sound parameter
  abbrev pub IsParameter : ℕ → Meant TypedExpr
  IsParameter n final e = Sound final e × (e.form ≡ form.Param n)

  parameter_at : (leaf : ColType) (n : ℕ) → 1 ≤ n → (known : Known) (answer : Answer TypedExpr) (kind : Option ColType) → known_kind n known ≡ kind
      → parameter_of leaf n kind known answer → Holds (IsParameter n) known answer
  parameter_at leaf n least known answer (Some k) is given =
      subst (Holds (IsParameter n) known) (sym given) (stays known, λ final more. (param_sound (names_at final) k n (parameter_there n k final (more n k is)), refl))
  parameter_at leaf n least known answer None is given =
      subst (Holds (IsParameter n) known) (sym given)
      (grows n leaf known is, λ final more. (param_sound (names_at final) leaf n (parameter_there n leaf final (more n leaf (told_now n leaf known least))), refl))

  pub parameter_keeps : (may : Truth) (leaf : ColType) (n : ℕ) → 1 ≤ n → Keeps (IsParameter n) (Parameter may leaf n)
  parameter_keeps true leaf n least known answer given = parameter_at leaf n least known answer (known_kind n known) refl given
  parameter_keeps false leaf n least known answer given = fails (IsParameter n) (fault (codes "42P02") []) known answer given

  -- ---- at the end of an operand its type may stand

  fits_by : (b : Truth) (takes : Takes) (e : TypedExpr) → takes_kind takes e.kind ≡ b → Keeps (λ final t. Sound final e → Stood takes final t) (Told (fitting b e))
  fits_by true takes e is =
      gives (λ final t. Sound final e → Stood takes final t) e (λ final sound. both_true (takes_kind takes e.kind) (is_sound (names_at final) e) is sound)
  fits_by false takes e is = fails (λ final t. Sound final e → Stood takes final t) (fault (codes "42804") [])

  fits_keeps : (asks : Asks) (e : TypedExpr) → Keeps (λ final t. Sound final e → Stood asks.takes final t) (Fits asks e)
  fits_keeps asks e = fits_by (takes_kind asks.takes e.kind) asks.takes e refl

  rolled : (d : Expr-F Expr ProductPart SumPart) → Typed scope (roll-Expr d) ≡ Layer scope (under scope) d
  rolled d = typed_is scope (roll-Expr d) ∙ ap (λ (x : Expr-F Expr ProductPart SumPart). Layer scope (under scope) x) (out-roll-Expr d)

  layer_keeps : (d : Expr-F Expr ProductPart SumPart) → ((leaf : ColType) → Keeps Sound (Form scope (under scope) d leaf)) → (asks : Asks) → Keeps (Stood asks.takes) (Typed scope (roll-Expr d) asks)
  layer_keeps d form asks =
      subst (λ (at : Place). Keeps (Stood asks.takes) (at asks)) (sym (rolled d))
      (followed Sound (Stood asks.takes) (Form scope (under scope) d asks.leaf) (Fits asks) (form asks.leaf) (fits_keeps asks))

  any_fits : (Is : Meant TypedExpr) (b : Truth) (e : TypedExpr) → Keeps (λ final t. Is final e → Is final t) (Told (fitting b e))
  any_fits Is true e = gives (λ final t. Is final e → Is final t) e (λ final is. is)
  any_fits Is false e = fails (λ final t. Is final e → Is final t) (fault (codes "42804") [])

  -- what holds of an expression by its form holds at its place
  pub any_layer : (Is : Meant TypedExpr) (d : Expr-F Expr ProductPart SumPart) → ((leaf : ColType) → Keeps Is (Form scope (under scope) d leaf)) → (asks : Asks) → Keeps Is (Typed scope (roll-Expr d) asks)
  any_layer Is d form asks =
      subst (λ (at : Place). Keeps Is (at asks)) (sym (rolled d))
      (followed Is Is (Form scope (under scope) d asks.leaf) (Fits asks) (form asks.leaf) (λ e. any_fits Is (takes_kind asks.takes e.kind) e))

  -- ---- chains

  module _ {P Q : Type 0} (part_of : Q → TypedExpr) (at : P → Place) (make : P → TypedExpr → Q) (same : (p : P) (e : TypedExpr) → part_of (make p e) ≡ e) where
    -- the type and the parts of a chain behind a first operand
    abbrev IsChain : List P → ColType → Meant (ColType × List Q)
    IsChain ps kind final x = (x.0 ≡ reached (behind_part (λ q. (part_of q).kind)) kind x.1) × All (λ q. Stood Whole final (part_of q)) x.1 × (length x.1 ≡ length ps)

    part_keeps : (p : P) → ((asks : Asks) → Keeps (Stood asks.takes) (at p asks)) → (kind : ColType) → Keeps (λ final q. Stood Whole final (part_of q)) (PartOf at make kind p)
    part_keeps p keeps kind =
        made (Stood Whole) (λ final q. Stood Whole final (part_of q)) (make p) (at p (asks_number (Some kind))) (keeps (asks_number (Some kind)))
        (λ e final is. ap (stands (names_at final) Whole) (same p e) ∙ is)

    parts_keep : (ps : List P) → All (λ p. (asks : Asks) → Keeps (Stood asks.takes) (at p asks)) ps
        → All (λ p. (kind : ColType) → Keeps (λ final q. Stood Whole final (part_of q)) (PartOf at make kind p)) ps
    parts_keep [] all = tt
    parts_keep (p ∷ ps) all = (part_keeps p all.0, parts_keep ps all.1)

    others_keep : (ps : List P) → All (λ p. (asks : Asks) → Keeps (Stood asks.takes) (at p asks)) ps → (kind : ColType) → Keeps (IsChain ps kind) (Others at make (λ q. (part_of q).kind) kind ps)
    others_keep ps all kind =
        made (λ final qs. All (λ q. Stood Whole final (part_of q)) qs × (length qs ≡ length ps)) (IsChain ps kind) (λ qs. (reached (behind_part (λ q. (part_of q).kind)) kind qs, qs))
        (Walk (PartOf at make) (behind_part (λ q. (part_of q).kind)) kind ps)
        (walk_long (λ final q. Stood Whole final (part_of q)) (PartOf at make) (behind_part (λ q. (part_of q).kind)) ps (parts_keep ps all) kind)
        (λ qs final all. (refl, all.0, all.1))

  -- ---- forms

  negative_keeps : (least : Truth) (e : Expr) → ((asks : Asks) → Keeps (Stood asks.takes) (Typed scope e asks)) → Keeps Sound (Negative least (Typed scope) e)
  negative_keeps true e keeps = gives Sound (literal kind.Int4 (value.Int4 (neg_ℤ (pos 2147483648)))) (λ final. literal_sound (names_at final) kind.Int4 (value.Int4 (neg_ℤ (pos 2147483648))) refl)
  negative_keeps false e keeps =
      made (Stood Whole) Sound (λ x. typed (joined_kind (Some x.kind) None) (form.Minus x)) (Typed scope e (asks_number None)) (keeps (asks_number None)) (λ x final is. minus_sound (names_at final) x is)

  compared_keeps : (how : Comparison) (a b : Expr) → ((asks : Asks) → Keeps (Stood asks.takes) (Typed scope a asks)) → ((asks : Asks) → Keeps (Stood asks.takes) (Typed scope b asks))
      → Keeps Sound (Compared (λ known x. own_kind scope known x) (Typed scope) how a b)
  compared_keeps how a b left right known =
      followed (Stood Any) Sound (Typed scope a (asks_beside (own_kind scope known b))) (ComparedWith (Typed scope) how b) (left (asks_beside (own_kind scope known b)))
      (λ x. made (Stood (Like x.kind)) (λ final t. Stood Any final x → Sound final t) (λ y. truth (form.Compare how x y)) (Typed scope b (asks_like x.kind)) (right (asks_like x.kind))
      (λ y final second first. compare_sound (names_at final) how x y first second)) known

  among_keeps : (negated : Truth) (a : Expr) (es : List Expr) → ((asks : Asks) → Keeps (Stood asks.takes) (Typed scope a asks)) → 1 ≤ length es → ((asks : Asks) → All (λ e. Keeps (Stood asks.takes) (Typed scope e asks)) es)
      → (first : Option ColType) → Keeps Sound (AmongBeside (Typed scope) negated a es first)
  among_keeps negated a es left some others first =
      followed (Stood Any) Sound (Typed scope a (asks_beside first)) (EntriesOf (Typed scope) negated first es) (left (asks_beside first))
      (λ x. made (λ final ts. All (Stood (Like x.kind) final) ts × (length ts ≡ length es)) (λ final t. Stood Any final x → Sound final t) (λ ts. truth (form.Member x negated ts)) (Each (λ entry. Typed scope entry (asks_entry first x.kind)) es)
      (each_long (Stood (Like x.kind)) (λ entry. Typed scope entry (asks_entry first x.kind)) es (others (asks_entry first x.kind)))
      (λ ts final all is. member_sound (names_at final) x negated ts is (subst (λ (n : ℕ). 1 ≤ n) (sym all.1) some) all.0))

  sum_keeps : (a : Expr) (ss : List SumPart) → ((asks : Asks) → Keeps (Stood asks.takes) (Typed scope a asks)) → 1 ≤ length ss → All (λ s. (asks : Asks) → Keeps (Stood asks.takes) (Typed scope s.part asks)) ss
      → (beside : Option ColType) → Keeps Sound (ChainBeside (Typed scope) (λ s. Typed scope s.part) summand_of (λ q. q.part.kind) (λ e qs. form.Sum e qs) a ss beside)
  sum_keeps a ss left some others beside =
      followed (Stood Whole) Sound (Typed scope a (asks_number beside)) (Parts (λ s. Typed scope s.part) summand_of (λ q. q.part.kind) (λ e qs. form.Sum e qs) ss) (left (asks_number beside))
      (λ x. made (IsChain (λ (q : TypedSumPart). q.part) (λ (s : SumPart). Typed scope s.part) summand_of (λ s e. refl) ss x.kind) (λ final t. Stood Whole final x → Sound final t)
      (λ (y : ColType × List TypedSumPart). typed y.0 (form.Sum x y.1)) (Others (λ s. Typed scope s.part) summand_of (λ q. q.part.kind) x.kind ss)
      (others_keep (λ (q : TypedSumPart). q.part) (λ (s : SumPart). Typed scope s.part) summand_of (λ s e. refl) ss others x.kind)
      (λ y final chain first. ap (λ (k : ColType). is_sound (names_at final) (typed k (form.Sum x y.1))) chain.0 ∙ sum_sound (names_at final) x y.1 first (subst (λ (n : ℕ). 1 ≤ n) (sym chain.2) some) chain.1))

  product_keeps : (a : Expr) (ps : List ProductPart) → ((asks : Asks) → Keeps (Stood asks.takes) (Typed scope a asks)) → 1 ≤ length ps → All (λ p. (asks : Asks) → Keeps (Stood asks.takes) (Typed scope p.part asks)) ps
      → (beside : Option ColType) → Keeps Sound (ChainBeside (Typed scope) (λ p. Typed scope p.part) factor_of (λ q. q.part.kind) (λ e qs. form.Product e qs) a ps beside)
  product_keeps a ps left some others beside =
      followed (Stood Whole) Sound (Typed scope a (asks_number beside)) (Parts (λ p. Typed scope p.part) factor_of (λ q. q.part.kind) (λ e qs. form.Product e qs) ps) (left (asks_number beside))
      (λ x. made (IsChain (λ (q : TypedProductPart). q.part) (λ (p : ProductPart). Typed scope p.part) factor_of (λ p e. refl) ps x.kind) (λ final t. Stood Whole final x → Sound final t)
      (λ (y : ColType × List TypedProductPart). typed y.0 (form.Product x y.1)) (Others (λ p. Typed scope p.part) factor_of (λ q. q.part.kind) x.kind ps)
      (others_keep (λ (q : TypedProductPart). q.part) (λ (p : ProductPart). Typed scope p.part) factor_of (λ p e. refl) ps others x.kind)
      (λ y final chain first. ap (λ (k : ColType). is_sound (names_at final) (typed k (form.Product x y.1))) chain.0 ∙ product_sound (names_at final) x y.1 first (subst (λ (n : ℕ). 1 ≤ n) (sym chain.2) some) chain.1))

  module _ {X P S : Type 0} (e_of : X → Expr) (p_of : P → ProductPart) (s_of : S → SumPart) (ex : (x : X) → Good (e_of x)) (py : (p : P) → Good (p_of p).part) (sz : (s : S) → Good (s_of s).part) where
    goods : (xs : List X) → AllByRecursion IsTree (map e_of xs) → (asks : Asks) → All (λ e. Keeps (Stood asks.takes) (Typed scope e asks)) (map e_of xs)
    goods [] trees asks = tt
    goods (x ∷ xs) trees asks = (ex x trees.0 asks, goods xs trees.1 asks)

    good_summands : (ss : List S) → AllByRecursion (λ s. IsTree s.part) (map s_of ss) → All (λ s. (asks : Asks) → Keeps (Stood asks.takes) (Typed scope s.part asks)) (map s_of ss)
    good_summands [] trees = tt
    good_summands (s ∷ ss) trees = (sz s trees.0, good_summands ss trees.1)

    good_factors : (ps : List P) → AllByRecursion (λ p. IsTree p.part) (map p_of ps) → All (λ p. (asks : Asks) → Keeps (Stood asks.takes) (Typed scope p.part asks)) (map p_of ps)
    good_factors [] trees = tt
    good_factors (p ∷ ps) trees = (py p trees.0, good_factors ps trees.1)

    form_keeps : (y : Expr-F X P S) → IsLayer IsTree (λ p. IsTree p.part) (λ s. IsTree s.part) (map-Expr X P S Expr ProductPart SumPart e_of p_of s_of y)
        → (leaf : ColType) → Keeps Sound (Form scope (under scope) (map-Expr X P S Expr ProductPart SumPart e_of p_of s_of y) leaf)
    form_keeps (Expr-F.Or parts) tree leaf =
        made (λ final ts. All (Stood (Like kind.Bool) final) ts × (length ts ≡ length (map e_of parts))) Sound (λ ts. truth (form.Or ts)) (Each (λ part. Typed scope part asks_bool) (map e_of parts))
        (each_long (Stood (Like kind.Bool)) (λ part. Typed scope part asks_bool) (map e_of parts) (goods parts tree.1 asks_bool))
        (λ ts final all. or_sound (names_at final) ts (subst (λ (n : ℕ). 2 ≤ n) (sym all.1) tree.0) all.0)
    form_keeps (Expr-F.And parts) tree leaf =
        made (λ final ts. All (Stood (Like kind.Bool) final) ts × (length ts ≡ length (map e_of parts))) Sound (λ ts. truth (form.And ts)) (Each (λ part. Typed scope part asks_bool) (map e_of parts))
        (each_long (Stood (Like kind.Bool)) (λ part. Typed scope part asks_bool) (map e_of parts) (goods parts tree.1 asks_bool))
        (λ ts final all. and_sound (names_at final) ts (subst (λ (n : ℕ). 2 ≤ n) (sym all.1) tree.0) all.0)
    form_keeps (Expr-F.Not x) tree leaf =
        made (Stood (Like kind.Bool)) Sound (λ t. truth (form.Not t)) (Typed scope (e_of x) asks_bool) (ex x tree asks_bool) (λ t final is. not_sound (names_at final) t is)
    form_keeps (Expr-F.IsNull x tests) tree leaf =
        made (Stood Any) Sound (λ t. truth (form.IsNull t tests)) (Typed scope (e_of x) asks_nothing) (ex x tree.0 asks_nothing) (λ t final is. null_sound (names_at final) t tests tree.1 is)
    form_keeps (Expr-F.Compare how x y) tree leaf = compared_keeps how (e_of x) (e_of y) (ex x tree.0) (ex y tree.1)
    form_keeps (Expr-F.Member x negated parts) tree leaf = λ known.
        among_keeps negated (e_of x) (map e_of parts) (ex x tree.0) tree.1.0 (goods parts tree.1.1)
        (first_kind (own_kind scope known (e_of x) ∷ map (own_kind scope known) (map e_of parts))) known
    form_keeps (Expr-F.Concat parts) tree leaf =
        made (λ final ts. All (Stood (Like kind.Text) final) ts × (length ts ≡ length (map e_of parts))) Sound (λ ts. typed kind.Text (form.Concat ts)) (Each (λ part. Typed scope part asks_text) (map e_of parts))
        (each_long (Stood (Like kind.Text)) (λ part. Typed scope part asks_text) (map e_of parts) (goods parts tree.1 asks_text))
        (λ ts final all. concat_sound (names_at final) ts (subst (λ (n : ℕ). 2 ≤ n) (sym all.1) tree.0) all.0)
    form_keeps (Expr-F.Sum x parts) tree leaf = λ known.
        sum_keeps (e_of x) (map s_of parts) (ex x tree.0) tree.1.0 (good_summands parts tree.1.1) (own_of_first (λ s. own_kind scope known s.part) (map s_of parts)) known
    form_keeps (Expr-F.Product x parts) tree leaf = λ known.
        product_keeps (e_of x) (map p_of parts) (ex x tree.0) tree.1.0 (good_factors parts tree.1.1) (own_of_first (λ p. own_kind scope known p.part) (map p_of parts)) known
    form_keeps (Expr-F.Minus x) tree leaf = negative_keeps (own scope [] (e_of x)).least_int4 (e_of x) (ex x tree)
    form_keeps (Expr-F.Int n) tree leaf = gives Sound (number_of (number_kind n) n) (λ final. number_sound (names_at final) (number_kind n) n)
    form_keeps (Expr-F.Str text) tree leaf = string_keeps leaf text tree
    form_keeps (Expr-F.Bool given) tree leaf = gives Sound (literal kind.Bool (value.Bool given)) (λ final. literal_sound (names_at final) kind.Bool (value.Bool given) refl)
    form_keeps Expr-F.Null tree leaf = gives Sound (literal leaf value.Null) (λ final. literal_sound (names_at final) leaf value.Null refl)
    form_keeps (Expr-F.Param n) tree leaf = along (IsParameter n) Sound (Parameter scope.parameters leaf n) (parameter_keeps scope.parameters leaf n tree) (λ e final is. is.0)
    form_keeps (Expr-F.Column qualifier name) tree leaf =
        made (λ final x. is_column (columns_in scope) x.0 (x.1).kind ≡ true) Sound column_expr (Told (column_meant scope qualifier name))
        (told (λ final x. is_column (columns_in scope) x.0 (x.1).kind ≡ true) (column_meant scope qualifier name) (λ x is final. column_is scope qualifier name x is))
        (λ x final is. column_sound (names_at final) x is)
    form_keeps Expr-F.CurrentTimestamp tree leaf = gives Sound (moment form.CurrentTimestamp) (λ final. current_sound (names_at final))
    form_keeps Expr-F.Now tree leaf = gives Sound (moment form.Now) (λ final. now_sound (names_at final))
    form_keeps Expr-F.TransactionTimestamp tree leaf = gives Sound (moment form.TransactionTimestamp) (λ final. transaction_sound (names_at final))
    form_keeps (Expr-F.Moment text) tree leaf = text_keeps kind.Moment text

  from_layer : {X P S : Type 0} (y : Expr-F X P S) (e_of : X → Expr) (p_of : P → ProductPart) (s_of : S → SumPart)
      → ((x : X) → Good (e_of x)) → ((p : P) → Good (p_of p).part) → ((s : S) → Good (s_of s).part)
      → Good (roll-Expr (map-Expr X P S Expr ProductPart SumPart e_of p_of s_of y))
  from_layer {X} {P} {S} y e_of p_of s_of ex py sz tree =
      let d = map-Expr X P S Expr ProductPart SumPart e_of p_of s_of y in
      layer_keeps d (form_keeps e_of p_of s_of ex py sz y (tree_layer d tree))

  -- every expression of the grammar
  pub good : (e : Expr) → Good e
  good = ind-Expr Good (λ p. Good p.part) (λ s. Good s.part)
      (λ x y is. subst (λ (z : Expr-F Expr ProductPart SumPart). Good (roll-Expr z)) is (from_layer y (λ e. e.0) (λ p. p.0) (λ s. s.0) (λ e. e.1) (λ p. p.1) (λ s. s.1)))
      (λ x y is. subst (λ (z : ProductPart-F Expr ProductPart SumPart). Good z.part) is y.part.1)
      (λ x y is. subst (λ (z : SumPart-F Expr ProductPart SumPart). Good z.part) is y.part.1)
