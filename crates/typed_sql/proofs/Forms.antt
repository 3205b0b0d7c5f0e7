-- What an expression is at its place, by its form.
use Rattle.std.proofs.Common.{◌≡◌, List, [], ◌∷◌, map, true, false, refl, ap, sym, ◌∙◌, subst}
use Rattle.std.proofs.Math.Path.{fun_ext}
use Rattle.std.specs.Prelude.{Bool as Truth, Option, Some, None, Result, Ok, Err, codes}
use Rattle.pg_values.specs.declared.col_type.ColType.{ColType}
use Rattle.sql_tree.specs.declared.expr.SumPart.{SumPart, rec-SumPart, out-SumPart, roll-out-SumPart, rec-roll-SumPart}
use Rattle.sql_tree.specs.declared.expr.ProductPart.{ProductPart, rec-ProductPart, out-ProductPart, roll-out-ProductPart, rec-roll-ProductPart}
use Rattle.sql_tree.specs.declared.expr.Expr.{Expr, roll-Expr, out-Expr, roll-out-Expr, map-Expr}
use Rattle.sql_tree.specs.declared.expr.Expr.TheOpen.{Expr-F}
use Rattle.sql_tree.specs.declared.expr.Expr.TheFolds.{rec-roll-Expr}
use Rattle.typed_sql.specs.declared.asks.Asks.{Asks}
use Rattle.typed_sql.specs.declared.fault.CheckFault.{CheckFault}
use Rattle.typed_sql.specs.declared.fault.CheckFault.TheVariants.{Refused, NoMemory}
use Rattle.typed_sql.specs.declared.typed.TypedExpr.{TypedExpr}
use Rattle.typed_sql.specs.declared.typed.TypedForm.{TypedForm}
use Rattle.typed_sql.specs.declared.typed.TypedSumPart.{TypedSumPart}
use Rattle.typed_sql.specs.declared.typed.TypedProductPart.{TypedProductPart}
use Rattle.typed_sql.specs.declared.typed.TypedForm.TheVariants as form
use Rattle.typed_sql.specs.Places.{asks_bool, asks_text, asks_beside, asks_number, asks_entry, takes}
use Rattle.typed_sql.specs.Own.{Scope, own, own_kind, first_kind}
use Rattle.typed_sql.specs.Steps.{Known, Fault, fault, Answer, Step, Then, Made, Walk, reached, Each, Told, Answers}
use Rattle.typed_sql.specs.Typing.{Place, Typed, Layer, Form, Fits, fitting, Under, parts_of, at_layer, at_factor, at_summand, truth, typed, Compared, Among, Chain, EntriesOf, AmongBeside, ChainBeside, Parts, Others, PartOf, behind_part, Negative, own_of_first, summand_of, factor_of}
use Rattle.typed_sql.specs.Meaning.{under, FormOf}
use Rattle.typed_sql.proofs.Walking.{then_answers, then_stops}
use Rattle.pg_values.specs.declared.col_type.ColType.TheVariants as kind

-- a walk along what a list is made of
walk_map : {S A B C : Type 0} (v : A → C) (step : S → C → Step B) (next : S → B → S) (s : S) (xs : List A)
    → Walk (λ s x. step s (v x)) next s xs ≡ Walk step next s (map v xs)
walk_map v step next s [] = refl
walk_map v step next s (x ∷ xs) =
    ap (Then (step s (v x))) (fun_ext (λ y. ap (Made (λ ys. y ∷ ys)) (walk_map v step next (next s y) xs)))

each_map : {A B C : Type 0} (v : A → C) (step : C → Step B) (xs : List A) → Each (λ x. step (v x)) xs ≡ Each step (map v xs)
each_map v step xs = walk_map {S = Unit {0}} v (λ s x. step x) (λ s y. s) tt xs

map_map : {A B C : Type 0} (f : C → B) (v : A → C) (xs : List A) → map (λ x. f (v x)) xs ≡ map f (map v xs)
map_map f v [] = refl
map_map f v (x ∷ xs) = ap (λ ys. f (v x) ∷ ys) (map_map f v xs)

first_map : {A C : Type 0} (f : C → Option ColType) (v : A → C) (xs : List A) → own_of_first (λ x. f (v x)) xs ≡ own_of_first f (map v xs)
first_map f v [] = refl
first_map f v (x ∷ xs) = refl

entries_map : {A C : Type 0} (v : A → C) (at : C → Place) (negated : Truth) (first : Option ColType) (xs : List A)
    → EntriesOf (λ x. at (v x)) negated first xs ≡ EntriesOf at negated first (map v xs)
entries_map v at negated first xs =
    fun_ext (λ a. ap (Made (λ bs. truth (form.Member a negated bs))) (each_map v (λ entry. at entry (asks_entry first a.kind)) xs))

parts_map : {A C Q : Type 0} (v : A → C) (at : C → Place) (make : C → TypedExpr → Q) (kind_of : Q → ColType) (form : TypedExpr → List Q → TypedForm) (xs : List A)
    → Parts (λ x. at (v x)) (λ x. make (v x)) kind_of form xs ≡ Parts at make kind_of form (map v xs)
parts_map {Q = Q} v at make kind_of form xs =
    fun_ext (λ a. ap (λ (walk : Step (List Q)). Made (λ (x : ColType × List Q). typed x.0 (form a x.1)) (Made (λ (qs : List Q). (reached (behind_part kind_of) a.kind qs, qs)) walk))
    (walk_map v (PartOf at make) (behind_part kind_of) a.kind xs))

negative_map : {A C : Type 0} (v : A → C) (at : C → Place) (least : Truth) (of : A) → Negative least (λ x. at (v x)) of ≡ Negative least at (v of)
negative_map v at true of = refl
negative_map v at false of = refl

module _ {X P S : Type 0} (scope : Scope) (v : X → Expr) (w : P → ProductPart) (z : S → SumPart) (k : Expr → Place) (h : ProductPart → Place) (g : SumPart → Place) where
  form_map : (x : Expr-F X P S) (leaf : ColType)
      → Form scope (parts_of v w z (λ p. k (v p)) (λ p. h (w p)) (λ p. g (z p))) x leaf
      ≡ Form scope (parts_of (λ y. y) (λ y. y) (λ y. y) k h g) (map-Expr X P S Expr ProductPart SumPart v w z x) leaf
  form_map (Expr-F.Or parts) leaf = ap (Made (λ es. truth (form.Or es))) (each_map v (λ part. k part asks_bool) parts)
  form_map (Expr-F.And parts) leaf = ap (Made (λ es. truth (form.And es))) (each_map v (λ part. k part asks_bool) parts)
  form_map (Expr-F.Not part) leaf = refl
  form_map (Expr-F.IsNull part tests) leaf = refl
  form_map (Expr-F.Compare how left right) leaf = refl
  form_map (Expr-F.Member part negated entries) leaf = fun_ext (λ known.
      ap (λ kinds. AmongBeside (λ p. k (v p)) negated part entries (first_kind (own_kind scope known (v part) ∷ kinds)) known)
      (map_map (own_kind scope known) v entries)
      ∙ ap (λ rest. Then (k (v part) (asks_beside (first_kind (own_kind scope known (v part) ∷ map (own_kind scope known) (map v entries))))) rest known)
      (entries_map v k negated (first_kind (own_kind scope known (v part) ∷ map (own_kind scope known) (map v entries))) entries))
  form_map (Expr-F.Concat parts) leaf = ap (Made (λ es. typed kind.Text (form.Concat es))) (each_map v (λ part. k part asks_text) parts)
  form_map (Expr-F.Sum first summands) leaf = fun_ext (λ known.
      ap (λ beside. ChainBeside (λ p. k (v p)) (λ p. g (z p)) (λ s. summand_of (z s)) (λ (q : TypedSumPart). q.part.kind) (λ e qs. form.Sum e qs) first summands beside known)
      (first_map (λ (s : SumPart). own_kind scope known s.part) z summands)
      ∙ ap (λ rest. Then (k (v first) (asks_number (own_of_first (λ (s : SumPart). own_kind scope known s.part) (map z summands)))) rest known)
      (parts_map z g summand_of (λ (q : TypedSumPart). q.part.kind) (λ e qs. form.Sum e qs) summands))
  form_map (Expr-F.Product first factors) leaf = fun_ext (λ known.
      ap (λ beside. ChainBeside (λ p. k (v p)) (λ p. h (w p)) (λ s. factor_of (w s)) (λ (q : TypedProductPart). q.part.kind) (λ e qs. form.Product e qs) first factors beside known)
      (first_map (λ (s : ProductPart). own_kind scope known s.part) w factors)
      ∙ ap (λ rest. Then (k (v first) (asks_number (own_of_first (λ (s : ProductPart). own_kind scope known s.part) (map w factors)))) rest known)
      (parts_map w h factor_of (λ (q : TypedProductPart). q.part.kind) (λ e qs. form.Product e qs) factors))
  form_map (Expr-F.Minus part) leaf = negative_map v k (own scope [] (v part)).least_int4 part
  form_map (Expr-F.Int n) leaf = refl
  form_map (Expr-F.Str text) leaf = refl
  form_map (Expr-F.Bool given) leaf = refl
  form_map Expr-F.Null leaf = refl
  form_map (Expr-F.Param n) leaf = refl
  form_map (Expr-F.Column qualifier name) leaf = refl
  form_map Expr-F.CurrentTimestamp leaf = refl
  form_map Expr-F.Now leaf = refl
  form_map Expr-F.TransactionTimestamp leaf = refl
  form_map (Expr-F.Moment text) leaf = refl

  layer_map : (x : Expr-F X P S)
      → at_layer scope X P S v w z (λ p. k (v p)) (λ p. h (w p)) (λ p. g (z p)) x
      ≡ at_layer scope Expr ProductPart SumPart (λ y. y) (λ y. y) (λ y. y) k h g (map-Expr X P S Expr ProductPart SumPart v w z x)
  layer_map x = fun_ext (λ asks. ap (λ formed. Then formed (Fits asks)) (form_map x asks.leaf))

module _ (scope : Scope) where
  abbrev factor_place : ProductPart → Place
  factor_place = rec-ProductPart Place Place Place (at_layer scope) at_factor at_summand

  abbrev summand_place : SumPart → Place
  summand_place = rec-SumPart Place Place Place (at_layer scope) at_factor at_summand

  factor_is : (f : ProductPart) → factor_place f ≡ Typed scope f.part
  factor_is f = ap factor_place (sym (roll-out-ProductPart f))
      ∙ rec-roll-ProductPart Place Place Place (at_layer scope) at_factor at_summand (λ X P S v w z k h g x. refl) (out-ProductPart f)

  summand_is : (s : SumPart) → summand_place s ≡ Typed scope s.part
  summand_is s = ap summand_place (sym (roll-out-SumPart s))
      ∙ rec-roll-SumPart Place Place Place (at_layer scope) at_factor at_summand (λ X P S v w z k h g x. refl) (out-SumPart s)

  typed_roll : (d : Expr-F Expr ProductPart SumPart)
      → Typed scope (roll-Expr d) ≡ Layer scope (parts_of (λ e. e) (λ f. f) (λ s. s) (Typed scope) factor_place summand_place) d
  typed_roll d = rec-roll-Expr Place Place Place (at_layer scope) at_factor at_summand
      (λ X P S v w z k h g x. layer_map scope v w z k h g x) d

  -- an expression is what its layer is
  pub typed_is : (e : Expr) → Typed scope e ≡ Layer scope (under scope) (out-Expr e)
  typed_is e = ap (Typed scope) (sym (roll-out-Expr e))
      ∙ (typed_roll (out-Expr e)
      ∙ (ap (λ (at : ProductPart → Place). Layer scope (parts_of (λ e. e) (λ f. f) (λ s. s) (Typed scope) at summand_place) (out-Expr e)) (fun_ext factor_is)
      ∙ ap (λ (at : SumPart → Place). Layer scope (parts_of (λ e. e) (λ f. f) (λ s. s) (Typed scope) (λ f. Typed scope f.part) at) (out-Expr e)) (fun_ext summand_is)))

  -- its type may stand at the place
  pub typed_fits : (e : Expr) (asks : Asks) (known mid : Known) (made : TypedExpr) → FormOf scope e asks.leaf known (Ok (made, mid))
      → takes asks.takes made.kind ≡ true → Typed scope e asks known (Ok (made, mid))
  typed_fits e asks known mid made formed fits =
      subst (λ (at : Place). at asks known (Ok (made, mid))) (sym (typed_is e))
      (Ok (made, mid), formed, subst (λ b. Told (fitting b made) mid (Ok (made, mid))) (sym fits) refl)

  -- or may not
  pub typed_misfits : (e : Expr) (asks : Asks) (known mid : Known) (made : TypedExpr) → FormOf scope e asks.leaf known (Ok (made, mid))
      → takes asks.takes made.kind ≡ false → Typed scope e asks known (Err (fault (codes "42804") []))
  typed_misfits e asks known mid made formed misfits =
      subst (λ (at : Place). at asks known (Err (fault (codes "42804") []))) (sym (typed_is e))
      (Ok (made, mid), formed, subst (λ b. Told (fitting b made) mid (Err (fault (codes "42804") []))) (sym misfits) refl)

  -- or its form has a fault
  pub typed_stops : (e : Expr) (asks : Asks) (known mid new : Known) (fault : CheckFault)
      → Answers (λ (made : TypedExpr). made) (Err fault) mid (FormOf scope e asks.leaf known)
      → Answers (λ (made : TypedExpr). made) (Err fault) new (Typed scope e asks known)
  typed_stops e asks known mid new (Refused code name) fails =
      subst (λ (at : Place). at asks known (Err (record { code = code.bytes; name = name }))) (sym (typed_is e))
      (Err (record { code = code.bytes; name = name }), fails, refl)
  typed_stops e asks known mid new NoMemory fails = tt

-- what is answered where the form is this
pub formed_answers : (formed : Answer TypedExpr → Type 0) (step : Place) (next : TypedExpr → Step TypedExpr) (asks wanted : Asks) (a : TypedExpr) (result : Result TypedExpr CheckFault) (known mid new : Known)
    → formed ≡ Then (step wanted) next known → asks ≡ wanted → step asks known (Ok (a, mid))
    → Answers (λ (e : TypedExpr). e) result new (next a mid) → Answers (λ (e : TypedExpr). e) result new formed
formed_answers formed step next asks wanted a result known mid new is asks_is gives goes =
    subst (λ (f : Answer TypedExpr → Type 0). Answers (λ (e : TypedExpr). e) result new f) (sym is)
    (then_answers (step wanted) next known (λ (e : TypedExpr). e) a mid new result (subst (λ (q : Asks). step q known (Ok (a, mid))) asks_is gives) goes)

pub formed_stops : (formed : Answer TypedExpr → Type 0) (step : Place) (next : TypedExpr → Step TypedExpr) (asks wanted : Asks) (e : CheckFault) (known mid new : Known)
    → formed ≡ Then (step wanted) next known → asks ≡ wanted → Answers (λ (e : TypedExpr). e) (Err e) mid (step asks known)
    → Answers (λ (e : TypedExpr). e) (Err e) new formed
formed_stops formed step next asks wanted e known mid new is asks_is fails =
    subst (λ (f : Answer TypedExpr → Type 0). Answers (λ (e : TypedExpr). e) (Err e) new f) (sym is)
    (then_stops (step wanted) next known (λ (e : TypedExpr). e) (λ (e : TypedExpr). e) e mid new
    (subst (λ (q : Asks). Answers (λ (e : TypedExpr). e) (Err e) mid (step q known)) asks_is fails))
