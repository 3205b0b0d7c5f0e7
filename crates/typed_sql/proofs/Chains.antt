-- Steps of loops over the parts of an expression.
use Rattle.std.proofs.Common.{◌≡◌, ℕ, ◌+◌, ◌<◌, ◌≤◌, get_or, take, length, List, [], ◌∷◌, ◌++◌, refl, ap, sym, ◌∙◌, subst}
use Rattle.std.specs.Prelude.{Option, Some, None, Result, Ok, Err}
use Rattle.pg_values.specs.declared.col_type.ColType.{ColType}
use Rattle.sql_tree.specs.declared.expr.Expr.{Expr}
use Rattle.typed_sql.specs.declared.asks.Asks.{Asks}
use Rattle.typed_sql.specs.declared.fault.CheckFault.{CheckFault}
use Rattle.typed_sql.specs.declared.typed.TypedExpr.{TypedExpr}
use Rattle.typed_sql.specs.Places.{asks_number, sum_kind}
use Rattle.typed_sql.specs.Own.{Scope}
use Rattle.typed_sql.specs.Steps.{Known, Answer, Step, Made, Walk, reached, Each, Answers}
use Rattle.typed_sql.specs.Typing.{Place, Typed, Others, PartOf, behind_part}
use Rattle.typed_sql.proofs.Walking.{walk_next, walk_stops, walk_whole, reached_more, made_stops}

-- steps whatever the others gave
module _ {A B : Type 0} (step : A → Step B) (xs : List A) (i : ℕ) (known mid : Known) (ys : List B) where
  pub each_next : (x : A) (pushed : List B) (y : B) (new : Known) → i < length xs → x ≡ get_or xs i x
      → Each step (take i xs) known (Ok (ys, mid)) → step x mid (Ok (y, new)) → pushed ≡ ys ++ y ∷ []
      → Each step (take (i + 1) xs) known (Ok (pushed, new))
  each_next x pushed y new below is so_far gives pushed_is =
      subst (λ zs. Each step (take (i + 1) xs) known (Ok (zs, new))) (sym pushed_is)
      (walk_next {S = Unit {0}} (λ s x. step x) (λ s y. s) tt xs i x ys y known mid new below is so_far gives)

  pub each_stops : {C D : Type 0} (view : C → B) (shown : D → List B) (x : A) (m n : Known) (e : CheckFault) → i < length xs → x ≡ get_or xs i x
      → Each step (take i xs) known (Ok (ys, mid)) → Answers view (Err e) m (step x mid) → Answers shown (Err e) n (Each step xs known)
  each_stops view shown x m n e below is so_far fails =
      walk_stops {S = Unit {0}} (λ s x. step x) (λ s y. s) view shown tt xs i x ys known mid m n e below is so_far fails

  pub each_whole : length xs ≤ i → Each step (take i xs) known (Ok (ys, mid)) → Each step xs known (Ok (ys, mid))
  each_whole all so_far = walk_whole {S = Unit {0}} (λ s x. step x) (λ s y. s) tt xs i known (Ok (ys, mid)) all so_far

-- the parts of a chain behind its first operand
module _ {P Q : Type 0} (at : P → Place) (make : P → TypedExpr → Q) (kind_of : Q → ColType) where
  -- how far a walk along the parts is, and the type of what stands to the left of the next one
  abbrev pub IsSoFar : ColType → List P → ℕ → Known → List Q → Known → ColType → Type 0
  IsSoFar left parts i known qs mid kind =
      Walk (PartOf at make) (behind_part kind_of) left (take i parts) known (Ok (qs, mid))
      × (kind ≡ reached (behind_part kind_of) left qs)

  pub parts_next : (left : ColType) (parts : List P) (i : ℕ) (x : P) (qs pushed : List Q) (kind after : ColType) (asks : Asks) (e : TypedExpr) (known mid new : Known)
      → i < length parts → x ≡ get_or parts i x → IsSoFar left parts i known qs mid kind → asks ≡ asks_number (Some kind)
      → at x asks mid (Ok (e, new)) → pushed ≡ qs ++ make x e ∷ [] → after ≡ sum_kind kind (kind_of (make x e))
      → IsSoFar left parts (i + 1) known pushed new after
  parts_next left parts i x qs pushed kind after asks e known mid new below is so_far asks_is gives pushed_is after_is = (
    subst (λ zs. Walk (PartOf at make) (behind_part kind_of) left (take (i + 1) parts) known (Ok (zs, new))) (sym pushed_is)
        (walk_next (PartOf at make) (behind_part kind_of) left parts i x qs (make x e) known mid new below is so_far.0
        (Ok (e, new), subst (λ (q : Asks). at x q mid (Ok (e, new))) (asks_is ∙ ap (λ k. asks_number (Some k)) so_far.1) gives, refl)),
    after_is ∙ (ap (λ k. sum_kind k (kind_of (make x e))) so_far.1
        ∙ (sym (reached_more (PartOf at make) (behind_part kind_of) left qs (make x e))
        ∙ ap (reached (behind_part kind_of) left) (sym pushed_is))),
  )

  pub parts_stop : (left : ColType) (parts : List P) (i : ℕ) (x : P) (qs : List Q) (kind : ColType) (asks : Asks) (known mid m n : Known) (e : CheckFault)
      → i < length parts → x ≡ get_or parts i x → IsSoFar left parts i known qs mid kind → asks ≡ asks_number (Some kind)
      → Answers (λ (y : TypedExpr). y) (Err e) m (at x asks mid)
      → Answers (λ (y : ColType × List Q). y) (Err e) n (Others at make kind_of left parts known)
  parts_stop left parts i x qs kind asks known mid m n e below is so_far asks_is fails =
      made_stops (λ (zs : List Q). (reached (behind_part kind_of) left zs, zs)) (Walk (PartOf at make) (behind_part kind_of) left parts) known
      (λ (zs : List Q). zs) (λ (y : ColType × List Q). y) e m n
      (walk_stops (PartOf at make) (behind_part kind_of) (λ (q : Q). q) (λ (zs : List Q). zs) left parts i x qs known mid m m e below is so_far.0
      (made_stops (make x) (at x (asks_number (Some (reached (behind_part kind_of) left qs)))) mid (λ (y : TypedExpr). y) (λ (q : Q). q) e m m
      (subst (λ (q : Asks). Answers (λ (y : TypedExpr). y) (Err e) m (at x q mid)) (asks_is ∙ ap (λ k. asks_number (Some k)) so_far.1) fails)))

  pub parts_whole : (left : ColType) (parts : List P) (i : ℕ) (qs : List Q) (kind : ColType) (known mid : Known)
      → length parts ≤ i → IsSoFar left parts i known qs mid kind → Others at make kind_of left parts known (Ok ((kind, qs), mid))
  parts_whole left parts i qs kind known mid all so_far = (
    Ok (qs, mid),
    walk_whole (PartOf at make) (behind_part kind_of) left parts i known (Ok (qs, mid)) all so_far.0,
    ap (λ (k : ColType). Ok ((k, qs), mid)) so_far.1,
  )
