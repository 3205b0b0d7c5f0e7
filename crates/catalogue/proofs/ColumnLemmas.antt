-- The columns of a result of items, as far as a loop has come.
use Rattle.std.proofs.Common.{◌≡◌, ℕ, ◌+◌, ◌<◌, ◌≤◌, ◌⊎◌, inl, inr, get_or, drop, length, List, [], ◌∷◌, ◌++◌, refl, ap, sym, ◌∙◌, append_assoc, length-append}
use Rattle.std.proofs.lemmas.List.{at_drop_more, at_drop_all, append-nil}
use Rattle.std.proofs.lemmas.Option.{none-some, slice_get_within, slice_get_cases, get_or_from_slice_get}
use Rattle.std.specs.Prelude.{Option, Some, None, slice_get}
use Rattle.sql_tree.specs.declared.statement.SelectItem.{SelectItem}
use Rattle.typed_sql.specs.declared.typed.TypedExpr.{TypedExpr}
use Rattle.catalogue.specs.declared.checked.ColumnDesc.{ColumnDesc}
use Rattle.catalogue.specs.Naming.{item_name}
use Rattle.catalogue.specs.Statements.{column_desc, item_columns}

pub one_longer : {A : Type 0} (pushed made : List A) (x : A) (i : ℕ) → pushed ≡ made ++ x ∷ [] → length made ≡ i → length pushed ≡ i + 1
one_longer pushed made x i is so_far = ap length is ∙ (length-append made (x ∷ []) ∙ ap (λ (n : ℕ). n + 1) so_far)

past_by : {A : Type 0} (xs : List A) (i : ℕ) → None ≡ slice_get xs i
    → ((x : A) × (i < length xs) × (slice_get xs i ≡ Some x) × (get_or xs i x ≡ x)) ⊎ ((length xs ≤ i) × (slice_get xs i ≡ None)) → length xs ≤ i
past_by xs i none (inl (x, below, some, at)) = absurd (none-some x (none ∙ some))
past_by xs i none (inr (all, is)) = all

none_left : (items : List SelectItem) → item_columns items [] ≡ []
none_left [] = refl
none_left (x ∷ xs) = refl

module _ (items : List SelectItem) (es : List TypedExpr) (i : ℕ) (made : List ColumnDesc)
    (so_far : item_columns items es ≡ made ++ item_columns (drop i items) (drop i es)) where
  -- an item and its expression more
  pub columns_next : (x : SelectItem) (e : TypedExpr) (pushed : List ColumnDesc) → i < length items → x ≡ get_or items i x → Some e ≡ slice_get es i
      → pushed ≡ made ++ column_desc (item_name x.name x.expr) e.kind ∷ []
      → item_columns items es ≡ pushed ++ item_columns (drop (i + 1) items) (drop (i + 1) es)
  columns_next x e pushed below is found pushed_is =
      let rest : List ColumnDesc = item_columns (drop (i + 1) items) (drop (i + 1) es) in
      so_far ∙ (ap (λ (zs : List ColumnDesc). made ++ zs) (at_drop_more (λ xs. item_columns xs (drop i es)) items i x below
      ∙ (at_drop_more (λ fs. item_columns (get_or items i x ∷ drop (i + 1) items) fs) es i e (slice_get_within es i e (sym found))
      ∙ (ap (λ (y : SelectItem). item_columns (y ∷ drop (i + 1) items) (get_or es i e ∷ drop (i + 1) es)) (sym is)
      ∙ ap (λ (f : TypedExpr). item_columns (x ∷ drop (i + 1) items) (f ∷ drop (i + 1) es)) (get_or_from_slice_get es i e e (sym found)))))
      ∙ (sym (append_assoc made (column_desc (item_name x.name x.expr) e.kind ∷ []) rest) ∙ ap (λ (zs : List ColumnDesc). zs ++ rest) (sym pushed_is)))

  -- an item without its expression
  pub columns_out : None ≡ slice_get es i → made ≡ item_columns items es
  columns_out none =
      sym (so_far ∙ (ap (λ (zs : List ColumnDesc). made ++ zs)
      (at_drop_all (λ fs. item_columns (drop i items) fs) es i (past_by es i none (slice_get_cases es i).1) ∙ none_left (drop i items)) ∙ append-nil made))

  -- no item is left
  pub columns_whole : length items ≤ i → made ≡ item_columns items es
  columns_whole all =
      sym (so_far ∙ (ap (λ (zs : List ColumnDesc). made ++ zs) (at_drop_all (λ xs. item_columns xs (drop i es)) items i all) ∙ append-nil made))
