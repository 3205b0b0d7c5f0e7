-- A text is faulty in one line, and in none where it is a schema.
use Rattle.std.proofs.Common.{◌≡◌, ℕ, List, [], ◌∷◌, ◌++◌, inl, inr, sym, ap, subst, ◌∙◌, append_assoc}
use Rattle.std.proofs.lemmas.List.{append-nil, map-append}
use Rattle.sql_tokens.specs.declared.token.Placed.{Placed}
use Rattle.sql_tokens.specs.declared.token.Token.{Token}
use Rattle.sql_tokens.proofs.Loop.{tokens_once}
use Rattle.schema.specs.declared.catalogue.TableDef.{TableDef}
use Rattle.schema.specs.Grammar.{IsSchema}
use Rattle.schema.specs.Reading.{tokens_of, IsSchemaSoFar, Begins, IsBadLine, line_of, as_text, Says, IsFaulty}

-- two things in a list, behind these fronts: they are one, or one stands before the other
data Places (f g : List Placed) (p q : Placed) : Type 0 where
  same : p ≡ q → Places f g p q
  before : (more : List Placed) → g ≡ f ++ p ∷ more → Places f g p q
  behind : (more : List Placed) → f ≡ g ++ q ∷ more → Places f g p q

first : (x y : Placed) (xs ys : List Placed) → x ∷ xs ≡ y ∷ ys → x ≡ y
first x y xs ys e = cc

others : (x y : Placed) (xs ys : List Placed) → x ∷ xs ≡ y ∷ ys → xs ≡ ys
others x y xs ys e = cc

further : (x y p q : Placed) (f g : List Placed) → x ≡ y → Places f g p q → Places (x ∷ f) (y ∷ g) p q
further x y p q f g e (same h) = same h
further x y p q f g e (before more h) = before more (ap (λ (z : Placed). z ∷ g) (sym e) ∙ ap (λ (zs : List Placed). x ∷ zs) h)
further x y p q f g e (behind more h) = behind more (ap (λ (z : Placed). z ∷ f) e ∙ ap (λ (zs : List Placed). y ∷ zs) h)

places : (f g r s : List Placed) (p q : Placed) → f ++ p ∷ r ≡ g ++ q ∷ s → Places f g p q
places [] [] r s p q e = same (first p q r s e)
places [] (y ∷ g) r s p q e = before g (ap (λ (z : Placed). z ∷ g) (sym (first p y r (g ++ q ∷ s) e)))
places (x ∷ f) [] r s p q e = behind f (ap (λ (z : Placed). z ∷ f) (first x q (f ++ p ∷ r) s e))
places (x ∷ f) (y ∷ g) r s p q e = further x y p q f g (first x y (f ++ p ∷ r) (g ++ q ∷ s) e) (places f g r s p q (others x y (f ++ p ∷ r) (g ++ q ∷ s) e))

begins_front : (ts us : List Token) → Begins (ts ++ us) → Begins ts
begins_front ts us b = (us ++ b.0, subst (λ (x : List Token). IsSchemaSoFar x) (append_assoc ts us b.0) b.1)

-- a front of what begins a schema begins one
begins_up_to : (all f more : List Placed) (p : Placed) → all ≡ f ++ p ∷ more → Begins (tokens_of all) → Begins (tokens_of f ++ p.token ∷ [])
begins_up_to all f more p e b =
    let parts : tokens_of all ≡ (tokens_of f ++ p.token ∷ []) ++ tokens_of more =
    ap tokens_of e ∙ (map-append (λ (p : Placed). p.token) f (p ∷ more) ∙ sym (append_assoc (tokens_of f) (p.token ∷ []) (tokens_of more))) in
    begins_front (tokens_of f ++ p.token ∷ []) (tokens_of more) (subst (λ (x : List Token). Begins x) parts b)

one_of : (text : List ℕ) (tokens : List Placed) (a b : ℕ) → IsBadLine text tokens a → IsBadLine text tokens b → a ≡ b
one_of text tokens a b (inl x) (inl y) = by (places x.0 y.0 x.1 y.1 x.2 y.2 (sym x.3 ∙ y.3)) where
  by : Places x.0 y.0 x.2 y.2 → a ≡ b
  by (same e) = x.4 ∙ (ap (λ (p : Placed). line_of text p.place) e ∙ sym y.4)
  by (before more e) = absurd (x.6 (begins_up_to y.0 x.0 more x.2 e y.5))
  by (behind more e) = absurd (y.6 (begins_up_to x.0 y.0 more y.2 e x.5))
one_of text tokens a b (inl x) (inr y) = absurd (x.6 (begins_up_to tokens x.0 x.1 x.2 x.3 y.1))
one_of text tokens a b (inr x) (inl y) = absurd (y.6 (begins_up_to tokens y.0 y.1 y.2 y.3 x.1))
one_of text tokens a b (inr x) (inr y) = x.0 ∙ sym y.0

whole_begins : (ts : List Token) (tables : List TableDef) → IsSchema ts tables → Begins ts
whole_begins ts tables s = ([], inl (tables, subst (λ (x : List Token). IsSchema x tables) (sym (append-nil ts)) s))

none_of : (text : List ℕ) (tokens : List Placed) (line : ℕ) (tables : List TableDef) → IsBadLine text tokens line → IsSchema (tokens_of tokens) tables → ⊥
none_of text tokens line tables (inl x) s = x.6 (begins_up_to tokens x.0 x.1 x.2 x.3 (whole_begins (tokens_of tokens) tables s))
none_of text tokens line tables (inr x) s = x.2 tables s

pub one_line : (text : List ℕ) (a b : ℕ) → IsFaulty text a → IsFaulty text b → a ≡ b
one_line text a b x y =
    one_of (as_text text) x.0 a b x.2 (subst (λ (ts : List Placed). IsBadLine (as_text text) ts b) (tokens_once (as_text text) y.0 x.0 y.1 x.1) y.2)

pub no_schema : (text : List ℕ) (line : ℕ) (tables : List TableDef) → IsFaulty text line → Says text tables → ⊥
no_schema text line tables x s =
    none_of (as_text text) x.0 line tables x.2 (subst (λ (ts : List Placed). IsSchema (tokens_of ts) tables) (tokens_once (as_text text) s.0 x.0 s.1 x.1) s.2)
