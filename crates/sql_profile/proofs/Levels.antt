-- An operand stands at each level of the grammar, and marks with operands behind it make a chain.
use Rattle.std.proofs.Common.{◌≡◌, ◌∙◌, List, [], ◌∷◌, ◌++◌, map, refl, sym, ap, subst, append_assoc}
use Rattle.std.specs.List.{flat_map}
use Rattle.std.proofs.lemmas.List.{map-append}
use Rattle.sql_tokens.specs.Grammar.{Form, TailOf, ChainedOf}
use Rattle.sql_tokens.specs.declared.token.Token.{Token}
use Rattle.sql_tree.specs.declared.expr.Expr.{Expr}
use Rattle.sql_expr.specs.declared.opening.Opening.{Opening}
use Rattle.sql_expr.specs.Grammar.{PrimOf, UnOf, prim, ProductOf, SumOf, CatOf, MemOf, cat, CmpOf, mem, TestOf, NotOf, test, AndOf, OrOf}
use Rattle.sql_print.specs.Spelling.{Lexeme}
use Rattle.sql_profile.specs.Lexemes.{token_of}
use Rattle.sql_profile.proofs.Each.{Each}

-- the tokens of lexemes, and then others
abbrev pub onto : List Lexeme → List Token → List Token
onto xs rest = map token_of xs ++ rest

pub onto_append : (xs ys : List Lexeme) (rest : List Token) → onto (xs ++ ys) rest ≡ onto xs (onto ys rest)
onto_append xs ys rest = ap (λ (ts : List Token). ts ++ rest) (map-append token_of xs ys) ∙ append_assoc (map token_of xs) (map token_of ys) rest

-- a mark and an operand for each item
pub tail_of : {S A B : Type 0} (mark : S → Token) (make : S → A → B) (operand : Form Token A) (between : B → Lexeme) (text : B → List Lexeme) (m : B → S) (x : B → A)
    → ((b : B) → token_of (between b) ≡ mark (m b)) → ((b : B) → b ≡ make (m b) (x b)) → (bs : List B)
    → Each (λ b. (rest : List Token) → operand (onto (text b) rest) (x b) rest) bs
    → (rest : List Token) → TailOf mark make operand (onto (flat_map (λ b. between b ∷ text b) bs) rest) bs rest
tail_of mark make operand between text m x marked made [] each rest = refl
tail_of mark make operand between text m x marked made (b ∷ bs) each rest =
    let more = flat_map (λ b. between b ∷ text b) bs in (
      m b,
      onto (text b) (onto more rest),
      x b,
      onto more rest,
      ap (λ (ts : List Token). token_of (between b) ∷ ts) (onto_append (text b) more rest)
          ∙ ap (λ (t : Token). t ∷ onto (text b) (onto more rest)) (marked b),
      each.0 (onto more rest),
      made b,
      tail_of mark make operand between text m x marked made bs each.1 rest,
    )

-- the first, and others behind it
pub chain_of : {S A B C D : Type 0} (mark : S → Token) (make : S → A → B) (operand : Form Token A) (whole : C → List B → D) (first : Form Token C)
    (front more : List Lexeme) (c : C) (bs : List B) → ((rest : List Token) → first (onto front rest) c rest)
    → ((rest : List Token) → TailOf mark make operand (onto more rest) bs rest)
    → (rest : List Token) → ChainedOf mark make operand whole first (onto (front ++ more) rest) (whole c bs) rest
chain_of mark make operand whole first front more c bs one others rest =
    (c, onto more rest, bs, subst (λ (ts : List Token). first ts c (onto more rest)) (sym (onto_append front more rest)) (one (onto more rest)), others rest, refl)

module _ (behind : Opening → Form Token Expr) where
  pub un_product : (ts : List Token) (e : Expr) (rest : List Token) → UnOf behind ts e rest → ProductOf behind ts e rest
  unfolding ProductOf
  un_product ts e rest d = (e, rest, [], d, refl, refl)

  pub product_sum : (ts : List Token) (e : Expr) (rest : List Token) → ProductOf behind ts e rest → SumOf behind ts e rest
  unfolding SumOf
  product_sum ts e rest d = (e, rest, [], d, refl, refl)

  pub sum_cat : (ts : List Token) (e : Expr) (rest : List Token) → SumOf behind ts e rest → CatOf behind ts e rest
  unfolding CatOf
  sum_cat ts e rest d = (e, rest, [], d, refl, refl)

  pub cmp_test : (ts : List Token) (e : Expr) (rest : List Token) → CmpOf behind ts e rest → TestOf behind ts e rest
  unfolding TestOf
  cmp_test ts e rest d = (e, rest, [], d, refl, refl)

  pub not_and : (ts : List Token) (e : Expr) (rest : List Token) → NotOf behind ts e rest → AndOf behind ts e rest
  unfolding AndOf
  not_and ts e rest d = (e, rest, [], d, refl, refl)

  pub and_or : (ts : List Token) (e : Expr) (rest : List Token) → AndOf behind ts e rest → OrOf behind ts e rest
  unfolding OrOf
  and_or ts e rest d = (e, rest, [], d, refl, refl)

  -- up from an operand
  pub prim_product : (ts : List Token) (e : Expr) (rest : List Token) → PrimOf behind ts e rest → ProductOf behind ts e rest
  prim_product ts e rest d = un_product ts e rest (prim d)

  pub prim_sum : (ts : List Token) (e : Expr) (rest : List Token) → PrimOf behind ts e rest → SumOf behind ts e rest
  prim_sum ts e rest d = product_sum ts e rest (prim_product ts e rest d)

  pub prim_cat : (ts : List Token) (e : Expr) (rest : List Token) → PrimOf behind ts e rest → CatOf behind ts e rest
  prim_cat ts e rest d = sum_cat ts e rest (prim_sum ts e rest d)

  pub prim_mem : (ts : List Token) (e : Expr) (rest : List Token) → PrimOf behind ts e rest → MemOf behind ts e rest
  prim_mem ts e rest d = cat (prim_cat ts e rest d)

  pub prim_cmp : (ts : List Token) (e : Expr) (rest : List Token) → PrimOf behind ts e rest → CmpOf behind ts e rest
  prim_cmp ts e rest d = mem (prim_mem ts e rest d)

  pub prim_not : (ts : List Token) (e : Expr) (rest : List Token) → PrimOf behind ts e rest → NotOf behind ts e rest
  prim_not ts e rest d = test (cmp_test ts e rest (prim_cmp ts e rest d))

  pub prim_and : (ts : List Token) (e : Expr) (rest : List Token) → PrimOf behind ts e rest → AndOf behind ts e rest
  prim_and ts e rest d = not_and ts e rest (prim_not ts e rest d)

  -- up to a whole expression
  pub not_or : (ts : List Token) (e : Expr) (rest : List Token) → NotOf behind ts e rest → OrOf behind ts e rest
  not_or ts e rest d = and_or ts e rest (not_and ts e rest d)

  pub cmp_or : (ts : List Token) (e : Expr) (rest : List Token) → CmpOf behind ts e rest → OrOf behind ts e rest
  cmp_or ts e rest d = not_or ts e rest (test (cmp_test ts e rest d))

  pub cat_or : (ts : List Token) (e : Expr) (rest : List Token) → CatOf behind ts e rest → OrOf behind ts e rest
  cat_or ts e rest d = cmp_or ts e rest (mem (cat d))

  pub sum_or : (ts : List Token) (e : Expr) (rest : List Token) → SumOf behind ts e rest → OrOf behind ts e rest
  sum_or ts e rest d = cat_or ts e rest (sum_cat ts e rest d)

  pub product_or : (ts : List Token) (e : Expr) (rest : List Token) → ProductOf behind ts e rest → OrOf behind ts e rest
  product_or ts e rest d = sum_or ts e rest (product_sum ts e rest d)

  pub un_or : (ts : List Token) (e : Expr) (rest : List Token) → UnOf behind ts e rest → OrOf behind ts e rest
  un_or ts e rest d = product_or ts e rest (un_product ts e rest d)

  pub prim_or : (ts : List Token) (e : Expr) (rest : List Token) → PrimOf behind ts e rest → OrOf behind ts e rest
  prim_or ts e rest d = un_or ts e rest (prim d)
