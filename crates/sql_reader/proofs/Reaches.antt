-- Statements that may stand are read, up to what stands behind them.
use Rattle.std.proofs.Common.{◌≡◌, ℕ, zero, suc, ◌≤◌, ◌+◌, List, [], ◌∷◌, ◌++◌, length, Option, Some, None, Result, Ok, Err, refl, sym, ap, subst, ◌∙◌, append_assoc, arith, inl, inr, length-append}
use Rattle.std.proofs.lemmas.List.{append-nil}
use Rattle.std.proofs.lemmas.List.Elements.{All-nil, All-cons, All-head, All-tail}
use Rattle.sql_tokens.specs.declared.mark.Mark.TheVariants as mark
use Rattle.sql_tokens.specs.declared.token.Token.{Token}
use Rattle.sql_tokens.specs.declared.token.Token.TheVariants as token
use Rattle.sql_tokens.specs.declared.word.Word.TheVariants as word
use Rattle.sql_tree.specs.declared.statement.Statement.{Statement}
use Rattle.sql_reader.specs.Grammar.{Bound, verb_token}
use Rattle.sql_reader.specs.declared.text_fault.TextFault.{TextFault}
use Rattle.sql_reader.specs.declared.text_fault.TextFault.TheVariants.{WithoutFrom, TooMany}
use Rattle.sql_reader.specs.TextGrammar.{PartOf, written, TextOf, IsTextWithin, FrontOf, HaveFrom, IsWithoutFrom, IsTooMany}
use Rattle.sql_reader.specs.TextReading.{then_read, add_at, more_at, further_at, lines_at, ended, text_at}
use Rattle.sql_reader.proofs.Texts.{part_stage}
use Rattle.sql_reader.proofs.Added.{IsFine, there, add_part, add_bare, add_full}
use Rattle.sql_reader.proofs.Lines.{Others, mid_bound}

split : (o : Option Statement) (os : List (Option Statement)) → HaveFrom (written (o ∷ os)) → HaveFrom (there o) × HaveFrom (written os)
split None os h = (All-nil IsFine, h)
split (Some s) os h = (All-cons IsFine s [] (All-head IsFine s (written os) h) (All-nil IsFine), All-tail IsFine s (written os) h)

counted : (o : Option Statement) (os : List (Option Statement)) → length (written (o ∷ os)) ≡ length (there o) + length (written os)
counted None os = omega arith
counted (Some s) os = omega arith

regrouped : (before : List Statement) (o : Option Statement) (os : List (Option Statement)) → (before ++ there o) ++ written os ≡ before ++ written (o ∷ os)
regrouped before None os = ap (λ (l : List Statement). l ++ written os) (append-nil before)
regrouped before (Some s) os = append_assoc before (s ∷ []) (written os)

-- from here on the reading is that of what follows, with more statements before it
abbrev pub Reached : ℕ → Result (List Statement × List Token) TextFault → List Statement → List Token → Type 0
Reached d r before k = (n : ℕ) × (length k ≤ n) × (r ≡ more_at d n before k)

one_more : (d n : ℕ) (before all : List Statement) (after mid : List Token) → add_at d before after ≡ Ok (all, mid) → more_at d (suc n) before (token.Mark mark.Semicolon ∷ after) ≡ more_at d n all mid
unfolding more_at
one_more d n before all after mid e = ap (λ (r : Result (List Statement × List Token) TextFault). then_read r (λ x. more_at d n x.0 x.1)) e

pub reaches : (d : ℕ) (ps : List (Option Statement)) (n : ℕ) (before : List Statement) (ts k : List Token) → length ts ≤ n → Others d ts ps k → Bound k → HaveFrom (written ps) → length before + length (written ps) ≤ 256
    → Reached d (more_at d n before ts) (before ++ written ps) k
reaches d [] n before ts k le t ends have room = (n, omega (arith, le, ap length t), ap (λ (m : List Token). more_at d n before m) t ∙ ap (λ (l : List Statement). more_at d n l k) (sym (append-nil before)))
reaches d (p ∷ ps) zero before ts k le t ends have room = absurd (omega (arith, le, ap length t.4))
reaches d (p ∷ ps) (suc n) before ts k le t ends have room =
    let form : PartOf d t.1 p t.3 = subst (λ (q : Option Statement). PartOf d t.1 q t.3) (sym t.6) t.5 in
    let halves = split p ps have in
    let all : length (written (p ∷ ps)) ≡ length (there p) + length (written ps) = counted p ps in
    let first : add_at d before t.1 ≡ Ok (before ++ there p, t.3) = add_part d before t.1 p t.3 form (mid_bound d ps t.3 k t.7 ends) halves.0 (omega (arith, room, all)) in
    let shorter : length t.3 ≤ n = omega (arith, le, ap length t.4, part_stage.most d t.1 p t.3 form) in
    let rest = reaches d ps n (before ++ there p) t.3 k shorter t.7 ends halves.1 (omega (arith, room, all, length-append before (there p))) in
    (rest.0, rest.1, ap (λ (m : List Token). more_at d (suc n) before m) t.4 ∙ one_more d n before (before ++ there p) t.1 t.3 first ∙ rest.2 ∙ ap (λ (l : List Statement). more_at d rest.0 l k) (regrouped before p ps))

text_reaches : (d : ℕ) (ts : List Token) (before : List Statement) (k : List Token) → TextOf d ts before k → Bound k → HaveFrom before → length before ≤ 256 → Reached d (lines_at d ts) before k
text_reaches d ts before k h ends have room =
    let o = h.1.0 in
    let mid = h.1.1 in
    let os = h.1.2 in
    let is : before ≡ written (o ∷ os) = h.2 ∙ ap written h.1.5 in
    let halves = split o os (subst HaveFrom is have) in
    let all : length (written (o ∷ os)) ≡ length (there o) + length (written os) = counted o os in
    let first : add_at d [] ts ≡ Ok (there o, mid) = add_part d [] ts o mid h.1.3 (mid_bound d os mid k h.1.4 ends) halves.0 (omega (arith, room, all, ap length is)) in
    let rest = reaches d os (length mid) (there o) mid k (omega arith) h.1.4 ends halves.1 (omega (arith, room, all, ap length is)) in
    (rest.0, rest.1, ap (λ (r : Result (List Statement × List Token) TextFault). then_read r (λ x. further_at d x.0 x.1)) first ∙ rest.2 ∙ ap (λ (l : List Statement). more_at d rest.0 l k) (regrouped [] o os ∙ sym is))

at_end : (d n : ℕ) (before : List Statement) → more_at d n before [] ≡ Ok (before, [])
unfolding more_at
at_end d zero before = refl
at_end d (suc n) before = refl

finish : Result (List Statement × List Token) TextFault → Result (List Statement) TextFault
finish r = then_read r (λ x. ended x.0 x.1)

-- what may stand is read
pub text_again : (d : ℕ) (ts : List Token) (all : List Statement) → IsTextWithin d ts all → length all ≤ 256 → HaveFrom all → text_at d ts ≡ Ok all
unfolding finish
text_again d ts all h room have =
    let r = text_reaches d ts all [] h tt have room in
    let e : lines_at d ts ≡ Ok (all, []) = r.2 ∙ at_end d r.0 all in
    ap finish e

at_semicolon : (d n : ℕ) (before : List Statement) (m : List Token) (e : TextFault) → suc (length m) ≤ n → add_at d before m ≡ Err e → more_at d n before (token.Mark mark.Semicolon ∷ m) ≡ Err e
unfolding more_at
at_semicolon d zero before m e le h = absurd (omega arith)
at_semicolon d (suc n) before m e le h = ap (λ (r : Result (List Statement × List Token) TextFault). then_read r (λ x. more_at d n x.0 x.1)) h

-- what is refused behind statements that may stand is refused
front_refused : (d : ℕ) (ts : List Token) (before : List Statement) (m : List Token) (e : TextFault) → FrontOf d ts before m → HaveFrom before → length before ≤ 256 → add_at d before m ≡ Err e → lines_at d ts ≡ Err e
front_refused d ts before m e (inl h) have room k =
    let f : add_at d [] ts ≡ Err e = ap (λ (l : List Token). add_at d [] l) h.0 ∙ ap (λ (l : List Statement). add_at d l m) (sym h.1) ∙ k in
    ap (λ (r : Result (List Statement × List Token) TextFault). then_read r (λ x. further_at d x.0 x.1)) f
front_refused d ts before m e (inr h) have room k =
    let r = text_reaches d ts before (token.Mark mark.Semicolon ∷ m) h tt have room in
    r.2 ∙ at_semicolon d r.0 before m e r.1 k

pub bare_told : (d : ℕ) (ts : List Token) (left : ℕ) → IsWithoutFrom d ts left → text_at d ts ≡ Err (WithoutFrom left)
unfolding finish
bare_told d ts left h =
    let e : lines_at d ts ≡ Err (WithoutFrom (length (h.rows ++ h.after))) = front_refused d ts h.before (token.Word word.Select ∷ (h.rows ++ h.after)) (WithoutFrom (length (h.rows ++ h.after))) h.front h.have (omega (arith, h.room)) (add_bare d h.before h.rows h.after h.are h.ends h.room) in
    ap finish e ∙ ap (λ (n : ℕ). Err (WithoutFrom n)) h.left_is

pub many_told : (d : ℕ) (ts : List Token) (left : ℕ) → IsTooMany d ts left → text_at d ts ≡ Err (TooMany left)
unfolding finish
many_told d ts left h =
    let e : lines_at d ts ≡ Err (TooMany (suc (length h.after))) = front_refused d ts h.before (verb_token h.verb ∷ h.after) (TooMany (suc (length h.after))) h.front h.have (omega (arith, h.full)) (add_full d h.before h.verb h.after h.full) in
    ap finish e ∙ ap (λ (n : ℕ). Err (TooMany n)) h.left_is
