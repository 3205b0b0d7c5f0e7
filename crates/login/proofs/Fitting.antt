-- What a client is told that is not let in fits into a message.
use Rattle.std.proofs.Common.{◌≡◌, ◌<◌, ◌&&◌, ℕ, Bool, true, false, List, [], ◌∷◌, ◌++◌, codes, refl, ap, sym, ◌∙◌, subst, nat_lt, arith, lit<, lit≤}
use Rattle.std.specs.Prelude.{All}
use Rattle.std.specs.List.{list_all}
use Rattle.std.proofs.lemmas.Bool.Decides.{nat_tests}
use Rattle.std.proofs.lemmas.List.Elements.{All-nil, All-cons}
use Rattle.pg_messages.specs.Fields.{IsString, PartFits}
use Rattle.pg_messages.specs.Server.{Fits}
use Rattle.pg_messages.specs.declared.server.Part.{Part}
use Rattle.pg_messages.specs.declared.server.ServerMessage.TheVariants.{Error}
use Rattle.login.specs.Refusals.{code_of, text_of, part_of, refusal_of}
use Rattle.login.specs.declared.refusal.Refusal.{Refusal}
use Rattle.login.specs.declared.refusal.Refusal.TheVariants.{Password, Malformed, TooLong, MinorVersion, Encoding}

clean : (text : List ℕ) → list_all (λ b. nat_lt 0 b) text ≡ true → IsString text
clean [] e = All-nil (λ (b : ℕ). 0 < b)
clean (b ∷ rest) e = go (nat_lt 0 b) refl e (clean rest)
  where
    go : (t : Bool) → nat_lt 0 b ≡ t → (t && list_all (λ b. nat_lt 0 b) rest) ≡ true → (list_all (λ b. nat_lt 0 b) rest ≡ true → IsString rest)
        → IsString (b ∷ rest)
    go true is k next = All-cons (λ (b : ℕ). 0 < b) b rest (grind (arith, nat_tests)) (next k)
    go false is k next = absurd (cc)

abbrev one : ℕ → List ℕ → Part
one tag text = record { tag = tag; text = text }

abbrev parts : List ℕ → List ℕ → List Part
parts code text = one 83 (codes "FATAL") ∷ one 86 (codes "FATAL") ∷ one 67 code ∷ one 77 text ∷ []

all_fit : (code text : List ℕ) → IsString code → IsString text → All PartFits (parts code text)
all_fit code text first second =
    let fatal : IsString (codes "FATAL") = clean (codes "FATAL") refl in
    let m : PartFits (one 77 text) = (lit< tt, second) in
    let c : PartFits (one 67 code) = (lit< tt, first) in
    let v : PartFits (one 86 (codes "FATAL")) = (lit< tt, fatal) in
    let s : PartFits (one 83 (codes "FATAL")) = (lit< tt, fatal) in
    let a : All PartFits (one 77 text ∷ []) = All-cons PartFits (one 77 text) [] m (All-nil PartFits) in
    let b : All PartFits (one 67 code ∷ one 77 text ∷ []) = All-cons PartFits (one 67 code) (one 77 text ∷ []) c a in
    let d : All PartFits (one 86 (codes "FATAL") ∷ one 67 code ∷ one 77 text ∷ []) =
    All-cons PartFits (one 86 (codes "FATAL")) (one 67 code ∷ one 77 text ∷ []) v b in
    All-cons PartFits (one 83 (codes "FATAL")) (one 86 (codes "FATAL") ∷ one 67 code ∷ one 77 text ∷ []) s d

fits : (r : Refusal) → Fits (refusal_of r)
fits Password = (all_fit (code_of Password) (text_of Password) (clean (code_of Password) refl) (clean (text_of Password) refl), lit< tt, lit≤ tt)
fits Malformed = (all_fit (code_of Malformed) (text_of Malformed) (clean (code_of Malformed) refl) (clean (text_of Malformed) refl), lit< tt, lit≤ tt)
fits TooLong = (all_fit (code_of TooLong) (text_of TooLong) (clean (code_of TooLong) refl) (clean (text_of TooLong) refl), lit< tt, lit≤ tt)
fits MinorVersion = (all_fit (code_of MinorVersion) (text_of MinorVersion) (clean (code_of MinorVersion) refl) (clean (text_of MinorVersion) refl), lit< tt, lit≤ tt)
fits Encoding = (all_fit (code_of Encoding) (text_of Encoding) (clean (code_of Encoding) refl) (clean (text_of Encoding) refl), lit< tt, lit≤ tt)

-- the parts that were put one behind another
pub told_fits : (r : Refusal) (a b c d : List Part) → a ≡ part_of 83 (codes "FATAL") → b ≡ a ++ part_of 86 (codes "FATAL")
    → c ≡ b ++ part_of 67 (code_of r) → d ≡ c ++ part_of 77 (text_of r) → Fits (Error d)
told_fits r a b c d e f g h =
    let second : b ≡ part_of 83 (codes "FATAL") ++ part_of 86 (codes "FATAL") = f ∙ ap (λ (ps : List Part). ps ++ part_of 86 (codes "FATAL")) e in
    let third : c ≡ (part_of 83 (codes "FATAL") ++ part_of 86 (codes "FATAL")) ++ part_of 67 (code_of r) =
    g ∙ ap (λ (ps : List Part). ps ++ part_of 67 (code_of r)) second in
    let whole : d ≡ parts (code_of r) (text_of r) = h ∙ ap (λ (ps : List Part). ps ++ part_of 77 (text_of r)) third in
    subst (λ (ps : List Part). Fits (Error ps)) (sym whole) (fits r)
