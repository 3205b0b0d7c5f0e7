-- The parts of messages are told apart in one way.
use Rattle.std.proofs.Common.{◌≡◌, ◌≢◌, ℕ, List, [], ◌∷◌, ◌++◌, get_or, refl, sym, ap, ◌∙◌, subst, arith, codes, append_assoc, Option, None, Some, MatchOption}
use Rattle.std.proofs.lemmas.List.{append_cancel_left}
use Rattle.scram.specs.declared.binding.Binding.{Binding}
use Rattle.scram.specs.declared.binding.Binding.TheVariants.{Unable, Unoffered}
use Rattle.scram.specs.Words.{IsName, Lacks}
use Rattle.scram.specs.Messages.{header_of, client_first_bare, challenge_of}
use Rattle.scram.specs.Verifiers.{verifier_text}
use Rattle.scram.proofs.Marks.{cut_front, cut_rest, lacks_no_mark}
use Rattle.scram.proofs.Coded.{name_no_comma}

-- a field ends at the first mark
pub field_unique : (mark : ℕ) (front v rest u back : List ℕ) → Lacks mark v → Lacks mark u
    → front ++ (v ++ mark ∷ rest) ≡ front ++ (u ++ mark ∷ back) → (v ≡ u) × (rest ≡ back)
field_unique mark front v rest u back a b e =
    let same = append_cancel_left front (v ++ mark ∷ rest) (u ++ mark ∷ back) e in
    (cut_front mark v rest u back a b same, cut_rest mark v rest u back a b same)

-- where no mark is behind the front, there is no field
pub no_field : (mark : ℕ) (front rest bytes : List ℕ) → bytes ≡ front ++ rest → Lacks mark rest
    → (value behind : List ℕ) → Lacks mark value → bytes ≢ front ++ (value ++ mark ∷ behind)
no_field mark front rest bytes is lacks value behind none e =
    let same = append_cancel_left front rest (value ++ mark ∷ behind) (sym is ∙ e) in
    lacks_no_mark mark value behind (subst (Lacks mark) same lacks)

-- ---- the client's first message

pub bare_parts : (user nonce : List ℕ) → client_first_bare user nonce ≡ codes "n=" ++ (user ++ 44 ∷ (codes "r=" ++ nonce))
bare_parts user nonce = ap (λ (r : List ℕ). 110 ∷ 61 ∷ r) (append_assoc user (codes ",r=") nonce)

pub bare_split : (bare v rest user nonce : List ℕ) → Lacks 44 v → bare ≡ codes "n=" ++ (v ++ 44 ∷ rest) → IsName user
    → bare ≡ client_first_bare user nonce → (v ≡ user) × (rest ≡ codes "r=" ++ nonce)
bare_split bare v rest user nonce lacks is name e =
    field_unique 44 (codes "n=") v rest user (codes "r=" ++ nonce) lacks (name_no_comma user name) (sym is ∙ (e ∙ bare_parts user nonce))

-- a header tells what is behind it
pub header_unique : (one two : Binding) (rest back : List ℕ) → header_of one ++ rest ≡ header_of two ++ back → (one ≡ two) × (rest ≡ back)
header_unique Unable Unable rest back e = (refl, append_cancel_left (codes "n,,") rest back e)
header_unique Unable Unoffered rest back e = let same : ◌≡◌ {A = ℕ} 110 121 = ap (λ (xs : List ℕ). get_or xs 0 0) e in absurd (omega (arith, same))
header_unique Unoffered Unable rest back e = let same : ◌≡◌ {A = ℕ} 121 110 = ap (λ (xs : List ℕ). get_or xs 0 0) e in absurd (omega (arith, same))
header_unique Unoffered Unoffered rest back e = (refl, append_cancel_left (codes "y,,") rest back e)

pub bare_unique : (user nonce other more : List ℕ) → IsName user → IsName other → client_first_bare user nonce ≡ client_first_bare other more
    → (user ≡ other) × (nonce ≡ more)
bare_unique user nonce other more name second e =
    let split = bare_split (client_first_bare user nonce) user (codes "r=" ++ nonce) other more (name_no_comma user name) (bare_parts user nonce) second e in
    (split.0, append_cancel_left (codes "r=") nonce more split.1)

-- ---- the server's first message

pub challenge_parts : (nonce salt rounds : List ℕ)
    → challenge_of nonce salt rounds ≡ codes "r=" ++ (nonce ++ 44 ∷ (codes "s=" ++ (salt ++ 44 ∷ (codes "i=" ++ rounds))))
challenge_parts nonce salt rounds = in_five (codes "r=") nonce (codes ",s=") salt (codes ",i=") rounds
  where
    in_five : (a b c d e f : List ℕ) → a ++ b ++ c ++ d ++ e ++ f ≡ a ++ (b ++ (c ++ (d ++ (e ++ f))))
    in_five a b c d e f = simp append_assoc

-- what is behind the nonce, and behind the salt
pub challenge_split : (message v rest nonce salt rounds : List ℕ) → Lacks 44 v → message ≡ codes "r=" ++ (v ++ 44 ∷ rest) → Lacks 44 nonce
    → message ≡ challenge_of nonce salt rounds → (v ≡ nonce) × (rest ≡ codes "s=" ++ (salt ++ 44 ∷ (codes "i=" ++ rounds)))
challenge_split message v rest nonce salt rounds lacks is none e =
    field_unique 44 (codes "r=") v rest nonce _ lacks none (sym is ∙ (e ∙ challenge_parts nonce salt rounds))

pub challenge_unique : (nonce salt rounds other more last : List ℕ) → Lacks 44 nonce → Lacks 44 salt → Lacks 44 other → Lacks 44 more
    → challenge_of nonce salt rounds ≡ challenge_of other more last → (nonce ≡ other) × (salt ≡ more) × (rounds ≡ last)
challenge_unique nonce salt rounds other more last a b c d e =
    let one = challenge_split (challenge_of nonce salt rounds) nonce (codes "s=" ++ (salt ++ 44 ∷ (codes "i=" ++ rounds))) other more last a (challenge_parts nonce salt rounds) c e in
    let two = field_unique 44 (codes "s=") salt (codes "i=" ++ rounds) more (codes "i=" ++ last) b d one.1 in
    (one.0, two.0, append_cancel_left (codes "i=") rounds last two.1)

-- ---- a verifier

pub verifier_parts : (rounds salt stored server : List ℕ)
    → verifier_text rounds salt stored server ≡ codes "SCRAM-SHA-256$" ++ (rounds ++ 58 ∷ (salt ++ 36 ∷ (stored ++ 58 ∷ server)))
verifier_parts rounds salt stored server = in_seven (codes "SCRAM-SHA-256$") rounds (codes ":") salt (codes "$") stored (codes ":") server
  where
    in_seven : (a b c d e f g h : List ℕ) → a ++ b ++ c ++ d ++ e ++ f ++ g ++ h ≡ a ++ (b ++ (c ++ (d ++ (e ++ (f ++ (g ++ h))))))
    in_seven a b c d e f g h = simp append_assoc

pub verifier_split : (text v rest rounds salt stored server : List ℕ) → Lacks 58 v → text ≡ codes "SCRAM-SHA-256$" ++ (v ++ 58 ∷ rest) → Lacks 58 rounds
    → text ≡ verifier_text rounds salt stored server → (v ≡ rounds) × (rest ≡ salt ++ 36 ∷ (stored ++ 58 ∷ server))
verifier_split text v rest rounds salt stored server lacks is none e =
    field_unique 58 (codes "SCRAM-SHA-256$") v rest rounds _ lacks none (sym is ∙ (e ∙ verifier_parts rounds salt stored server))

pub verifier_unique : (rounds salt stored server others more other last : List ℕ) → Lacks 58 rounds → Lacks 36 salt → Lacks 58 stored
    → Lacks 58 others → Lacks 36 more → Lacks 58 other → verifier_text rounds salt stored server ≡ verifier_text others more other last
    → (rounds ≡ others) × (salt ≡ more) × (stored ≡ other) × (server ≡ last)
verifier_unique rounds salt stored server others more other last a b c d e f same =
    let one = verifier_split (verifier_text rounds salt stored server) rounds (salt ++ 36 ∷ (stored ++ 58 ∷ server)) others more other last a (verifier_parts rounds salt stored server) d same in
    let two = field_unique 36 [] salt (stored ++ 58 ∷ server) more (other ++ 58 ∷ last) b e one.1 in
    let three = field_unique 58 [] stored server other last c f two.1 in
    (one.0, two.0, three.0, three.1)

-- what is cut at the first mark behind a front is a field
pub field_of_cut : {X : Type 0} (left right : X → List ℕ) (mark : ℕ) (front rest bytes : List ℕ) (r : Option X) → bytes ≡ front ++ rest
    → MatchOption r (Lacks mark rest) (λ x. Lacks mark (left x) × (rest ≡ left x ++ mark ∷ right x))
    → MatchOption r ((value behind : List ℕ) → Lacks mark value → bytes ≢ front ++ (value ++ mark ∷ behind))
    (λ x. Lacks mark (left x) × (bytes ≡ front ++ (left x ++ mark ∷ right x)))
field_of_cut left right mark front rest bytes None is h = no_field mark front rest bytes is h
field_of_cut left right mark front rest bytes (Some x) is h = (h.0, is ∙ ap (λ (r : List ℕ). front ++ r) h.1)
