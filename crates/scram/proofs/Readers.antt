-- What the readers answer, from what they found in a text.
use Rattle.std.proofs.Common.{◌≡◌, ◌≢◌, ℕ, List, [], ◌∷◌, ◌++◌, sym, ap, ◌∙◌, subst, arith, codes, append_assoc, decimal, Option, None, Some, Result, Ok, Err, IfOk}
use Rattle.std.proofs.lemmas.List.{append_cancel_left}
use Rattle.scram.specs.declared.verifier.Verifier.{Verifier}
use Rattle.scram.specs.Words.{IsName, IsNonce, Lacks, Reads, in_base64}
use Rattle.scram.specs.Messages.{client_first_bare, challenge_of, IsServerFirst}
use Rattle.scram.specs.Verifiers.{verifier_text, IsTextOf}
use Rattle.scram.proofs.Coded.{base64_no_comma, base64_no_colon, base64_no_dollar, decimal_no_colon, nonce_no_comma, name_no_comma}
use Rattle.scram.proofs.Parts.{bare_parts, bare_split, challenge_split, challenge_unique, field_unique, verifier_parts, verifier_split, verifier_unique}

-- ---- of what is read as one thing

pub reads_through : {X : Type 0} (P Q : X → Type 0) (r : Option X) → ((x : X) → P x → Q x) → ((x : X) → Q x → P x) → Reads P r → Reads Q r
reads_through P Q None to from h = λ x q. h x (from x q)
reads_through P Q (Some x) to from h = to x h

pub ok_reads_through : {X E : Type 0} (P Q : X → Type 0) (r : Result (Option X) E) → ((x : X) → P x → Q x) → ((x : X) → Q x → P x) → IfOk r (Reads P) → IfOk r (Reads Q)
ok_reads_through P Q (Ok r) to from h = reads_through P Q r to from h
ok_reads_through P Q (Err e) to from h = tt

-- ---- the client's first message

-- what is no first message without a header
abbrev pub NoBare : List ℕ → Type 0
NoBare bare = (user nonce : List ℕ) → IsName user → IsNonce nonce → bare ≡ client_first_bare user nonce → ⊥

pub bare_no_name : (bare : List ℕ) → ((value rest : List ℕ) → Lacks 44 value → bare ≢ codes "n=" ++ (value ++ 44 ∷ rest)) → NoBare bare
bare_no_name bare none user nonce name printable e = none user (codes "r=" ++ nonce) (name_no_comma user name) (e ∙ bare_parts user nonce)

pub bare_no_nonce : (bare v rest : List ℕ) → Lacks 44 v → bare ≡ codes "n=" ++ (v ++ 44 ∷ rest) → ((behind : List ℕ) → rest ≢ codes "r=" ++ behind) → NoBare bare
bare_no_nonce bare v rest lacks is none user nonce name printable e = none nonce (bare_split bare v rest user nonce lacks is name e).1

pub bare_not : (bare v rest w : List ℕ) → Lacks 44 v → bare ≡ codes "n=" ++ (v ++ 44 ∷ rest) → rest ≡ codes "r=" ++ w → (IsName v → IsNonce w → ⊥) → NoBare bare
bare_not bare v rest w lacks is behind none user nonce name printable e =
    let split = bare_split bare v rest user nonce lacks is name e in
    let same = append_cancel_left (codes "r=") w nonce (sym behind ∙ split.1) in
    none (subst IsName (sym split.0) name) (subst IsNonce (sym same) printable)

-- ---- the server's first message

-- what has no three texts
abbrev pub NoTexts : List ℕ → Type 0
NoTexts message = (nonce salt rounds : List ℕ) → Lacks 44 nonce → Lacks 44 salt → message ≢ challenge_of nonce salt rounds

pub texts_no_salt : (message v rest : List ℕ) → Lacks 44 v → message ≡ codes "r=" ++ (v ++ 44 ∷ rest)
    → ((value behind : List ℕ) → Lacks 44 value → rest ≢ codes "s=" ++ (value ++ 44 ∷ behind)) → NoTexts message
texts_no_salt message v rest lacks is none nonce salt rounds a b e =
    none salt (codes "i=" ++ rounds) b (challenge_split message v rest nonce salt rounds lacks is a e).1

pub texts_no_rounds : (message v rest w more : List ℕ) → Lacks 44 v → message ≡ codes "r=" ++ (v ++ 44 ∷ rest) → Lacks 44 w → rest ≡ codes "s=" ++ (w ++ 44 ∷ more)
    → ((behind : List ℕ) → more ≢ codes "i=" ++ behind) → NoTexts message
texts_no_rounds message v rest w more lacks is also behind none nonce salt rounds a b e =
    let one = challenge_split message v rest nonce salt rounds lacks is a e in
    let two = field_unique 44 (codes "s=") w more salt (codes "i=" ++ rounds) also b (sym behind ∙ one.1) in
    none rounds two.1

-- the texts of a message are those of its values
pub record TextsAre (n s d nonce salt : List ℕ) (rounds : ℕ) : Type 0 where
  pub nonce_is : n ≡ nonce
  pub salt_is : s ≡ in_base64 salt
  pub rounds_are : d ≡ decimal rounds

pub texts_of_first : (own message n s d nonce salt : List ℕ) (rounds : ℕ) → Lacks 44 n → Lacks 44 s → message ≡ challenge_of n s d
    → IsServerFirst own message nonce salt rounds → TextsAre n s d nonce salt rounds
texts_of_first own message n s d nonce salt rounds a b e is =
    let parts = challenge_unique n s d nonce (in_base64 salt) (decimal rounds) a b (nonce_no_comma nonce is.printable) (base64_no_comma salt) (sym e ∙ is.is) in
    record { nonce_is = parts.0; salt_is = parts.1; rounds_are = parts.2 }

pub first_no_texts : (own message nonce salt : List ℕ) (rounds : ℕ) → NoTexts message → IsServerFirst own message nonce salt rounds → ⊥
first_no_texts own message nonce salt rounds none is =
    none nonce (in_base64 salt) (decimal rounds) (nonce_no_comma nonce is.printable) (base64_no_comma salt) is.is

-- ---- the last messages

pub final_is : (unproved message behind code bytes : List ℕ) → message ≡ unproved ++ behind → behind ≡ codes ",p=" ++ code → code ≡ in_base64 bytes
    → message ≡ unproved ++ codes ",p=" ++ in_base64 bytes
final_is unproved message behind code bytes is middle end =
    is ∙ (ap (λ (r : List ℕ). unproved ++ r) (middle ∙ ap (λ (r : List ℕ). codes ",p=" ++ r) end) ∙ sym (append_assoc unproved (codes ",p=") (in_base64 bytes)))

pub final_behind : (unproved message behind bytes : List ℕ) → message ≡ unproved ++ behind → message ≡ unproved ++ codes ",p=" ++ in_base64 bytes
    → behind ≡ codes ",p=" ++ in_base64 bytes
final_behind unproved message behind bytes is e =
    append_cancel_left unproved behind (codes ",p=" ++ in_base64 bytes) (sym is ∙ (e ∙ append_assoc unproved (codes ",p=") (in_base64 bytes)))

pub final_code : (unproved message behind code bytes : List ℕ) → message ≡ unproved ++ behind → behind ≡ codes ",p=" ++ code
    → message ≡ unproved ++ codes ",p=" ++ in_base64 bytes → code ≡ in_base64 bytes
final_code unproved message behind code bytes is middle e =
    append_cancel_left (codes ",p=") code (in_base64 bytes) (sym middle ∙ final_behind unproved message behind bytes is e)

-- ---- a verifier's text

abbrev pub NoVerifier : List ℕ → Type 0
NoVerifier text = (rounds salt stored server : List ℕ) → Lacks 58 rounds → Lacks 36 salt → Lacks 58 stored → text ≢ verifier_text rounds salt stored server

pub verifier_no_rounds : (text : List ℕ) → ((value rest : List ℕ) → Lacks 58 value → text ≢ codes "SCRAM-SHA-256$" ++ (value ++ 58 ∷ rest)) → NoVerifier text
verifier_no_rounds text none rounds salt stored server a b c e = none rounds _ a (e ∙ verifier_parts rounds salt stored server)

pub verifier_no_salt : (text v rest : List ℕ) → Lacks 58 v → text ≡ codes "SCRAM-SHA-256$" ++ (v ++ 58 ∷ rest)
    → ((value behind : List ℕ) → Lacks 36 value → rest ≢ value ++ 36 ∷ behind) → NoVerifier text
verifier_no_salt text v rest lacks is none rounds salt stored server a b c e =
    none salt (stored ++ 58 ∷ server) b (verifier_split text v rest rounds salt stored server lacks is a e).1

pub verifier_no_stored : (text v rest w more : List ℕ) → Lacks 58 v → text ≡ codes "SCRAM-SHA-256$" ++ (v ++ 58 ∷ rest) → Lacks 36 w → rest ≡ w ++ 36 ∷ more
    → ((value behind : List ℕ) → Lacks 58 value → more ≢ value ++ 58 ∷ behind) → NoVerifier text
verifier_no_stored text v rest w more lacks is also behind none rounds salt stored server a b c e =
    let one = verifier_split text v rest rounds salt stored server lacks is a e in
    let two = field_unique 36 [] w more salt (stored ++ 58 ∷ server) also b (sym behind ∙ one.1) in
    none stored server c two.1

-- the texts of a verifier are those of its values
pub record ValuesAre (rounds salt stored server : List ℕ) (verifier : Verifier) : Type 0 where
  pub rounds_are : rounds ≡ decimal verifier.rounds
  pub salt_is : salt ≡ in_base64 verifier.salt
  pub stored_is : stored ≡ in_base64 verifier.stored
  pub server_is : server ≡ in_base64 verifier.server

pub values_of : (text rounds salt stored server : List ℕ) (verifier : Verifier) → Lacks 58 rounds → Lacks 36 salt → Lacks 58 stored
    → text ≡ verifier_text rounds salt stored server → IsTextOf text verifier → ValuesAre rounds salt stored server verifier
values_of text rounds salt stored server verifier a b c e is =
    let parts = verifier_unique rounds salt stored server (decimal verifier.rounds) (in_base64 verifier.salt) (in_base64 verifier.stored) (in_base64 verifier.server)
    a b c (decimal_no_colon verifier.rounds (let most = is.range.1 in omega (arith, most))) (base64_no_dollar verifier.salt) (base64_no_colon verifier.stored) (sym e ∙ is.is) in
    record { rounds_are = parts.0; salt_is = parts.1; stored_is = parts.2; server_is = parts.3 }

pub text_no_values : (text : List ℕ) (verifier : Verifier) → NoVerifier text → IsTextOf text verifier → ⊥
text_no_values text verifier none is =
    none (decimal verifier.rounds) (in_base64 verifier.salt) (in_base64 verifier.stored) (in_base64 verifier.server)
    (decimal_no_colon verifier.rounds (let most = is.range.1 in omega (arith, most))) (base64_no_dollar verifier.salt) (base64_no_colon verifier.stored) is.is

-- ---- where there is something, and where there is nothing

pub reads_nothing : {X : Type 0} (P : X → Type 0) (r : Option X) → r ≡ None → Reads P r → (x : X) → P x → ⊥
reads_nothing {X} P r is h = subst (λ (o : Option X). Reads P o) is h

pub reads_some : {X : Type 0} (P : X → Type 0) (r : Option X) (x : X) → r ≡ Some x → Reads P r → P x
reads_some {X} P r x is h = subst (λ (o : Option X). Reads P o) is h
