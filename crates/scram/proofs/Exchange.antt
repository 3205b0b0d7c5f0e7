-- A client and a server with one password accept each other.
use Rattle.std.proofs.Common.{◌≡◌, ℕ, List, ◌++◌, refl, sym, ap, ap₂, ◌∙◌, subst, arith, codes, decimal, length-append}
use Rattle.std.proofs.lemmas.List.{append_cancel_left}
use Rattle.std.proofs.lemmas.List.Elements.{All-append}
use Rattle.std.proofs.lemmas.Fmt.{decimal_injective}
use Rattle.sha2.specs.Sha256.{sha256}
use Rattle.scram.specs.declared.binding.Binding.{Binding}
use Rattle.scram.specs.declared.binding.Binding.TheVariants.{Unable}
use Rattle.scram.specs.declared.server.ScramServer.{ScramServer}
use Rattle.scram.specs.declared.server.ScramServer.TheVariants.{Asked}
use Rattle.scram.specs.declared.client.ScramClient.{ScramClient}
use Rattle.scram.specs.declared.client.ScramClient.TheVariants.{Opened, Answered}
use Rattle.scram.specs.Mac.{xor_bytes}
use Rattle.scram.specs.Keys as K
use Rattle.scram.specs.Words.{IsPrintable, IsNonce, IsDigest, in_base64}
use Rattle.scram.specs.Messages.{client_first_bare, client_first, IsClientFirst, server_first, IsServerFirst, without_proof, client_final, server_final, said_of, auth_message}
use Rattle.scram.specs.Servers.{IsNoFirst, IsAccepted, IsUnproven, IsNoLast}
use Rattle.scram.specs.Clients.{IsAnswer, IsNoChallenge, IsForged, IsNoVerdict}
use Rattle.scram.specs.Laws.{Pair, Opens, Challenges, Proves, Shows, server_of}
use Rattle.scram.proofs.Coded.{base64_no_comma, base64_injective, nonce_no_comma}
use Rattle.scram.proofs.Digests.{hmac_digest, xor_digest, xor_twice}
use Rattle.scram.proofs.Parts.{header_unique, bare_unique, challenge_unique}

-- ---- what the four messages are

abbrev whole_of : Pair → List ℕ
whole_of pair = pair.own ++ pair.added

abbrev salted_of : Pair → List ℕ
salted_of pair = K.salted_password pair.password pair.salt pair.rounds

abbrev bare_of : Pair → List ℕ
bare_of pair = client_first_bare pair.user pair.own

abbrev auth_of : (pair : Pair) (one : Opens pair) → Challenges pair one → List ℕ
auth_of pair one two = auth_message (said_of (bare_of pair) two.message) Unable (whole_of pair)

abbrev proof_of : (pair : Pair) (one : Opens pair) → Challenges pair one → List ℕ
proof_of pair one two = K.client_proof (salted_of pair) (auth_of pair one two)

nonce_append : (own added : List ℕ) → IsNonce own → IsNonce added → IsNonce (own ++ added)
nonce_append own added a b = (let long = length-append own added in omega (arith, long, a.0), All-append IsPrintable own added a.1 b.1)

by_three : {A B C D : Type 0} (f : A → B → C → D) (a x : A) (b y : B) (c z : C) → a ≡ x → b ≡ y → c ≡ z → f a b c ≡ f x y z
by_three {A} {B} {C} f a x b y c z p q r = ap₂ (λ (i : A) (j : B). f i j c) p q ∙ ap (λ (k : C). f x y k) r

-- the client's first message is read as it was said
record FirstParts (pair : Pair) (one : Opens pair) (binding : Binding) (user own : List ℕ) : Type 0 where
  bound : Unable ≡ binding
  named : pair.user ≡ user
  noted : pair.own ≡ own

first_parts : (pair : Pair) (one : Opens pair) (binding : Binding) (user own : List ℕ) → IsClientFirst one.message binding user own → FirstParts pair one binding user own
first_parts pair one binding user own said =
    let same : client_first Unable pair.user pair.own ≡ client_first binding user own = sym one.is.0 ∙ said.2 in
    let split = header_unique Unable binding (bare_of pair) (client_first_bare user own) same in
    let parts = bare_unique pair.user pair.own user own pair.named said.0 split.1 in
    record { bound = split.0; named = parts.0; noted = parts.1 }

record SecondParts (pair : Pair) (one : Opens pair) (two : Challenges pair one) : Type 0 where
  message_is : two.message ≡ server_first (whole_of pair) pair.salt pair.rounds
  server_is : two.server ≡ Asked pair.verifier Unable (whole_of pair) (said_of (bare_of pair) two.message)

second_parts : (pair : Pair) (one : Opens pair) (two : Challenges pair one) → SecondParts pair one two
second_parts pair one two =
    let parts = first_parts pair one two.is.binding two.is.user two.is.own two.is.said in
    record {
      message_is = two.is.answers.0
          ∙ by_three (λ (o s : List ℕ) (n : ℕ). server_first (o ++ pair.added) s n) two.is.own pair.own pair.verifier.salt pair.salt pair.verifier.rounds pair.rounds
          (sym parts.noted) pair.made.salt_is pair.made.rounds_are;
      server_is = two.is.answers.1
          ∙ by_three (λ (o u : List ℕ) (b : Binding). Asked pair.verifier b (o ++ pair.added) (said_of (client_first_bare u o) two.message)) two.is.own pair.own two.is.user pair.user two.is.binding Unable
          (sym parts.noted) (sym parts.named) (sym parts.bound);
    }

-- the server's first message is one of the exchange
is_first : (pair : Pair) (one : Opens pair) (two : Challenges pair one) → IsServerFirst pair.own two.message (whole_of pair) pair.salt pair.rounds
is_first pair one two = record {
  extends = record { added = pair.added; is = refl; some = pair.more.0 };
  printable = nonce_append pair.own pair.added pair.printable pair.more;
  bytes = pair.bytes;
  range = pair.range;
  is = (second_parts pair one two).message_is;
}

record ThirdParts (pair : Pair) (one : Opens pair) (two : Challenges pair one) (three : Proves pair one two) : Type 0 where
  message_is : three.message ≡ client_final Unable (whole_of pair) (proof_of pair one two)
  client_is : three.client ≡ Answered (K.signature (K.server_key (salted_of pair)) (auth_of pair one two))

opened_answer : (pair : Pair) (one : Opens pair) (two : Challenges pair one) (three : Proves pair one two)
    → IsAnswer (Opened pair.password pair.own (bare_of pair)) two.message three.message three.client
opened_answer pair one two three = subst (λ (c : ScramClient). IsAnswer c two.message three.message three.client) one.is.1 three.is

third_parts : (pair : Pair) (one : Opens pair) (two : Challenges pair one) (three : Proves pair one two) → ThirdParts pair one two three
third_parts pair one two three =
    let answer = opened_answer pair one two three in
    let mine = is_first pair one two in
    let same : server_first answer.nonce answer.salt answer.rounds ≡ server_first (whole_of pair) pair.salt pair.rounds = sym answer.said.is ∙ mine.is in
    let parts = challenge_unique answer.nonce (in_base64 answer.salt) (decimal answer.rounds) (whole_of pair) (in_base64 pair.salt) (decimal pair.rounds)
    (nonce_no_comma _ answer.said.printable) (base64_no_comma _) (nonce_no_comma _ mine.printable) (base64_no_comma _) same in
    let salt_is : answer.salt ≡ pair.salt = base64_injective answer.salt pair.salt answer.said.bytes pair.bytes parts.1 in
    let rounds_are : answer.rounds ≡ pair.rounds =
    decimal_injective answer.rounds pair.rounds (let most = answer.said.range.1 in omega (arith, most)) (let most = pair.range.1 in omega (arith, most)) parts.2 in
    record {
      message_is = answer.answers.0
          ∙ by_three (λ (w s : List ℕ) (n : ℕ). client_final Unable w (K.client_proof (K.salted_password pair.password s n) (auth_message (said_of (bare_of pair) two.message) Unable w)))
          answer.nonce (whole_of pair) answer.salt pair.salt answer.rounds pair.rounds parts.0 salt_is rounds_are;
      client_is = answer.answers.1
          ∙ by_three (λ (w s : List ℕ) (n : ℕ). Answered (K.signature (K.server_key (K.salted_password pair.password s n)) (auth_message (said_of (bare_of pair) two.message) Unable w)))
          answer.nonce (whole_of pair) answer.salt pair.salt answer.rounds pair.rounds parts.0 salt_is rounds_are;
    }

proof_digest : (pair : Pair) (one : Opens pair) (two : Challenges pair one) → IsDigest (proof_of pair one two)
proof_digest pair one two = xor_digest _ _ (hmac_digest _ _) (hmac_digest _ _)

-- ---- the clauses

pub opening_is_taken : (pair : Pair) (one : Opens pair) → IsNoFirst (server_of pair) one.message → ⊥
opening_is_taken pair one none = none Unable pair.user pair.own (pair.named, pair.printable, one.is.0)

pub challenge_is_taken : (pair : Pair) (one : Opens pair) (two : Challenges pair one) → IsNoChallenge one.client two.message → ⊥
challenge_is_taken pair one two none =
    subst (λ (c : ScramClient). IsNoChallenge c two.message) one.is.1 none (whole_of pair) pair.salt pair.rounds (is_first pair one two)

pub proof_is_taken : (pair : Pair) (one : Opens pair) (two : Challenges pair one) (three : Proves pair one two) → IsNoLast two.server three.message → ⊥
proof_is_taken pair one two three none =
    subst (λ (s : ScramServer). IsNoLast s three.message) (second_parts pair one two).server_is none (proof_of pair one two)
    (proof_digest pair one two, (third_parts pair one two three).message_is)

-- one proof is in a last message
one_proof : (nonce proof other : List ℕ) → IsDigest proof → IsDigest other → client_final Unable nonce proof ≡ client_final Unable nonce other → proof ≡ other
one_proof nonce proof other a b e =
    base64_injective proof other a.1 b.1 (append_cancel_left (without_proof Unable nonce ++ codes ",p=") (in_base64 proof) (in_base64 other) e)

-- what a password's client proves is what its verifier asks for
proves_itself : (salted stored auth : List ℕ) → stored ≡ K.stored_key salted → K.Proves stored auth (K.client_proof salted auth)
proves_itself salted stored auth e =
    let sign = hmac_digest (K.stored_key salted) auth in
    let key = hmac_digest salted (codes "Client Key") in
    let back : xor_bytes (K.client_proof salted auth) (K.signature (K.stored_key salted) auth) ≡ K.client_key salted =
    xor_twice (K.client_key salted) (K.signature (K.stored_key salted) auth) (omega (arith, sign.0, key.0)) in
    subst (λ (s : List ℕ). K.Proves s auth (K.client_proof salted auth)) (sym e) (ap (λ (k : List ℕ). sha256 k) back)

pub proof_is_right : (pair : Pair) (one : Opens pair) (two : Challenges pair one) (three : Proves pair one two) → IsUnproven two.server three.message → ⊥
proof_is_right pair one two three unproven =
    let at = subst (λ (s : ScramServer). IsUnproven s three.message) (second_parts pair one two).server_is unproven in
    let same = one_proof (whole_of pair) at.proof (proof_of pair one two) at.said.0 (proof_digest pair one two) (sym at.said.1 ∙ (third_parts pair one two three).message_is) in
    at.wrong (subst (λ (p : List ℕ). K.Proves pair.verifier.stored (auth_of pair one two) p) (sym same)
    (proves_itself (salted_of pair) pair.verifier.stored (auth_of pair one two) pair.made.stored_is))

abbrev expected_of : (pair : Pair) (one : Opens pair) → Challenges pair one → List ℕ
expected_of pair one two = K.signature (K.server_key (salted_of pair)) (auth_of pair one two)

fourth_is : (pair : Pair) (one : Opens pair) (two : Challenges pair one) (three : Proves pair one two) (four : Shows pair one two three)
    → four.message ≡ server_final (expected_of pair one two)
fourth_is pair one two three four =
    let at = subst (λ (s : ScramServer). IsAccepted s three.message four.message) (second_parts pair one two).server_is four.is in
    at.verdict ∙ ap (λ (k : List ℕ). server_final (K.signature k (auth_of pair one two))) pair.made.server_is

pub verdict_is_taken : (pair : Pair) (one : Opens pair) (two : Challenges pair one) (three : Proves pair one two) (four : Shows pair one two three)
    → IsNoVerdict three.client four.message → ⊥
verdict_is_taken pair one two three four none =
    subst (λ (c : ScramClient). IsNoVerdict c four.message) (third_parts pair one two three).client_is none (expected_of pair one two)
    (hmac_digest _ _, fourth_is pair one two three four)

pub verdict_is_right : (pair : Pair) (one : Opens pair) (two : Challenges pair one) (three : Proves pair one two) (four : Shows pair one two three)
    → IsForged three.client four.message → ⊥
verdict_is_right pair one two three four forged =
    let at = subst (λ (c : ScramClient). IsForged c four.message) (third_parts pair one two three).client_is forged in
    let same = append_cancel_left (codes "v=") (in_base64 at.given) (in_base64 (expected_of pair one two)) (sym at.said.1 ∙ fourth_is pair one two three four) in
    at.other (base64_injective at.given (expected_of pair one two) at.said.0.1 (hmac_digest _ _).1 same)
