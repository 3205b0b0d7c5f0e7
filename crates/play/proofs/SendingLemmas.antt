-- Messages sent one after another, and which messages can be sent.
use Rattle.std.proofs.Common.{◌≡◌, ◌≢◌, ℕ, ◌+◌, ◌^◌, ◌%◌, ◌<◌, ◌≤◌, suc, zero, Bool, true, false, ltb, leb, List, [], ◌∷◌, ◌++◌, length, refl, sym, ap, ◌∙◌, arith, codes, lit<, lit≤, inl, inr}
use Rattle.pg_messages.specs.declared.server.Part.{Part}
use Rattle.std.specs.Prelude.{◌&&◌}
use Rattle.std.proofs.Props.{props}
use Rattle.std.specs.List.{All}
use Rattle.std.specs.Fmt.{decimal}
use Rattle.std.proofs.Math.Logic.{∥∥₁_elim}
use Rattle.std.proofs.lemmas.List.{append_assoc, append-nil, length-append}
use Rattle.std.proofs.lemmas.List.Concat.{flat_map-append}
use Rattle.std.proofs.lemmas.List.Elements.{All-nil, All-cons, All-append}
use Rattle.std.proofs.lemmas.Fmt.{decimal_by_steps, length-decimal-le}
use Rattle.std.proofs.lemmas.Bool.{false≢true}
use borrow.Author.Tests.{ltb-true, leb-true}
use Rattle.pg_messages.specs.declared.server.ServerMessage.{ServerMessage}
use Rattle.pg_messages.specs.declared.server.ServerMessage.TheVariants.{ParameterStatus, Complete, Empty, Ready}
use Rattle.pg_messages.specs.Fields.{IsString, PartFits}
use Rattle.pg_messages.specs.Server.{spelling, Fits}
use Rattle.pg_values.specs.Range.{HasNoZero}
use Rattle.pool_base.specs.Codes.{IsCodeByte, IsCode}
use Rattle.catalogue.specs.declared.checked.CheckedBody.{CheckedBody}
use Rattle.catalogue.specs.declared.checked.CheckedBody.TheVariants as body
use Rattle.play.specs.Answering.{IsShort}
use Rattle.play.specs.Replies.{spelled_all, IsReadAgain, AreReadAgain, Sent, error_message, part, tag_of}
use Rattle.play.specs.Opening.{is_string, is_label}

pub sent_none : (a : List ℕ) → Sent a a []
sent_none a = record { bytes = sym (append-nil a); again = tt }

pub sent_one : (a b : List ℕ) (message : ServerMessage) → b ≡ a ++ spelling message → IsReadAgain message → Sent a b (message ∷ [])
sent_one a b message is again = record { bytes = is ∙ ap (λ z. a ++ z) (sym (append-nil (spelling message))); again = (again, tt) }

again_both : (xs ys : List ServerMessage) → AreReadAgain xs → AreReadAgain ys → AreReadAgain (xs ++ ys)
again_both [] ys p q = q
again_both (x ∷ xs) ys p q = (p.0, again_both xs ys p.1 q)

pub sent_on : (a b c : List ℕ) (xs ys : List ServerMessage) → Sent a b xs → Sent b c ys → Sent a c (xs ++ ys)
sent_on a b c xs ys p q = record {
  bytes = q.bytes ∙ ap (λ z. z ++ spelled_all ys) p.bytes ∙ append_assoc a (spelled_all xs) (spelled_all ys) ∙ ap (λ z. a ++ z) (sym (flat_map-append spelling xs ys));
  again = again_both xs ys p.again q.again;
}

-- one message, and then others
pub sent_then : {a b c : List ℕ} {x : ServerMessage} {ys : List ServerMessage} → Sent a b (x ∷ []) → Sent b c ys → Sent a c (x ∷ ys)
sent_then {a} {b} {c} {x} {ys} p q = sent_on a b c (x ∷ []) ys p q

-- ---- strings

left_of : (a b : Bool) → (a && b) ≡ true → a ≡ true
left_of true b h = refl
left_of false b h = h

right_of : (a b : Bool) → (a && b) ≡ true → b ≡ true
right_of true b h = h
right_of false b h = absurd (false≢true h)

pub string_is : (text : List ℕ) → is_string text ≡ true → IsString text
string_is [] h = All-nil (λ b. 0 < b)
string_is (byte ∷ bytes) h = All-cons (λ b. 0 < b) byte bytes (ltb-true 0 byte (left_of (ltb 0 byte) (is_string bytes) h)) (string_is bytes (right_of (ltb 0 byte) (is_string bytes) h))

positive : (b : ℕ) → b ≢ 0 → 0 < b
positive zero other = absurd (other refl)
positive (suc b) other = omega arith

pub no_zero_is : (text : List ℕ) → HasNoZero text → IsString text
no_zero_is text all = λ k d below. positive _ (all k d below)

pub digits_are : (n : ℕ) → n < 2 ^ 64 → IsString (decimal n)
digits_are n small = decimal_by_steps (λ n ds. IsString ds) (λ n below. All-cons (λ b. 0 < b) (48 + n) [] (omega arith) (All-nil (λ b. 0 < b)))
    (λ n ds low is. All-append (λ b. 0 < b) ds ((48 + n % 10) ∷ []) is (All-cons (λ b. 0 < b) (48 + n % 10) [] (omega arith) (All-nil (λ b. 0 < b)))) n small

pub short_digits : (n : ℕ) → n < 2 ^ 64 → length (decimal n) ≤ 20
short_digits n small = let big : 2 ^ 64 ≤ 10 ^ 20 = lit≤ tt in length-decimal-le 20 n (lit< tt) (omega arith) small

tag_fits : (name : List ℕ) (n : ℕ) → is_label name ≡ true → n < 2 ^ 64 → Fits (Complete (name ++ decimal n))
tag_fits name n label small =
    let short : length name ≤ 100 = leb-true (length name) 100 (left_of (leb (length name) 100) (is_string name) label) in
    let digits : length (decimal n) ≤ 20 = short_digits n small in (
      All-append (λ b. 0 < b) name (decimal n) (string_is name (right_of (leb (length name) 100) (is_string name) label)) (digits_are n small),
      tt,
      simp length-append (omega arith),
    )

pub done_fits : (body : CheckedBody) (n : ℕ) → n < 2 ^ 64 → Fits (Complete (tag_of body n))
done_fits (body.Read read) n small = tag_fits (codes "SELECT ") n refl small
done_fits (body.Insert insert) n small = tag_fits (codes "INSERT 0 ") n refl small
done_fits (body.Change change) n small = tag_fits (codes "UPDATE ") n refl small
done_fits (body.Remove remove) n small = tag_fits (codes "DELETE ") n refl small

pub setting_fits : (name setting : List ℕ) → is_label name ≡ true → is_label setting ≡ true → Fits (ParameterStatus name setting)
setting_fits name setting a b =
    let short : length name ≤ 100 = leb-true (length name) 100 (left_of (leb (length name) 100) (is_string name) a) in
    let short2 : length setting ≤ 100 = leb-true (length setting) 100 (left_of (leb (length setting) 100) (is_string setting) b) in (
      (string_is name (right_of (leb (length name) 100) (is_string name) a), string_is setting (right_of (leb (length setting) 100) (is_string setting) b)),
      tt,
      simp length-append (omega arith),
    )

-- ---- errors
byte_is : (byte : ℕ) → IsCodeByte byte → 0 < byte
byte_is byte (inl digit) = omega arith
byte_is byte (inr letter) = omega arith

pub code_is : (code : List ℕ) → ∥ IsCode code ∥₁ → IsString code
code_is code spelled = λ k d below. ∥∥₁_elim spelled (hlevel props) (λ is. byte_is _ (is k d below))

four_parts : (a b c d : Part) → PartFits a → PartFits b → PartFits c → PartFits d → All PartFits (a ∷ b ∷ c ∷ d ∷ [])
four_parts a b c d p q r t = All-cons PartFits a (b ∷ c ∷ d ∷ []) p (All-cons PartFits b (c ∷ d ∷ []) q (All-cons PartFits c (d ∷ []) r (All-cons PartFits d [] t (All-nil PartFits))))

piece : (tag : ℕ) (text : List ℕ) → length text ≤ 1000 → length (tag ∷ (text ++ 0 ∷ [])) ≤ 2000
piece tag text short = simp length-append (omega arith)

short_parts : (a b c d : List ℕ) → length a ≤ 2000 → length b ≤ 2000 → length c ≤ 2000 → length d ≤ 2000 → length ((a ++ (b ++ (c ++ (d ++ [])))) ++ 0 ∷ []) + 4 ≤ 1048576
short_parts a b c d p q r t = simp length-append (omega arith)

pub error_fits : (code text : List ℕ) → length code ≡ 5 → IsString code → IsShort text → Fits (error_message code text)
unfolding error_message
error_fits code text five is short =
    let severity : IsString (codes "ERROR") = string_is (codes "ERROR") refl in (
      four_parts (part 83 (codes "ERROR")) (part 86 (codes "ERROR")) (part 67 code) (part 77 text) (lit< tt, severity) (lit< tt, severity) (lit< tt, is)
          (lit< tt, no_zero_is text short.1),
      lit< tt,
      short_parts (83 ∷ (codes "ERROR" ++ 0 ∷ [])) (86 ∷ (codes "ERROR" ++ 0 ∷ [])) (67 ∷ (code ++ 0 ∷ [])) (77 ∷ (text ++ 0 ∷ [])) (lit≤ tt) (lit≤ tt) (piece 67 code (omega arith)) (piece 77 text short.0),
    )

pub empty_fits : Fits Empty
empty_fits = (tt, tt, lit≤ tt)

pub ready_fits : Fits (Ready 73)
ready_fits = (inl refl, tt, lit≤ tt)
