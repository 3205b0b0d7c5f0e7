-- The text of a code has room in a message.
use Rattle.std.proofs.Common.{◌≡◌, ◌≤◌, ℕ, Bool, true, false, List, length, refl, arith, codes}
use Rattle.std.specs.Prelude.{bytes_eq, if◌then◌else◌, ◌&&◌, nat_le}
use Rattle.std.proofs.lemmas.Bool.{false≢true, leb-true}
use Rattle.pg_values.specs.Range.{HasNoZero}
use Rattle.checked_sql.specs.Sound.{has_no_zero}
use Rattle.play.specs.Codes.{is, running_text, statement_text, text_of_code}
use Rattle.play.specs.Answering.{IsShort}
use Rattle.play.proofs.RowLemmas.{no_zero}

abbrev pub is_short : List ℕ → Bool
is_short text = nat_le (length text) 900 && has_no_zero text

both_of : (a b : Bool) → (a && b) ≡ true → (a ≡ true) × (b ≡ true)
both_of true b e = (refl, e)
both_of false b e = absurd (false≢true e)

-- it leaves room for a name
pub front_fits : (text : List ℕ) → is_short text ≡ true → (length text ≤ 900) × HasNoZero text
front_fits text e =
    let both = both_of (nat_le (length text) 900) (has_no_zero text) e in
    (leb-true (length text) 900 both.0, no_zero text both.1)

pub tested : (text : List ℕ) → is_short text ≡ true → IsShort text
tested text e =
    let fits = front_fits text e in
    let le : length text ≤ 900 = fits.0 in
    (omega (arith, le), fits.1)

pub choice : (code wanted text other : List ℕ) → IsShort text → IsShort other → IsShort (is code wanted text other)
choice code wanted text other p q = go (bytes_eq code wanted)
  where
    go : (b : Bool) → IsShort (if b then text else other)
    go true = p
    go false = q

running_short : (code : List ℕ) → IsShort (running_text code)
unfolding running_text
running_short code =
    choice code (codes "23502") (codes "null value in a NOT NULL column") _ (tested (codes "null value in a NOT NULL column") refl)
    (choice code (codes "23505") (codes "duplicate key") _ (tested (codes "duplicate key") refl)
    (choice code (codes "40001") (codes "could not serialize access due to concurrent update") _ (tested (codes "could not serialize access due to concurrent update") refl)
    (choice code (codes "40P01") (codes "deadlock detected") _ (tested (codes "deadlock detected") refl)
    (choice code (codes "53200") (codes "out of memory") _ (tested (codes "out of memory") refl)
    (choice code (codes "54000") (codes "a limit was passed") _ (tested (codes "a limit was passed") refl)
    (tested (codes "refused by the backends") refl))))))

statement_short : (code : List ℕ) → IsShort (statement_text code)
unfolding statement_text
statement_short code =
    choice code (codes "2200H") (codes "serial numbers are spent") _ (tested (codes "serial numbers are spent") refl)
    (choice code (codes "2201W") (codes "LIMIT must not be negative") _ (tested (codes "LIMIT must not be negative") refl)
    (choice code (codes "42804") (codes "types do not fit") _ (tested (codes "types do not fit") refl)
    (choice code (codes "42P02") (codes "there is no parameter") _ (tested (codes "there is no parameter") refl)
    (choice code (codes "54011") (codes "too many columns") _ (tested (codes "too many columns") refl)
    (running_short code)))))

pub code_short : (code : List ℕ) → IsShort (text_of_code code)
unfolding text_of_code
code_short code =
    choice code (codes "22003") (codes "integer out of range") _ (tested (codes "integer out of range") refl)
    (choice code (codes "22007") (codes "invalid moment") _ (tested (codes "invalid moment") refl)
    (choice code (codes "22008") (codes "moment out of range") _ (tested (codes "moment out of range") refl)
    (choice code (codes "22012") (codes "division by zero") _ (tested (codes "division by zero") refl)
    (choice code (codes "22021") (codes "invalid UTF-8") _ (tested (codes "invalid UTF-8") refl)
    (choice code (codes "22P02") (codes "invalid input text") _ (tested (codes "invalid input text") refl)
    (statement_short code))))))
