-- The text of a status is read as that status.
use Rattle.std.proofs.Common.{◌≡◌, ◌≤◌, ◌<◌, ◌+◌, ◌-◌, ◌*◌, ◌%◌, ◌^◌, ◌==◌, ◌&&◌, ℕ, zero, suc, Bool, true, false, not, List, [], ◌∷◌, ◌++◌, Option, Some, None, Result, Ok, Err, IfOk, length, take, drop, codes, get_or, nat_lt, nat_le, bytes_eq, refl, ap, sym, subst, ◌∙◌, if◌then◌else◌, append_assoc, arith}
use Rattle.std.proofs.Math.Seq.{take-append_seam, drop-append_seam}
use Rattle.std.proofs.lemmas.Bool.Decides.{nat_tests}
use Rattle.std.proofs.lemmas.Fmt.{decimal_by_steps, decimal_digit, decimal_nonempty, digits_decimal, digits_value-decimal, first_decimal, length-decimal-le}
use Rattle.std.proofs.lemmas.Slice.Eq.{bytes_eq-Decides}
use Rattle.std.proofs.lemmas.Str.Parse.{IsNumeralModel, numerals_by_fold, tells_all_ascii_digits}
use Rattle.std.specs.Char.{is_ascii_digit}
use Rattle.std.specs.Fmt.{decimal}
use Rattle.std.specs.Str.{all_ascii_digits}
use Rattle.pool_config.specs.Bytes.{lines, onto}
use Rattle.pool_config.specs.Value.{number_after, number_of}
use Rattle.serve_base.specs.Status.{are_plain, first_line, has_plain_state, is_plain, lacks, last_line, line_start, line_text, lines_from, state_text, status_text}
use Rattle.serve_base.specs.Reader.{◌>>=◌, begun, behind, closed, cut, cut_at, down_in, fault_behind, from_byte, front, host_in, if_port, is_short_numeral, joined, line_in, port_in, port_of, rows_in, state_in, status_in}
use Rattle.serve_base.specs.declared.status.Down.{Down}
use Rattle.serve_base.specs.declared.status.Standing.{Standing}
use Rattle.serve_base.specs.declared.status.StatusFault.{StatusFault}

both : (a b : Bool) → (a && b) ≡ true → (a ≡ true) × (b ≡ true)
both true b e = (refl, e)
both false b e = absurd (cc)

not_false : (t : Bool) → not t ≡ true → t ≡ false
not_false true e = absurd (cc)
not_false false e = refl

-- ---- bytes that lack a byte

lacks_append : (b : ℕ) (xs ys : List ℕ) → lacks b xs ≡ true → lacks b ys ≡ true → lacks b (xs ++ ys) ≡ true
lacks_append b [] ys h k = k
lacks_append b (x ∷ xs) ys h k =
    let p = both (not (x == b)) (lacks b xs) h in
    ap (λ (t : Bool). t && lacks b (xs ++ ys)) p.0 ∙ lacks_append b xs ys p.1 k

digit_other : (b k : ℕ) → b < 48 → ((48 + k) == b) ≡ false
digit_other b k low = grind (arith, nat_tests)

lacks_digit : (b k : ℕ) → b < 48 → lacks b ((48 + k) ∷ []) ≡ true
lacks_digit b k low = ap (λ (t : Bool). not t && true) (digit_other b k low)

lacks_decimal : (b n : ℕ) → b < 48 → n < 2 ^ 64 → lacks b (decimal n) ≡ true
lacks_decimal b n low fits = decimal_by_steps (λ m ds. lacks b ds ≡ true)
    (λ m small. lacks_digit b m low)
    (λ m ds large h. lacks_append b ds ((48 + m % 10) ∷ []) h (lacks_digit b (m % 10) low)) n fits

same_byte : (b : ℕ) → (b == b) ≡ true
same_byte b = grind (arith, nat_tests)

front_found : (b : ℕ) (xs ys : List ℕ) → lacks b xs ≡ true → front b (xs ++ b ∷ ys) ≡ xs
front_found b [] ys h = ap (λ (t : Bool). if t then [] else b ∷ front b ys) (same_byte b)
front_found b (x ∷ xs) ys h =
    let p = both (not (x == b)) (lacks b xs) h in
    ap (λ (t : Bool). if t then [] else x ∷ front b (xs ++ b ∷ ys)) (not_false (x == b) p.0) ∙ ap (λ (zs : List ℕ). x ∷ zs) (front_found b xs ys p.1)

from_found : (b : ℕ) (xs ys : List ℕ) → lacks b xs ≡ true → from_byte b (xs ++ b ∷ ys) ≡ b ∷ ys
from_found b [] ys h = ap (λ (t : Bool). if t then b ∷ ys else from_byte b ys) (same_byte b)
from_found b (x ∷ xs) ys h =
    let p = both (not (x == b)) (lacks b xs) h in
    ap (λ (t : Bool). if t then x ∷ (xs ++ b ∷ ys) else from_byte b (xs ++ b ∷ ys)) (not_false (x == b) p.0) ∙ from_found b xs ys p.1

cut_again : (b : ℕ) (xs ys : List ℕ) → lacks b xs ≡ true → cut b (xs ++ b ∷ ys) ≡ Some (xs, ys)
cut_again b xs ys h =
    ap (λ (f : List ℕ). cut_at f (from_byte b (xs ++ b ∷ ys))) (front_found b xs ys h) ∙ ap (cut_at xs) (from_found b xs ys h)

behind_again : (first rest : List ℕ) → behind first (first ++ rest) ≡ Some rest
behind_again first rest =
    ap (λ (front : List ℕ). if bytes_eq front first then Some (drop (length first) (first ++ rest)) else None) (take-append_seam first rest)
    ∙ (ap (λ (t : Bool). if t then Some (drop (length first) (first ++ rest)) else None) ((bytes_eq-Decides first first).1 refl)
    ∙ ap (λ (r : List ℕ). Some r) (drop-append_seam first rest))

lines_line : (line rest : List ℕ) → lacks 10 line ≡ true → lines (line ++ 10 ∷ rest) ≡ line ∷ lines rest
lines_line [] rest h = refl
lines_line (x ∷ line) rest h =
    let p = both (not (x == 10)) (lacks 10 line) h in
    ap (λ (t : Bool). if t then [] ∷ lines (line ++ 10 ∷ rest) else onto x (lines (line ++ 10 ∷ rest))) (not_false (x == 10) p.0)
    ∙ ap (onto x) (lines_line line rest p.1)

-- ---- a port

abbrev read_on : ℕ → List ℕ → ℕ
read_on n [] = n
read_on n (c ∷ cs) = read_on (n * 10 + (c - 48)) cs

own : IsNumeralModel (λ ds. all_ascii_digits ds ≡ true) (read_on 0)
own = numerals_by_fold _ tells_all_ascii_digits read_on (record { empty = λ n. refl; more = λ n c cs h. refl })

digits_after : (n : ℕ) (ds : List ℕ) → all_ascii_digits ds ≡ true → number_after n ds ≡ Some (read_on n ds)
digits_after n [] h = refl
digits_after n (d ∷ ds) h =
    let p = both (is_ascii_digit d) (all_ascii_digits ds) h in
    ap (λ (t : Bool). if t then number_after (n * 10 + (d - 48)) ds else None) p.0 ∙ digits_after (n * 10 + (d - 48)) ds p.1

number_again : (n : ℕ) → n < 65536 → number_of (decimal n) ≡ Some n
number_again n small =
    let fits : n < 2 ^ 64 = omega arith in
    let digits : all_ascii_digits (decimal n) ≡ true = digits_decimal own n fits in
    let is : read_on 0 (decimal n) ≡ n = digits_value-decimal own n fits in
    let some : 0 < length (decimal n) = decimal_nonempty n fits in
    let few : length (decimal n) ≤ 10 = length-decimal-le 10 n (omega arith) (omega arith) fits in
    let test_some : nat_lt 0 (length (decimal n)) ≡ true = grind (arith, nat_tests) in
    let test_few : nat_le (length (decimal n)) 10 ≡ true = grind (arith, nat_tests) in
    ap (λ (t : Bool). if t && nat_le (length (decimal n)) 10 then number_after 0 (decimal n) else None) test_some
    ∙ (ap (λ (t : Bool). if t then number_after 0 (decimal n) else None) test_few
    ∙ (digits_after 0 (decimal n) digits ∙ ap (λ (k : ℕ). Some k) is))

-- a numeral of two digits or more is of a number from ten on
several : (n : ℕ) → n < 65536 → 2 ≤ length (decimal n) → 10 ≤ n
several n small long = go (nat_lt n 10) refl
  where
    go : (t : Bool) → nat_lt n 10 ≡ t → 10 ≤ n
    go true e =
        let low : n < 10 = grind (arith, nat_tests) in
        let l = ap length (decimal_digit n low) in absurd (omega arith)
    go false e = grind (arith, nat_tests)

short_again : (n : ℕ) (ds : List ℕ) → ds ≡ decimal n → n < 65536 → is_short_numeral ds ≡ true
short_again n [] e small = let some = decimal_nonempty n (omega arith) in let l = ap length e in absurd (omega arith)
short_again n (d ∷ []) e small = refl
short_again n (d ∷ f ∷ rest) e small =
    let few : length (decimal n) ≤ 5 = length-decimal-le 5 n (omega arith) (omega arith) (omega arith) in
    let l : length (d ∷ f ∷ rest) ≡ length (decimal n) = ap length e in
    let large : 10 ≤ n = several n small (omega arith) in
    let high : 48 < get_or (decimal n) 0 0 = first_decimal n (omega arith) (omega arith) in
    let first : d ≡ get_or (decimal n) 0 0 = ap (λ (xs : List ℕ). get_or xs 0 0) e in
    let other : (d == 48) ≡ false = grind (arith, nat_tests) in
    let fits : nat_le (length rest) 3 ≡ true = grind (arith, nat_tests) in
    ap (λ (t : Bool). if t then false else nat_le (length rest) 3) other ∙ fits

port_again : (n : ℕ) → n < 65536 → port_of (decimal n) ≡ Some n
port_again n small =
    let test : nat_lt n 65536 ≡ true = grind (arith, nat_tests) in
    ap (λ (t : Bool). if t then if_port (number_of (decimal n)) else None) (short_again n (decimal n) refl small)
    ∙ (ap if_port (number_again n small) ∙ ap (λ (t : Bool). if t then Some n else None) test)

-- ---- a line

state_again : (down : Option Down) → has_plain_state down ≡ true → state_in (state_text down) ≡ Some down
state_again None h = refl
state_again (Some d) h =
    let p = both (lacks 32 d.since && lacks 10 d.since) (lacks 10 d.why) h in
    let q = both (lacks 32 d.since) (lacks 10 d.since) p.0 in
    ap (λ (o : Option (List ℕ)). o >>= λ rest. cut 32 rest >>= λ p. Some (Some (record { since = p.0; why = p.1 }))) (behind_again (codes "down ") (d.since ++ 32 ∷ d.why))
    ∙ ap (λ (o : Option (List ℕ × List ℕ)). o >>= λ p. Some (Some (record { since = p.0; why = p.1 }))) (cut_again 32 d.since d.why q.0)

port_read : (n : ℕ) (state : List ℕ) → n < 65536 → port_in (32 ∷ (decimal n ++ 32 ∷ state)) ≡ Some (n, state)
port_read n state small =
    ap (λ (o : Option (List ℕ)). o >>= λ rest. cut 32 rest >>= λ p. port_of p.0 >>= λ n. Some (n, p.1)) (behind_again (codes " ") (decimal n ++ 32 ∷ state))
    ∙ (ap (λ (o : Option (List ℕ × List ℕ)). o >>= λ p. port_of p.0 >>= λ n. Some (n, p.1)) (cut_again 32 (decimal n) state (lacks_decimal 32 n (omega arith) (omega arith)))
    ∙ ap (λ (o : Option ℕ). o >>= λ n. Some (n, state)) (port_again n small))

record ArePlain (s : Standing) : Type 0 where
  port : s.port < 65536
  quote : lacks 39 s.host ≡ true
  host : lacks 10 s.host ≡ true
  state : has_plain_state s.down ≡ true

plain_parts : (s : Standing) → is_plain s ≡ true → ArePlain s
plain_parts s h =
    let p = both (nat_lt s.port 65536) ((lacks 39 s.host && lacks 10 s.host) && has_plain_state s.down) h in
    let q = both (lacks 39 s.host && lacks 10 s.host) (has_plain_state s.down) p.1 in
    let r = both (lacks 39 s.host) (lacks 10 s.host) q.0 in
    let small : nat_lt s.port 65536 ≡ true = p.0 in
    record { port = grind (arith, nat_tests); quote = r.0; host = r.1; state = q.1 }

line_again : (n : ℕ) (s : Standing) → is_plain s ≡ true → line_in n (line_text n s) ≡ Some s
unfolding line_in
line_again n s plain =
    let p = plain_parts s plain in
    let state : List ℕ = state_text s.down in
    let rest : List ℕ = 32 ∷ (decimal s.port ++ 32 ∷ state) in
    let host : host_in (line_start n) (line_text n s) ≡ Some (s.host, rest) =
    ap (λ (o : Option (List ℕ)). o >>= λ r. cut 39 r) (behind_again (line_start n) (s.host ++ 39 ∷ rest)) ∙ cut_again 39 s.host rest p.quote in
    ap (λ (o : Option (List ℕ × List ℕ)). o >>= λ h. port_in h.1 >>= λ p. state_in p.1 >>= λ down. Some (record { host = h.0; port = p.0; down = down })) host
    ∙ (ap (λ (o : Option (ℕ × List ℕ)). o >>= λ p. state_in p.1 >>= λ down. Some (record { host = s.host; port = p.0; down = down })) (port_read s.port state p.port)
    ∙ ap (λ (o : Option (Option Down)). o >>= λ down. Some (record { host = s.host; port = s.port; down = down })) (state_again s.down p.state))

state_lacks : (down : Option Down) → has_plain_state down ≡ true → lacks 10 (state_text down) ≡ true
state_lacks None h = refl
state_lacks (Some d) h =
    let p = both (lacks 32 d.since && lacks 10 d.since) (lacks 10 d.why) h in
    let q = both (lacks 32 d.since) (lacks 10 d.since) p.0 in
    lacks_append 10 d.since (32 ∷ d.why) q.1 p.1

line_lacks : (n : ℕ) (s : Standing) → is_plain s ≡ true → n < 2 ^ 64 → lacks 10 (line_text n s) ≡ true
line_lacks n s plain fits =
    let p = plain_parts s plain in
    let start : lacks 10 (line_start n) ≡ true = lacks_append 10 (decimal n) (codes " '") (lacks_decimal 10 n (omega arith) fits) refl in
    lacks_append 10 (line_start n) _ start
    (lacks_append 10 s.host _ p.host
    (lacks_append 10 (decimal s.port) (32 ∷ state_text s.down) (lacks_decimal 10 s.port (omega arith) (let l = p.port in omega arith)) (state_lacks s.down p.state)))

-- ---- a text

rows_again : (all : List Standing) (n : ℕ) → are_plain all ≡ true → n + length all < 2 ^ 64 → rows_in n (lines (lines_from n all)) ≡ Ok all
rows_again [] n plain fits =
    ap (rows_in n) (lines_line (last_line n) [] (lacks_decimal 10 n (omega arith) (omega arith)))
    ∙ ap (λ (t : Bool). if t then closed (fault_behind n ([] ∷ [])) else joined n (line_in n (last_line n)) (rows_in (n + 1) ([] ∷ []))) ((bytes_eq-Decides (last_line n) (last_line n)).1 refl)
rows_again (s ∷ rest) n plain fits =
    let p = both (is_plain s) (are_plain rest) plain in
    ap (rows_in n) (lines_line (line_text n s) (lines_from (n + 1) rest) (line_lacks n s p.0 (omega arith)))
    ∙ (ap (λ (o : Option Standing). joined n o (rows_in (n + 1) (lines (lines_from (n + 1) rest)))) (line_again n s p.0)
    ∙ ap (joined n (Some s)) (rows_again rest (n + 1) p.1 (omega arith)))

pub status_again : (all : List Standing) → are_plain all ≡ true → length all < 4294967295 → status_in (status_text all) ≡ Ok all
unfolding status_in
status_again all plain few =
    ap begun (lines_line first_line (lines_from 0 all) refl) ∙ rows_again all 0 plain (omega arith)

pub read_back_if : {E : Type 0} (all : List Standing) (r : Result (List ℕ) E) → are_plain all ≡ true → length all < 4294967295 → IfOk r (λ text. text ≡ status_text all) → IfOk r (λ text. status_in text ≡ Ok all)
read_back_if all (Ok text) plain few e = ap status_in e ∙ status_again all plain few
read_back_if all (Err f) plain few e = tt
