-- The words that begin with a letter stand together in the table of words.
use Rattle.std.proofs.Common.{◌≡◌, ◌∙◌, ℕ, ◌<◌, ◌≤◌, ◌+◌, ◌-◌, Bool, true, false, not, ◌&&◌, ◌||◌, leb, List, take, drop, slice_index_or, sym, ap, subst, refl, inl, inr, arith}
use Rattle.std.specs.Prelude.{Contains, bytes_eq}
use Rattle.std.specs.List.{list_all, list_any, range_with_len}
use Rattle.std.proofs.lemmas.Bool.{and_parts, or_cases, leb-true, true≢false}
use Rattle.std.proofs.lemmas.List.Folds.{Any-from_list_any}
use Rattle.std.proofs.lemmas.List.Sums.{AllPass-from_list_all}
use Rattle.std.proofs.lemmas.List.FromFn.{get_or-range_with_len}
use Rattle.std.proofs.lemmas.Slice.Eq.{bytes_eq-Decides}
use Rattle.sql_tokens.specs.declared.word.Word.{Word}
use Rattle.sql_tokens.specs.declared.word.TheConstants.{WORDS, STARTS}
use Rattle.sql_tokens.specs.Words.{spelling}
use Rattle.sql_tokens.specs.Bytes.{begins_with}
use Rattle.sql_tokens.proofs.Words.{every_word, spelled_once}

-- where the words of a letter begin, which is counted from `a`
abbrev pub start : ℕ → ℕ
start n = slice_index_or STARTS n 0

-- the words of a letter
abbrev pub part : ℕ → List Word
part n = take (start (n + 1) - start n) (drop (start n) WORDS)

-- the other word is this one
abbrev is_word : Word → Word → Bool
is_word word other = bytes_eq (spelling other) (spelling word)

-- the word does not begin with the letter, or is of its part
abbrev stands : ℕ → Word → Bool
stands n word = not (begins_with (97 + n) (spelling word)) || list_any (is_word word) (part n)

-- the part is within the table
abbrev is_within : ℕ → Bool
is_within n = leb (start n) (start (n + 1)) && leb (start (n + 1)) 105

-- the part is within the table, and has all words that begin with the letter
abbrev is_right : ℕ → Bool
is_right n = is_within n && list_all (stands n) WORDS

right : (n : ℕ) → n < 26 → (is_within n ≡ true) × (list_all (stands n) WORDS ≡ true)
right n below =
    let at : slice_index_or (range_with_len 0 26) n 0 ≡ n = omega (arith, get_or-range_with_len 0 26 n 0 below) in
    let all = AllPass-from_list_all is_right (range_with_len 0 26) refl n 0 below in
    and_parts (is_within n) (list_all (stands n) WORDS) (subst (λ (k : ℕ). is_right k ≡ true) at all)

pub bounds : (n : ℕ) → n < 26 → (start n ≤ start (n + 1)) × (start (n + 1) ≤ 105)
bounds n below =
    let two = and_parts (leb (start n) (start (n + 1))) (leb (start (n + 1)) 105) (right n below).0 in
    (leb-true (start n) (start (n + 1)) two.0, leb-true (start (n + 1)) 105 two.1)

stands_at : (n : ℕ) → n < 26 → (word : Word) → stands n word ≡ true
stands_at n below word =
    let at = every_word word in
    subst (λ (w : Word). stands n w ≡ true) at.2 (AllPass-from_list_all (stands n) WORDS (right n below).1 at.0 word at.1)

found : (words : List Word) (word : Word) → list_any (is_word word) words ≡ true → Contains words word
found words word e =
    let at = Any-from_list_any (is_word word) words e in
    let same = spelled_once at.1 word ((bytes_eq-Decides (spelling at.1) (spelling word)).0 at.4) in
    (at.0, at.2, subst (λ (w : Word). slice_index_or words at.0 w ≡ w) same at.3)

pub contained : (n : ℕ) → n < 26 → (word : Word) → begins_with (97 + n) (spelling word) ≡ true → Contains (part n) word
contained n below word begins =
    elim (or_cases (not (begins_with (97 + n) (spelling word))) (list_any (is_word word) (part n)) (stands_at n below word))
    as (λ _. Contains (part n) word) [ inl e ↦ absurd (true≢false (sym e ∙ ap not begins)) | inr e ↦ found (part n) word e ]
