-- Words and names, as they are written, are read back.
use Rattle.std.proofs.Common.{◌≡◌, ◌∙◌, ◌==◌, ◌||◌, ◌&&◌, ◌<◌, ◌≤◌, not, ℕ, Bool, true, false, List, [], ◌∷◌, ◌++◌, length, get_or, map, refl, sym, ap, ap₂, subst, inl, inr, if◌then◌else◌, lit<, arith}
use Rattle.std.specs.Prelude.{bytes_eq, ◌≢◌}
use Rattle.std.specs.List.{list_all, list_any, AllPass}
use Rattle.std.specs.Char.{to_ascii_lowercase, to_ascii_uppercase}
use Rattle.std.proofs.lemmas.Bool.{and_parts, and_from, or_cases, or_left, eqb-true, ne_eqb, not_from_false, true≢false, not-true, le-leb, cond-true, agree_below_at}
use Rattle.std.proofs.lemmas.Bool.Decides.{nat_tests}
use Rattle.std.proofs.lemmas.List.Folds.{list_any_at}
use Rattle.std.proofs.lemmas.List.Sums.{AllPass-from_list_all}
use Rattle.std.proofs.lemmas.Slice.Eq.{bytes_eq-Decides}
use Rattle.sql_tokens.specs.declared.bytes.Class.TheVariants as classes
use Rattle.sql_tokens.specs.declared.bytes.Kind.{Kind}
use Rattle.sql_tokens.specs.declared.bytes.Kind.TheVariants as kinds
use Rattle.sql_tokens.specs.declared.piece.Piece.TheVariants.{Token}
use Rattle.sql_tokens.specs.declared.token.Token.{Token as AnyToken}
use Rattle.sql_tokens.specs.declared.token.Token.TheVariants.{Word as WordToken, Name as NameToken, Fault}
use Rattle.sql_tokens.specs.declared.token.TokenFault.TheVariants.{LongName}
use Rattle.sql_tokens.specs.declared.word.Word.{Word}
use Rattle.sql_tokens.specs.declared.word.TheConstants.{WORDS}
use Rattle.sql_tokens.specs.Words.{spelling}
use Rattle.sql_tokens.specs.Bytes.{has, front, behind, begins_name, begins_digit, kind_of}
use Rattle.sql_tokens.specs.Pieces.{IsCalled, NameOf, PieceBy, PieceOf, name_token}
use Rattle.sql_tokens.proofs.Words.{every_word}
use Rattle.sql_print.specs.Spelling.{begins_plain, goes_on_plain, is_plain, is_reserved}
use Rattle.sql_profile.proofs.Runs.{Stops, run_front, run_behind, begins_other}

-- a letter and bytes of names are what they are called
pub called_piece : (b : ℕ) (run rest : List ℕ) (token : AnyToken) → begins_name b ≡ true → list_all (has classes.Name) run ≡ true
    → Stops classes.Name rest → IsCalled (map to_ascii_lowercase (b ∷ run)) token → PieceOf (b ∷ (run ++ rest)) (Token token) rest
called_piece b run rest token first all stop called =
    let every : list_all (has classes.Name) (b ∷ run) ≡ true =
    and_from (has classes.Name b) (list_all (has classes.Name) run) (or_left (begins_name b) _ first) all in
    let f = run_front classes.Name (b ∷ run) rest every stop in
    let r = run_behind classes.Name (b ∷ run) rest every stop in
    let kind : kind_of b ≡ kinds.Letter = cond-true (begins_name b) kinds.Letter _ first in
    let name : NameOf (b ∷ (run ++ rest)) (Token token) rest =
    (token, subst (λ (xs : List ℕ). IsCalled (map to_ascii_lowercase xs) token) (sym f) called, (refl, sym r)) in
    subst (λ (k : Kind). PieceBy k (b ∷ (run ++ rest)) (run ++ rest) (Token token) rest) (sym kind) name

-- ---- words, in upper case

abbrev upper : Word → List ℕ
upper word = map to_ascii_uppercase (spelling word)

abbrev is_called : List ℕ → Bool
is_called [] = false
is_called (b ∷ run) = begins_name b && list_all (has classes.Name) run

abbrev is_word : Word → Bool
is_word word = is_called (upper word) && bytes_eq (map to_ascii_lowercase (upper word)) (spelling word)

words_are : AllPass is_word WORDS
words_are = AllPass-from_list_all is_word WORDS refl

word_is : (word : Word) → is_word word ≡ true
word_is word =
    let at = every_word word in
    subst (λ (w : Word). is_word w ≡ true) at.2 (words_are at.0 word at.1)

called_from : (text rest : List ℕ) (token : AnyToken) → is_called text ≡ true → Stops classes.Name rest
    → IsCalled (map to_ascii_lowercase text) token → PieceOf (text ++ rest) (Token token) rest
called_from [] rest token is stop called = absurd (true≢false (sym is))
called_from (b ∷ run) rest token is stop called =
    let parts = and_parts (begins_name b) (list_all (has classes.Name) run) is in
    called_piece b run rest token parts.0 parts.1 stop called

pub word_piece : (word : Word) (rest : List ℕ) → Stops classes.Name rest
    → PieceOf (map to_ascii_uppercase (spelling word) ++ rest) (Token (WordToken word)) rest
word_piece word rest stop =
    let parts = and_parts (is_called (upper word)) (bytes_eq (map to_ascii_lowercase (upper word)) (spelling word)) (word_is word) in
    let same : map to_ascii_lowercase (upper word) ≡ spelling word = (bytes_eq-Decides (map to_ascii_lowercase (upper word)) (spelling word)).0 parts.1 in
    called_from (upper word) rest (WordToken word) parts.0 stop (inl (word, sym same, refl))

-- ---- names without quotes

-- what a plain name's bytes are
abbrev plain_byte : ℕ → Bool
plain_byte b = not (goes_on_plain b) || (has classes.Name b && (to_ascii_lowercase b == b))

plain_low : (b : ℕ) → goes_on_plain b ≡ true → b < 128
plain_low b e = grind (arith, nat_tests)

plain_is : (b : ℕ) → goes_on_plain b ≡ true → (has classes.Name b ≡ true) × (to_ascii_lowercase b ≡ b)
plain_is b e =
    let shown : plain_byte b ≡ true = agree_below_at plain_byte (λ _. true) 128 b refl (plain_low b e) in
    elim (or_cases (not (goes_on_plain b)) (has classes.Name b && (to_ascii_lowercase b == b)) shown) [
      | inl fails ↦ absurd (true≢false (sym e ∙ not-true (goes_on_plain b) fails))
      | inr holds ↦ (let parts = and_parts (has classes.Name b) (to_ascii_lowercase b == b) holds in (parts.0, eqb-true (to_ascii_lowercase b) b parts.1))
    ]

abbrev first_byte : ℕ → Bool
first_byte b = not (begins_plain b) || begins_name b

plain_first : (b : ℕ) → begins_plain b ≡ true → begins_name b ≡ true
plain_first b e =
    let low = plain_low b (or_left (begins_plain b) _ e) in
    let shown : first_byte b ≡ true = agree_below_at first_byte (λ _. true) 128 b refl low in
    elim (or_cases (not (begins_plain b)) (begins_name b) shown) [
      | inl fails ↦ absurd (true≢false (sym e ∙ not-true (begins_plain b) fails))
      | inr holds ↦ holds
    ]

-- a plain name does not begin with a digit
abbrev no_digit : ℕ → Bool
no_digit b = not (begins_plain b) || not (begins_digit (b ∷ []))

pub plain_no_digit : (b : ℕ) → begins_plain b ≡ true → begins_digit (b ∷ []) ≡ false
plain_no_digit b e =
    let low = plain_low b (or_left (begins_plain b) _ e) in
    let shown : no_digit b ≡ true = agree_below_at no_digit (λ _. true) 128 b refl low in
    elim (or_cases (not (begins_plain b)) (not (begins_digit (b ∷ []))) shown) [
      | inl fails ↦ absurd (true≢false (sym e ∙ not-true (begins_plain b) fails))
      | inr holds ↦ not-true (begins_digit (b ∷ [])) holds
    ]

plain_run : (run : List ℕ) → list_all goes_on_plain run ≡ true
    → (list_all (has classes.Name) run ≡ true) × (map to_ascii_lowercase run ≡ run)
plain_run [] all = (refl, refl)
plain_run (b ∷ run) all =
    let parts = and_parts (goes_on_plain b) (list_all goes_on_plain run) all in
    let here = plain_is b parts.0 in
    let later = plain_run run parts.1 in (
      and_from (has classes.Name b) (list_all (has classes.Name) run) here.0 later.0,
      ap₂ (λ (x : ℕ) (xs : List ℕ). x ∷ xs) here.1 later.1,
    )

not_reserved : (text : List ℕ) → is_reserved text ≡ false → (word : Word) → spelling word ≢ text
not_reserved text free word e =
    let at = every_word word in
    let here : bytes_eq (spelling word) text ≡ true = (bytes_eq-Decides (spelling word) text).1 e in
    let there : bytes_eq (spelling (get_or WORDS at.0 word)) text ≡ true = ap (λ (w : Word). bytes_eq (spelling w) text) at.2 ∙ here in
    true≢false (sym (list_any_at (λ (w : Word). bytes_eq (spelling w) text) WORDS at.0 word at.1 there) ∙ free)

pub short_name : (text : List ℕ) (quoted : Bool) → length text ≤ 63 → name_token text quoted ≡ NameToken (record { text = text; quoted = quoted })
short_name text quoted short = cond-true _ _ _ (le-leb (length text) 63 short)

pub plain_piece : (text rest : List ℕ) → is_plain text ≡ true → length text ≤ 63 → Stops classes.Name rest
    → PieceOf (text ++ rest) (Token (NameToken (record { text = text; quoted = false }))) rest
plain_piece [] rest plain short stop = absurd (true≢false (sym plain))
plain_piece (b ∷ run) rest plain short stop =
    let parts = and_parts (begins_plain b) (list_all goes_on_plain run && not (is_reserved (b ∷ run))) plain in
    let others = and_parts (list_all goes_on_plain run) (not (is_reserved (b ∷ run))) parts.1 in
    let lowered = plain_run run others.0 in
    let first = plain_is b (or_left (begins_plain b) _ parts.0) in
    let same : map to_ascii_lowercase (b ∷ run) ≡ b ∷ run = ap₂ (λ (x : ℕ) (xs : List ℕ). x ∷ xs) first.1 lowered.1 in
    called_piece b run rest (NameToken (record { text = b ∷ run; quoted = false })) (plain_first b parts.0) lowered.0 stop
    (subst (λ (xs : List ℕ). IsCalled xs (NameToken (record { text = b ∷ run; quoted = false }))) (sym same)
    (inr (not_reserved (b ∷ run) (not-true (is_reserved (b ∷ run)) others.1), sym (short_name (b ∷ run) false short))))

-- ---- names of commands, in upper case

abbrev upper_byte : ℕ → Bool
upper_byte b = not (goes_on_plain b) || (has classes.Name (to_ascii_uppercase b) && (to_ascii_lowercase (to_ascii_uppercase b) == b))

upper_is : (b : ℕ) → goes_on_plain b ≡ true → (has classes.Name (to_ascii_uppercase b) ≡ true) × (to_ascii_lowercase (to_ascii_uppercase b) ≡ b)
upper_is b e =
    let shown : upper_byte b ≡ true = agree_below_at upper_byte (λ _. true) 128 b refl (plain_low b e) in
    elim (or_cases (not (goes_on_plain b)) (has classes.Name (to_ascii_uppercase b) && (to_ascii_lowercase (to_ascii_uppercase b) == b)) shown) [
      | inl fails ↦ absurd (true≢false (sym e ∙ not-true (goes_on_plain b) fails))
      | inr holds ↦ (let parts = and_parts (has classes.Name (to_ascii_uppercase b)) (to_ascii_lowercase (to_ascii_uppercase b) == b) holds in (parts.0, eqb-true (to_ascii_lowercase (to_ascii_uppercase b)) b parts.1))
    ]

abbrev upper_first : ℕ → Bool
upper_first b = not (begins_plain b) || begins_name (to_ascii_uppercase b)

upper_begins : (b : ℕ) → begins_plain b ≡ true → begins_name (to_ascii_uppercase b) ≡ true
upper_begins b e =
    let low = plain_low b (or_left (begins_plain b) _ e) in
    let shown : upper_first b ≡ true = agree_below_at upper_first (λ _. true) 128 b refl low in
    elim (or_cases (not (begins_plain b)) (begins_name (to_ascii_uppercase b)) shown) [
      | inl fails ↦ absurd (true≢false (sym e ∙ not-true (begins_plain b) fails))
      | inr holds ↦ holds
    ]

upper_run : (run : List ℕ) → list_all goes_on_plain run ≡ true
    → (list_all (has classes.Name) (map to_ascii_uppercase run) ≡ true) × (map to_ascii_lowercase (map to_ascii_uppercase run) ≡ run)
upper_run [] all = (refl, refl)
upper_run (b ∷ run) all =
    let parts = and_parts (goes_on_plain b) (list_all goes_on_plain run) all in
    let here = upper_is b parts.0 in
    let later = upper_run run parts.1 in (
      and_from (has classes.Name (to_ascii_uppercase b)) (list_all (has classes.Name) (map to_ascii_uppercase run)) here.0 later.0,
      ap₂ (λ (x : ℕ) (xs : List ℕ). x ∷ xs) here.1 later.1,
    )

pub command_piece : (text rest : List ℕ) → is_plain text ≡ true → length text ≤ 63 → Stops classes.Name rest
    → PieceOf (map to_ascii_uppercase text ++ rest) (Token (NameToken (record { text = text; quoted = false }))) rest
command_piece [] rest plain short stop = absurd (true≢false (sym plain))
command_piece (b ∷ run) rest plain short stop =
    let parts = and_parts (begins_plain b) (list_all goes_on_plain run && not (is_reserved (b ∷ run))) plain in
    let others = and_parts (list_all goes_on_plain run) (not (is_reserved (b ∷ run))) parts.1 in
    let lowered = upper_run run others.0 in
    let first = upper_is b (or_left (begins_plain b) _ parts.0) in
    let same : map to_ascii_lowercase (map to_ascii_uppercase (b ∷ run)) ≡ b ∷ run = ap₂ (λ (x : ℕ) (xs : List ℕ). x ∷ xs) first.1 lowered.1 in
    called_piece (to_ascii_uppercase b) (map to_ascii_uppercase run) rest (NameToken (record { text = b ∷ run; quoted = false })) (upper_begins b parts.0) lowered.0 stop
    (subst (λ (xs : List ℕ). IsCalled xs (NameToken (record { text = b ∷ run; quoted = false }))) (sym same)
    (inr (not_reserved (b ∷ run) (not-true (is_reserved (b ∷ run)) others.1), sym (short_name (b ∷ run) false short))))

-- ---- none of them begins with a minus

begins_apart : (b : ℕ) → begins_name b ≡ true → not (b == 45) ≡ true
begins_apart b e = not_from_false (b == 45) (ne_eqb b 45 (λ is. true≢false (sym e ∙ ap begins_name is)))

abbrev is_apart : Word → Bool
is_apart word = begins_other 45 (upper word)

words_apart : AllPass is_apart WORDS
words_apart = AllPass-from_list_all is_apart WORDS refl

pub word_apart : (word : Word) → begins_other 45 (map to_ascii_uppercase (spelling word)) ≡ true
word_apart word =
    let at = every_word word in
    subst (λ (w : Word). is_apart w ≡ true) at.2 (words_apart at.0 word at.1)

pub plain_apart : (text : List ℕ) → is_plain text ≡ true → begins_other 45 text ≡ true
plain_apart [] plain = absurd (true≢false (sym plain))
plain_apart (b ∷ run) plain =
    begins_apart b (plain_first b (and_parts (begins_plain b) (list_all goes_on_plain run && not (is_reserved (b ∷ run))) plain).0)

pub command_apart : (text : List ℕ) → is_plain text ≡ true → begins_other 45 (map to_ascii_uppercase text) ≡ true
command_apart [] plain = absurd (true≢false (sym plain))
command_apart (b ∷ run) plain =
    begins_apart (to_ascii_uppercase b) (upper_begins b (and_parts (begins_plain b) (list_all goes_on_plain run && not (is_reserved (b ∷ run))) plain).0)
