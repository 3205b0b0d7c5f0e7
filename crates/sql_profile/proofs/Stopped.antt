-- The tokens of a text of lexemes that may be written: all of them, or those up to one that passes a limit, and a fault.
use Rattle.std.proofs.Common.{◌≡◌, ◌∙◌, ◌==◌, ◌||◌, ◌≤◌, ◌+◌, ◌-◌, ◌^◌, not, ℕ, zero, suc, pos, Bool, true, false, List, [], ◌∷◌, ◌++◌, length, map, refl, sym, ap, subst, inl, inr, ◌⊎◌, if◌then◌else◌, length-append, le_refl, arith}
use Rattle.std.specs.Prelude.{nat_lt, nat_le}
use Rattle.std.proofs.lemmas.Bool.{leb-true, ltb-false, eqb-false, eqb-true}
use Rattle.sql_tokens.specs.declared.token.Placed.{Placed}
use Rattle.sql_tokens.specs.declared.token.Token.{Token as AnyToken}
use Rattle.sql_tokens.specs.declared.token.Token.TheVariants.{Name as NameToken, Number, Least, Param, Fault}
use Rattle.sql_tokens.specs.declared.token.TokenFault.{TokenFault}
use Rattle.sql_tokens.specs.declared.token.TokenFault.TheVariants.{OutOfRange, Bad, LongName, LargeParam, TooMany}
use Rattle.sql_tokens.specs.Pieces.{param_token}
use Rattle.sql_tokens.specs.Tokens.{TokensFrom, TokensOf, read_behind, past_limit}
use Rattle.sql_tokens.proofs.Loop.{tokens_once}
use Rattle.sql_tree.specs.declared.statement.Statement.{Statement}
use Rattle.sql_print.specs.Spelling.{Lexeme, word, mark, sign, name, function, command, whole, string, param, is_plain, spelled, holds, clings, spaced, text_of}
use Rattle.sql_print.specs.Printed.{tokens_of, statement_text}
use Rattle.sql_profile.specs.Lexemes.{token_of, IsLexeme, AreLexemes}
use Rattle.sql_profile.proofs.Spaced.{Flows}
use Rattle.sql_profile.proofs.Printed.{flows_statement}
use Rattle.sql_reader.specs.Text.{IsTextOf}
use Rattle.sql_profile.specs.Writable.{IsWritable, AreWritable}
use Rattle.sql_profile.proofs.CleanWithin.{Clean, clean_ends, text_clean}
use Rattle.sql_profile.proofs.PiecesWithin.{written_token, written_at}

-- a limit of texts is passed: the length of a name, the number of a parameter, the count of the tokens
abbrev pub IsPassed : TokenFault → Type 0
IsPassed LongName = Unit {0}
IsPassed LargeParam = Unit {0}
IsPassed TooMany = Unit {0}
IsPassed fault = ⊥

-- one of a text, or a fault
abbrev Settled : Lexeme → AnyToken → Type 0
Settled x t = (IsLexeme x × (t ≡ token_of x)) ⊎ ((fault : TokenFault) × (t ≡ Fault fault) × IsPassed fault)

name_settled : (text : List ℕ) → IsWritable (name text) → Settled (name text) (written_token (name text))
name_settled text is = go (nat_le (length text) 63) refl
  where
    go : (t : Bool) → nat_le (length text) 63 ≡ t → Settled (name text) (if t then NameToken (record { text = text; quoted = not (is_plain text) }) else Fault LongName)
    go true e = inl ((is.0, leb-true (length text) 63 e, is.1), refl)
    go false e = inr (LongName, refl, tt)

param_settled : (n : ℕ) → IsWritable (param n) → Settled (param n) (param_token n)
param_settled n is = go (n == 0) (nat_le n 1000) refl refl
  where
    go : (t u : Bool) → (n == 0) ≡ t → nat_le n 1000 ≡ u → Settled (param n) (if t then Fault Bad else if u then Param n else Fault LargeParam)
    go true u e f = absurd (let zero_is = eqb-true n 0 e in omega (arith, is.0, zero_is))
    go false true e f = inl ((is.0, leb-true n 1000 f), refl)
    go false false e f = inr (LargeParam, refl, tt)

settled : (x : Lexeme) → IsWritable x → Settled x (written_token x)
settled (word w) is = inl (tt, refl)
settled (mark m) is = inl (tt, refl)
settled sign is = inl (tt, refl)
settled (name text) is = name_settled text is
settled (function text) is = inl (is, refl)
settled (command text) is = inl (is, refl)
settled (whole n) is = inl (is, refl)
settled (string text) is = inl (is, refl)
settled (param n) is = param_settled n is

-- no lexeme is a fault
goes_on : (x : Lexeme) → IsLexeme x → (after : List ℕ) → read_behind (token_of x) after ≡ after
goes_on (whole n) is after = go (nat_lt n (2 ^ 63)) (n == 2 ^ 63) refl refl
  where
    go : (t u : Bool) → nat_lt n (2 ^ 63) ≡ t → (n == 2 ^ 63) ≡ u
        → read_behind (if t then Number (pos n) else if u then Least else Fault OutOfRange) after ≡ after
    go true u e f = refl
    go false true e f = refl
    go false false e f = absurd (eqb-false n (2 ^ 63) f (let above = ltb-false n (2 ^ 63) e in omega arith))
goes_on _ is after = refl

whole_past : (n : ℕ) → IsLexeme (whole n) → past_limit (token_of (whole n)) ≡ Fault TooMany
whole_past n is = go (nat_lt n (2 ^ 63)) (n == 2 ^ 63) refl refl
  where
    go : (t u : Bool) → nat_lt n (2 ^ 63) ≡ t → (n == 2 ^ 63) ≡ u
        → past_limit (if t then Number (pos n) else if u then Least else Fault OutOfRange) ≡ Fault TooMany
    go true u e f = refl
    go false true e f = refl
    go false false e f = refl

token_past : (x : Lexeme) → IsLexeme x → past_limit (token_of x) ≡ Fault TooMany
token_past (whole n) is = whole_past n is
token_past _ is = refl

fault_past : (fault : TokenFault) → IsPassed fault → past_limit (Fault fault) ≡ Fault TooMany
fault_past LongName is = refl
fault_past LargeParam is = refl
fault_past TooMany is = refl
fault_past _ is = absurd is

past : (x : Lexeme) (t : AnyToken) → Settled x t → past_limit t ≡ Fault TooMany
past x t (inl one) = ap past_limit one.1 ∙ token_past x one.0
past x t (inr fault) = ap past_limit fault.1 ∙ fault_past fault.0 fault.2

start_short : (t : Bool) (start : List ℕ) → length start ≤ length ((if t then [] else 32 ∷ []) ++ start)
start_short true start = le_refl (length start)
start_short false start = omega arith

-- the tokens up to one that passes a limit, and a fault
pub record IsStopped (xs : List Lexeme) (tokens : List AnyToken) : Type 0 where
  pub front : List Lexeme
  pub passes : Lexeme
  pub others : List Lexeme
  pub fault : TokenFault
  pub parts : xs ≡ front ++ passes ∷ others
  pub lexemes : AreLexemes front
  pub are : tokens ≡ map token_of front ++ Fault fault ∷ []
  pub limit : IsPassed fault

abbrev pub tokens_alone : List Placed → List AnyToken
tokens_alone placed = map (λ (p : Placed). p.token) placed

-- all of them, or those up to there
abbrev pub Ends : ℕ → List Lexeme → List AnyToken → Type 0
Ends room xs tokens = (AreLexemes xs × (length xs ≤ room) × (tokens ≡ map token_of xs)) ⊎ IsStopped xs tokens

goes : (room : ℕ) (x : Lexeme) (xs : List Lexeme) (tokens : List AnyToken) → IsLexeme x → Ends room xs tokens → Ends (suc room) (x ∷ xs) (token_of x ∷ tokens)
goes room x xs tokens is (inl all) = let few = all.1 in inl ((is, all.0), omega (arith, few), ap (λ (ts : List AnyToken). token_of x ∷ ts) all.2)
goes room x xs tokens is (inr stops) = inr (record {
  front = x ∷ stops.front;
  passes = stops.passes;
  others = stops.others;
  fault = stops.fault;
  parts = ap (λ (ys : List Lexeme). x ∷ ys) stops.parts;
  lexemes = (is, stops.lexemes);
  are = ap (λ (ts : List AnyToken). token_of x ∷ ts) stops.are;
  limit = stops.limit;
})

stops_here : (x : Lexeme) (xs : List Lexeme) (t : AnyToken) (fault : TokenFault) → t ≡ Fault fault → IsPassed fault → IsStopped (x ∷ xs) (t ∷ [])
stops_here x xs t fault is limit = record {
  front = [];
  passes = x;
  others = xs;
  fault = fault;
  parts = refl;
  lexemes = tt;
  are = ap (λ (u : AnyToken). u ∷ []) is;
  limit = limit;
}

abbrev IsPlaced : ℕ → ℕ → List ℕ → List Lexeme → Type 0
IsPlaced size room bytes xs = (placed : List Placed) × TokensFrom size room bytes placed × Ends room xs (tokens_alone placed)

placed_at : (size room : ℕ) (held : Bool) (xs : List Lexeme) → AreWritable xs → Flows xs → length (spaced held xs) ≤ size → IsPlaced size room (spaced held xs) xs
placed_at size room held [] all flows short = ([], (zero, refl), inl (tt, omega arith, refl))
placed_at size zero held (x ∷ xs) all flows short =
    let after = spaced (holds x) xs in
    let start = spelled x ++ after in
    let above = start_short (held || clings x) start in
    let is = past x (written_token x) (settled x all.0) in (
      record { token = past_limit (written_token x); place = size - length start } ∷ [],
      (written_token x, start, after, written_at held x xs all.0 all.1 flows.0, refl, omega (arith, above, short), refl),
      inr (stops_here x xs (past_limit (written_token x)) TooMany is tt),
    )
placed_at size (suc room) held (x ∷ xs) all flows short =
    let after = spaced (holds x) xs in
    let first = start_short (held || clings x) (spelled x ++ after) in
    let long = length-append (spelled x) after in
    by_token (placed_at size room (holds x) xs all.1 flows.1 (omega (arith, first, short, long))) (settled x all.0)
  where
    above : length (spelled x ++ spaced (holds x) xs) ≤ size
    above = let first = start_short (held || clings x) (spelled x ++ spaced (holds x) xs) in omega (arith, first, short)

    by_token : IsPlaced size room (spaced (holds x) xs) xs → Settled x (written_token x) → IsPlaced size (suc room) (spaced held (x ∷ xs)) (x ∷ xs)
    by_token others (inl one) =
        let after = spaced (holds x) xs in
        let start = spelled x ++ after in
        let behind : read_behind (written_token x) after ≡ after = ap (λ (t : AnyToken). read_behind t after) one.1 ∙ goes_on x one.0 after in (
          record { token = written_token x; place = size - length start } ∷ others.0,
          (
            start,
            after,
            written_at held x xs all.0 all.1 flows.0,
            omega (arith, above),
            subst (λ (bytes : List ℕ). TokensFrom size room bytes others.0) (sym behind) others.1,
          ),
          subst (λ (t : AnyToken). Ends (suc room) (x ∷ xs) (t ∷ tokens_alone others.0)) (sym one.1) (goes room x xs (tokens_alone others.0) one.0 others.2),
        )
    by_token others (inr fault) =
        let after = spaced (holds x) xs in
        let start = spelled x ++ after in (
          record { token = written_token x; place = size - length start } ∷ [],
          (
            start,
            after,
            written_at held x xs all.0 all.1 flows.0,
            omega (arith, above),
            (zero, sym (ap (λ (t : AnyToken). read_behind t after) fault.1)),
          ),
          inr (stops_here x xs (written_token x) fault.0 fault.1 fault.2),
        )

text_placed : (xs : List Lexeme) → AreWritable xs → Flows xs → (placed : List Placed) × TokensOf (text_of xs) placed × Ends 65536 xs (tokens_alone placed)
unfolding TokensOf
text_placed xs all flows = placed_at (length (text_of xs)) 65536 true xs all flows (le_refl (length (text_of xs)))

-- the tokens of the text of a statement
pub statement_placed : (s : Statement) → AreWritable (tokens_of s) → (placed : List Placed) × TokensOf (statement_text s) placed × Ends 65536 (tokens_of s) (tokens_alone placed)
statement_placed s all = text_placed (tokens_of s) all (flows_statement s)

-- what ends so is no text
no_text : (xs : List Lexeme) (ts : List AnyToken) → Clean ts → Ends 65536 xs ts → AreLexemes xs × (length xs ≤ 65536)
no_text xs ts clean (inl all) = (all.0, all.1)
no_text xs ts clean (inr stops) = absurd (clean_ends (map token_of stops.front) stops.fault (subst Clean stops.are clean))

pub fit : (s : Statement) (all : List Statement) → AreWritable (tokens_of s) → IsTextOf (statement_text s) all → AreLexemes (tokens_of s) × (length (tokens_of s) ≤ 65536)
fit s all writable text =
    let mine = statement_placed s writable in
    let same = tokens_once (statement_text s) text.0 mine.0 text.1 mine.1 in
    let clean = text_clean 64 (tokens_alone text.0) all text.2.0 in
    no_text (tokens_of s) (tokens_alone mine.0) (subst (λ (ps : List Placed). Clean (tokens_alone ps)) same clean) mine.2
