-- Which lines are those of one session.
use Rattle.std.proofs.Common.{◌≡◌, ◌<◌, ◌≤◌, ◌+◌, ℕ, ℤ, List, [], ◌∷◌, drop, length, map, sym, ap, ◌∙◌, subst}
use Rattle.std.specs.Prelude.{get_or}
use Rattle.pgproto.specs.Line.{Line, moment, session, query, terminate}
use Rattle.play.specs.Asked.{nothing}
use Rattle.play.specs.Script.{Deed, sets, connects, asks, leaves, line_for, Part, before, within, IsMomentOf, IsNext, moment_set, connected, asked, left, IsSession, IsSessionFrom}
use Rattle.play.proofs.ScriptLemmas.{drop_here, drop_none}

-- ---- a line that may not stand there

pub none_set : (part : Part) (line : Line) (text : List ℕ) → line ≡ moment text → ((micros : ℤ) → IsMomentOf text micros → ⊥) → (next : Part) → IsNext part line next → ⊥
none_set part line text is none next (moment_set other micros e m n) = let same : text ≡ other = cc in none micros (subst (λ (t : List ℕ). IsMomentOf t micros) (sym same) m)
none_set part line text is none next (connected e p n) = let never : moment text ≡ session 1 = sym is ∙ e in absurd (cc)
none_set part line text is none next (asked other e p n) = let never : moment text ≡ query 1 other = sym is ∙ e in absurd (cc)
none_set part line text is none next (left e p n) = let never : moment text ≡ terminate 1 = sym is ∙ e in absurd (cc)

pub none_connect : (part : Part) (line : Line) → line ≡ session 1 → (part ≡ before → ⊥) → (next : Part) → IsNext part line next → ⊥
none_connect part line is none next (moment_set other micros e m n) = let never : session 1 ≡ moment other = sym is ∙ e in absurd (cc)
none_connect part line is none next (connected e p n) = none p
none_connect part line is none next (asked other e p n) = let never : session 1 ≡ query 1 other = sym is ∙ e in absurd (cc)
none_connect part line is none next (left e p n) = let never : session 1 ≡ terminate 1 = sym is ∙ e in absurd (cc)

pub none_ask : (part : Part) (line : Line) (text : List ℕ) → line ≡ query 1 text → (part ≡ within → ⊥) → (next : Part) → IsNext part line next → ⊥
none_ask part line text is none next (moment_set other micros e m n) = let never : query 1 text ≡ moment other = sym is ∙ e in absurd (cc)
none_ask part line text is none next (connected e p n) = let never : query 1 text ≡ session 1 = sym is ∙ e in absurd (cc)
none_ask part line text is none next (asked other e p n) = none p
none_ask part line text is none next (left e p n) = let never : query 1 text ≡ terminate 1 = sym is ∙ e in absurd (cc)

pub none_leave : (part : Part) (line : Line) → line ≡ terminate 1 → (part ≡ within → ⊥) → (next : Part) → IsNext part line next → ⊥
none_leave part line is none next (moment_set other micros e m n) = let never : terminate 1 ≡ moment other = sym is ∙ e in absurd (cc)
none_leave part line is none next (connected e p n) = let never : terminate 1 ≡ session 1 = sym is ∙ e in absurd (cc)
none_leave part line is none next (asked other e p n) = let never : terminate 1 ≡ query 1 other = sym is ∙ e in absurd (cc)
none_leave part line is none next (left e p n) = none p

pub none_other : (part : Part) (line : Line) → ((deed : Deed) → line ≡ line_for deed → ⊥) → (next : Part) → IsNext part line next → ⊥
none_other part line other next (moment_set text micros e m n) = other (sets text micros) e
none_other part line other next (connected e p n) = other connects e
none_other part line other next (asked text e p n) = other (asks text nothing) e
none_other part line other next (left e p n) = other leaves e

-- ---- a line leads to one part

one_next : (part : Part) (line : Line) (a b : Part) → IsNext part line a → IsNext part line b → a ≡ b
one_next part line a b (moment_set text micros e m n) (moment_set other micros' e' m' n') = n ∙ sym n'
one_next part line a b (moment_set text micros e m n) (connected e' p' n') = let never : moment text ≡ session 1 = sym e ∙ e' in absurd (cc)
one_next part line a b (moment_set text micros e m n) (asked other e' p' n') = let never : moment text ≡ query 1 other = sym e ∙ e' in absurd (cc)
one_next part line a b (moment_set text micros e m n) (left e' p' n') = let never : moment text ≡ terminate 1 = sym e ∙ e' in absurd (cc)
one_next part line a b (connected e p n) (moment_set other micros' e' m' n') = let never : session 1 ≡ moment other = sym e ∙ e' in absurd (cc)
one_next part line a b (connected e p n) (connected e' p' n') = n ∙ sym n'
one_next part line a b (connected e p n) (asked other e' p' n') = let never : session 1 ≡ query 1 other = sym e ∙ e' in absurd (cc)
one_next part line a b (connected e p n) (left e' p' n') = let never : session 1 ≡ terminate 1 = sym e ∙ e' in absurd (cc)
one_next part line a b (asked text e p n) (moment_set other micros' e' m' n') = let never : query 1 text ≡ moment other = sym e ∙ e' in absurd (cc)
one_next part line a b (asked text e p n) (connected e' p' n') = let never : query 1 text ≡ session 1 = sym e ∙ e' in absurd (cc)
one_next part line a b (asked text e p n) (asked other e' p' n') = n ∙ sym n'
one_next part line a b (asked text e p n) (left e' p' n') = let never : query 1 text ≡ terminate 1 = sym e ∙ e' in absurd (cc)
one_next part line a b (left e p n) (moment_set other micros' e' m' n') = let never : terminate 1 ≡ moment other = sym e ∙ e' in absurd (cc)
one_next part line a b (left e p n) (connected e' p' n') = let never : terminate 1 ≡ session 1 = sym e ∙ e' in absurd (cc)
one_next part line a b (left e p n) (asked other e' p' n') = let never : terminate 1 ≡ query 1 other = sym e ∙ e' in absurd (cc)
one_next part line a b (left e p n) (left e' p' n') = n ∙ sym n'

-- ---- the lines are those of a session exactly where the rest is from here on
pub record Reached (part : Part) (all rest : List Line) : Type 0 where
  pub ahead : IsSessionFrom part rest → IsSession all
  pub back : IsSession all → IsSessionFrom part rest

pub reached_first : (lines : List Line) → Reached before lines lines
reached_first lines = record { ahead = λ s. s; back = λ s. s }

first_of : (part next : Part) (line : Line) (others : List Line) → IsNext part line next → IsSessionFrom part (line ∷ others) → IsSessionFrom next others
first_of part next line others is from = subst (λ (p : Part). IsSessionFrom p others) (one_next part line from.0 next from.1 is) from.2

pub reached_on : (part next : Part) (all rest : List Line) (line : Line) (others : List Line) → rest ≡ line ∷ others → IsNext part line next → Reached part all rest → Reached next all others
reached_on part next all rest line others begins is r = record {
  ahead = λ from. r.ahead (subst (IsSessionFrom part) (sym begins) (next, is, from));
  back = λ s. first_of part next line others is (subst (IsSessionFrom part) begins (r.back s));
}

pub reached_end : (part : Part) (all rest : List Line) → rest ≡ [] → Reached part all rest → IsSession all
reached_end part all rest none r = r.ahead (subst (IsSessionFrom part) (sym none) tt)

pub not_reached : (part : Part) (all rest : List Line) (line : Line) (others : List Line) → rest ≡ line ∷ others → ((next : Part) → IsNext part line next → ⊥) → Reached part all rest → IsSession all → ⊥
not_reached part all rest line others begins none r s =
    let from = subst (IsSessionFrom part) begins (r.back s) in
    none from.0 from.1

-- ---- along a script

module _ {A : Type 0} (view : A → Line) (script : List A) (i : ℕ) (part : Part) (here : Reached part (map view script) (map view (drop i script))) where
  pub session_on : (x : A) (next : Part) → i < length script → x ≡ get_or script i x → IsNext part (view x) next → Reached next (map view script) (map view (drop (i + 1) script))
  session_on x next below is leads = reached_on part next (map view script) (map view (drop i script)) (view x) (map view (drop (i + 1) script)) (ap (map view) (drop_here script i x below is)) leads here

  pub session_not : (x : A) → i < length script → x ≡ get_or script i x → ((next : Part) → IsNext part (view x) next → ⊥) → IsSession (map view script) → ⊥
  session_not x below is none = not_reached part (map view script) (map view (drop i script)) (view x) (map view (drop (i + 1) script)) (ap (map view) (drop_here script i x below is)) none here

  pub session_all : length script ≤ i → IsSession (map view script)
  session_all past = reached_end part (map view script) (map view (drop i script)) (ap (map view) (drop_none script i past)) here
