-- Reading the pieces of a text one after the other; a text has one list of tokens.
use Rattle.std.proofs.Common.{◌≡◌, ◌≢◌, ◌∙◌, ◌<◌, ◌≤◌, ◌-◌, ◌+◌, ℕ, zero, suc, List, [], ◌∷◌, ◌++◌, length, refl, sym, ap, subst, arith, length-append, append_assoc, Result, Ok, Err, IfOk}
use Rattle.std.proofs.lemmas.List.{append-nil}
use Rattle.sql_tokens.specs.declared.token.Token.{Token as AnyToken}
use Rattle.sql_tokens.specs.declared.token.Token.TheVariants.{Fault}
use Rattle.sql_tokens.specs.declared.token.Placed.{Placed}
use Rattle.sql_tokens.specs.declared.piece.Piece.{Piece}
use Rattle.sql_tokens.specs.declared.piece.Piece.TheVariants.{Gap, Token}
use Rattle.sql_tokens.specs.Pieces.{PieceOf, EndsWith}
use Rattle.sql_tokens.specs.Tokens.{Gaps, TokensFrom, TokensOf, read_behind, past_limit}
use Rattle.sql_tokens.proofs.Ends.{ends_all, ends_on, ends_none, ends_short, ends_shorter}
use Rattle.sql_tokens.proofs.Once.{piece_once, piece_ends}

-- the tokens that were read and those of what is left are the tokens of the text
pub record Going (text : List ℕ) (tokens : List Placed) (left : List ℕ) : Type 0 where
  pub room : length tokens ≤ 65536
  pub last : EndsWith text left
  pub more : (ps : List Placed) → TokensFrom (length text) (65536 - length tokens) left ps → TokensOf text (tokens ++ ps)

pub starts : (text : List ℕ) → Going text [] text
unfolding TokensOf
starts text = record { room = omega arith; last = ends_all text; more = λ ps h. h }

-- a gap at the front
gap_first : (size room : ℕ) (left after : List ℕ) (ps : List Placed) → PieceOf left Gap after
    → TokensFrom size room after ps → TokensFrom size room left ps
gap_first size room left after [] g h = (suc h.0, (after, g, h.1))
gap_first size zero left after (p ∷ ps) g h =
    (h.0, h.1, h.2, (suc h.3.0, (after, g, h.3.1), h.3.2), h.4, h.5, h.6)
gap_first size (suc room) left after (p ∷ ps) g h =
    (h.0, h.1, (suc h.2.0, (after, g, h.2.1), h.2.2), h.3, h.4)

-- what follows a piece is the end of the bytes
pub behind_piece : (left after : List ℕ) (piece : Piece) → PieceOf left piece after → EndsWith left after × (length after < length left)
behind_piece [] after piece x = absurd x
behind_piece (b ∷ left) after piece x =
    let e = piece_ends b left piece after x in
    ((b ∷ e.0, ap (λ (xs : List ℕ). b ∷ xs) e.1), ends_shorter b left after e)

pub skips : (text left after : List ℕ) (tokens : List Placed) → Going text tokens left → PieceOf left Gap after → Going text tokens after
skips text left after tokens g x = record {
  room = g.room;
  last = ends_on text left after g.last (behind_piece left after Gap x).0;
  more = λ ps h. g.more ps (gap_first (length text) (65536 - length tokens) left after ps x h);
}

pub read_ends : (token : AnyToken) (after : List ℕ) → EndsWith after (read_behind token after)
read_ends (Fault fault) after = ends_none after
read_ends _ after = ends_all after

takes_here : (text left after : List ℕ) (tokens : List Placed) (placed : Placed) → Going text tokens left
    → PieceOf left (Token placed.token) after → length tokens < 65536 → placed.place + length left ≡ length text
    → Going text (tokens ++ placed ∷ []) (read_behind placed.token after)
takes_here text left after tokens placed g x room at =
    let size = length-append tokens (placed ∷ []) in
    record {
      room = omega arith;
      last = ends_on text after (read_behind placed.token after) (ends_on text left after g.last (behind_piece left after (Token placed.token) x).0)
          (read_ends placed.token after);
      more = λ ps h.
          let left_room : suc (65536 - length (tokens ++ placed ∷ [])) ≡ 65536 - length tokens = omega arith in
          subst (TokensOf text) (sym (append_assoc tokens (placed ∷ []) ps))
          (g.more (placed ∷ ps) (subst (λ (n : ℕ). TokensFrom (length text) n left (placed ∷ ps)) left_room (left, after, (0, refl, x), at, h)));
    }

-- one token more
pub takes : (text left after rest : List ℕ) (tokens new : List Placed) (token : AnyToken) (placed : Placed)
    → new ≡ tokens ++ placed ∷ [] → Going text tokens left → PieceOf left (Token token) after → placed.token ≡ token
    → rest ≡ read_behind token after → length tokens ≢ 65536 → placed.place ≡ length text - length left → Going text new rest
takes text left after rest tokens new token placed e g x is behind room at =
    let short = ends_short text left g.last in
    let fits = g.room in
    let here = takes_here text left after tokens placed g (subst (λ (t : AnyToken). PieceOf left (Token t) after) (sym is) x) (omega (arith, room)) (omega arith) in
    let same : rest ≡ read_behind placed.token after = behind ∙ ap (λ (t : AnyToken). read_behind t after) (sym is) in
    subst (λ (xs : List Placed). Going text xs rest) (sym e) (subst (λ (r : List ℕ). Going text (tokens ++ placed ∷ []) r) (sym same) here)

pub token_shorter : (left after : List ℕ) (token : AnyToken) → PieceOf left (Token token) after → length (read_behind token after) < length left
token_shorter left after token x =
    let short = ends_short after (read_behind token after) (read_ends token after) in
    let less = (behind_piece left after (Token token) x).1 in omega arith

-- a token for which there is no room
pub full : (text left after : List ℕ) (tokens new : List Placed) (token : AnyToken) (placed : Placed)
    → new ≡ tokens ++ placed ∷ [] → Going text tokens left → PieceOf left (Token token) after → placed.token ≡ past_limit token
    → length tokens ≡ 65536 → placed.place ≡ length text - length left → TokensOf text new
full text left after tokens new token placed e g x is room at =
    let short = ends_short text left g.last in
    let none : 0 ≡ 65536 - length tokens = omega arith in
    let place : placed.place + length left ≡ length text = omega arith in
    subst (TokensOf text) (sym e)
    (g.more (placed ∷ []) (subst (λ (n : ℕ). TokensFrom (length text) n left (placed ∷ [])) none (token, left, after, (0, refl, x), is, place, refl)))

pub ends : (text left : List ℕ) (tokens : List Placed) → Going text tokens left → left ≡ [] → TokensOf text tokens
ends text left tokens g none =
    subst (TokensOf text) (append-nil tokens) (g.more [] (0, sym none))

-- gaps and then a token: one token alone
token_once : (n m : ℕ) (bytes s u : List ℕ) (t v : AnyToken) (a b : List ℕ) → Gaps n bytes s → PieceOf s (Token t) a
    → Gaps m bytes u → PieceOf u (Token v) b → (t ≡ v) × (s ≡ u) × (a ≡ b)
token_once zero zero bytes s u t v a b g x h y =
    let same : s ≡ u = g ∙ sym h in
    let e = piece_once u (Token t) (Token v) a b (subst (λ (xs : List ℕ). PieceOf xs (Token t) a) same x) y in
    let token : t ≡ v = (let f = e.0 in cc) in
    (token, same, e.1)
token_once zero (suc m) bytes s u t v a b g x h y =
    let e = piece_once bytes (Token t) Gap a h.0 (subst (λ (xs : List ℕ). PieceOf xs (Token t) a) g x) h.1 in
    let f = e.0 in absurd (cc)
token_once (suc n) zero bytes s u t v a b g x h y =
    let e = piece_once bytes Gap (Token v) g.0 b g.1 (subst (λ (xs : List ℕ). PieceOf xs (Token v) b) h y) in
    let f = e.0 in absurd (cc)
token_once (suc n) (suc m) bytes s u t v a b g x h y =
    let e = piece_once bytes Gap Gap g.0 h.0 g.1 h.1 in
    token_once n m h.0 s u t v a b (subst (λ (xs : List ℕ). Gaps n xs s) e.1 g.2) x h.2 y

-- gaps to the end, or a token behind gaps: not both
ends_once : (n m : ℕ) (bytes s : List ℕ) (t : AnyToken) (a : List ℕ) → Gaps n bytes [] → Gaps m bytes s → PieceOf s (Token t) a → ⊥
ends_once zero zero bytes s t a g h y = subst (λ (xs : List ℕ). PieceOf xs (Token t) a) (h ∙ sym g) y
ends_once zero (suc m) bytes s t a g h y = subst (λ (xs : List ℕ). PieceOf xs Gap h.0) (sym g) h.1
ends_once (suc n) zero bytes s t a g h y =
    let e = piece_once bytes Gap (Token t) g.0 a g.1 (subst (λ (xs : List ℕ). PieceOf xs (Token t) a) h y) in
    let f = e.0 in absurd (cc)
ends_once (suc n) (suc m) bytes s t a g h y =
    let e = piece_once bytes Gap Gap g.0 h.0 g.1 h.1 in
    ends_once n m h.0 s t a (subst (λ (xs : List ℕ). Gaps n xs []) e.1 g.2) h.2 y

placed_once : (p q : Placed) → p.token ≡ q.token → p.place ≡ q.place → p ≡ q
placed_once p q e f = λ i. record { token = e i; place = f i }

from_once : (size room : ℕ) (bytes : List ℕ) (ps qs : List Placed) → TokensFrom size room bytes ps → TokensFrom size room bytes qs → ps ≡ qs
from_once size room bytes [] [] x y = refl
from_once size zero bytes [] (q ∷ qs) x y = absurd (ends_once x.0 y.3.0 bytes y.1 y.0 y.2 x.1 y.3.1 y.3.2)
from_once size (suc room) bytes [] (q ∷ qs) x y = absurd (ends_once x.0 y.2.0 bytes y.0 q.token y.1 x.1 y.2.1 y.2.2)
from_once size zero bytes (p ∷ ps) [] x y = absurd (ends_once y.0 x.3.0 bytes x.1 x.0 x.2 y.1 x.3.1 x.3.2)
from_once size (suc room) bytes (p ∷ ps) [] x y = absurd (ends_once y.0 x.2.0 bytes x.0 p.token x.1 y.1 x.2.1 x.2.2)
from_once size zero bytes (p ∷ ps) (q ∷ qs) x y =
    let e = token_once x.3.0 y.3.0 bytes x.1 y.1 x.0 y.0 x.2 y.2 x.3.1 x.3.2 y.3.1 y.3.2 in
    let start = ap length e.1 in
    let place : p.place ≡ q.place = omega (arith, x.5, y.5) in
    let same = placed_once p q (x.4 ∙ (ap past_limit e.0 ∙ sym y.4)) place in
    ap (λ (r : Placed). r ∷ ps) same ∙ ap (λ (rs : List Placed). q ∷ rs) (x.6 ∙ sym y.6)
from_once size (suc room) bytes (p ∷ ps) (q ∷ qs) x y =
    let e = token_once x.2.0 y.2.0 bytes x.0 y.0 p.token q.token x.1 y.1 x.2.1 x.2.2 y.2.1 y.2.2 in
    let start = ap length e.1 in
    let place : p.place ≡ q.place = omega (arith, x.3, y.3) in
    let same = placed_once p q e.0 place in
    let behind : read_behind p.token x.1 ≡ read_behind q.token y.1 =
    ap (λ (t : AnyToken). read_behind t x.1) e.0 ∙ ap (read_behind q.token) e.2 in
    ap (λ (r : Placed). r ∷ ps) same
    ∙ ap (λ (rs : List Placed). q ∷ rs)
    (from_once size room (read_behind q.token y.1) ps qs (subst (λ (xs : List ℕ). TokensFrom size room xs ps) behind x.4) y.4)

-- a text has one list of tokens
pub tokens_once : (text : List ℕ) (ps qs : List Placed) → TokensOf text ps → TokensOf text qs → ps ≡ qs
unfolding TokensOf
tokens_once text ps qs x y = from_once (length text) 65536 text ps qs x y

pub only_ok : {E : Type 0} (text : List ℕ) (r : Result (List Placed) E) → IfOk r (λ read. TokensOf text read)
    → (ps : List Placed) → TokensOf text ps → IfOk r (λ read. read ≡ ps)
only_ok text (Ok read) x ps y = tokens_once text read ps x y
only_ok text (Err e) x ps y = tt
