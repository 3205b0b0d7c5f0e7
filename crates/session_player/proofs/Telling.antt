-- What a sink has taken of a play, one part after another.
use Rattle.std.proofs.Common.{ℕ, List, [], ◌∷◌, ◌++◌, refl, sym, subst}
use Rattle.std.specs.Prelude.{Option}
use Rattle.pool_base.specs.Outside.{Appends, AppendsFront}
use Rattle.pool_base.proofs.Sinking.{appends_nothing, appends_on}
use Rattle.pgproto.specs.Line.{Line}
use Rattle.session_player.specs.Written.{Grew, echo_of, IsPart, AreParts}

pub grew_none : (a : Option (List ℕ)) → Grew a a
grew_none a = ([], appends_nothing a)

pub grew_all : (a b : Option (List ℕ)) (bytes : List ℕ) → Appends a b bytes → Grew a b
grew_all a b bytes took = (bytes, took)

pub grew_front : (a b : Option (List ℕ)) (bytes : List ℕ) → AppendsFront a b bytes → Grew a b
grew_front a b bytes took = (took.front, took.has)

pub grew_on : (a b c : Option (List ℕ)) → Grew a b → Grew b c → Grew a c
grew_on a b c one two = (one.0 ++ two.0, appends_on a b c one.0 two.0 one.1 two.1)

pub part_of : (line : Line) (a b c : Option (List ℕ)) (told : List ℕ) → Appends a b (echo_of line) → Appends b c told → IsPart line a c
part_of line a b c told echo more = (told, appends_on a b c (echo_of line) told echo more)

pub parts_none : (a : Option (List ℕ)) → AreParts [] a a
parts_none a = refl

pub parts_on : (lines : List Line) (line : Line) (a b c : Option (List ℕ)) → AreParts lines a b → IsPart line b c → AreParts (lines ++ line ∷ []) a c
parts_on [] line a b c are part = (c, subst (λ z. IsPart line z c) are part, refl)
parts_on (first ∷ lines) line a b c (mid, one, others) part = (mid, one, parts_on lines line mid b c others part)

pub grew_parts : (lines : List Line) (a b : Option (List ℕ)) → AreParts lines a b → Grew a b
grew_parts [] a b are = subst (Grew a) (sym are) (grew_none a)
grew_parts (first ∷ lines) a b (mid, one, others) = grew_on a mid b (echo_of first ++ one.0, one.1) (grew_parts lines mid b others)
