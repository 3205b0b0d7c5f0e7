-- A text to which tokens are added.
use Rattle.std.specs.Prelude.{ℕ, Bool, true, ◌||◌, List, [], ◌∷◌, ◌++◌, if◌then◌else◌, string_bytes}
use Rattle.sql_print.specs.Spelling.{Lexeme, spelled, clings, holds}
use Rattle.sql_print.specs.declared.writer.Writer.{Writer}

-- a text, and whether no space is to stand behind it
pub record State : Type 0 where
  pub text : List ℕ
  pub held : Bool

abbrev pub state : Writer → State
state writer = record { text = string_bytes writer.text; held = writer.held }

abbrev pub put : State → Lexeme → State
put s x = record { text = s.text ++ ((if s.held || clings x then [] else 32 ∷ []) ++ spelled x); held = holds x }

-- one token after another
abbrev pub after : State → List Lexeme → State
after s [] = s
after s (x ∷ xs) = after (put s x) xs

abbrev pub begun : State
begun = record { text = []; held = true }
