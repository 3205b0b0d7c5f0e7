-- The forms of a line: empty, or `name = value`, each with an optional comment.
use Rattle.std.specs.Prelude.{◌≡◌, ◌≢◌, ℕ, List, [], ◌∷◌, ◌++◌}
use Rattle.pool_config.specs.Bytes.{AllOf}
use Rattle.pool_config.specs.declared.line.Class.TheVariants.{Blank, Name, Word, Inner}
use Rattle.pool_config.specs.declared.line.Written.{Written}
use Rattle.pool_config.specs.declared.line.Written.TheVariants.{Quoted, Bare}

-- how a value is spelled: a string by what its quotes hold, or a word without quotes
pub data Spelling : Type 0 where
  quoted : List ℕ → Spelling
  bare : List ℕ → Spelling

abbrev pub spelling_of : Written → Spelling
spelling_of (Quoted inner) = quoted inner.now
spelling_of (Bare word) = bare word.now

-- the bytes of a spelling
abbrev pub spelled : Spelling → List ℕ
spelled (quoted inner) = 39 ∷ inner ++ 39 ∷ []
spelled (bare word) = word

-- no quote stands inside a string, and a word is not empty
abbrev pub IsSpelling : Spelling → Type 0
IsSpelling (quoted inner) = AllOf Inner inner
IsSpelling (bare word) = AllOf Word word × (word ≢ [])

-- nothing, or a comment from `#` (35) on
abbrev pub IsComment : List ℕ → Type 0
IsComment [] = Unit {0}
IsComment (b ∷ rest) = b ≡ 35

-- blanks, and maybe a comment: a line that says nothing, and the end of one that does
pub record IsEnd (bytes : List ℕ) : Type 0 where
  pub blanks : List ℕ
  pub comment : List ℕ
  pub parts : bytes ≡ blanks ++ comment
  pub are_blank : AllOf Blank blanks
  pub is_comment : IsComment comment

-- the line is `name = value`, with blanks round its parts, and an end
pub record IsAssignment (line name : List ℕ) (value : Spelling) : Type 0 where
  pub before : List ℕ
  pub behind_name : List ℕ
  pub before_value : List ℕ
  pub rest : List ℕ
  pub parts : line ≡ before ++ (name ++ (behind_name ++ 61 ∷ (before_value ++ (spelled value ++ rest))))
  pub before_is : AllOf Blank before
  pub name_is : AllOf Name name
  pub named : name ≢ []
  pub behind_is : AllOf Blank behind_name
  pub before_value_is : AllOf Blank before_value
  pub value_is : IsSpelling value
  pub rest_is : IsEnd rest
