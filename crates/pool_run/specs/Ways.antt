-- How a script is played: as the single statements of one client, or as sessions over the wire.
use Rattle.std.specs.Prelude.{◌≡◌, ℕ, ◌+◌, Bool, true, false, not, ◌&&◌, ◌||◌, ◌==◌, if◌then◌else◌, List, [], ◌∷◌, codes}
use Rattle.std.specs.List.{list_all}
use Rattle.pgproto.specs.Line.{Line, query}
use Rattle.pgproto.specs.Script.{IsScript}
use Rattle.play.specs.Script.{IsSession}
use Rattle.pool_base.specs.Outside.{Told, IsTold}
use Rattle.schema.specs.declared.catalogue.TableDef.{TableDef}
use Rattle.schema.specs.Reading.{Says as SaysTables}
use Rattle.pool_run.specs.Drawing.{TakesNone}

-- a blank of SQL
abbrev pub is_blank : ℕ → Bool
is_blank byte = (byte == 32) || ((byte == 9) || ((byte == 10) || ((byte == 12) || (byte == 13))))

-- the text behind its first blanks
abbrev pub unblanked : List ℕ → List ℕ
unblanked [] = []
unblanked (b ∷ text) = if is_blank b then unblanked text else b ∷ text

-- the text begins with a word, which is given in lower case
abbrev pub begins_with : List ℕ → List ℕ → Bool
begins_with text [] = true
begins_with [] (w ∷ word) = false
begins_with (b ∷ text) (w ∷ word) = ((b == w) || (b + 32 == w)) && begins_with text word

-- it begins as what begins or ends a transaction, or asks of the pool itself; or with a comment, behind which that may stand
abbrev pub begins_own : List ℕ → Bool
begins_own text =
    begins_with text (codes "begin")
    || (begins_with text (codes "start")
    || (begins_with text (codes "commit")
    || (begins_with text (codes "end")
    || (begins_with text (codes "rollback")
    || (begins_with text (codes "abort")
    || (begins_with text (codes "show")
    || (begins_with text (codes "pgpool")
    || (begins_with text (codes "--") || begins_with text (codes "/*")))))))))

-- something stands behind a semicolon; one has stood before, or not
abbrev pub goes_on : Bool → List ℕ → Bool
goes_on ended [] = false
goes_on ended (b ∷ text) = if b == 59 then goes_on true text else (if is_blank b then goes_on ended text else (ended || goes_on ended text))

-- a text of at most one statement, and of none that begins or ends a transaction or asks of the pool itself
abbrev pub is_single : List ℕ → Bool
is_single text = not (begins_own (unblanked text)) && not (goes_on false text)

abbrev pub is_single_line : Line → Bool
is_single_line (query s text) = is_single text
is_single_line line = true

-- each text is of one statement at most
abbrev pub AreSingle : List Line → Type 0
AreSingle lines = list_all is_single_line lines ≡ true

-- a script of one client that sends single statements, of which none takes a serial number of the schema's tables
pub record SaysOneClient (schema : Told) (text : List ℕ) : Type 0 where
  pub lines : List Line
  pub says : IsScript text lines
  pub session : IsSession lines
  pub single : AreSingle lines
  pub takes_none : (schema_text : List ℕ) (tables : List TableDef) → IsTold schema schema_text → SaysTables schema_text tables → TakesNone tables lines
