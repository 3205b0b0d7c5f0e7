-- The lines of a journal before its first event.
use Rattle.std.specs.Prelude.{◌≡◌, ◌==◌, ℕ, Bool, true, List, [], ◌∷◌, ◌++◌, codes, if◌then◌else◌}
use Rattle.pool_config.specs.declared.config.Config.{Config}
use Rattle.pool_config.specs.Printed.{text_of}
use Rattle.schema.specs.declared.catalogue.TableDef.{TableDef}
use Rattle.schema_print.specs.Printed.{IsSchemaText}

-- bytes with a word in front of each line that begins among them; `true` where one begins with the first of them
unfoldable pub marked : List ℕ → Bool → List ℕ → List ℕ
marked word begins [] = []
marked word begins (b ∷ bytes) = (if begins then word else []) ++ (b ∷ marked word (b == 10) bytes)

-- a text with a word in front of each of its lines
abbrev pub behind : List ℕ → List ℕ → List ℕ
behind word text = marked word true text

-- each line of the printed configuration behind `config `, and then each line of the printed schema behind `schema `
abbrev pub IsHeader : Config → List TableDef → List ℕ → Type 0
IsHeader config tables header = (schema : List ℕ) × IsSchemaText tables schema
    × (header ≡ behind (codes "config ") (text_of config) ++ behind (codes "schema ") schema)
