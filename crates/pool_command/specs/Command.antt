-- Which words are which command.
use Rattle.std.specs.Prelude.{◌&&◌, ℕ, Bool, false, List, [], ◌∷◌, Option, Some, None, codes, length, nat_lt, nat_le, if◌then◌else◌}
use Rattle.std.specs.Str.{bytes_eq, all_ascii_digits}
use Rattle.std.specs.Str.Parse.{digits_value}
use Rattle.clap.specs.Walk.{Text}
use Rattle.pool_command.specs.Clap.{Given, play_line, serve_line}
use Rattle.pool_command.specs.declared.command.Command.{Command}
use Rattle.pool_command.specs.declared.command.Command.TheVariants.{Play, Generate, Serve}

-- one decimal digit or more, up to `most`
abbrev pub is_numeral : ℕ → Text → Bool
is_numeral most word = nat_lt 0 (length word) && (nat_le (length word) most && all_ascii_digits word)

-- N: one to ten digits, up to 4294967295
abbrev pub number_of : Text → Option ℕ
number_of word = if is_numeral 10 word && nat_lt (digits_value 10 word) 4294967296 then Some (digits_value 10 word) else None

-- K: one to five digits, 1 to 20000
abbrev pub size_of : Text → Option ℕ
size_of word = if is_numeral 5 word && (nat_le 1 (digits_value 10 word) && nat_le (digits_value 10 word) 20000)
    then Some (digits_value 10 word) else None

abbrev pub generated : Text → Text → Option ℕ → Option ℕ → Option Command
generated config schema (Some number) (Some size) = Some (Generate config schema number size)
generated config schema (Some number) None = None
generated config schema None size = None

-- SCRIPT is there exactly where --generate is not, --size exactly where --generate is, and
-- --journal not beside --generate
abbrev pub played : Text → Text → Option Text → Bool → Option Text → Option Text → Option Command
played config schema (Some script) journal None None = Some (Play config schema script journal)
played config schema None false (Some number) (Some size) = generated config schema (number_of number) (size_of size)
played config schema _ _ _ _ = None

abbrev pub with_files : Option Text → Option Text → (Text → Text → Option Command) → Option Command
with_files (Some config) (Some schema) f = f config schema
with_files (Some config) None f = None
with_files None schema f = None

abbrev pub play_of : Option Given → Option Command
play_of None = None
play_of (Some g) = with_files g.config g.schema (λ config schema. played config schema g.script g.journal g.generate g.size)

abbrev pub serve_of : Option Given → Option Command
serve_of None = None
serve_of (Some g) = with_files g.config g.schema (λ config schema. Some (Serve config schema))

-- the command of words that begin so
abbrev pub command_by : Text → List Text → Option Command
command_by first words = if bytes_eq first (codes "play") then play_of (play_line words)
    else (if bytes_eq first (codes "serve") then serve_of (serve_line words) else None)

-- the command that the words are, if they are one
abbrev pub command_of : List Text → Option Command
command_of [] = None
command_of (first ∷ rest) = command_by first (first ∷ rest)
