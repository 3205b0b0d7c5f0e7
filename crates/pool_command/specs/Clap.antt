-- The two simple commands of `clap` that read the words behind the first, and what stands on a line.
use Rattle.std.specs.Prelude.{Bool, true, false, List, [], ◌∷◌, Option, Some, None, codes, option_map}
use Rattle.std.specs.Str.{bytes_eq}
use Rattle.clap.specs.Walk.{Row, Rule, Text, first_of}
use Rattle.clap.specs.Simple.{App, matches_of, new_app, new_rule, on_top, with_rule}
use Rattle.clap.specs.Faults.{fault_of}
use Rattle.clap.specs.Kinds.{Kinds}
use Rattle.clap.specs.declared.builder.action.ArgAction.TheVariants.{SetTrue}
use Rattle.pool_command.specs.declared.line.Line.{Line}

-- a file that has to be named
abbrev pub file_rule : Text → Rule
file_rule id = record (new_rule id) { required = true }

-- an option with a value
abbrev pub option_rule : Text → Rule
option_rule id = record (new_rule id) { long = Some id }

-- an option without one
abbrev pub flag_rule : Text → Rule
flag_rule id = record (new_rule id) { long = Some id; action = Some SetTrue }

abbrev pub app_of_name : Text → App
app_of_name name = on_top (λ s. record s { disable_help_flag = true }) (new_app name)

-- a command that wants the two files
abbrev pub files_app : Text → App
files_app name = with_rule (with_rule (app_of_name name) (file_rule (codes "config"))) (file_rule (codes "schema"))

abbrev pub serve_app : App
serve_app = files_app (codes "serve")

abbrev pub play_app : App
play_app = with_rule (with_rule (with_rule (with_rule (files_app (codes "play")) (new_rule (codes "script")))
    (flag_rule (codes "journal"))) (option_rule (codes "generate"))) (option_rule (codes "size"))

-- what stands on a line of words: the files, and the values of the options
pub record Given : Type 0 where
  pub config : Option Text
  pub schema : Option Text
  pub script : Option Text
  pub journal : Bool
  pub generate : Option Text
  pub size : Option Text

abbrev pub given_by : Line → Given
given_by line = record {
  config = option_map (λ t. t.now) line.config;
  schema = option_map (λ t. t.now) line.schema;
  script = option_map (λ t. t.now) line.script;
  journal = line.journal;
  generate = option_map (λ t. t.now) line.generate;
  size = option_map (λ t. t.now) line.size;
}

abbrev pub is_true : Option Text → Bool
is_true None = false
is_true (Some t) = bytes_eq t (codes "true")

abbrev pub given_of : List Row → Given
given_of rows = record {
  config = first_of (codes "config") rows;
  schema = first_of (codes "schema") rows;
  script = first_of (codes "script") rows;
  journal = is_true (first_of (codes "journal") rows);
  generate = first_of (codes "generate") rows;
  size = first_of (codes "size") rows;
}

abbrev pub files_of : List Row → Given
files_of rows = record {
  config = first_of (codes "config") rows;
  schema = first_of (codes "schema") rows;
  script = None;
  journal = false;
  generate = None;
  size = None;
}

-- the value, where the list of faults is empty
abbrev pub unless_faulty : {X : Type 0} → Kinds → X → Option X
unless_faulty [] x = Some x
unless_faulty (k ∷ ks) x = None

-- what stands on a line that `clap` takes; the first word is the command's name
abbrev pub play_line : List Text → Option Given
play_line words = unless_faulty (fault_of play_app words) (given_of (matches_of play_app words))

abbrev pub serve_line : List Text → Option Given
serve_line words = unless_faulty (fault_of serve_app words) (files_of (matches_of serve_app words))
