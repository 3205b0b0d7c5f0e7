-- Reading as functions on lists, one for each function of the reader. The relations of Form,
-- Settings and Configuration say what they give.
use Rattle.std.specs.Prelude.{◌≡◌, ◌==◌, ◌+◌, ℕ, Bool, true, List, [], ◌∷◌, ◌++◌}
use Rattle.std.specs.Prelude.{Option, Some, None, Result, Ok, Err, if◌then◌else◌}
use Rattle.pool_config.specs.Bytes.{front, behind, lines}
use Rattle.pool_config.specs.Form.{Spelling, quoted, bare, spelling_of}
use Rattle.pool_config.specs.Value.{value_of}
use Rattle.pool_config.specs.Table.{kind_of, takes, name_of}
use Rattle.pool_config.specs.Names.{parameter_named}
use Rattle.pool_config.specs.Configuration.{config_of, missing_of}
use Rattle.pool_config.specs.declared.line.Class.TheVariants.{Blank, Name, Word, Inner}
use Rattle.pool_config.specs.declared.line.Line.{Line}
use Rattle.pool_config.specs.declared.line.Line.TheVariants.{Empty, Assignment, Other}
use Rattle.pool_config.specs.declared.parameter.Parameter.{Parameter}
use Rattle.pool_config.specs.declared.parameter.Parameter.TheVariants.{ClusteringMode}
use Rattle.pool_config.specs.declared.value.Value.{Value}
use Rattle.pool_config.specs.declared.value.Value.TheVariants.{Text}
use Rattle.pool_config.specs.declared.assemble.Setting.{Setting}
use Rattle.pool_config.specs.declared.config.Config.{Config}
use Rattle.pool_config.specs.declared.fault.ConfigFault.{ConfigFault}
use Rattle.pool_config.specs.declared.fault.ConfigFault.TheVariants.{BadLine, UnknownName, WrongMode, Missing, NoMemory}

-- what a call gave is what reading gives, unless memory ran out
abbrev pub FailsBy : {Y : Type 0} → ConfigFault → Result Y ConfigFault → Type 0
FailsBy NoMemory read = Unit {0}
FailsBy (BadLine n) read = read ≡ Err (BadLine n)
FailsBy (UnknownName n) read = read ≡ Err (UnknownName n)
FailsBy (WrongMode n) read = read ≡ Err (WrongMode n)
FailsBy (Missing name) read = read ≡ Err (Missing name)

abbrev pub Gives : {Y : Type 0} → Result Y ConfigFault → Result Y ConfigFault → Type 0
Gives (Ok x) read = read ≡ Ok x
Gives (Err fault) read = FailsBy fault read

-- ---- a line

abbrev pub starts_comment : List ℕ → Bool
starts_comment [] = true
starts_comment (b ∷ rest) = b == 35

abbrev pub is_end : List ℕ → Bool
is_end bytes = starts_comment (behind Blank bytes)

abbrev pub closed_at : List ℕ → List ℕ → Option (Spelling × List ℕ)
closed_at inner [] = None
closed_at inner (quote ∷ rest) = Some (quoted inner, rest)

abbrev pub word_at : List ℕ → List ℕ → Option (Spelling × List ℕ)
word_at [] rest = None
word_at (b ∷ word) rest = Some (bare (b ∷ word), rest)

abbrev pub quoted_at : List ℕ → Option (Spelling × List ℕ)
quoted_at bytes = closed_at (front Inner bytes) (behind Inner bytes)

abbrev pub bare_at : List ℕ → Option (Spelling × List ℕ)
bare_at bytes = word_at (front Word bytes) (behind Word bytes)

abbrev pub spelling_at : List ℕ → Option (Spelling × List ℕ)
spelling_at [] = None
spelling_at (b ∷ rest) = if b == 39 then quoted_at rest else bare_at (b ∷ rest)

abbrev pub ended : List ℕ → Option (Spelling × List ℕ) → Option (List ℕ × Spelling)
ended name None = None
ended name (Some p) = if is_end p.1 then Some (name, p.0) else None

-- what stands behind `=` and blanks
abbrev pub value_part : List ℕ → Option (List ℕ)
value_part [] = None
value_part (b ∷ rest) = if b == 61 then Some (behind Blank rest) else None

abbrev pub spelled_in : Option (List ℕ) → Option (Spelling × List ℕ)
spelled_in None = None
spelled_in (Some bytes) = spelling_at bytes

abbrev pub named : List ℕ → List ℕ → Option (List ℕ × Spelling)
named [] rest = None
named (b ∷ name) rest = ended (b ∷ name) (spelled_in (value_part (behind Blank rest)))

-- `name = value` at the front, and nothing behind it but a comment
abbrev pub assignment_at : List ℕ → Option (List ℕ × Spelling)
assignment_at bytes = named (front Name bytes) (behind Name bytes)

-- a line by its form
pub data Form : Type 0 where
  empty : Form
  assignment : List ℕ → Spelling → Form
  other : Form

abbrev pub form_of : Line → Form
form_of Empty = empty
form_of (Assignment name written) = assignment name.now (spelling_of written)
form_of Other = other

abbrev pub formed : Option (List ℕ × Spelling) → Form
formed None = other
formed (Some p) = assignment p.0 p.1

unfoldable pub form_at : List ℕ → Form
form_at line = if is_end line then empty else formed (assignment_at (behind Blank line))

-- ---- a setting

-- the fault of a value that the parameter does not take
abbrev pub refused : ℕ → Parameter → Value → ConfigFault
refused n ClusteringMode (Text text) = WrongMode n
refused n _ _ = BadLine n

abbrev pub set_by : ℕ → Parameter → Option Value → Result Setting ConfigFault
set_by n p None = Err (BadLine n)
set_by n p (Some v) =
    if takes (kind_of p) v then Ok (record { parameter = p; value = v }) else Err (refused n p v)

abbrev pub set_of : Result Setting ConfigFault → Result (Option Setting) ConfigFault
set_of (Ok s) = Ok (Some s)
set_of (Err fault) = Err fault

abbrev pub assigned : ℕ → Option Parameter → Spelling → Result (Option Setting) ConfigFault
assigned n None value = Err (UnknownName n)
assigned n (Some p) value = set_of (set_by n p (value_of value))

abbrev pub setting_in : ℕ → Form → Result (Option Setting) ConfigFault
setting_in n empty = Ok None
setting_in n other = Err (BadLine n)
setting_in n (assignment name value) = assigned n (parameter_named name) value

-- what line n sets
abbrev pub setting_at : ℕ → List ℕ → Result (Option Setting) ConfigFault
setting_at n line = setting_in n (form_at line)

-- ---- a text

abbrev pub joined : Result (Option Setting) ConfigFault → Result (List Setting) ConfigFault
    → Result (List Setting) ConfigFault
joined (Err fault) rest = Err fault
joined (Ok None) rest = rest
joined (Ok (Some s)) (Ok said) = Ok (s ∷ said)
joined (Ok (Some s)) (Err fault) = Err fault

-- more settings behind these
abbrev pub onto_said : List Setting → Result (List Setting) ConfigFault → Result (List Setting) ConfigFault
onto_said said (Ok more) = Ok (said ++ more)
onto_said said (Err fault) = Err fault

-- what the lines set, which are numbered from n on
abbrev pub read_lines : ℕ → List (List ℕ) → Result (List Setting) ConfigFault
read_lines n [] = Ok []
read_lines n (line ∷ rest) = joined (setting_at n line) (read_lines (n + 1) rest)

abbrev pub unless_missing : Option Parameter → List Setting → Result Config ConfigFault
unless_missing None said = Ok (config_of said)
unless_missing (Some p) said = Err (Missing (name_of p))

abbrev pub assembled : Result (List Setting) ConfigFault → Result Config ConfigFault
assembled (Err fault) = Err fault
assembled (Ok said) = unless_missing (missing_of said) said

-- the answer to a text
unfoldable pub answer_of : List ℕ → Result Config ConfigFault
answer_of text = assembled (read_lines 1 (lines text))
