-- What a line sets, which fault it has, and what the lines of a text say together.
use Rattle.std.specs.Prelude.{◌≡◌, ◌+◌, ◌⊎◌, ℕ, true, false, bytes_eq, List, [], ◌∷◌, Some, None, codes}
use Rattle.pool_config.specs.Form.{Spelling, IsAssignment, IsEnd}
use Rattle.pool_config.specs.Value.{value_of}
use Rattle.pool_config.specs.Table.{kind_of, takes}
use Rattle.pool_config.specs.Names.{parameter_named}
use Rattle.pool_config.specs.declared.parameter.Parameter.TheVariants.{ClusteringMode}
use Rattle.pool_config.specs.declared.value.Value.TheVariants.{Text}
use Rattle.pool_config.specs.declared.assemble.Setting.{Setting}
use Rattle.pool_config.specs.declared.fault.ConfigFault.{ConfigFault}
use Rattle.pool_config.specs.declared.fault.ConfigFault.TheVariants.{BadLine, UnknownName, WrongMode, Missing, NoMemory}

-- the line gives a parameter a value that it takes
pub record Sets (line : List ℕ) (s : Setting) : Type 0 where
  pub name : List ℕ
  pub value : Spelling
  pub form : IsAssignment line name value
  pub known : parameter_named name ≡ Some s.parameter
  pub means : value_of value ≡ Some s.value
  pub taken : takes (kind_of s.parameter) s.value ≡ true

-- the line has the form, and no parameter has its name
pub record HasUnknownName (line : List ℕ) : Type 0 where
  pub name : List ℕ
  pub value : Spelling
  pub form : IsAssignment line name value
  pub unknown : parameter_named name ≡ None

-- the line asks by a string for a mode that is not this one
pub record AsksOtherMode (line : List ℕ) : Type 0 where
  pub name : List ℕ
  pub mode : List ℕ
  pub value : Spelling
  pub form : IsAssignment line name value
  pub known : parameter_named name ≡ Some ClusteringMode
  pub means : value_of value ≡ Some (Text mode)
  pub other : bytes_eq mode (codes "snapshot_isolation") ≡ false

-- any other line that says something
pub record IsBad (line : List ℕ) : Type 0 where
  pub not_empty : ¬ (IsEnd line)
  pub sets_nothing : (s : Setting) → ¬ (Sets line s)
  pub not_unknown : ¬ (HasUnknownName line)
  pub not_mode : ¬ (AsksOtherMode line)

-- the line with this number has the fault
abbrev pub HasFault : ℕ → List ℕ → ConfigFault → Type 0
HasFault n line (BadLine at) = (at ≡ n) × IsBad line
HasFault n line (UnknownName at) = (at ≡ n) × HasUnknownName line
HasFault n line (WrongMode at) = (at ≡ n) × AsksOtherMode line
HasFault n line (Missing name) = ⊥
HasFault n line NoMemory = ⊥

-- every line is empty or sets something, and these are the settings in their order
abbrev pub Say : List (List ℕ) → List Setting → Type 0
Say [] said = said ≡ []
Say (line ∷ rest) [] = IsEnd line × Say rest []
Say (line ∷ rest) (s ∷ said) = (IsEnd line × Say rest (s ∷ said)) ⊎ (Sets line s × Say rest said)

-- the first line with a fault, of lines that are numbered from n on
abbrev pub FirstFault : ℕ → List (List ℕ) → ConfigFault → Type 0
FirstFault n [] fault = ⊥
FirstFault n (line ∷ rest) fault = HasFault n line fault
    ⊎ ((IsEnd line ⊎ ((s : Setting) × Sets line s)) × FirstFault (n + 1) rest fault)
