-- Which lines of a configuration are faults, and what they are.
use Rattle.std.specs.Prelude.{◌≡◌, ◌+◌, ◌⊎◌, ℕ, List, [], ◌∷◌, ◌++◌}
use Rattle.pool_config.specs.Form.{IsEnd}
use Rattle.pool_config.specs.Settings.{Sets, HasFault}
use Rattle.pool_config.specs.declared.assemble.Setting.{Setting}
use Rattle.pool_config.specs.declared.fault.ConfigFault.{ConfigFault}
use Rattle.pool_config.specs.declared.fault.ConfigFault.TheVariants.{BadLine, UnknownName, WrongMode}
use Rattle.pool_advice.specs.declared.fault.LineFault.{LineFault}
use Rattle.pool_advice.specs.declared.fault.Refusal.{Refusal}
use Rattle.pool_advice.specs.declared.fault.Refusal.TheVariants as refusals

-- the reader's fault for a refusal of line n
abbrev pub fault_by : ℕ → Refusal → ConfigFault
fault_by n refusals.Bad = BadLine n
fault_by n refusals.UnknownName = UnknownName n
fault_by n refusals.WrongMode = WrongMode n

-- a line is empty, or sets something
abbrev pub IsGood : List ℕ → Type 0
IsGood line = IsEnd line ⊎ ((s : Setting) × Sets line s)

-- the reader refuses the line so, whatever its number
abbrev pub IsRefusedBy : List ℕ → Refusal → Type 0
IsRefusedBy line refusal = (n : ℕ) → HasFault n line (fault_by n refusal)

-- line n is told as it stands, with the fault that it has
pub record IsFaultOf (n : ℕ) (line : List ℕ) (fault : LineFault) : Type 0 where
  pub numbered : fault.number ≡ n
  pub told : fault.line.now ≡ line
  pub has : HasFault n line (fault_by n fault.refusal)

-- the faults of lines that are numbered from n on: one for each that is not good, in their order
abbrev pub AreFaults : ℕ → List (List ℕ) → List LineFault → Type 0
AreFaults n [] faults = faults ≡ []
AreFaults n (line ∷ rest) [] = IsGood line × AreFaults (n + 1) rest []
AreFaults n (line ∷ rest) (fault ∷ more) = (IsGood line × AreFaults (n + 1) rest (fault ∷ more))
    ⊎ (IsFaultOf n line fault × AreFaults (n + 1) rest more)

-- the faults before line n and with it
abbrev pub Adds : ℕ → List ℕ → List LineFault → List LineFault → Type 0
Adds n line old new = (IsGood line × (new ≡ old)) ⊎ ((fault : LineFault) × IsFaultOf n line fault × (new ≡ old ++ fault ∷ []))

-- the first of them is the reader's fault
abbrev pub Begins : List LineFault → ConfigFault → Type 0
Begins [] fault = ⊥
Begins (first ∷ more) fault = fault ≡ fault_by first.number first.refusal
