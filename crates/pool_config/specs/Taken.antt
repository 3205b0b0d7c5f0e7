-- Settings whose parameters take their values.
use Rattle.std.specs.Prelude.{◌≡◌, true, List, [], ◌∷◌}
use Rattle.pool_config.specs.Table.{kind_of, takes}
use Rattle.pool_config.specs.declared.assemble.Setting.{Setting}

abbrev pub AllTaken : List Setting → Type 0
AllTaken [] = Unit {0}
AllTaken (s ∷ rest) = (takes (kind_of s.parameter) s.value ≡ true) × AllTaken rest
