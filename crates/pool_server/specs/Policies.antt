-- How reads are spread, by the configuration.
use Rattle.std.specs.Prelude.{ℕ, List, [], ◌∷◌, Option, Some, None}
use Rattle.std.specs.List.{slice_get}
use Rattle.pool_config.specs.declared.config.Node.{Node}
use Rattle.pool_config.specs.declared.config.Config.{Config}
use Rattle.session_machine.specs.declared.machine.ReadPolicy.{ReadPolicy}

abbrev pub weight_of : Option Node → ℕ
weight_of None = 0
weight_of (Some node) = node.weight

-- the weight of a backend, by its number
abbrev pub weight_at : List Node → ℕ → ℕ
weight_at nodes at = weight_of (slice_get nodes at)

abbrev pub policy_of : Config → ReadPolicy
policy_of config =
    record {
      weights = weight_at config.nodes 0 ∷ weight_at config.nodes 1 ∷ weight_at config.nodes 2 ∷ weight_at config.nodes 3
          ∷ weight_at config.nodes 4 ∷ weight_at config.nodes 5 ∷ weight_at config.nodes 6 ∷ weight_at config.nodes 7 ∷ [];
      balance = config.balance;
      per_statement = config.per_statement;
    }
