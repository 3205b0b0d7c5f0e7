-- How the backend of a read is chosen, by the configuration.
use Rattle.std.specs.Prelude.{ℕ, List, [], ◌∷◌, Option, Some, None}
use Rattle.std.specs.List.{slice_get}
use Rattle.pool_config.specs.declared.config.Node.{Node}
use Rattle.pool_config.specs.declared.config.Config.{Config}
use Rattle.session_machine.specs.declared.machine.ReadPolicy.{ReadPolicy}

abbrev pub weight_of : Option Node → ℕ
weight_of None = 0
weight_of (Some node) = node.weight

-- the weight of a backend; 0 where the configuration has none of that number
abbrev pub weight_in : List Node → ℕ → ℕ
weight_in nodes at = weight_of (slice_get nodes at)

-- the weights by the numbers of the backends
abbrev pub policy_in : Config → ReadPolicy
policy_in config =
    record {
      weights =
          weight_in config.nodes 0 ∷ weight_in config.nodes 1 ∷ weight_in config.nodes 2 ∷ weight_in config.nodes 3
          ∷ weight_in config.nodes 4 ∷ weight_in config.nodes 5 ∷ weight_in config.nodes 6 ∷ weight_in config.nodes 7 ∷ [];
      balance = config.balance;
      per_statement = config.per_statement;
    }
