-- Which parameter has a name, if one has.
use Rattle.std.specs.Prelude.{◌==◌, ◌-◌, ℕ, List, drop, take, length, nat_lt}
use Rattle.std.specs.Prelude.{Option, Some, None, option_map, if◌then◌else◌, codes, slice_index, slice_get, bytes_eq}
use Rattle.pool_base.specs.declared.backend_id.BackendId.{BackendId}
use Rattle.pool_config.specs.Table.{all_backends}
use Rattle.pool_config.specs.Users.{user_at}
use Rattle.pool_config.specs.declared.parameter.Parameter.{Parameter}
use Rattle.pool_config.specs.declared.parameter.Parameter.TheVariants.{ClusteringMode, Hostname, BackendPort, Weight, ListenAddresses, Port, Children, LoadBalance, StatementBalance, InsertLock, StopOnMismatch, FailoverOnMismatch, ServerTimeout, AuthenticationTimeout, ClientIdleLimit, LogConnections, LogDisconnections, ScramUser, ScramVerifier, BackendPassword}

-- among those without a number
abbrev pub single_named : List ℕ → Option Parameter
single_named name = if bytes_eq name (codes "backend_clustering_mode") then Some ClusteringMode
    else (if bytes_eq name (codes "listen_addresses") then Some ListenAddresses
    else (if bytes_eq name (codes "port") then Some Port
    else (if bytes_eq name (codes "num_init_children") then Some Children
    else (if bytes_eq name (codes "load_balance_mode") then Some LoadBalance
    else (if bytes_eq name (codes "statement_level_load_balance") then Some StatementBalance
    else (if bytes_eq name (codes "insert_lock") then Some InsertLock
    else (if bytes_eq name (codes "replication_stop_on_mismatch") then Some StopOnMismatch
    else (if bytes_eq name (codes "failover_if_affected_tuples_mismatch") then Some FailoverOnMismatch
    else (if bytes_eq name (codes "server_timeout") then Some ServerTimeout
    else (if bytes_eq name (codes "authentication_timeout") then Some AuthenticationTimeout
    else (if bytes_eq name (codes "client_idle_limit") then Some ClientIdleLimit
    else (if bytes_eq name (codes "log_connections") then Some LogConnections
    else (if bytes_eq name (codes "log_disconnections") then Some LogDisconnections
    else (if bytes_eq name (codes "backend_password") then Some BackendPassword
    else None))))))))))))))

-- among those of one backend: a stem, and the digit of its number
abbrev pub of_stem : List ℕ → BackendId → Option Parameter
of_stem stem b = if bytes_eq stem (codes "backend_hostname") then Some (Hostname b)
    else (if bytes_eq stem (codes "backend_port") then Some (BackendPort b)
    else (if bytes_eq stem (codes "backend_weight") then Some (Weight b) else None))

abbrev pub of_backend : List ℕ → Option BackendId → Option Parameter
of_backend stem None = None
of_backend stem (Some b) = of_stem stem b

abbrev pub by_digit : List ℕ → ℕ → Option Parameter
by_digit stem digit =
    if nat_lt digit 48 then None else of_backend stem (slice_get all_backends (digit - 48))

abbrev pub numbered_named : List ℕ → Option Parameter
numbered_named name = if length name == 0 then None
    else by_digit (take (length name - 1) name) (slice_index (drop (length name - 1) name) 0)

abbrev pub or_numbered : Option Parameter → List ℕ → Option Parameter
or_numbered (Some p) name = Some p
or_numbered None name = numbered_named name

-- among those of one user: a stem, and the digits of its number
abbrev pub user_named : List ℕ → Option Parameter
user_named name = if bytes_eq (take 10 name) (codes "scram_user") then option_map ScramUser (user_at (drop 10 name))
    else (if bytes_eq (take 14 name) (codes "scram_verifier") then option_map ScramVerifier (user_at (drop 14 name)) else None)

abbrev pub or_of_user : Option Parameter → List ℕ → Option Parameter
or_of_user (Some p) name = Some p
or_of_user None name = user_named name

unfoldable pub parameter_named : List ℕ → Option Parameter
parameter_named name = or_of_user (or_numbered (single_named name) name) name
