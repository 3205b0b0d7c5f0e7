-- The table of parameters: the name of each, what it takes, and its default.
use Rattle.std.specs.Prelude.{◌+◌, ◌&&◌, ℕ, Bool, true, false, not, List, [], ◌∷◌, ◌++◌, Option, Some, None, nat_le, codes}
use Rattle.std.specs.List.{list_all}
use Rattle.std.specs.Str.{bytes_eq}
use lib.Dec.{lit<}
use Rattle.pool_base.specs.declared.backend_id.BackendId.{BackendId}
use Rattle.scram.specs.Tests.{is_verifier}
use Rattle.pool_config.specs.Users.{digits_of}
use Rattle.pool_config.specs.declared.user.UserNumber.{UserNumber}
use Rattle.pool_config.specs.declared.parameter.Number.{Number as NumberOf}
use Rattle.pool_config.specs.declared.parameter.Number.TheVariants as numbers
use Rattle.pool_config.specs.declared.parameter.Parameter.{Parameter}
use Rattle.pool_config.specs.declared.parameter.Parameter.TheVariants.{ClusteringMode, Hostname, BackendPort, Weight, ListenAddresses, Port, Children, LoadBalance, StatementBalance, InsertLock, StopOnMismatch, FailoverOnMismatch, ServerTimeout, AuthenticationTimeout, ClientIdleLimit, LogConnections, LogDisconnections, ScramUser, ScramVerifier, BackendPassword}
use Rattle.pool_config.specs.declared.parameter.Kind.{Kind}
use Rattle.pool_config.specs.declared.parameter.Kind.TheVariants as kind
use Rattle.pool_config.specs.declared.value.Value.{Value}
use Rattle.pool_config.specs.declared.value.Value.TheVariants.{Text, Number, Truth}

-- the backends, by number
abbrev pub all_backends : List BackendId
all_backends = record { number = 0; below_8 = lit< tt } ∷ record { number = 1; below_8 = lit< tt }
    ∷ record { number = 2; below_8 = lit< tt } ∷ record { number = 3; below_8 = lit< tt }
    ∷ record { number = 4; below_8 = lit< tt } ∷ record { number = 5; below_8 = lit< tt }
    ∷ record { number = 6; below_8 = lit< tt } ∷ record { number = 7; below_8 = lit< tt } ∷ []

abbrev pub numbered : List ℕ → BackendId → List ℕ
numbered stem b = stem ++ (48 + b.number) ∷ []

abbrev pub of_user : List ℕ → UserNumber → List ℕ
of_user stem u = stem ++ digits_of u.number

-- a stem, with a number where there is one
abbrev pub with_number : List ℕ → NumberOf → List ℕ
with_number stem numbers.Nobody = stem
with_number stem (numbers.OfBackend b) = numbered stem b
with_number stem (numbers.OfUser u) = of_user stem u

-- the name of each
abbrev pub name_of : Parameter → List ℕ
name_of ClusteringMode = codes "backend_clustering_mode"
name_of (Hostname b) = numbered (codes "backend_hostname") b
name_of (BackendPort b) = numbered (codes "backend_port") b
name_of (Weight b) = numbered (codes "backend_weight") b
name_of ListenAddresses = codes "listen_addresses"
name_of Port = codes "port"
name_of Children = codes "num_init_children"
name_of LoadBalance = codes "load_balance_mode"
name_of StatementBalance = codes "statement_level_load_balance"
name_of InsertLock = codes "insert_lock"
name_of StopOnMismatch = codes "replication_stop_on_mismatch"
name_of FailoverOnMismatch = codes "failover_if_affected_tuples_mismatch"
name_of (ScramUser u) = of_user (codes "scram_user") u
name_of (ScramVerifier u) = of_user (codes "scram_verifier") u
name_of ServerTimeout = codes "server_timeout"
name_of AuthenticationTimeout = codes "authentication_timeout"
name_of ClientIdleLimit = codes "client_idle_limit"
name_of LogConnections = codes "log_connections"
name_of LogDisconnections = codes "log_disconnections"
name_of BackendPassword = codes "backend_password"

-- the kind and the range of its value
abbrev pub kind_of : Parameter → Kind
kind_of ClusteringMode = kind.Mode
kind_of (Hostname b) = kind.HostName
kind_of (BackendPort b) = kind.Number 1 65535
kind_of (Weight b) = kind.Number 0 1000
kind_of ListenAddresses = kind.Words
kind_of Port = kind.Number 1 65535
kind_of Children = kind.Number 1 64
kind_of LoadBalance = kind.Truth
kind_of StatementBalance = kind.Truth
kind_of InsertLock = kind.OnlyOn
kind_of StopOnMismatch = kind.OnlyOn
kind_of FailoverOnMismatch = kind.OnlyOn
kind_of (ScramUser u) = kind.Words
kind_of (ScramVerifier u) = kind.Verifier
kind_of ServerTimeout = kind.Number 2 600
kind_of AuthenticationTimeout = kind.Number 1 600
kind_of ClientIdleLimit = kind.Number 0 86400
kind_of LogConnections = kind.Truth
kind_of LogDisconnections = kind.Truth
kind_of BackendPassword = kind.Secret

-- the value that stands where no line sets it; without one it is required where its backend is there
abbrev pub default_of : Parameter → Option Value
default_of (Weight b) = Some (Number 1)
default_of ListenAddresses = Some (Text (codes "localhost"))
default_of Port = Some (Number 9999)
default_of Children = Some (Number 32)
default_of LoadBalance = Some (Truth true)
default_of StatementBalance = Some (Truth false)
default_of InsertLock = Some (Truth true)
default_of StopOnMismatch = Some (Truth true)
default_of FailoverOnMismatch = Some (Truth true)
default_of ServerTimeout = Some (Number 10)
default_of AuthenticationTimeout = Some (Number 30)
default_of ClientIdleLimit = Some (Number 0)
default_of LogConnections = Some (Truth false)
default_of LogDisconnections = Some (Truth false)
default_of ClusteringMode = None
default_of (Hostname b) = None
default_of (BackendPort b) = None
default_of (ScramUser u) = None
default_of (ScramVerifier u) = None
default_of BackendPassword = None

-- the bytes 32 to 126 alone
abbrev pub is_secret : List ℕ → Bool
is_secret text = list_all (λ b. nat_le 32 b && nat_le b 126) text

abbrev pub takes_text : Kind → List ℕ → Bool
takes_text kind.Mode text = bytes_eq text (codes "snapshot_isolation")
takes_text kind.HostName text = not (bytes_eq text [])
takes_text kind.Words text = true
takes_text (kind.Number low high) text = false
takes_text kind.Truth text = false
takes_text kind.OnlyOn text = false
takes_text kind.Verifier text = is_verifier text
takes_text kind.Secret text = is_secret text

abbrev pub takes_number : Kind → ℕ → Bool
takes_number (kind.Number low high) n = nat_le low n && nat_le n high
takes_number kind.Mode n = false
takes_number kind.HostName n = false
takes_number kind.Words n = false
takes_number kind.Truth n = false
takes_number kind.OnlyOn n = false
takes_number kind.Verifier n = false
takes_number kind.Secret n = false

abbrev pub takes_truth : Kind → Bool → Bool
takes_truth kind.Truth on = true
takes_truth kind.OnlyOn on = on
takes_truth (kind.Number low high) on = false
takes_truth kind.Mode on = false
takes_truth kind.HostName on = false
takes_truth kind.Words on = false
takes_truth kind.Verifier on = false
takes_truth kind.Secret on = false

-- a parameter of that kind takes the value
abbrev pub takes : Kind → Value → Bool
takes k (Text text) = takes_text k text
takes k (Number n) = takes_number k n
takes k (Truth on) = takes_truth k on

-- the place of each in a list of all, which tells them apart
abbrev pub place_of : Parameter → ℕ
place_of ClusteringMode = 0
place_of (Hostname b) = 8 + b.number
place_of (BackendPort b) = 16 + b.number
place_of (Weight b) = 24 + b.number
place_of ListenAddresses = 1
place_of Port = 2
place_of Children = 3
place_of LoadBalance = 4
place_of StatementBalance = 5
place_of InsertLock = 6
place_of StopOnMismatch = 7
place_of FailoverOnMismatch = 32
place_of ServerTimeout = 33
place_of AuthenticationTimeout = 34
place_of ClientIdleLimit = 35
place_of LogConnections = 36
place_of LogDisconnections = 37
place_of BackendPassword = 38
place_of (ScramUser u) = 40 + u.number
place_of (ScramVerifier u) = 56 + u.number

-- how many backends there are at least where it is set
abbrev pub backends_of : Parameter → ℕ
backends_of (Hostname b) = b.number + 1
backends_of (BackendPort b) = b.number + 1
backends_of (Weight b) = b.number + 1
backends_of _ = 0

-- how many users there are at least where it is set
abbrev pub users_of : Parameter → ℕ
users_of (ScramUser u) = u.number + 1
users_of (ScramVerifier u) = u.number + 1
users_of _ = 0
