-- The configuration of a text, and the fault of a text that has none.
use Rattle.std.specs.Prelude.{◌≡◌, ◌≤◌, ◌==◌, ℕ, Bool, true, false, not, List, [], ◌∷◌, ◌++◌, map, max, take, length}
use Rattle.std.specs.Prelude.{Option, Some, None, Result, Ok, Err, is_some, option_map, if◌then◌else◌, find}
use Rattle.std.specs.Str.{is_utf8}
use Rattle.pool_base.specs.declared.backend_id.BackendId.{BackendId}
use Rattle.pool_config.specs.Bytes.{AllOf, lines}
use Rattle.scram.specs.Tests.{is_verifier}
use Rattle.pool_config.specs.Table.{all_backends, name_of, default_of, place_of, backends_of, users_of, is_secret}
use Rattle.pool_config.specs.Users.{all_users}
use Rattle.pool_config.specs.declared.user.UserNumber.{UserNumber}
use Rattle.pool_config.specs.declared.config.ScramUser.{ScramUser as UserOf}
use Rattle.pool_config.specs.Settings.{Say, FirstFault}
use Rattle.pool_config.specs.declared.line.Class.TheVariants.{Inner, InLine}
use Rattle.pool_config.specs.declared.parameter.Parameter.{Parameter}
use Rattle.pool_config.specs.declared.parameter.Parameter.TheVariants.{ClusteringMode, Hostname, BackendPort, Weight, ListenAddresses, Port, Children, LoadBalance, StatementBalance, ServerTimeout, AuthenticationTimeout, ClientIdleLimit, LogConnections, LogDisconnections, ScramUser, ScramVerifier, BackendPassword}
use Rattle.pool_config.specs.declared.value.Value.{Value}
use Rattle.pool_config.specs.declared.value.Value.TheVariants.{Text, Number, Truth}
use Rattle.pool_config.specs.declared.assemble.Setting.{Setting}
use Rattle.pool_config.specs.declared.config.Config.{Config}
use Rattle.pool_config.specs.declared.config.Node.{Node}
use Rattle.pool_config.specs.declared.config.Sessions.{Sessions}
use Rattle.pool_config.specs.declared.fault.ConfigFault.{ConfigFault}
use Rattle.pool_config.specs.declared.fault.ConfigFault.TheVariants.{BadLine, UnknownName, WrongMode, Missing, NoMemory}

-- ---- what stands

-- the later of two, where there is one
abbrev pub later : {X : Type 0} → Option X → Option X → Option X
later None earlier = earlier
later (Some x) earlier = Some x

-- what one setting says of a parameter
abbrev pub said_by : Parameter → Setting → Option Value
said_by p s = if place_of s.parameter == place_of p then Some s.value else None

-- the value that the last setting of a parameter gives it
abbrev pub standing : Parameter → List Setting → Option Value
standing p [] = None
standing p (s ∷ rest) = later (standing p rest) (said_by p s)

-- that value, or the default
abbrev pub value_for : Parameter → List Setting → Option Value
value_for p said = later (standing p said) (default_of p)

abbrev pub text_in : Option Value → List ℕ
text_in (Some (Text text)) = text
text_in _ = []

abbrev pub text_there : Option Value → Option (List ℕ)
text_there (Some (Text text)) = Some text
text_there _ = None

abbrev pub number_in : Option Value → ℕ
number_in (Some (Number n)) = n
number_in _ = 0

abbrev pub truth_in : Option Value → Bool
truth_in (Some (Truth on)) = on
truth_in _ = false

-- ---- the backends

-- how many backends the settings speak of: one more than the greatest number, and at least one
abbrev pub count_of : List Setting → ℕ
count_of [] = 1
count_of (s ∷ rest) = max (backends_of s.parameter) (count_of rest)

-- those that the settings speak of
abbrev pub backends_in : List Setting → List BackendId
backends_in said = take (count_of said) all_backends

abbrev pub node_of : List Setting → BackendId → Node
node_of said b = record {
  host = text_in (value_for (Hostname b) said);
  port = number_in (value_for (BackendPort b) said);
  weight = number_in (value_for (Weight b) said);
}

-- ---- the users

-- how many users the settings speak of: one more than the greatest number, and else none
abbrev pub user_count_of : List Setting → ℕ
user_count_of [] = 0
user_count_of (s ∷ rest) = max (users_of s.parameter) (user_count_of rest)

-- those that the settings speak of
abbrev pub users_in : List Setting → List UserNumber
users_in said = take (user_count_of said) all_users

abbrev pub user_of : List Setting → UserNumber → UserOf
user_of said u = record {
  name = text_in (value_for (ScramUser u) said);
  verifier = text_in (value_for (ScramVerifier u) said);
}

-- ---- the sessions

abbrev pub sessions_of : List Setting → Sessions
sessions_of said = record {
  server_timeout = number_in (value_for ServerTimeout said);
  authentication_timeout = number_in (value_for AuthenticationTimeout said);
  client_idle_limit = number_in (value_for ClientIdleLimit said);
  log_connections = truth_in (value_for LogConnections said);
  log_disconnections = truth_in (value_for LogDisconnections said);
}

-- ---- what is missing

-- the mode, the hostnames and the ports of these backends
abbrev pub required_at : List BackendId → List Parameter
required_at backends = ClusteringMode ∷ (map Hostname backends ++ map BackendPort backends)

-- the names and the verifiers of these users
abbrev pub required_of : List UserNumber → List Parameter
required_of users = map ScramUser users ++ map ScramVerifier users

-- those of the backends and the users that the settings speak of
abbrev pub required : List Setting → List Parameter
required said = required_at (backends_in said) ++ required_of (users_in said)

abbrev pub lacks : List Setting → Parameter → Bool
lacks said p = not (is_some (standing p said))

-- the first required parameter that no setting gives
abbrev pub missing_of : List Setting → Option Parameter
missing_of said = find (lacks said) (required said)

-- ---- the configuration

abbrev pub config_of : List Setting → Config
config_of said = record {
  nodes = map (node_of said) (backends_in said);
  listen = text_in (value_for ListenAddresses said);
  port = number_in (value_for Port said);
  children = number_in (value_for Children said);
  balance = truth_in (value_for LoadBalance said);
  per_statement = truth_in (value_for StatementBalance said);
  sessions = sessions_of said;
  users = map (user_of said) (users_in said);
  backend_password = text_there (value_for BackendPassword said);
}

-- the text says this configuration: every line is good, nothing is missing, the last line stands
pub record IsConfiguration (text : List ℕ) (config : Config) : Type 0 where
  pub said : List Setting
  pub lines_say : Say (lines text) said
  pub complete : missing_of said ≡ None
  pub is : config ≡ config_of said

-- every line is good, and this parameter is the first that is missing
pub record Lacks (text name : List ℕ) : Type 0 where
  pub said : List Setting
  pub lines_say : Say (lines text) said
  pub lacking : option_map name_of (missing_of said) ≡ Some name

-- the first fault of a text that is no configuration
abbrev pub IsFault : List ℕ → ConfigFault → Type 0
IsFault text (BadLine n) = FirstFault 1 (lines text) (BadLine n)
IsFault text (UnknownName n) = FirstFault 1 (lines text) (UnknownName n)
IsFault text (WrongMode n) = FirstFault 1 (lines text) (WrongMode n)
IsFault text (Missing name) = Lacks text name
IsFault text NoMemory = ⊥

-- what an answer to a text says; want of memory says nothing
abbrev pub Says : List ℕ → Result Config ConfigFault → Type 0
Says text (Ok config) = IsConfiguration text config
Says text (Err NoMemory) = Unit {0}
Says text (Err (BadLine n)) = IsFault text (BadLine n)
Says text (Err (UnknownName n)) = IsFault text (UnknownName n)
Says text (Err (WrongMode n)) = IsFault text (WrongMode n)
Says text (Err (Missing name)) = IsFault text (Missing name)

-- the answer is this configuration, unless memory ran out
abbrev pub IsAnswer : Config → Result Config ConfigFault → Type 0
IsAnswer config (Ok given) = given ≡ config
IsAnswer config (Err fault) = fault ≡ NoMemory

-- ---- what the grammar allows

-- a string of the grammar: UTF-8 without quotes and line feeds
abbrev pub IsString : List ℕ → Type 0
IsString text = (is_utf8 text ≡ true) × AllOf Inner text × AllOf InLine text

abbrev pub IsAllowedNode : Node → Type 0
IsAllowedNode n = (IsString n.host × (1 ≤ length n.host)) × ((1 ≤ n.port) × (n.port ≤ 65535)) × (n.weight ≤ 1000)

abbrev pub AreAllowedNodes : List Node → Type 0
AreAllowedNodes [] = Unit {0}
AreAllowedNodes (n ∷ rest) = IsAllowedNode n × AreAllowedNodes rest

abbrev pub IsAllowedUser : UserOf → Type 0
IsAllowedUser u = IsString u.name × IsString u.verifier × (is_verifier u.verifier ≡ true)

abbrev pub AreAllowedUsers : List UserOf → Type 0
AreAllowedUsers [] = Unit {0}
AreAllowedUsers (u ∷ rest) = IsAllowedUser u × AreAllowedUsers rest

abbrev pub IsAllowedPassword : Option (List ℕ) → Type 0
IsAllowedPassword None = Unit {0}
IsAllowedPassword (Some text) = IsString text × (is_secret text ≡ true)

pub record AreAllowedSessions (s : Sessions) : Type 0 where
  pub server_from : 2 ≤ s.server_timeout
  pub server_to : s.server_timeout ≤ 600
  pub authentication_from : 1 ≤ s.authentication_timeout
  pub authentication_to : s.authentication_timeout ≤ 600
  pub idle_to : s.client_idle_limit ≤ 86400

-- the values of the configuration are in the ranges of the table
pub record IsAllowed (config : Config) : Type 0 where
  pub some_node : 1 ≤ length config.nodes
  pub few_nodes : length config.nodes ≤ 8
  pub nodes : AreAllowedNodes config.nodes
  pub listen : IsString config.listen
  pub port_from : 1 ≤ config.port
  pub port_to : config.port ≤ 65535
  pub children_from : 1 ≤ config.children
  pub children_to : config.children ≤ 64
  pub sessions : AreAllowedSessions config.sessions
  pub few_users : length config.users ≤ 16
  pub users : AreAllowedUsers config.users
  pub password : IsAllowedPassword config.backend_password
