-- The one text of a configuration: a line for each parameter, in the order of the table.
use Rattle.std.specs.Prelude.{◌+◌, ◌==◌, ℕ, Bool, true, false, List, [], ◌∷◌, ◌++◌, Option, Some, None, codes, if◌then◌else◌}
use Rattle.std.specs.Fmt.{decimal}
use Rattle.pool_config.specs.declared.config.Config.{Config}
use Rattle.pool_config.specs.declared.config.Node.{Node}
use Rattle.pool_config.specs.declared.config.Sessions.{Sessions}
use Rattle.pool_config.specs.declared.config.ScramUser.{ScramUser}
use Rattle.pool_config.specs.declared.fault.ConfigFault.{ConfigFault}
use Rattle.pool_config.specs.declared.fault.ConfigFault.TheVariants.{BadLine, UnknownName, WrongMode, Missing, NoMemory}

-- ` = ` after the name, and a line feed (10) after the value
abbrev pub line_of : List ℕ → List ℕ → List ℕ
line_of name value = name ++ (codes " = " ++ (value ++ 10 ∷ []))

abbrev pub string_line : List ℕ → List ℕ → List ℕ
string_line name text = name ++ (codes " = '" ++ (text ++ codes "'\n"))

abbrev pub number_line : List ℕ → ℕ → List ℕ
number_line name n = line_of name (decimal n)

abbrev pub truth_word : Bool → List ℕ
truth_word true = codes "on"
truth_word false = codes "off"

abbrev pub truth_line : List ℕ → Bool → List ℕ
truth_line name on = line_of name (truth_word on)

-- the lines of the backend with number n
abbrev pub node_text : ℕ → Node → List ℕ
node_text n node = string_line (codes "backend_hostname" ++ decimal n) node.host
    ++ (number_line (codes "backend_port" ++ decimal n) node.port
    ++ number_line (codes "backend_weight" ++ decimal n) node.weight)

-- those of the backends from number n on
abbrev pub nodes_text : ℕ → List Node → List ℕ
nodes_text n [] = []
nodes_text n (node ∷ rest) = node_text n node ++ nodes_text (n + 1) rest

abbrev pub rest_text : Config → List ℕ
rest_text config = string_line (codes "listen_addresses") config.listen
    ++ (number_line (codes "port") config.port
    ++ (number_line (codes "num_init_children") config.children
    ++ (truth_line (codes "load_balance_mode") config.balance
    ++ truth_line (codes "statement_level_load_balance") config.per_statement)))

-- a line where the value is not the default; that of a switch is off
abbrev pub number_unless : List ℕ → ℕ → ℕ → List ℕ
number_unless name default n = if n == default then [] else number_line name n

abbrev pub line_if_on : List ℕ → Bool → List ℕ
line_if_on name true = line_of name (codes "on")
line_if_on name false = []

-- how long sessions wait, and what is told of them
abbrev pub sessions_text : Sessions → List ℕ
sessions_text s = number_unless (codes "server_timeout") 10 s.server_timeout
    ++ (number_unless (codes "authentication_timeout") 30 s.authentication_timeout
    ++ (number_unless (codes "client_idle_limit") 0 s.client_idle_limit
    ++ (line_if_on (codes "log_connections") s.log_connections
    ++ line_if_on (codes "log_disconnections") s.log_disconnections)))

-- the lines of the user with number n
abbrev pub user_text : ℕ → ScramUser → List ℕ
user_text n user = string_line (codes "scram_user" ++ decimal n) user.name
    ++ string_line (codes "scram_verifier" ++ decimal n) user.verifier

-- those of the users from number n on
abbrev pub users_text : ℕ → List ScramUser → List ℕ
users_text n [] = []
users_text n (user ∷ rest) = user_text n user ++ users_text (n + 1) rest

-- the line of the password, where there is one
abbrev pub password_text : Option (List ℕ) → List ℕ
password_text None = []
password_text (Some text) = string_line (codes "backend_password") text

abbrev pub text_of : Config → List ℕ
text_of config = string_line (codes "backend_clustering_mode") (codes "snapshot_isolation")
    ++ (nodes_text 0 config.nodes ++ (rest_text config ++ (sessions_text config.sessions
    ++ (users_text 0 config.users ++ password_text config.backend_password))))

-- what an operator reads of a fault
abbrev pub shown : ConfigFault → List ℕ
shown (BadLine n) = codes "configuration line " ++ (decimal n ++ codes ": bad line")
shown (UnknownName n) = codes "configuration line " ++ (decimal n ++ codes ": unknown name")
shown (WrongMode n) = codes "configuration line " ++ (decimal n ++ codes ": wrong mode")
shown (Missing name) = codes "configuration: " ++ (name ++ codes " is missing")
shown NoMemory = codes "could not get memory"
