-- What SHOW pool_nodes tells.
use Rattle.std.specs.Prelude.{◌≡◌, ◌+◌, ◌==◌, ◌&&◌, ℕ, pos, neg_ℤ, nat_lt, Bool, false, List, [], ◌∷◌, ◌++◌, Option, Some, None, codes, if◌then◌else◌}
use Rattle.std.specs.Fmt.{decimal}
use Rattle.pool_base.specs.declared.backend_id.BackendId.{BackendId}
use Rattle.pool_base.specs.Sets.{has, IsEmptySet, IsLowest}
use Rattle.pool_config.specs.declared.config.Node.{Node}
use Rattle.pg_messages.specs.declared.server.Field.{Field}
use Rattle.pg_messages.specs.declared.server.ServerMessage.TheVariants.{DataRow, RowDescription}
use Rattle.pg_values.specs.declared.col_type.ColType.TheVariants.{Text}
use Rattle.pg_values.specs.Kinds.{oid_number}
use Rattle.wire_reply.specs.Rows.{IsMessage}

-- a column of texts, of no table
abbrev pub column : List ℕ → Field
column name = record { name = name; table = 0; column = pos 0; kind = oid_number Text; size = neg_ℤ (pos 1); modifier = neg_ℤ (pos 1); format = 0 }

abbrev pub columns : List Field
columns = column (codes "node_id") ∷ column (codes "hostname") ∷ column (codes "port") ∷ column (codes "status") ∷ column (codes "lb_weight") ∷ column (codes "role") ∷ []

-- whether the backend of that number is attached; there are eight
abbrev pub is_up : ℕ → ℕ → Bool
is_up attached at = nat_lt at 8 && has attached at

-- the lowest of the attached backends, if there is one
abbrev pub TellsLowest : ℕ → Option BackendId → Type 0
TellsLowest attached None = IsEmptySet attached
TellsLowest attached (Some b) = IsLowest attached b.number

-- whether it is the backend of that number
abbrev pub is_main : Option BackendId → ℕ → Bool
is_main None at = false
is_main (Some b) at = b.number == at

abbrev pub status_of : Bool → List ℕ
status_of up = if up then codes "up" else codes "down"

abbrev pub role_of : Bool → List ℕ
role_of main = if main then codes "main" else codes "replica"

-- a backend's number, host, port, status, weight and role
abbrev pub node_cells : ℕ → Node → Bool → Bool → List (Option (List ℕ))
node_cells at node up main =
    Some (decimal at) ∷ Some node.host ∷ Some (decimal node.port) ∷ Some (status_of up) ∷ Some (decimal node.weight) ∷ Some (role_of main) ∷ []

-- the row of the backend of that number: it is up where it is attached, and main where it is the lowest that is
abbrev pub IsNodeRow : ℕ → Option BackendId → ℕ → Node → List ℕ → Type 0
IsNodeRow attached lowest at node bytes = IsMessage (DataRow (node_cells at node (is_up attached at) (is_main lowest at))) bytes

-- the rows of backends from that number on, one behind another
abbrev pub AreNodeRows : ℕ → Option BackendId → ℕ → List Node → List ℕ → Type 0
AreNodeRows attached lowest at [] bytes = bytes ≡ []
AreNodeRows attached lowest at (node ∷ nodes) bytes =
    (one : List ℕ) × (rest : List ℕ) × IsNodeRow attached lowest at node one × AreNodeRows attached lowest (at + 1) nodes rest × (bytes ≡ one ++ rest)

-- the columns, and a row for each backend in rising order
pub record TellsNodes (attached : ℕ) (nodes : List Node) (bytes : List ℕ) : Type 0 where
  pub lowest : Option BackendId
  pub is_lowest : TellsLowest attached lowest
  pub head : List ℕ
  pub is_head : IsMessage (RowDescription columns) head
  pub rows : List ℕ
  pub are_rows : AreNodeRows attached lowest 0 nodes rows
  pub all : bytes ≡ head ++ rows
