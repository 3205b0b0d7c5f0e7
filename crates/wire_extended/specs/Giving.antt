-- What an Execute tells of rows.
use Rattle.std.specs.Prelude.{◌≡◌, ◌==◌, ℕ, ℤ, List, [], ◌∷◌, ◌++◌, length, Option, Some, None, if◌then◌else◌}
use Rattle.std.specs.List.{concat}
use Rattle.pg_messages.specs.declared.server.ServerMessage.TheVariants.{Suspended}
use Rattle.pg_messages.specs.Server.{spelling}
use Rattle.session_orders.specs.declared.outcome.Tag.TheVariants.{Select}
use Rattle.sql_eval.specs.declared.row.Row.{Row}
use Rattle.wire_reply.specs.Replies.{complete_bytes}
use Rattle.wire_reply.specs.Rows.{IsRow}
use Rattle.wire_reply.specs.Tags.{tag_text}
use Rattle.wire_session.specs.declared.portals.Portal.{Portal}
use Rattle.wire_session.specs.declared.portals.Portals.{Portals}
use Rattle.wire_session.specs.declared.portals.PortalState.TheVariants.{Rows}
use Rattle.wire_session.specs.Giving.{bound_of, gives, in_state, passed}
use Rattle.wire_session.specs.Standing.{PortalStands}

-- how an Execute ends that gave so many rows: PortalSuspended where they are as many as the limit, since there may be more; else
-- CommandComplete with their count
abbrev pub end_of : Option ℕ → ℕ → List ℕ
end_of None count = complete_bytes (tag_text (Select count))
end_of (Some bound) count = if bound == count then spelling Suspended else complete_bytes (tag_text (Select count))

-- these rows one behind another, and the end of the Execute that gives them
abbrev pub given_bytes : ℤ → List (List ℕ) → List ℕ
given_bytes limit rows = concat rows ++ end_of (bound_of limit) (length rows)

-- each message is the DataRow of its row in these formats
abbrev pub EachIsRow : List ℕ → List Row → List (List ℕ) → Type 0
EachIsRow formats [] [] = Unit {0}
EachIsRow formats [] (one ∷ more) = ⊥
EachIsRow formats (row ∷ rows) [] = ⊥
EachIsRow formats (row ∷ rows) (one ∷ more) = IsRow formats row one × EachIsRow formats rows more

-- the rows of a portal's statement are kept in the portal's formats, the first of them are given, and its place stands behind them; where
-- it is gone nothing is told
abbrev pub GivesFirst : ℤ → List ℕ → List Row → Option Portal → Portals → Portals → List ℕ → Type 0
GivesFirst limit name rows None old new bytes = (bytes ≡ []) × PortalStands name None old new
GivesFirst limit name rows (Some portal) old new bytes =
    (kept : List (List ℕ)) × EachIsRow portal.formats rows kept × (bytes ≡ given_bytes limit (gives limit kept 0))
    × PortalStands name (Some (in_state (passed limit (Rows kept 0)) portal)) old new
