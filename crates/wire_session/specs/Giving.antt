-- Which rows a portal gives, and where it stands behind them.
use Rattle.std.specs.Prelude.{ℕ, ◌+◌, ℤ, pos, nat_abs, int_lt, List, [], take, drop, length, Option, Some, None, if◌then◌else◌}
use Rattle.wire_session.specs.declared.portals.Portal.{Portal}
use Rattle.wire_session.specs.declared.portals.PortalState.{PortalState}
use Rattle.wire_session.specs.declared.portals.PortalState.TheVariants as state

-- how many rows may be given at once: any number, where the limit is not above 0
abbrev pub bound_of : ℤ → Option ℕ
bound_of limit = if int_lt (pos 0) limit then Some (nat_abs limit) else None

abbrev pub at_most : Option ℕ → List (List ℕ) → List (List ℕ)
at_most None rows = rows
at_most (Some bound) rows = take bound rows

-- the rows that a portal gives: from its place on, at most the limit, in order
abbrev pub gives : ℤ → List (List ℕ) → ℕ → List (List ℕ)
gives limit rows given = at_most (bound_of limit) (drop given rows)

-- the same of a portal that stands so; one that has no rows gives none
abbrev pub rows_of : ℤ → PortalState → List (List ℕ)
rows_of limit (state.Rows rows given) = gives limit rows given
rows_of limit state.Empty = []
rows_of limit (state.Control control) = []
rows_of limit (state.Bound checked) = []
rows_of limit state.Ran = []

-- its place then stands behind them
abbrev pub passed : ℤ → PortalState → PortalState
passed limit (state.Rows rows given) = state.Rows rows (given + length (gives limit rows given))
passed limit state.Empty = state.Empty
passed limit (state.Control control) = state.Control control
passed limit (state.Bound checked) = state.Bound checked
passed limit state.Ran = state.Ran

-- a portal that stands otherwise
abbrev pub in_state : PortalState → Portal → Portal
in_state state portal = record portal { state = state }

-- a portal that has given its next rows
abbrev pub advanced : ℤ → Portal → Portal
advanced limit portal = in_state (passed limit portal.state) portal
