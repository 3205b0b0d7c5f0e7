-- The small parts of a journal's line: sets of backends, the session and the backend of an event.
use Rattle.std.specs.Prelude.{ℕ, zero, suc, List, [], ◌∷◌, ◌++◌, if◌then◌else◌}
use Rattle.std.specs.Fmt.{decimal}
use Rattle.pool_base.specs.Sets.{has}
use Rattle.pool_base.specs.declared.backend_id.BackendId.{BackendId}
use Rattle.pool_base.specs.declared.backend_set.BackendSet.{BackendSet}
use Rattle.pool_base.specs.declared.session_id.SessionId.{SessionId}

-- a number that is in a set, behind a space
abbrev pub member : ℕ → ℕ → List ℕ
member bits b = if has bits b then 32 ∷ decimal b else []

-- those below a number, in rising order
unfoldable pub members_below : ℕ → ℕ → List ℕ
members_below bits zero = []
members_below bits (suc b) = members_below bits b ++ member bits b

-- the backends of a set in rising order, each behind a space
abbrev pub spelled_set : BackendSet → List ℕ
spelled_set set = members_below set.bits 8

-- a session and a backend
abbrev pub spelled_place : SessionId → BackendId → List ℕ
spelled_place s b = decimal s.number ++ (32 ∷ decimal b.number)
