-- What stays of a session at a message of the extended query.
use Rattle.std.specs.Prelude.{◌≡◌, ℕ, Bool, true, false, List, [], None}
use Rattle.wire_session.specs.declared.session.Session.{Session}
use Rattle.wire_session.specs.Standing.{PortalStands, StatementStands}

-- all but what stands under names
pub record KeepsStatus (old new : Session) : Type 0 where
  pub status : new.status ≡ old.status
  pub implicit : new.implicit ≡ old.implicit
  pub skipping : new.skipping ≡ old.skipping

-- the portal of a name is dropped, or else the statement, and all else stays
abbrev pub Drops : Bool → List ℕ → Session → Session → Type 0
Drops true name old new = PortalStands name None old.portals new.portals × (new ≡ record old { portals = new.portals })
Drops false name old new = StatementStands name None old.statements new.statements × (new ≡ record old { statements = new.statements })

-- the statement and the portal of the empty name are dropped, and all else stays
pub record DropsUnnamed (old new : Session) : Type 0 where
  pub statements : StatementStands [] None old.statements new.statements
  pub portals : PortalStands [] None old.portals new.portals
  pub rest : new ≡ record old { statements = new.statements; portals = new.portals }
