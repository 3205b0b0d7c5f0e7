-- What names stand for behind a step that puts, changes or drops one.
use Rattle.std.specs.Prelude.{◌≡◌, ◌≢◌, ℕ, List, ◌∷◌, ◌++◌, length, Option, Some, None}
use Rattle.wire_session.specs.declared.portals.Portal.{Portal}
use Rattle.wire_session.specs.declared.portals.Portals.{Portals}
use Rattle.wire_session.specs.declared.statements.Prepared.{Prepared}
use Rattle.wire_session.specs.declared.statements.Statements.{Statements}
use Rattle.wire_session.specs.Kept.{portal_in, portal_of, prepared}

-- the name stands for this portal, or for none, and each other name for what it stood for
pub record PortalStands (name : List ℕ) (portal : Option Portal) (old new : Portals) : Type 0 where
  pub own : portal_of name new ≡ portal
  pub others : (other : List ℕ) → other ≢ name → portal_of other new ≡ portal_of other old

-- the name stands for this statement, or for none, and each other name for what it stood for
pub record StatementStands (name : List ℕ) (what : Option Prepared) (old new : Statements) : Type 0 where
  pub own : prepared name new ≡ what
  pub others : (other : List ℕ) → other ≢ name → prepared other new ≡ prepared other old

-- the first portal of a name is at that place
pub record IsAt (name : List ℕ) (portals : List Portal) (at : ℕ) : Type 0 where
  pub front : List Portal
  pub portal : Portal
  pub rest : List Portal
  pub parts : portals ≡ front ++ portal ∷ rest
  pub count : length front ≡ at
  pub before : portal_in name front ≡ None
  pub own : portal.name ≡ name

-- the place of the first portal of a name, if there is one
abbrev pub TellsPlace : List ℕ → List Portal → Option ℕ → Type 0
TellsPlace name portals None = portal_in name portals ≡ None
TellsPlace name portals (Some at) = IsAt name portals at
