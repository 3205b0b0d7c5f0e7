-- What a session keeps of its client.
use Rattle.std.specs.Prelude.{◌≡◌, ℕ, false, List, [], ◌∷◌, Option, Some, None, bytes_eq, if◌then◌else◌}
use Rattle.wire_session.specs.declared.portals.Portal.{Portal}
use Rattle.wire_session.specs.declared.portals.Portals.{Portals}
use Rattle.wire_session.specs.declared.session.Session.{Session}
use Rattle.wire_session.specs.declared.statements.Entry.{Entry}
use Rattle.wire_session.specs.declared.statements.Prepared.{Prepared}
use Rattle.wire_session.specs.declared.statements.Statements.{Statements}

-- what the first of a name stands for
abbrev pub first_of : {X Y : Type 0} → (X → List ℕ) → (X → Y) → List ℕ → List X → Option Y
first_of name_of what name [] = None
first_of name_of what name (x ∷ xs) = if bytes_eq (name_of x) name then Some (what x) else first_of name_of what name xs

-- what the first entry of a name stands for
abbrev pub named : List ℕ → List Entry → Option Prepared
named name entries = first_of (λ (entry : Entry). entry.name) (λ (entry : Entry). entry.what) name entries

-- what a name stands for
abbrev pub prepared : List ℕ → Statements → Option Prepared
prepared name s = named name s.entries.items

-- the first portal of a name
abbrev pub portal_in : List ℕ → List Portal → Option Portal
portal_in name portals = first_of (λ (portal : Portal). portal.name) (λ (portal : Portal). portal) name portals

-- the portal of a name
abbrev pub portal_of : List ℕ → Portals → Option Portal
portal_of name p = portal_in name p.entries.items

-- no portal is left
abbrev pub HasNone : Portals → Type 0
HasNone p = p.entries.items ≡ []

-- no name stands for a statement
abbrev pub HasNoName : Statements → Type 0
HasNoName s = s.entries.items ≡ []

-- a session that was let in just now is outside a block (I) and has no transaction; no message is dropped, and nothing has a name
abbrev pub IsNew : Session → Type 0
IsNew s = (s.status ≡ 73) × (s.implicit ≡ false) × (s.skipping ≡ false) × HasNoName s.statements × HasNone s.portals
