-- When a name may be given to a statement or a portal.
use Rattle.std.specs.Prelude.{◌≡◌, ◌==◌, ℕ, Bool, true, false, List, [], Option, Some, None, codes, is_some, length, nat_le, vec_len}
use Rattle.wire_reply.specs.declared.saying.Saying.TheVariants.{LimitPassed, PortalExists, StatementExists}
use Rattle.wire_session.specs.declared.portals.Portals.{Portals}
use Rattle.wire_session.specs.declared.refusal.Refusal.{Refusal}
use Rattle.wire_session.specs.declared.statements.Statements.{Statements}
use Rattle.wire_session.specs.Kept.{portal_of, prepared}
use Rattle.wire_session.specs.Refusals.{Says}

-- why a name is refused, if it is: something is there, and it is not the empty one; or nothing is there, and there is no room
abbrev pub TellsFree : (Refusal → Type 0) → Bool → Bool → Bool → Option Refusal → Type 0
TellsFree IsThere true true full r = r ≡ None
TellsFree IsThere true false full None = ⊥
TellsFree IsThere true false full (Some r) = IsThere r
TellsFree IsThere false unnamed true None = ⊥
TellsFree IsThere false unnamed true (Some r) = Says LimitPassed (codes "54000") [] r
TellsFree IsThere false unnamed false r = r ≡ None

-- of a statement's name in a session, which has room for 256
abbrev pub TellsNew : List ℕ → Statements → Option Refusal → Type 0
TellsNew name s r = TellsFree (Says StatementExists (codes "42P05") []) (is_some (prepared name s)) (length name == 0) (nat_le 256 (vec_len s.entries)) r

-- of a portal's name in a session, which has room for 64
abbrev pub TellsNewPortal : List ℕ → Portals → Option Refusal → Type 0
TellsNewPortal name p r = TellsFree (Says PortalExists (codes "42P03") []) (is_some (portal_of name p)) (length name == 0) (nat_le 64 (vec_len p.entries)) r
