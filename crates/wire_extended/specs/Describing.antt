-- What Describe answers.
use Rattle.std.specs.Prelude.{◌≡◌, ◌++◌, ℕ, Bool, true, false, List, [], Option, Some, None, map, codes}
use Rattle.pg_values.specs.Kinds.{oid_number}
use Rattle.pg_messages.specs.declared.server.ServerMessage.TheVariants.{ParameterDescription}
use Rattle.wire_reply.specs.Rows.{IsMessage, description}
use Rattle.wire_reply.specs.declared.saying.Saying.TheVariants.{Aborted, NoPortal, NoStatement}
use Rattle.wire_session.specs.declared.portals.Portal.{Portal}
use Rattle.wire_session.specs.declared.refusal.Refusal.{Refusal}
use Rattle.wire_session.specs.declared.statements.Prepared.{Prepared}
use Rattle.wire_session.specs.Refusals.{Says}
use Rattle.wire_extended.specs.declared.replied.Replied.{Replied}
use Rattle.wire_extended.specs.declared.replied.Replied.TheVariants.{Bytes, Refused}
use Rattle.wire_extended.specs.Binding.{columns_of, ends_block, kinds_of}

-- the types of its parameters, and the columns of its rows as texts
pub record IsDescribed (what : Prepared) (bytes : List ℕ) : Type 0 where
  pub kinds : List ℕ
  pub columns : List ℕ
  pub are_kinds : IsMessage (ParameterDescription (map oid_number (kinds_of what))) kinds
  pub are_columns : IsMessage (description [] (columns_of what)) columns
  pub both : bytes ≡ kinds ++ columns

abbrev pub IsRefusedFor : (Refusal → Type 0) → Replied → Type 0
IsRefusedFor P (Bytes bytes) = ⊥
IsRefusedFor P (Refused r) = P r

abbrev pub IsToldWith : (List ℕ → Type 0) → Replied → Type 0
IsToldWith P (Bytes bytes) = P bytes
IsToldWith P (Refused r) = ⊥

-- in a failed block nothing is described but what may run there
abbrev pub Barred : Bool → Bool → Replied → Type 0 → Type 0
Barred true false reply P = IsRefusedFor (Says Aborted (codes "25P02") []) reply
Barred true true reply P = P
Barred false ends reply P = P

-- of what a name stands for, in a failed block or not
abbrev pub TellsStatement : Bool → Option Prepared → Replied → Type 0
TellsStatement failed None reply = IsRefusedFor (Says NoStatement (codes "26000") []) reply
TellsStatement failed (Some what) reply = Barred failed (ends_block what) reply (IsToldWith (IsDescribed what) reply)

-- of the portal of a name, in a failed block or not: what it was put with
abbrev pub TellsPortal : Bool → Option Portal → Replied → Type 0
TellsPortal failed None reply = IsRefusedFor (Says NoPortal (codes "34000") []) reply
TellsPortal failed (Some portal) reply = Barred failed portal.ends_block reply (IsToldWith (λ bytes. bytes ≡ portal.description) reply)
