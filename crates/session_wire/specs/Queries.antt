-- What is done at a Query.
use Rattle.std.specs.Prelude.{◌≡◌, ℕ, Bool, true, false, List, [], ◌∷◌, ◌++◌, Option, Some, None, length, nat_lt, codes, ◌&&◌}
use Rattle.std.specs.List.{list_any}
use Rattle.pg_messages.specs.declared.server.ServerMessage.TheVariants.{Empty}
use Rattle.sql_tree.specs.declared.statement.Statement.{Statement}
use Rattle.session_orders.specs.declared.order.OrderBody.{OrderBody}
use Rattle.wire_query.specs.declared.reading.Reading.{Reading}
use Rattle.wire_query.specs.declared.reading.Reading.TheVariants as reading
use Rattle.wire_query.specs.Texts.{IsReading, is_control}
use Rattle.wire_reply.specs.Rows.{IsMessage}
use Rattle.wire_session.specs.declared.refusal.Refusal.{Refusal}
use Rattle.wire_extended.specs.Keeping.{DropsUnnamed}
use Rattle.wire_session.specs.Refusals.{IsNotTaken}
use Rattle.session_wire.specs.Hears.{refuse, refusing}
use Rattle.session_wire.specs.Shown.{View}

-- control in a text of several statements
abbrev pub is_mixed : List Statement → Bool
is_mixed all = nat_lt 1 (length all) && list_any is_control all

-- the reply to a text without statements waits for Settle
abbrev pub reply_to : List Statement → List ℕ → List ℕ
reply_to [] empty = empty
reply_to (s ∷ rest) empty = []

-- the statements are to be asked for one by one, and then settled
abbrev pub started : List Statement → List ℕ → View → View
started all empty v = record v { left = all; settles = true; held = v.held ++ reply_to all empty }

-- a refused text is settled
abbrev pub IsDropped : Refusal → Option OrderBody → View → View → Type 0
IsDropped r body old new = (body ≡ Some (refuse r)) × (new ≡ refusing r false old)

abbrev pub Starts : Bool → List Statement → Refusal → List ℕ → Option OrderBody → View → View → Type 0
Starts true all several empty body old new = IsDropped several body old new
Starts false all several empty body old new = (body ≡ None) × (new ≡ started all empty old)

-- what is done with a text that is read so
abbrev pub Queries : Reading → Refusal → List ℕ → Option OrderBody → View → View → Type 0
Queries (reading.Refused r) several empty body old new = IsDropped r body old new
Queries (reading.Statements all) several empty body old new = Starts (is_mixed all) all several empty body old new

-- what is done at a Query with that text: the statement and the portal of the empty name are dropped first
pub record QueriesText (text : List ℕ) (body : Option OrderBody) (old new : View) : Type 0 where
  pub read : Reading
  pub is_read : IsReading text read
  pub several : Refusal
  pub is_several : IsNotTaken (codes "transaction control in a text of several statements") several
  pub empty : List ℕ
  pub is_empty : IsMessage Empty empty
  pub mid : View
  pub names : mid ≡ record old { session = mid.session }
  pub drops : DropsUnnamed old.session mid.session
  pub done : Queries read several empty body mid new
