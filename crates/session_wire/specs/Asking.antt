-- What is ordered of a text that was read: its statements one by one, and then that it be settled.
use Rattle.std.specs.Prelude.{◌≡◌, ℕ, Bool, true, false, List, [], ◌∷◌, Option, Some, None, nat_eq}
use Rattle.schema.specs.declared.catalogue.TableDef.{TableDef}
use Rattle.sql_tree.specs.declared.statement.Statement.{Statement}
use Rattle.session_orders.specs.declared.order.OrderBody.{OrderBody}
use Rattle.session_orders.specs.declared.order.OrderBody.TheVariants as orders
use Rattle.wire_query.specs.declared.asking.Asked.{Asked}
use Rattle.wire_query.specs.declared.asking.Asked.TheVariants as asked
use Rattle.wire_query.specs.Asking.{Asks}
use Rattle.session_wire.specs.declared.due.Due.{Due}
use Rattle.session_wire.specs.declared.due.Due.TheVariants as due
use Rattle.session_wire.specs.Hears.{refuse, refusing}
use Rattle.session_wire.specs.Shown.{View}

-- whether the block has failed
abbrev pub has_failed : View → Bool
has_failed v = nat_eq v.session.status 69

-- the statements behind the first
abbrev pub behind : List Statement → List Statement
behind [] = []
behind (s ∷ more) = more

-- whether none is left
abbrev pub is_over : List Statement → Bool
is_over [] = true
is_over (s ∷ more) = false

-- what the first of the statements that are left asks for
abbrev pub AsksFirst : List TableDef → ℕ → Bool → List Statement → Asked → Type 0
AsksFirst tables status implicit [] what = ⊥
AsksFirst tables status implicit (s ∷ more) what = Asks tables status implicit s what

-- what the order of a statement is for: a recovery's outcome is told in its own words
abbrev pub due_of : OrderBody → List ℕ → Bool → Due
due_of (orders.Recover b) description last = due.Recovery last
due_of _ description last = due.Statement description last

-- it is ordered, and its outcome awaited; or the text is refused, and what is left of it is dropped
abbrev pub Orders : Asked → OrderBody → View → View → Type 0
Orders (asked.Order body description) given old new =
    (given ≡ body) × (new ≡ record old { left = behind old.left; due = Some (due_of body description (is_over (behind old.left))) })
Orders (asked.Refused r) given old new = (given ≡ refuse r) × (new ≡ refusing r (is_over (behind old.left)) old)

-- the order of the first statement that is left
pub record OrdersFirst (tables : List TableDef) (body : OrderBody) (old new : View) : Type 0 where
  pub what : Asked
  pub asks : AsksFirst tables old.session.status old.session.implicit old.left what
  pub gives : Orders what body old new

-- behind the last statement the text is settled
abbrev pub settling : View → View
settling v = record v { settles = false; due = Some due.Settle }

-- with these statements left, and a Settle behind them or not
abbrev pub OrdersNext : List TableDef → List Statement → Bool → Option OrderBody → View → View → Type 0
OrdersNext tables (s ∷ more) settles None old new = ⊥
OrdersNext tables (s ∷ more) settles (Some body) old new = OrdersFirst tables body old new
OrdersNext tables [] true body old new = (body ≡ Some orders.Settle) × (new ≡ settling old)
OrdersNext tables [] false body old new = (body ≡ None) × (new ≡ old)
