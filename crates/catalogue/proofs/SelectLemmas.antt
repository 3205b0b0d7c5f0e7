-- A SELECT part by part: how far it goes, and where it stops.
use Rattle.std.proofs.Common.{◌≡◌, ℕ, List, [], ◌∷◌, ◌++◌, true, false, refl, ap, sym, ◌∙◌, subst}
use Rattle.std.specs.Prelude.{Bool as Truth, Option, Some, None, Result, Ok, Err, codes, is_some}
use Rattle.schema.specs.declared.catalogue.ColumnDef.{ColumnDef}
use Rattle.schema.specs.declared.catalogue.TableDef.{TableDef}
use Rattle.sql_tree.specs.declared.expr.Expr.{Expr}
use Rattle.sql_tree.specs.declared.statement.Select.{Select}
use Rattle.typed_sql.specs.declared.asks.Asks.{Asks}
use Rattle.typed_sql.specs.declared.fault.CheckFault.{CheckFault}
use Rattle.typed_sql.specs.declared.typed.TypedExpr.{TypedExpr}
use Rattle.typed_sql.specs.Own.{Scope, over, alone}
use Rattle.typed_sql.specs.Places.{asks_limit}
use Rattle.typed_sql.specs.Steps.{Known, Fault, fault, Answer, Step, Gives, Then, Made, Each, Maybe, Told, Answers}
use Rattle.typed_sql.specs.Meaning.{Finds}
use Rattle.typed_sql.specs.Typing.{Typed}
use Rattle.typed_sql.proofs.Walking.{told_gives, then_answers, then_stops, made_gives, made_stops}
use Rattle.catalogue.specs.declared.checked.CheckedBody.TheVariants as body
use Rattle.catalogue.specs.declared.checked.OrderKey.{OrderKey}
use Rattle.catalogue.specs.declared.checked.ColumnDesc.{ColumnDesc}
use Rattle.catalogue.specs.Statements.{Body, Ends, EndsOf, FilterOf, ListOf, OrderOf, ReadFrom, ReadIn, SelectOf, Uncounted, bare_read, is_count, is_there, read_of, result_columns, uncounted, with_key}
use Rattle.catalogue.proofs.Finding.{told_then, told_stops}

-- beside a count it is a fault, and nothing is where nothing stands
pub counted_is : (count there : Truth) → count ≡ true → there ≡ true → uncounted count there ≡ Err (fault (codes "0A000") (codes "count"))
counted_is count there counts stands = rw (counts, stands) refl

pub none_counted : (count : Truth) → uncounted count false ≡ Ok tt
none_counted true = refl
none_counted false = refl

-- a step for what may be left out
module _ {A B : Type 0} (step : A → Step B) (given : Option A) (x : A) (is : given ≡ Some x) (known : Known) where
  pub maybe_gives : (y : B) (new : Known) → step x known (Ok (y, new)) → Maybe step given known (Ok (Some y, new))
  maybe_gives y new gives =
      subst (λ (o : Option A). Maybe step o known (Ok (Some y, new))) (sym is) (made_gives Some (step x) known y new gives)

  pub maybe_stops : {C D : Type 0} (view : C → B) (shown : D → Option B) (e : CheckFault) (mid new : Known)
      → Answers view (Err e) mid (step x known) → Answers shown (Err e) new (Maybe step given known)
  maybe_stops view shown e mid new fails =
      subst (λ (o : Option A). Answers shown (Err e) new (Maybe step o known)) (sym is) (made_stops Some (step x) known view shown e mid new fails)

-- a limit, which is there
module _ (scope : Scope) (count : Truth) (limit : Option Expr) (x : Expr) (is : limit ≡ Some x) (known : Known) where
  abbrev Limited : Option Expr → Step (Option TypedExpr)
  Limited o = Uncounted count (is_some o) (Maybe (λ e. Typed scope e asks_limit) o)

  pub limit_counted : (e : CheckFault) (new : Known) → Finds (λ (free : Unit {0}). free) (Err e) (uncounted count true)
      → Answers (λ (l : Option TypedExpr). l) (Err e) new (Limited limit known)
  limit_counted e new fails = subst (λ (o : Option Expr). Answers (λ (l : Option TypedExpr). l) (Err e) new (Limited o known)) (sym is)
      (told_stops (λ (free : Unit {0}). free) _ (λ (l : Option TypedExpr). l) (uncounted count true) known new e fails)

  module _ (free : uncounted count true ≡ Ok tt) (asks : Asks) (asks_is : asks ≡ asks_limit) where
    pub limit_fails : (e : CheckFault) (mid new : Known) → Answers (λ (t : TypedExpr). t) (Err e) mid (Typed scope x asks known)
        → Answers (λ (l : Option TypedExpr). l) (Err e) new (Limited limit known)
    limit_fails e mid new fails = subst (λ (o : Option Expr). Answers (λ (l : Option TypedExpr). l) (Err e) new (Limited o known)) (sym is)
        (told_then (λ (u : Unit {0}). u) _ (λ (l : Option TypedExpr). l) (uncounted count true) known new tt (Err e) free
        (made_stops Some (Typed scope x asks_limit) known (λ (t : TypedExpr). t) (λ (l : Option TypedExpr). l) e mid new
        (subst (λ (q : Asks). Answers (λ (t : TypedExpr). t) (Err e) mid (Typed scope x q known)) asks_is fails)))

    pub limit_gives : (made : TypedExpr) (new : Known) → Typed scope x asks known (Ok (made, new)) → Limited limit known (Ok (Some made, new))
    limit_gives made new gives = subst (λ (o : Option Expr). Limited o known (Ok (Some made, new))) (sym is) (
      Ok (tt, known),
      told_gives (uncounted count true) tt known free,
      made_gives Some (Typed scope x asks_limit) known made new
          (subst (λ (q : Asks). Typed scope x q known (Ok (made, new))) asks_is gives),
    )

pub limit_none : (scope : Scope) (count : Truth) (limit : Option Expr) (known : Known) → limit ≡ None
    → Uncounted count (is_some limit) (Maybe (λ e. Typed scope e asks_limit) limit) known (Ok (None, known))
limit_none scope count limit known is =
    subst (λ (o : Option Expr). Uncounted count (is_some o) (Maybe (λ e. Typed scope e asks_limit) o) known (Ok (None, known))) (sym is)
    (Ok (tt, known), told_gives (uncounted count false) tt known (none_counted count), refl)

-- behind the list and WHERE
module _ (scope : Scope) (select : Select) (table : TableDef) (count : Truth) (count_is : count ≡ is_count select.list) (known : Known) where
  abbrev Order_of : Step (List OrderKey)
  Order_of = Uncounted count (is_there select.order) (Each (OrderOf scope) select.order)

  abbrev Limit_of : Step (Option TypedExpr)
  Limit_of = Uncounted count (is_some select.limit) (Maybe (λ e. Typed scope e asks_limit) select.limit)

  -- it is enough to say it of what was found to be a count
  counts : (result : Result Ends CheckFault) (new : Known) → Answers (λ (ends : Ends). ends) result new (EndsOf count scope select table known)
      → Answers (λ (ends : Ends). ends) result new (EndsOf (is_count select.list) scope select table known)
  counts result new holds =
      subst (λ (n : Truth). Answers (λ (ends : Ends). ends) result new (EndsOf n scope select table known)) count_is holds

  pub order_stops : (e : CheckFault) (mid new : Known) → Answers (λ (keys : List OrderKey). keys) (Err e) mid (Order_of known)
      → Answers (λ (ends : Ends). ends) (Err e) new (EndsOf (is_count select.list) scope select table known)
  order_stops e mid new fails = counts (Err e) new
      (then_stops Order_of _ known (λ (keys : List OrderKey). keys) (λ (ends : Ends). ends) e mid new fails)

  module _ (order : List OrderKey) (k1 : Known) (ordered : Order_of known (Ok (order, k1))) where
    pub limit_stops : (e : CheckFault) (mid new : Known) → Answers (λ (l : Option TypedExpr). l) (Err e) mid (Limit_of k1)
        → Answers (λ (ends : Ends). ends) (Err e) new (EndsOf (is_count select.list) scope select table known)
    limit_stops e mid new fails = counts (Err e) new
        (then_answers Order_of _ known (λ (ends : Ends). ends) order k1 new (Err e) ordered
        (then_stops Limit_of _ k1 (λ (l : Option TypedExpr). l) (λ (ends : Ends). ends) e mid new fails))

    module _ (limit : Option TypedExpr) (k2 : Known) (limited : Limit_of k1 (Ok (limit, k2))) where
      pub lock_stops : (e : CheckFault) (new : Known) → Finds (λ (free : Unit {0}). free) (Err e) (uncounted count select.for_update)
          → Answers (λ (ends : Ends). ends) (Err e) new (EndsOf (is_count select.list) scope select table known)
      lock_stops e new fails = counts (Err e) new
          (then_answers Order_of _ known (λ (ends : Ends). ends) order k1 new (Err e) ordered
          (then_answers Limit_of _ k1 (λ (ends : Ends). ends) limit k2 new (Err e) limited
          (told_stops (λ (free : Unit {0}). free) _ (λ (ends : Ends). ends) (uncounted count select.for_update) k2 new e fails)))

      pub ends_give : (last : List OrderKey) → uncounted count select.for_update ≡ Ok tt → last ≡ with_key count table order
          → EndsOf (is_count select.list) scope select table known (Ok ((last, limit), k2))
      ends_give last free last_is = rw last_is (counts (Ok (with_key count table order, limit)) k2 (
        Ok (order, k1),
        ordered,
        (
          Ok (limit, k2),
          limited,
          (Ok (tt, k2), told_gives (uncounted count select.for_update) tt k2 free, refl),
        ),
      ))

-- a SELECT from a table
module _ (parameters : Truth) (select : Select) (x : ℕ × TableDef) (scope : Scope) (same : scope ≡ over parameters x.1) (known : Known) where
  abbrev List_of : Step (List TypedExpr)
  List_of = ListOf scope (x.1).columns select.list

  abbrev Ends_of : Step Ends
  Ends_of = EndsOf (is_count select.list) scope select x.1

  -- it is enough to say it of the scope that is given
  scoped : (result : Result Body CheckFault) (new : Known) → Answers (λ (b : Body). b) result new (ReadIn scope select x known)
      → Answers (λ (b : Body). b) result new (ReadFrom parameters select x known)
  scoped result new holds = subst (λ (s : Scope). Answers (λ (b : Body). b) result new (ReadIn s select x known)) same holds

  pub list_stops : (e : CheckFault) (mid new : Known) → Answers (λ (es : List TypedExpr). es) (Err e) mid (List_of known)
      → Answers (λ (b : Body). b) (Err e) new (ReadFrom parameters select x known)
  list_stops e mid new fails = scoped (Err e) new
      (then_stops List_of _ known (λ (es : List TypedExpr). es) (λ (b : Body). b) e mid new fails)

  module _ (list : List TypedExpr) (k1 : Known) (listed : List_of known (Ok (list, k1))) where
    pub filter_stops : (e : CheckFault) (mid new : Known) → Answers (λ (f : Option TypedExpr). f) (Err e) mid (FilterOf scope select.filter k1)
        → Answers (λ (b : Body). b) (Err e) new (ReadFrom parameters select x known)
    filter_stops e mid new fails = scoped (Err e) new
        (then_answers List_of _ known (λ (b : Body). b) list k1 new (Err e) listed
        (then_stops (FilterOf scope select.filter) _ k1 (λ (f : Option TypedExpr). f) (λ (b : Body). b) e mid new fails))

    module _ (filter : Option TypedExpr) (k2 : Known) (filtered : FilterOf scope select.filter k1 (Ok (filter, k2))) where
      pub ends_stop : (e : CheckFault) (mid new : Known) → Answers (λ (ends : Ends). ends) (Err e) mid (Ends_of k2)
          → Answers (λ (b : Body). b) (Err e) new (ReadFrom parameters select x known)
      ends_stop e mid new fails = scoped (Err e) new
          (then_answers List_of _ known (λ (b : Body). b) list k1 new (Err e) listed
          (then_answers (FilterOf scope select.filter) _ k1 (λ (b : Body). b) filter k2 new (Err e) filtered
          (made_stops (read_of x select list filter) Ends_of k2 (λ (ends : Ends). ends) (λ (b : Body). b) e mid new fails)))

      pub read_gives : (ends : Ends) (k3 : Known) (read : Body) → Ends_of k2 (Ok (ends, k3)) → read ≡ read_of x select list filter ends
          → ReadFrom parameters select x known (Ok (read, k3))
      read_gives ends k3 read ended is = rw is (scoped (Ok (read_of x select list filter ends)) k3 (
        Ok (list, k1),
        listed,
        (Ok (filter, k2), filtered, made_gives (read_of x select list filter) Ends_of k2 ends k3 ended),
      ))

-- a SELECT without a table
module _ (parameters : Truth) (select : Select) (scope : Scope) (same : scope ≡ alone parameters) (known : Known) where
  abbrev Bare : Scope → Step Body
  Bare s = Made (bare_read select) (ListOf s [] select.list)

  pub bare_stops : (e : CheckFault) (mid new : Known) → Answers (λ (es : List TypedExpr). es) (Err e) mid (ListOf scope [] select.list known)
      → Answers (λ (b : Body). b) (Err e) new (Made (bare_read select) (ListOf (alone parameters) [] select.list) known)
  bare_stops e mid new fails = subst (λ (s : Scope). Answers (λ (b : Body). b) (Err e) new (Bare s known)) same
      (made_stops (bare_read select) (ListOf scope [] select.list) known (λ (es : List TypedExpr). es) (λ (b : Body). b) e mid new fails)

  pub bare_gives : (list : List TypedExpr) (k1 : Known) (order : List OrderKey) (columns : List ColumnDesc)
      → ListOf scope [] select.list known (Ok (list, k1)) → order ≡ [] → columns ≡ result_columns [] select.list list
      → Made (bare_read select) (ListOf (alone parameters) [] select.list) known (Ok (
        (
          body.Read (record {
            table = None;
            count = false;
            list = list;
            filter = None;
            order = order;
            limit = None;
            for_update = false;
          }),
          columns,
        ),
        k1,
      ))
  bare_gives list k1 order columns listed order_is columns_is =
      rw (order_is, columns_is)
      (subst (λ (s : Scope). Bare s known (Ok (bare_read select list, k1))) same
      (made_gives (bare_read select) (ListOf scope [] select.list) known list k1 listed))
