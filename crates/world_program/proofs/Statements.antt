-- The derived test for equal statements tells just that.
use Rattle.std.proofs.Common.{◌≡◌, Bool as Truth, true, Some, None, refl, ap, subst, eqb-true, eq-eqb}
use Rattle.std.specs.Prelude.{Option}
use Rattle.std.specs.Option.{option_eq}
use Rattle.std.specs.Cmp.{booleans_Decides, unsigned_Decides}
use Rattle.std.specs.Cmp.Lexicographic.{pointwise_decides, bytes_decides}
use Rattle.catalogue.specs.declared.checked.Checked.{Checked}
use Rattle.catalogue.specs.contracts.checked.CheckedPartialEq.TheImpl as checked_eq
use Rattle.catalogue.specs.declared.checked.CheckedBody.{CheckedBody}
use Rattle.catalogue.specs.declared.checked.CheckedBody.TheVariants as body
use Rattle.catalogue.specs.contracts.checked.CheckedBodyPartialEq.TheImpl as body_eq
use Rattle.catalogue.specs.declared.checked.CheckedRead.{CheckedRead}
use Rattle.catalogue.specs.contracts.checked.CheckedReadPartialEq.TheImpl as read_eq
use Rattle.catalogue.specs.declared.checked.CheckedInsert.{CheckedInsert}
use Rattle.catalogue.specs.contracts.checked.CheckedInsertPartialEq.TheImpl as insert_eq
use Rattle.catalogue.specs.declared.checked.CheckedChange.{CheckedChange}
use Rattle.catalogue.specs.contracts.checked.CheckedChangePartialEq.TheImpl as change_eq
use Rattle.catalogue.specs.declared.checked.CheckedRemove.{CheckedRemove}
use Rattle.catalogue.specs.contracts.checked.CheckedRemovePartialEq.TheImpl as remove_eq
use Rattle.catalogue.specs.declared.checked.ColumnDesc.{ColumnDesc}
use Rattle.catalogue.specs.contracts.checked.ColumnDescPartialEq.TheImpl as column_eq
use Rattle.catalogue.specs.declared.checked.OrderKey.{OrderKey}
use Rattle.catalogue.specs.contracts.checked.OrderKeyPartialEq.TheImpl as key_eq
use Rattle.catalogue.specs.declared.checked.TypedCell.{TypedCell}
use Rattle.catalogue.specs.declared.checked.TypedCell.TheVariants as cells
use Rattle.catalogue.specs.contracts.checked.TypedCellPartialEq.TheImpl as cell_eq
use Rattle.catalogue.specs.declared.checked.TypedSet.{TypedSet}
use Rattle.catalogue.specs.contracts.checked.TypedSetPartialEq.TheImpl as set_eq
use Rattle.backend_trait.proofs.Telling.{Tells, and_true, both_true}
use Rattle.world_program.proofs.Trees.{never, kind_told, expr_told}

some_only : {A : Type 0} {test : A → A → Truth} → ((a b : A) → Tells (test a b) (a ≡ b)) → (x y : Option A) → option_eq test x y ≡ true → x ≡ y
some_only told None None e = refl
some_only told (Some a) (Some b) e = ap (λ x. Some x) ((told a b).0 e)
some_only told x y e = never e

some_itself : {A : Type 0} {test : A → A → Truth} → ((a b : A) → Tells (test a b) (a ≡ b)) → (x : Option A) → option_eq test x x ≡ true
some_itself told None = refl
some_itself told (Some a) = (told a a).1 refl

some_told : {A : Type 0} {test : A → A → Truth} → ((a b : A) → Tells (test a b) (a ≡ b)) → (x y : Option A) → Tells (option_eq test x y) (x ≡ y)
some_told {A} {test} told x y = (some_only told x y, λ e. subst (λ (z : Option A). option_eq test x z ≡ true) e (some_itself told x))

column_told : (x y : ColumnDesc) → Tells ((column_eq.ghosts).eq x y) (x ≡ y)
column_told x y = (
  λ e.
      let h = and_true _ _ e in
      let name = (bytes_decides x.name y.name).0 h.0 in
      let kind = (kind_told x.kind y.kind).0 h.1 in
      λ i. record { name = name i; kind = kind i },
  λ e. both_true _ _ ((bytes_decides x.name y.name).1 (ap (λ (c : ColumnDesc). c.name) e)) ((kind_told x.kind y.kind).1 (ap (λ (c : ColumnDesc). c.kind) e)),
)

key_told : (x y : OrderKey) → Tells ((key_eq.ghosts).eq x y) (x ≡ y)
key_told x y = (
  λ e.
      let h = and_true _ _ e in
      let column = eqb-true x.column y.column h.0 in
      let falling = (booleans_Decides x.falling y.falling).0 h.1 in
      λ i. record { column = column i; falling = falling i },
  λ e. both_true _ _ (eq-eqb x.column y.column (ap (λ (k : OrderKey). k.column) e)) ((booleans_Decides x.falling y.falling).1 (ap (λ (k : OrderKey). k.falling) e)),
)

cell_only : (x y : TypedCell) → (cell_eq.ghosts).eq x y ≡ true → x ≡ y
cell_only cells.Serial cells.Serial e = refl
cell_only cells.Now cells.Now e = refl
cell_only (cells.Given a) (cells.Given b) e = ap cells.Given ((expr_told a b).0 e)
cell_only x y e = never e

cell_itself : (x : TypedCell) → (cell_eq.ghosts).eq x x ≡ true
cell_itself cells.Serial = refl
cell_itself cells.Now = refl
cell_itself (cells.Given a) = (expr_told a a).1 refl

cell_told : (x y : TypedCell) → Tells ((cell_eq.ghosts).eq x y) (x ≡ y)
cell_told x y = (cell_only x y, λ e. subst (λ (z : TypedCell). (cell_eq.ghosts).eq x z ≡ true) e (cell_itself x))

set_told : (x y : TypedSet) → Tells ((set_eq.ghosts).eq x y) (x ≡ y)
set_told x y = (
  λ e.
      let h = and_true _ _ e in
      let column = eqb-true x.column y.column h.0 in
      let expr = (expr_told x.expr y.expr).0 h.1 in
      λ i. record { column = column i; expr = expr i },
  λ e. both_true _ _ (eq-eqb x.column y.column (ap (λ (s : TypedSet). s.column) e)) ((expr_told x.expr y.expr).1 (ap (λ (s : TypedSet). s.expr) e)),
)

read_told : (x y : CheckedRead) → Tells ((read_eq.ghosts).eq x y) (x ≡ y)
read_told x y = (
  λ e.
      let a = and_true _ _ e in
      let b = and_true _ _ a.1 in
      let c = and_true _ _ b.1 in
      let d = and_true _ _ c.1 in
      let f = and_true _ _ d.1 in
      let g = and_true _ _ f.1 in
      let table = (some_told unsigned_Decides x.table y.table).0 a.0 in
      let count = (booleans_Decides x.count y.count).0 b.0 in
      let entries = (pointwise_decides expr_told x.list y.list).0 c.0 in
      let filter = (some_told expr_told x.filter y.filter).0 d.0 in
      let order = (pointwise_decides key_told x.order y.order).0 f.0 in
      let limit = (some_told expr_told x.limit y.limit).0 g.0 in
      let locks = (booleans_Decides x.for_update y.for_update).0 g.1 in
      λ i. record { table = table i; count = count i; list = entries i; filter = filter i; order = order i; limit = limit i; for_update = locks i },
  λ e.
      both_true _ _ ((some_told unsigned_Decides x.table y.table).1 (ap (λ (r : CheckedRead). r.table) e))
      (both_true _ _ ((booleans_Decides x.count y.count).1 (ap (λ (r : CheckedRead). r.count) e))
      (both_true _ _ ((pointwise_decides expr_told x.list y.list).1 (ap (λ (r : CheckedRead). r.list) e))
      (both_true _ _ ((some_told expr_told x.filter y.filter).1 (ap (λ (r : CheckedRead). r.filter) e))
      (both_true _ _ ((pointwise_decides key_told x.order y.order).1 (ap (λ (r : CheckedRead). r.order) e))
      (both_true _ _ ((some_told expr_told x.limit y.limit).1 (ap (λ (r : CheckedRead). r.limit) e))
      ((booleans_Decides x.for_update y.for_update).1 (ap (λ (r : CheckedRead). r.for_update) e))))))),
)

insert_told : (x y : CheckedInsert) → Tells ((insert_eq.ghosts).eq x y) (x ≡ y)
insert_told x y = (
  λ e.
      let h = and_true _ _ e in
      let table = eqb-true x.table y.table h.0 in
      let rows = (pointwise_decides (pointwise_decides cell_told) x.rows y.rows).0 h.1 in
      λ i. record { table = table i; rows = rows i },
  λ e. both_true _ _ (eq-eqb x.table y.table (ap (λ (n : CheckedInsert). n.table) e)) ((pointwise_decides (pointwise_decides cell_told) x.rows y.rows).1 (ap (λ (n : CheckedInsert). n.rows) e)),
)

change_told : (x y : CheckedChange) → Tells ((change_eq.ghosts).eq x y) (x ≡ y)
change_told x y = (
  λ e.
      let h = and_true _ _ e in
      let k = and_true _ _ h.1 in
      let table = eqb-true x.table y.table h.0 in
      let sets = (pointwise_decides set_told x.sets y.sets).0 k.0 in
      let filter = (some_told expr_told x.filter y.filter).0 k.1 in
      λ i. record { table = table i; sets = sets i; filter = filter i },
  λ e.
      both_true _ _ (eq-eqb x.table y.table (ap (λ (c : CheckedChange). c.table) e))
      (both_true _ _ ((pointwise_decides set_told x.sets y.sets).1 (ap (λ (c : CheckedChange). c.sets) e))
      ((some_told expr_told x.filter y.filter).1 (ap (λ (c : CheckedChange). c.filter) e))),
)

remove_told : (x y : CheckedRemove) → Tells ((remove_eq.ghosts).eq x y) (x ≡ y)
remove_told x y = (
  λ e.
      let h = and_true _ _ e in
      let table = eqb-true x.table y.table h.0 in
      let filter = (some_told expr_told x.filter y.filter).0 h.1 in
      λ i. record { table = table i; filter = filter i },
  λ e. both_true _ _ (eq-eqb x.table y.table (ap (λ (r : CheckedRemove). r.table) e)) ((some_told expr_told x.filter y.filter).1 (ap (λ (r : CheckedRemove). r.filter) e)),
)

body_only : (x y : CheckedBody) → (body_eq.ghosts).eq x y ≡ true → x ≡ y
body_only (body.Read a) (body.Read b) e = ap body.Read ((read_told a b).0 e)
body_only (body.Insert a) (body.Insert b) e = ap body.Insert ((insert_told a b).0 e)
body_only (body.Change a) (body.Change b) e = ap body.Change ((change_told a b).0 e)
body_only (body.Remove a) (body.Remove b) e = ap body.Remove ((remove_told a b).0 e)
body_only x y e = never e

body_itself : (x : CheckedBody) → (body_eq.ghosts).eq x x ≡ true
body_itself (body.Read a) = (read_told a a).1 refl
body_itself (body.Insert a) = (insert_told a a).1 refl
body_itself (body.Change a) = (change_told a a).1 refl
body_itself (body.Remove a) = (remove_told a a).1 refl

body_told : (x y : CheckedBody) → Tells ((body_eq.ghosts).eq x y) (x ≡ y)
body_told x y = (body_only x y, λ e. subst (λ (z : CheckedBody). (body_eq.ghosts).eq x z ≡ true) e (body_itself x))

pub checked_told : (x y : Checked) → Tells ((checked_eq.ghosts).eq x y) (x ≡ y)
checked_told x y = (
  λ e.
      let h = and_true _ _ e in
      let k = and_true _ _ h.1 in
      let body = (body_told x.body y.body).0 h.0 in
      let columns = (pointwise_decides column_told x.columns y.columns).0 k.0 in
      let kinds = (pointwise_decides kind_told x.kinds y.kinds).0 k.1 in
      λ i. record { body = body i; columns = columns i; kinds = kinds i },
  λ e.
      both_true _ _ ((body_told x.body y.body).1 (ap (λ (c : Checked). c.body) e))
      (both_true _ _ ((pointwise_decides column_told x.columns y.columns).1 (ap (λ (c : Checked). c.columns) e))
      ((pointwise_decides kind_told x.kinds y.kinds).1 (ap (λ (c : Checked). c.kinds) e))),
)
