-- A statement of a text is asked for.
use Rattle.std.proofs.Common.{◌≡◌, ◌<◌, ◌+◌, ℕ, zero, suc, Bool, true, false, List, [], ◌∷◌, Some, None, length, drop, get_or, refl, sym, ap, subst, ◌∙◌, arith, eqb, drop-cons, add-one, length-drop}
use Rattle.std.proofs.lemmas.Bool.{eq-eqb, ne_eqb}
use Rattle.schema.specs.declared.catalogue.TableDef.{TableDef}
use Rattle.sql_tree.specs.declared.statement.Statement.{Statement}
use Rattle.session_orders.specs.declared.order.OrderBody.{OrderBody}
use Rattle.session_orders.specs.declared.order.OrderBody.TheVariants.{Settle}
use Rattle.wire_query.specs.declared.asking.Asked.{Asked}
use Rattle.wire_session.specs.declared.refusal.Refusal.{Refusal}
use Rattle.session_wire.specs.declared.due.Due.{Due}
use Rattle.session_wire.specs.Asking.{AsksFirst, OrdersFirst, OrdersNext, behind, due_of, is_over, settling}
use Rattle.session_wire.specs.Hears.{refusing}
use Rattle.session_wire.specs.Shown.{View}

pub drop_at : (ss : List Statement) (at : ℕ) (s : Statement) → at < length ss → s ≡ get_or ss at s → drop at ss ≡ s ∷ drop (at + 1) ss
drop_at ss at s below is = drop-cons ss at s below ∙ ap (λ x. x ∷ drop (suc at) ss) (sym is) ∙ ap (λ n. s ∷ drop n ss) (sym (add-one at))

behind_suc : (ss : List Statement) (at : ℕ) → at < length ss → behind (drop at ss) ≡ drop (suc at) ss
behind_suc [] at below = let none : at < 0 = below in absurd (omega arith)
behind_suc (s ∷ ss) zero below = refl
behind_suc (s ∷ ss) (suc at) below = let less : suc at < suc (length ss) = below in behind_suc ss at (omega arith)

pub behind_drop : (ss : List Statement) (at : ℕ) → at < length ss → behind (drop at ss) ≡ drop (at + 1) ss
behind_drop ss at below = behind_suc ss at below ∙ ap (λ n. drop n ss) (sym (add-one at))

last_by : (more : List Statement) (a b : ℕ) → a + length more ≡ b → eqb a b ≡ is_over more
last_by [] a b e = let same : a + 0 ≡ b = e in eq-eqb a b (omega arith)
last_by (s ∷ more) a b e = let less : a + suc (length more) ≡ b = e in ne_eqb a b (λ same. omega (arith, less, same))

pub last_so : (ss : List Statement) (at : ℕ) → at < length ss → eqb (at + 1) (length ss) ≡ is_over (drop (at + 1) ss)
last_so ss at below = last_by (drop (at + 1) ss) (at + 1) (length ss) (omega (arith, below, length-drop (at + 1) ss))

-- an order leaves the statements behind the first
pub taken_so : (v : View) (left : List Statement) (last : Bool) (body : OrderBody) (description : List ℕ) (d : Due) → behind v.left ≡ left → last ≡ is_over left → d ≡ due_of body description last
    → ◌≡◌ {A = View} (record v { left = left; due = Some d }) (record v { left = behind v.left; due = Some (due_of body description (is_over (behind v.left))) })
taken_so v left last body description d e l is =
    ap (λ (one : Due). record v { left = left; due = Some one }) is
    ∙ ap (λ (b : Bool). record v { left = left; due = Some (due_of body description b) }) l
    ∙ ap (λ (ss : List Statement). record v { left = ss; due = Some (due_of body description (is_over ss)) }) (sym e)

pub refused_so : (v : View) (r : Refusal) (left : List Statement) (last : Bool) (new : View) → behind v.left ≡ left → last ≡ is_over left → new ≡ refusing r last v
    → new ≡ refusing r (is_over (behind v.left)) v
refused_so v r left last new e l is = is ∙ ap (λ (b : Bool). refusing r b v) (l ∙ ap is_over (sym e))

pub asks_so : (tables : List TableDef) (status : ℕ) (implicit : Bool) (left more : List Statement) (s : Statement) (what : Asked) → left ≡ s ∷ more
    → AsksFirst tables status implicit (s ∷ more) what → AsksFirst tables status implicit left what
asks_so tables status implicit left more s what e h = subst (λ ss. AsksFirst tables status implicit ss what) (sym e) h

pub first_next : (tables : List TableDef) (left : List Statement) (settles : Bool) (body : OrderBody) (old new : View) → old.left ≡ left
    → OrdersFirst tables body old new → OrdersNext tables left settles (Some body) old new
first_next tables [] settles body old new e h =
    let none : AsksFirst tables old.session.status old.session.implicit [] h.what = subst (λ ss. AsksFirst tables old.session.status old.session.implicit ss h.what) e h.asks in
    absurd none
first_next tables (s ∷ more) settles body old new e h = h

pub none_next : (tables : List TableDef) (left : List Statement) (settles : Bool) (old : View) → left ≡ [] → settles ≡ false → OrdersNext tables left settles None old old
none_next tables left settles old e s =
    subst (λ ss. OrdersNext tables ss settles None old old) (sym e) (subst (λ b. OrdersNext tables [] b None old old) (sym s) (refl, refl))

pub settle_next : (tables : List TableDef) (left : List Statement) (settles : Bool) (old new : View) → left ≡ [] → settles ≡ true → new ≡ settling old
    → OrdersNext tables left settles (Some Settle) old new
settle_next tables left settles old new e s is =
    subst (λ ss. OrdersNext tables ss settles (Some Settle) old new) (sym e) (subst (λ b. OrdersNext tables [] b (Some Settle) old new) (sym s) (refl, is))
