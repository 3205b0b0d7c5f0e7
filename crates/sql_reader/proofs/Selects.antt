-- The laws of SELECT.
use Rattle.std.proofs.Common.{◌≡◌, ℕ, suc, ◌≤◌, Bool as Boolean, true, false, List, [], ◌∷◌, ◌++◌, length, Option, Some, None, Result, Ok, Err, refl, ap, subst, sym, ◌∙◌, arith, inr}
use Rattle.std.specs.Prelude.{codes}
use Rattle.sql_tokens.specs.declared.fault.Awaited.TheVariants.{Statement as Wanted, Star, Operand}
use Rattle.sql_tokens.specs.declared.fault.Fault.{Fault}
use Rattle.sql_tokens.specs.declared.fault.Fault.TheVariants.{Syntax, TooDeep}
use Rattle.sql_tokens.specs.Grammar.{Form}
use Rattle.sql_tokens.specs.Reading.{Parse, tail}
use Rattle.sql_tokens.proofs.Good.{Has, Any, Stops, HasMark, has_map}
use Rattle.sql_tokens.proofs.Told.{head, same_head, Begun, Taken, Refused, Passed, Told, takes, behind as taking, otherwise, narrowed, by_none, by_head}
use Rattle.sql_tokens.proofs.Depth.{Same}
use Rattle.sql_tokens.specs.declared.mark.Mark.TheVariants as mark
use Rattle.sql_tokens.specs.declared.token.Name.{Name}
use Rattle.sql_tokens.specs.declared.token.Token.{Token}
use Rattle.sql_tokens.specs.declared.token.Token.TheVariants as token
use Rattle.sql_tree.specs.declared.expr.Expr.{Column}
use Rattle.sql_tree.specs.declared.statement.SelectList.{SelectList}
use Rattle.sql_tree.specs.declared.statement.SelectList.TheVariants as list
use Rattle.sql_expr.specs.Grammar.{ExprOf, comma}
use Rattle.sql_expr.specs.Reading.{expr_at, after_comma, named_with, prim_with, un_with, product_with, sum_with, cat_with, mem_rest, mem_with, cmp_rest, cmp_with, test_with, not_with, and_with, or_with}
use Rattle.sql_expr.proofs.Ends.{EndsOr, comma_stops}
use Rattle.sql_expr.proofs.Laws.{good_expr}
use Rattle.sql_reader.specs.Parts.{Done, Made, Maybe, Behind, Listed}
use Rattle.sql_reader.specs.Steps.{done, maybe, behind, listed}
use Rattle.sql_reader.specs.Words.{as_word, star_mark, close_mark, plain_name, after_as, after_star, after_close, after_count, is_plain}
use Rattle.sql_reader.specs.Grammar.{NameOf, select_item, ItemOf, items_of, ListOf, star, count, items}
use Rattle.sql_reader.specs.Reading.{name_at, item_at, items_at, counted_at, list_step, list_at}
use Rattle.sql_reader.proofs.Stage.{Stage, stage_narrow, stage_done, stage_made, stage_then, stage_behind, stage_maybe, stage_listed, maybe_begins}
use Rattle.sql_reader.proofs.Keyed.{as_keyed, star_keyed, close_keyed, plain_is, count_found}
use Rattle.sql_reader.proofs.Ends.{EndsItem, EndsList, as_stops}
use Rattle.sql_reader.proofs.OneStatement.{expr_stage, name_stage, comma_keyed}

-- ---- expressions with names

item_stage : Stage ItemOf item_at EndsItem
item_stage = stage_made select_item _ _ EndsItem (stage_then ExprOf expr_at EndsOr (λ d. Maybe as_word (λ _. NameOf)) (λ d. maybe after_as (λ _. name_at)) EndsItem expr_stage
    (stage_narrow _ _ (Stops Any after_as) EndsItem (λ k e. (tt, e.1)) (stage_maybe after_as as_word (λ _ d. NameOf) (λ _ d. name_at) Any as_keyed (λ _. name_stage)))
    (λ d mid b rest h e. maybe_begins as_word (λ _. NameOf) EndsOr mid b rest (λ s. as_stops) e.0 h))

Items : ℕ → Form Token SelectList
Items d = Made items_of (Listed comma (ItemOf d))

items_stage : Stage Items items_at EndsList
unfolding Items
items_stage = stage_made items_of (λ d. Listed comma (ItemOf d)) (λ d. listed after_comma (item_at d)) EndsList (stage_listed after_comma comma ItemOf item_at EndsItem comma_keyed refl item_stage (λ m after. (comma_stops after, refl)))

-- ---- `count (`

Counted : Form Token SelectList
Counted = Behind star_mark (Behind close_mark (Done list.Count))

counted_stage : Stage (λ d. Counted) (λ d. counted_at) Any
unfolding Counted
counted_stage = stage_behind after_star star_mark (λ d. Behind close_mark (Done list.Count)) (λ d. behind after_close Wanted (done list.Count)) Any star_keyed
    (stage_behind after_close close_mark (λ d. Done list.Count) (λ d. done list.Count) Any close_keyed (stage_done list.Count) Wanted) Star

counted_built : (d : ℕ) (m : List Token) (l : SelectList) (rest : List Token) → Counted m l rest → ListOf d (plain_name (codes "count") tt ∷ token.Mark mark.Open ∷ m) l rest
unfolding Counted
counted_built d m l rest c = count (rw (c.2, c.3.2, c.3.3.0) refl) c.3.3.1

-- ---- what an expression reads of a name, and of a star

items_open : (d : ℕ) (after : List Token) → items_at d (plain_name (codes "count") tt ∷ token.Mark mark.Open ∷ after) ≡ Ok (list.Items (record { expr = Column None (codes "count"); name = None } ∷ []), token.Mark mark.Open ∷ after)
unfolding tail named_with prim_with un_with product_with sum_with cat_with mem_rest mem_with cmp_rest cmp_with test_with not_with and_with or_with
items_open d after = refl

items_name : (d : ℕ) (n : Name) → items_at d (token.Name n ∷ []) ≡ Ok (list.Items (record { expr = Column None n.text; name = None } ∷ []), [])
unfolding tail named_with prim_with un_with product_with sum_with cat_with mem_rest mem_with cmp_rest cmp_with test_with not_with and_with or_with
items_name d n = refl

items_star : (d : ℕ) (after : List Token) → items_at d (token.Mark mark.Star ∷ after) ≡ Err (Syntax (suc (length after)) Operand)
unfolding prim_with un_with product_with sum_with cat_with mem_with cmp_with test_with not_with and_with or_with
items_star d after = refl

-- ---- the list

by_mark : (d : ℕ) (ts : List Token) (o : Option (Unit {0} × List Token)) → HasMark o (λ m after. ts ≡ plain_name (codes "count") m ∷ token.Mark mark.Open ∷ after) → Has (list_step d ts o) (ListOf d ts)
unfolding Items
by_mark d ts None h = has_map (items_at d ts) (Items d ts) (ListOf d ts) (items_stage.takes d ts) (λ l rest r. items r.0 r.1 r.2)
by_mark d ts (Some m) h = has_map (counted_at m.1) (Counted m.1) (ListOf d ts) (counted_stage.takes d m.1) (λ l rest c. subst (λ (x : List Token). ListOf d x l rest) (sym h) (counted_built d m.1 l rest c))

list_takes : (d : ℕ) (ts : List Token) → Has (list_at d ts) (ListOf d ts)
list_takes d (token.Mark mark.Star ∷ ts) = star refl refl
list_takes d ts = by_mark d ts (after_count ts) (count_found ts)

-- nothing that ends a list begins with `(`
no_open : (after : List Token) → EndsList (token.Mark mark.Open ∷ after) → ⊥
no_open after e = absurd cc

-- what is read is read once
abbrev left_of : Result (SelectList × List Token) Fault → List Token
left_of (Ok x) = x.1
left_of (Err f) = []

same_rest : (r : Result (SelectList × List Token) Fault) (l m : SelectList) (a b : List Token) → r ≡ Ok (l, a) → r ≡ Ok (m, b) → a ≡ b
same_rest r l m a b h k = ap left_of (sym h ∙ k)

not_both : (r : Result (SelectList × List Token) Fault) (x : SelectList × List Token) (f : Fault) → r ≡ Ok x → r ≡ Err f → ⊥
not_both r x f h k = absurd cc

not_counted : (d : ℕ) (ts : List Token) (l : SelectList) (rest : List Token) (o : Option (Unit {0} × List Token)) → HasMark o (λ m after. ts ≡ plain_name (codes "count") m ∷ token.Mark mark.Open ∷ after) → items_at d ts ≡ Ok (l, rest) → EndsList rest → list_step d ts o ≡ Ok (l, rest)
not_counted d ts l rest None h is ends = is
not_counted d ts l rest (Some m) h is ends =
    let e : items_at d ts ≡ Ok (list.Items (record { expr = Column None (codes "count"); name = None } ∷ []), token.Mark mark.Open ∷ m.1) = ap (items_at d) h ∙ items_open d m.1 in
    let r : rest ≡ token.Mark mark.Open ∷ m.1 = same_rest (items_at d ts) l (list.Items (record { expr = Column None (codes "count"); name = None } ∷ [])) rest (token.Mark mark.Open ∷ m.1) is e in
    absurd (no_open m.1 (subst EndsList r ends))

items_again : (d : ℕ) (ts : List Token) (l : SelectList) (rest : List Token) → items_at d ts ≡ Ok (l, rest) → EndsList rest → list_at d ts ≡ Ok (l, rest)
items_again d (token.Mark mark.Star ∷ ts) l rest is ends = absurd (not_both (items_at d (token.Mark mark.Star ∷ ts)) (l, rest) (Syntax (suc (length ts)) Operand) is (items_star d ts))
items_again d ts l rest is ends = not_counted d ts l rest (after_count ts) (count_found ts) is ends

list_again : (d : ℕ) (ts : List Token) (l : SelectList) (rest : List Token) → ListOf d ts l rest → EndsList rest → list_at d ts ≡ Ok (l, rest)
unfolding Items
list_again d ts l rest (star h k) ends = rw (h, k) refl
list_again d ts l rest (count h k) ends = rw (h, k) refl
list_again d ts l rest (items xs r q) ends = items_again d ts l rest (items_stage.again d ts l rest (xs, r, q) ends) ends

list_most : (d : ℕ) (ts : List Token) (l : SelectList) (rest : List Token) → ListOf d ts l rest → length rest ≤ length ts
unfolding Items
list_most d ts l rest (star h k) = omega (arith, ap length h)
list_most d ts l rest (count h k) = omega (arith, ap length h)
list_most d ts l rest (items xs r q) = items_stage.most d ts l rest (xs, r, q)

same_step : (d : ℕ) (ts : List Token) (o : Option (Unit {0} × List Token)) → Same (list_step d ts o) (list_step (suc d) ts o)
same_step d ts None = items_stage.same d ts
same_step d ts (Some m) = inr refl

list_same : (d : ℕ) (ts : List Token) → Same (list_at d ts) (list_at (suc d) ts)
list_same d (token.Mark mark.Star ∷ ts) = inr refl
list_same d ts = same_step d ts (after_count ts)

-- a reader that leaves these tokens to another, by the second of them
module _ {A : Type 0} (t : Token) (ts : List Token) (R Q : Form Token A) (p q : Parse Token A) (Ends : List Token → Type 0)
    (is : (other : List Token) → head other ≡ head ts → p (t ∷ other) ≡ q (t ∷ other)) (build : (m : List Token) (a : A) (rest : List Token) → Q m a rest → R m a rest)
    (moves : (a : A) → Q [] a [] → ⊥) (goes : (e : Fault) → q (t ∷ []) ≡ Err e → ⊥) where
  moved : (u : Token) (used rest other : List Token) → t ∷ ts ≡ u ∷ (used ++ rest) → head (used ++ other) ≡ head (used ++ rest) → p (u ∷ (used ++ other)) ≡ q (u ∷ (used ++ other))
  moved u used rest other parts h =
      let e : t ≡ u = cc in
      let f : ts ≡ used ++ rest = cc in
      subst (λ (v : Token). p (v ∷ (used ++ other)) ≡ q (v ∷ (used ++ other))) e (is (used ++ other) (h ∙ ap head (sym f)))

  taken_by : (a : A) (rest used : List Token) → t ∷ ts ≡ used ++ rest → ((other : List Token) → head other ≡ head rest → q (used ++ other) ≡ Ok (a, other)) → ((other : List Token) → Q (used ++ other) a other) → Taken R p (t ∷ ts) a rest
  taken_by a rest [] parts same framed = absurd (moves a (framed []))
  taken_by a rest (u ∷ used) parts same framed = record { used = u ∷ used; parts = parts; same = λ other h. moved u used rest other parts (same_head used other rest h) ∙ same other h; framed = λ other. build (u ∷ (used ++ other)) a other (framed other) }

  refused_by : (n : ℕ) (w : _) (one : Refused Q q Ends (t ∷ ts) n w) (used : List Token) → t ∷ ts ≡ used ++ one.rest → ((other : List Token) → head other ≡ head one.rest → q (used ++ other) ≡ Err (Syntax (length other) w)) → ((k : List Token) → Ends k → Q (used ++ (one.more ++ k)) one.tree k) → Refused R p Ends (t ∷ ts) n w
  refused_by n w one [] parts same goes_on = absurd (goes (Syntax 1 w) (same (t ∷ []) (ap head parts)))
  refused_by n w one (u ∷ used) parts same goes_on = record { used = u ∷ used; rest = one.rest; parts = parts; left_is = one.left_is; same = λ other h. moved u used one.rest other parts (same_head used other one.rest h) ∙ same other h; more = one.more; tree = one.tree; goes_on = λ k h. build (u ∷ (used ++ (one.more ++ k))) one.tree k (goes_on k h) }

  passed_by : (n : ℕ) (one : Passed true Q q Ends (t ∷ ts) n) (used : List Token) → Begun true used → t ∷ ts ≡ used ++ one.rest → ((other : List Token) → q (used ++ other) ≡ Err (TooDeep (suc (length other)))) → ((k : List Token) → Ends k → Q (used ++ (one.more ++ k)) one.tree k) → Passed true R p Ends (t ∷ ts) n
  passed_by n one [] begun parts same goes_on = absurd begun
  passed_by n one (u ∷ []) begun parts same goes_on = let e : u ≡ t = cc in absurd (goes (TooDeep 1) (subst (λ (v : Token). q (v ∷ []) ≡ Err (TooDeep 1)) e (same [])))
  passed_by n one (u ∷ v ∷ used) begun parts same goes_on = record { used = u ∷ v ∷ used; rest = one.rest; begun = tt; parts = parts; left_is = one.left_is; same = λ other. moved u (v ∷ used) one.rest other parts refl ∙ same other; more = one.more; tree = one.tree; goes_on = λ k h. build (u ∷ v ∷ (used ++ (one.more ++ k))) one.tree k (goes_on k h) }

  by_second : (r : Result (A × List Token) Fault) → Told true Q q Ends (t ∷ ts) r → Told true R p Ends (t ∷ ts) r
  by_second (Ok x) one = taken_by x.0 x.1 one.used one.parts one.same one.framed
  by_second (Err (Syntax n w)) one = refused_by n w one one.used one.parts one.same one.goes_on
  by_second (Err (TooDeep n)) one = passed_by n one one.used one.begun one.parts one.same one.goes_on

items_built : (d : ℕ) (m : List Token) (l : SelectList) (rest : List Token) → Items d m l rest → ListOf d m l rest
unfolding Items
items_built d m l rest r = items r.0 r.1 r.2

items_move : (d : ℕ) (l : SelectList) → Items d [] l [] → ⊥
unfolding Items
items_move d l r = let h = (good_expr d).less [] r.1.3.0.0 r.1.3.1.0 r.1.3.1.1 in absurd (omega (arith, h))

items_go : (d : ℕ) (n : Name) (e : Fault) → items_at d (token.Name n ∷ []) ≡ Err e → ⊥
items_go d n e h = not_both (items_at d (token.Name n ∷ [])) (list.Items (record { expr = Column None n.text; name = None } ∷ []), []) e (items_name d n) h

other_name : (d : ℕ) (n : Name) (more : List Token) → is_plain (codes "count") n ≡ false → list_at d (token.Name n ∷ more) ≡ items_at d (token.Name n ∷ more)
other_name d n [] e = refl
other_name d n (token.Mark mark.Open ∷ more) e = rw e refl
other_name d n (t ∷ more) e = refl

counts : (d : ℕ) (n : Name) (more : List Token) → is_plain (codes "count") n ≡ true → list_at d (token.Name n ∷ token.Mark mark.Open ∷ more) ≡ counted_at more
counts d n more e = rw e refl

-- what stands behind the name
After : ℕ → Name → Form Token SelectList
After d n m l rest = ListOf d (token.Name n ∷ m) l rest

named_told : (d : ℕ) (n : Name) (ts : List Token) (b : Boolean) → is_plain (codes "count") n ≡ b → Told true (ListOf (suc d)) (list_at d) EndsList (token.Name n ∷ ts) (list_at d (token.Name n ∷ ts))
unfolding After
named_told d n ts false e = subst (Told true (ListOf (suc d)) (list_at d) EndsList (token.Name n ∷ ts)) (sym (other_name d n ts e))
    (otherwise (ListOf (suc d)) (Items (suc d)) (list_at d) (items_at d) EndsList (token.Name n ∷ ts) (items_at d (token.Name n ∷ ts)) (by_head (token.Name n) (list_at d) (items_at d) (λ more. other_name d n more e)) (items_built (suc d)) (items_stage.told d (token.Name n ∷ ts)))
named_told d n [] true e = by_second (token.Name n) [] (ListOf (suc d)) (Items (suc d)) (list_at d) (items_at d) EndsList (by_none (λ o. list_at d (token.Name n ∷ o)) (λ o. items_at d (token.Name n ∷ o)) refl) (items_built (suc d)) (items_move (suc d)) (items_go d n) (items_at d (token.Name n ∷ [])) (items_stage.told d (token.Name n ∷ []))
named_told d n (token.Mark mark.Open ∷ ts) true e = subst (Told true (ListOf (suc d)) (list_at d) EndsList (token.Name n ∷ token.Mark mark.Open ∷ ts)) (sym (counts d n ts e))
    (taking true (token.Name n) (ListOf (suc d)) (After (suc d) n) (list_at d) (λ m. list_at d (token.Name n ∷ m)) EndsList (token.Mark mark.Open ∷ ts) (counted_at ts) (λ other. refl) (λ m l rest h. h)
    (taking true (token.Mark mark.Open) (After (suc d) n) Counted (λ m. list_at d (token.Name n ∷ m)) counted_at EndsList ts (counted_at ts) (λ other. counts d n other e)
    (λ m l rest c. subst (λ (x : Name). ListOf (suc d) (token.Name x ∷ token.Mark mark.Open ∷ m) l rest) (sym (plain_is (codes "count") n e)) (counted_built (suc d) m l rest c))
    (narrowed true Counted counted_at Any EndsList (λ k h. tt) ts (counted_at ts) (counted_stage.told d ts))))
named_told d n (t ∷ ts) true e = by_second (token.Name n) (t ∷ ts) (ListOf (suc d)) (Items (suc d)) (list_at d) (items_at d) EndsList (by_head t (λ o. list_at d (token.Name n ∷ o)) (λ o. items_at d (token.Name n ∷ o)) (λ more. refl)) (items_built (suc d)) (items_move (suc d)) (items_go d n) (items_at d (token.Name n ∷ t ∷ ts)) (items_stage.told d (token.Name n ∷ t ∷ ts))

list_told : (d : ℕ) (ts : List Token) → Told true (ListOf (suc d)) (list_at d) EndsList ts (list_at d ts)
list_told d (token.Mark mark.Star ∷ ts) = takes (token.Mark mark.Star) (ListOf (suc d)) (list_at d) ts list.Star (λ other. refl) (λ other. star refl refl)
list_told d (token.Name n ∷ ts) = named_told d n ts (is_plain (codes "count") n) refl
list_told d [] = otherwise (ListOf (suc d)) (Items (suc d)) (list_at d) (items_at d) EndsList [] (items_at d []) (by_none (list_at d) (items_at d) refl) (items_built (suc d)) (items_stage.told d [])
list_told d (t ∷ ts) = otherwise (ListOf (suc d)) (Items (suc d)) (list_at d) (items_at d) EndsList (t ∷ ts) (items_at d (t ∷ ts)) (by_head t (list_at d) (items_at d) (λ more. refl)) (items_built (suc d)) (items_stage.told d (t ∷ ts))

pub list_stage : Stage ListOf list_at EndsList
list_stage = record { takes = list_takes; again = list_again; most = list_most; told = list_told; same = list_same; more = token.Mark mark.Star ∷ []; tree = list.Star; goes_on = λ d k h. star refl refl }
