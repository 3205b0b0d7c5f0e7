-- Where the reader of SELECT fails, what it awaits is due; and it fails so behind each beginning of a SELECT.
use Rattle.std.proofs.Common.{◌≡◌, ℕ, suc, Bool as Boolean, true, false, List, [], ◌∷◌, ◌++◌, length, Option, Some, None, Result, Ok, Err, refl, sym, ap, subst, ◌∙◌, inl, inr}
use Rattle.std.specs.Prelude.{codes}
use Rattle.sql_tokens.specs.declared.fault.Awaited.{Awaited}
use Rattle.sql_tokens.specs.declared.fault.Awaited.TheVariants.{Operand, Statement as Wanted, Item, Star}
use Rattle.sql_tokens.specs.declared.fault.Fault.{Fault}
use Rattle.sql_tokens.specs.declared.fault.Fault.TheVariants.{Syntax}
use Rattle.sql_tokens.specs.Grammar.{Form}
use Rattle.sql_tokens.specs.Reading.{tail}
use Rattle.sql_tokens.proofs.Good.{Has, Any, Stops, HasMark}
use Rattle.sql_tokens.specs.declared.mark.Mark.TheVariants as mark
use Rattle.sql_tokens.specs.declared.token.Token.{Token}
use Rattle.sql_tokens.specs.declared.token.Token.TheVariants as token
use Rattle.sql_tokens.specs.declared.token.TokenFault.TheVariants as fault
use Rattle.sql_tokens.specs.declared.word.Word.TheVariants as word
use Rattle.sql_tree.specs.declared.expr.Expr.{Expr, Column}
use Rattle.sql_tree.specs.declared.statement.SelectList.{SelectList}
use Rattle.sql_tree.specs.declared.statement.SelectList.TheVariants as list
use Rattle.sql_expr.specs.Grammar.{ExprOf, comma}
use Rattle.sql_expr.specs.Reading.{expr_at, after_comma, named_with, prim_with, un_with, product_with, sum_with, cat_with, mem_rest, mem_with, cmp_rest, cmp_with, test_with, not_with, and_with, or_with}
use Rattle.sql_expr.proofs.Ends.{EndsOr, comma_stops, comma_marks}
use Rattle.sql_reader.specs.Parts.{Done, Then, Made, Maybe, Behind, Listed}
use Rattle.sql_reader.specs.Steps.{done, both, one_of, maybe, behind, listed}
use Rattle.sql_reader.specs.Words.{from_word, by_word, as_word, limit_word, order_word, for_word, update_word, close_mark, dot_mark, star_mark, direction_word, plain_name, after_from, after_by, after_as, after_limit, after_order, after_for, after_update, after_close, after_dot, after_star, after_direction, after_name, after_count}
use Rattle.sql_reader.specs.Grammar.{NameOf, FilterOf, select_item, ItemOf, items_of, ListOf, star, count, items, order_item, OrderItemOf, OrderOf, LimitOf, number, negative, lowest, null, parameter, SizeOf, LockOf, SourceOf, select_of, SelectOf}
use Rattle.sql_reader.specs.Reading.{name_at, filter_at, item_at, items_at, counted_at, list_step, list_at, order_item_at, order_at, negative_at, size_at, limit_at, for_update_at, source_at, select_at}
use Rattle.sql_reader.proofs.Stage.{maybe_begins}
use Rattle.sql_reader.proofs.Ends.{EndsFilter, EndsItem, EndsList, EndsOrderItem, EndsOrder, EndsSize, EndsLock, as_stops, from_list, order_filter, limit_filter, for_filter, limit_order, for_order, for_size, bound_filter, bound_list, bound_order, bound_size, bound_lock}
use Rattle.sql_reader.proofs.Keyed.{from_keyed, by_keyed, as_keyed, limit_keyed, order_keyed, for_keyed, update_keyed, close_keyed, dot_keyed, star_keyed, direction_keyed, count_found}
use Rattle.sql_reader.proofs.Selects.{list_stage}
use Rattle.sql_profile.specs.Beginnings.{Beginning, AtOnce, Nothing, ThenBegun, MarkBegun, BehindBegun}
use Rattle.sql_profile.specs.Expressions.{ExprBegun}
use Rattle.sql_profile.specs.Statements.{Further, ListedBegun, FilterBegun, ItemBegun, SelectedBegun, rows_counted, items_listed, OrderItemBegun, OrderBegun, SizeBegun, LimitBegun, LockBegun, SourceBegun, SelectBegun}
use Rattle.sql_profile.proofs.Begins.{Frame, Halts, at_once, widened, prefixed, Begins, begins_narrow, begins_made, begins_done, begins_then, begins_maybe, begins_needed, begins_free, begins_behind, begins_listed, begins_as, mark_follows}
use Rattle.sql_profile.proofs.Expressions.{bad, two, begins_expr}
use Rattle.sql_profile.proofs.NamedStatements.{begins_name, begins_filter}

-- what may follow a statement, and what is strange to it
abbrev pub Past : List Token → Type 0
Past [] = Unit {0}
Past (token.Mark mark.Semicolon ∷ ts) = Unit {0}
Past (token.Fault fault.Bad ∷ ts) = Unit {0}
Past _ = ⊥

pub past_filter : (ts : List Token) → Past ts → EndsFilter ts
past_filter [] h = bound_filter [] tt
past_filter (token.Mark mark.Semicolon ∷ ts) h = bound_filter (token.Mark mark.Semicolon ∷ ts) tt
past_filter (token.Fault fault.Bad ∷ ts) h = (((((((((refl, refl), refl), refl), refl), refl), refl), refl), refl), refl)
past_filter _ h = absurd h

past_list : (ts : List Token) → Past ts → EndsList ts
past_list [] h = bound_list [] tt
past_list (token.Mark mark.Semicolon ∷ ts) h = bound_list (token.Mark mark.Semicolon ∷ ts) tt
past_list (token.Fault fault.Bad ∷ ts) h = ((((((((((refl, refl), refl), refl), refl), refl), refl), refl), refl), refl), refl)
past_list _ h = absurd h

past_from : (ts : List Token) → Past ts → Stops Past after_from ts
past_from [] h = (tt, refl)
past_from (token.Mark mark.Semicolon ∷ ts) h = (tt, refl)
past_from (token.Fault fault.Bad ∷ ts) h = (tt, refl)
past_from _ h = absurd h

past_order : (ts : List Token) → Past ts → EndsOrder ts
past_order [] h = bound_order [] tt
past_order (token.Mark mark.Semicolon ∷ ts) h = bound_order (token.Mark mark.Semicolon ∷ ts) tt
past_order (token.Fault fault.Bad ∷ ts) h = ((((tt, refl), refl), refl), refl)
past_order _ h = absurd h

past_size : (ts : List Token) → Past ts → EndsSize ts
past_size [] h = bound_size [] tt
past_size (token.Mark mark.Semicolon ∷ ts) h = bound_size (token.Mark mark.Semicolon ∷ ts) tt
past_size (token.Fault fault.Bad ∷ ts) h = (tt, refl)
past_size _ h = absurd h

past_lock : (ts : List Token) → Past ts → EndsLock ts
past_lock [] h = bound_lock [] tt
past_lock (token.Mark mark.Semicolon ∷ ts) h = bound_lock (token.Mark mark.Semicolon ∷ ts) tt
past_lock (token.Fault fault.Bad ∷ ts) h = (tt, refl)
past_lock _ h = absurd h

-- ---- expressions with names

begins_item : (d : ℕ) → Begins bad (ItemOf d) (item_at d) EndsItem (ItemBegun d)
begins_item d = begins_made bad (Then (ExprOf d) (Maybe as_word (λ _. NameOf))) (both (expr_at d) (maybe after_as (λ _. name_at))) EndsItem (ItemBegun d)
    (begins_then bad (ExprOf d) (expr_at d) EndsOr (ExprBegun d) (Maybe as_word (λ _. NameOf)) (maybe after_as (λ _. name_at)) EndsItem (MarkBegun as_word (λ _. Further)) (begins_expr d)
    (begins_narrow bad (Maybe as_word (λ _. NameOf)) (maybe after_as (λ _. name_at)) (Stops Any after_as) (MarkBegun as_word (λ _. Further))
    (begins_maybe bad after_as as_word (λ _. NameOf) (λ _. name_at) Any (λ _. Further) as_keyed.are (λ _. begins_name Wanted)) EndsItem (λ k e. (tt, e.1)))
    (λ mid b rest h e. maybe_begins as_word (λ _. NameOf) EndsOr mid b rest (λ s. as_stops) e.0 h)
    (λ w mid h. mark_follows bad EndsOr as_word (λ _. Further) w mid (λ s. as_stops) h)) select_item

begins_items : (d : ℕ) → Begins bad (Made items_of (Listed comma (ItemOf d))) (items_at d) EndsList (ListedBegun comma (ItemOf d) (ItemBegun d))
begins_items d = begins_made bad (Listed comma (ItemOf d)) (listed after_comma (item_at d)) EndsList (ListedBegun comma (ItemOf d) (ItemBegun d))
    (begins_listed bad after_comma comma (ItemOf d) (item_at d) EndsItem (ItemBegun d) comma_marks (begins_item d) (λ m after. (comma_stops after, refl))) items_of

-- ---- `count (`

begins_counted : Begins bad (Behind star_mark (Behind close_mark (Done list.Count))) counted_at Any (BehindBegun Star star_mark Further)
begins_counted = begins_behind bad after_star star_mark (Behind close_mark (Done list.Count)) (behind after_close Wanted (done list.Count)) Any Further star_keyed.are
    (begins_needed bad after_close close_mark (λ _. Done list.Count) (λ _. done list.Count) Any close_keyed.are (λ _. begins_done bad list.Count) Wanted refl) Star refl

-- ---- the list

items_open : (d : ℕ) (after : List Token) → items_at d (plain_name (codes "count") tt ∷ token.Mark mark.Open ∷ after) ≡ Ok (list.Items (record { expr = Column None (codes "count"); name = None } ∷ []), token.Mark mark.Open ∷ after)
unfolding tail named_with prim_with un_with product_with sum_with cat_with mem_rest mem_with cmp_rest cmp_with test_with not_with and_with or_with
items_open d after = refl

items_star : (d : ℕ) (after : List Token) → items_at d (token.Mark mark.Star ∷ after) ≡ Err (Syntax (suc (length after)) Operand)
unfolding prim_with un_with product_with sum_with cat_with mem_with cmp_with test_with not_with and_with or_with
items_star d after = refl

not_both : (r : Result (SelectList × List Token) Fault) (x : SelectList × List Token) (f : Fault) → r ≡ Ok x → r ≡ Err f → ⊥
not_both r x f h k = absurd cc

module _ (d : ℕ) where
  list_frames : (ts : List Token) (l : SelectList) (rest : List Token) → ListOf d ts l rest → Frame (ListOf d) ts l rest
  list_frames ts l rest (star h k) = record { used = token.Mark mark.Star ∷ []; parts = h; framed = λ other. star refl k }
  list_frames ts l rest (count h k) = record { used = plain_name (codes "count") tt ∷ token.Mark mark.Open ∷ token.Mark mark.Star ∷ token.Mark mark.Close ∷ []; parts = h; framed = λ other. count refl k }
  list_frames ts l rest (items xs r q) =
      let f = (begins_items d).frames ts l rest (xs, r, q) in
      record { used = f.used; parts = f.parts; framed = λ other. (let g = f.framed other in items g.0 g.1 g.2) }

  -- behind the name
  Opened : Beginning Token
  Opened w u = SelectedBegun d w (plain_name (codes "count") tt ∷ u)

  step_halts : (ts : List Token) (o : Option (Unit {0} × List Token)) → HasMark o (λ m after. ts ≡ plain_name (codes "count") m ∷ token.Mark mark.Open ∷ after) → Halts (SelectedBegun d) ts (list_step d ts o)
  unfolding Opened
  step_halts ts None h = widened (ListedBegun comma (ItemOf d) (ItemBegun d)) (SelectedBegun d) ts (items_at d ts) (λ w u e. items_listed e) ((begins_items d).halts ts)
  step_halts ts (Some m) h = subst (λ (l : List Token). Halts (SelectedBegun d) l (counted_at m.1)) (sym h)
      (prefixed (plain_name (codes "count") tt) Opened (SelectedBegun d) (token.Mark mark.Open ∷ m.1) (counted_at m.1) (λ w u e. e)
      (prefixed (token.Mark mark.Open) (BehindBegun Star star_mark Further) Opened m.1 (counted_at m.1) (λ w u e. rows_counted u refl e) (begins_counted.halts m.1)))

  list_halts : (ts : List Token) → Halts (SelectedBegun d) ts (list_at d ts)
  list_halts (token.Mark mark.Star ∷ ts) = tt
  list_halts ts = step_halts ts (after_count ts) (count_found ts)

  not_counted : (ts : List Token) (f : Fault) (o : Option (Unit {0} × List Token)) → HasMark o (λ m after. ts ≡ plain_name (codes "count") m ∷ token.Mark mark.Open ∷ after) → items_at d ts ≡ Err f → list_step d ts o ≡ Err f
  not_counted ts f None h is = is
  not_counted ts f (Some m) h is = absurd (not_both (items_at d ts) (list.Items (record { expr = Column None (codes "count"); name = None } ∷ []), token.Mark mark.Open ∷ m.1) f (ap (items_at d) h ∙ items_open d m.1) is)

  items_met : (w : Awaited) (ts : List Token) → items_at d (ts ++ bad ∷ []) ≡ Err (Syntax 1 w) → list_at d (ts ++ bad ∷ []) ≡ Err (Syntax 1 w)
  items_met w [] h = h
  items_met w (token.Mark mark.Star ∷ ts) h = absurd (two (items_at d (token.Mark mark.Star ∷ (ts ++ bad ∷ []))) ts w Operand h (items_star d (ts ++ bad ∷ [])))
  items_met w (t ∷ ts) h = not_counted (t ∷ (ts ++ bad ∷ [])) (Syntax 1 w) (after_count (t ∷ (ts ++ bad ∷ []))) (count_found (t ∷ (ts ++ bad ∷ []))) h

  list_met : (w : Awaited) (ts : List Token) → SelectedBegun d w ts → list_at d (ts ++ bad ∷ []) ≡ Err (Syntax 1 w)
  list_met w ts (rows_counted mid h e) = rw h (begins_counted.met w mid e)
  list_met w ts (items_listed e) = items_met w ts ((begins_items d).met w ts e)

  begins_list : Begins bad (ListOf d) (list_at d) EndsList (SelectedBegun d)
  begins_list = record { takes = list_stage.takes d; again = list_stage.again d; frames = list_frames; halts = list_halts; met = list_met }

-- ---- ORDER BY

begins_direction : Begins bad (Maybe direction_word Done) (maybe after_direction done) (Stops Any after_direction) Nothing
begins_direction = begins_free bad after_direction direction_word Done done Any direction_keyed.are (λ s. begins_done bad s)

begins_dot : Begins bad (Maybe dot_mark (λ _. NameOf)) (maybe after_dot (λ _. name_at)) (Stops Any after_dot) (MarkBegun dot_mark (λ _. Further))
begins_dot = begins_maybe bad after_dot dot_mark (λ _. NameOf) (λ _. name_at) Any (λ _. Further) dot_keyed.are (λ _. begins_name Wanted)

direction_dot : (s : Boolean) (after : List Token) → Stops Any after_dot (direction_word s ∷ after)
direction_dot false after = (tt, refl)
direction_dot true after = (tt, refl)

begins_field : Begins bad (Then (Maybe dot_mark (λ _. NameOf)) (Maybe direction_word Done)) (both (maybe after_dot (λ _. name_at)) (maybe after_direction done)) EndsOrderItem (MarkBegun dot_mark (λ _. Further))
begins_field = begins_as bad (Then (Maybe dot_mark (λ _. NameOf)) (Maybe direction_word Done)) (both (maybe after_dot (λ _. name_at)) (maybe after_direction done)) EndsOrderItem
    (ThenBegun (Maybe dot_mark (λ _. NameOf)) (MarkBegun dot_mark (λ _. Further)) Nothing) (MarkBegun dot_mark (λ _. Further)) to (λ w u h. inl h)
    (begins_then bad (Maybe dot_mark (λ _. NameOf)) (maybe after_dot (λ _. name_at)) (Stops Any after_dot) (MarkBegun dot_mark (λ _. Further)) (Maybe direction_word Done) (maybe after_direction done) EndsOrderItem Nothing begins_dot
    (begins_narrow bad (Maybe direction_word Done) (maybe after_direction done) (Stops Any after_direction) Nothing begins_direction EndsOrderItem (λ k e. e.0))
    (λ mid b rest h e. maybe_begins direction_word Done (Stops Any after_dot) mid b rest direction_dot (tt, e.1) h) (λ w mid h. absurd h)) where
      to : (w : Awaited) (u : List Token) → ThenBegun (Maybe dot_mark (λ _. NameOf)) (MarkBegun dot_mark (λ _. Further)) Nothing w u → MarkBegun dot_mark (λ _. Further) w u
      to w u (inl h) = h
      to w u (inr h) = absurd h.3

begins_order_item : Begins bad OrderItemOf order_item_at EndsOrderItem OrderItemBegun
begins_order_item = begins_made bad (Then NameOf (Then (Maybe dot_mark (λ _. NameOf)) (Maybe direction_word Done))) (both (one_of after_name Item (λ n. done n.text)) (both (maybe after_dot (λ _. name_at)) (maybe after_direction done))) EndsOrderItem OrderItemBegun
    (begins_then bad NameOf (one_of after_name Item (λ n. done n.text)) Any (AtOnce Item) (Then (Maybe dot_mark (λ _. NameOf)) (Maybe direction_word Done)) (both (maybe after_dot (λ _. name_at)) (maybe after_direction done)) EndsOrderItem (MarkBegun dot_mark (λ _. Further)) (begins_name Item) begins_field
    (λ mid b rest h e. tt) (λ w mid h. tt)) order_item

begins_order : Begins bad OrderOf order_at EndsOrder OrderBegun
begins_order = begins_maybe bad after_order order_word (λ _. Behind by_word (Listed comma OrderItemOf)) (λ _. behind after_by Wanted (listed after_comma order_item_at)) (Stops EndsOrderItem after_comma)
    (λ _. BehindBegun Wanted by_word (ListedBegun comma OrderItemOf OrderItemBegun)) order_keyed.are
    (λ _. begins_behind bad after_by by_word (Listed comma OrderItemOf) (listed after_comma order_item_at) (Stops EndsOrderItem after_comma) (ListedBegun comma OrderItemOf OrderItemBegun) by_keyed.are
    (begins_listed bad after_comma comma OrderItemOf order_item_at EndsOrderItem OrderItemBegun comma_marks begins_order_item (λ m after. ((tt, refl), refl))) Wanted refl)

-- ---- LIMIT

negative_takes : (ts : List Token) → Has (negative_at ts) (LimitOf (token.Mark mark.Minus ∷ ts))
negative_takes (token.Number n ∷ ts) = negative n refl refl
negative_takes (token.Least ∷ ts) = lowest refl refl
negative_takes _ = tt

size_takes : (ts : List Token) → Has (size_at ts) (LimitOf ts)
size_takes (token.Number n ∷ ts) = number n refl refl
size_takes (token.Mark mark.Minus ∷ ts) = negative_takes ts
size_takes (token.Word word.Null ∷ ts) = null refl refl
size_takes (token.Param n ∷ ts) = parameter n refl refl
size_takes _ = tt

size_again : (ts : List Token) (e : Expr) (rest : List Token) → LimitOf ts e rest → Any rest → size_at ts ≡ Ok (e, rest)
size_again ts e rest (number n h k) any = rw (h, k) refl
size_again ts e rest (negative n h k) any = rw (h, k) refl
size_again ts e rest (lowest h k) any = rw (h, k) refl
size_again ts e rest (null h k) any = rw (h, k) refl
size_again ts e rest (parameter n h k) any = rw (h, k) refl

size_frames : (ts : List Token) (e : Expr) (rest : List Token) → LimitOf ts e rest → Frame LimitOf ts e rest
size_frames ts e rest (number n h k) = record { used = token.Number n ∷ []; parts = h; framed = λ other. number n refl k }
size_frames ts e rest (negative n h k) = record { used = token.Mark mark.Minus ∷ token.Number n ∷ []; parts = h; framed = λ other. negative n refl k }
size_frames ts e rest (lowest h k) = record { used = token.Mark mark.Minus ∷ token.Least ∷ []; parts = h; framed = λ other. lowest refl k }
size_frames ts e rest (null h k) = record { used = token.Word word.Null ∷ []; parts = h; framed = λ other. null refl k }
size_frames ts e rest (parameter n h k) = record { used = token.Param n ∷ []; parts = h; framed = λ other. parameter n refl k }

negative_halts : (ts : List Token) → Halts Further ts (negative_at ts)
negative_halts (token.Number n ∷ ts) = tt
negative_halts (token.Least ∷ ts) = tt
negative_halts ts = at_once Wanted ts

size_halts : (ts : List Token) → Halts SizeBegun ts (size_at ts)
size_halts (token.Number n ∷ ts) = tt
size_halts (token.Mark mark.Minus ∷ ts) = prefixed (token.Mark mark.Minus) Further SizeBegun ts (negative_at ts) (λ w u d. inr (u, refl, d)) (negative_halts ts)
size_halts (token.Word word.Null ∷ ts) = tt
size_halts (token.Param n ∷ ts) = tt
size_halts ts = record { used = []; rest = ts; parts = refl; left_is = refl; due = inl (refl, refl) }

size_met : (w : Awaited) (ts : List Token) → SizeBegun w ts → size_at (ts ++ bad ∷ []) ≡ Err (Syntax 1 w)
size_met w ts (inl h) = rw (h.0, h.1) refl
size_met w ts (inr h) = rw (h.1, h.2.0, h.2.1) refl

begins_size : Begins bad SizeOf limit_at EndsSize LimitBegun
begins_size = begins_maybe bad after_limit limit_word (λ _. LimitOf) (λ _. size_at) Any (λ _. SizeBegun) limit_keyed.are (λ _. record { takes = size_takes; again = size_again; frames = size_frames; halts = size_halts; met = size_met })

-- ---- what stands behind FROM

begins_lock : Begins bad LockOf for_update_at Past LockBegun
begins_lock = begins_narrow bad LockOf for_update_at EndsLock LockBegun (begins_maybe bad after_for for_word (λ _. Behind update_word (Done tt)) (λ _. behind after_update Wanted (done tt)) Any (λ _. Further) for_keyed.are
    (λ _. begins_needed bad after_update update_word (λ _. Done tt) (λ _. done tt) Any update_keyed.are (λ _. begins_done bad tt) Wanted refl)) Past past_lock

-- behind what may be left out
module _ {A : Type 0} (head : Unit {0} → Token) (R : Unit {0} → Form Token A) (D E : Beginning Token) (P : List Token → Type 0) (stop : (s : Unit {0}) (after : List Token) → P (head s ∷ after)) (w : Awaited) (mid : List Token) where
  further_follows : ((k : List Token) → E w k → P (k ++ bad ∷ [])) → ThenBegun (Maybe head R) (MarkBegun head (λ _. D)) E w mid → P (mid ++ bad ∷ [])
  further_follows k (inl h) = mark_follows bad P head (λ _. D) w mid stop h
  further_follows k (inr h) = by h.2 where
    by : Maybe head R mid h.0 h.1 → P (mid ++ bad ∷ [])
    by (inl m) = subst (λ (l : List Token). P (l ++ bad ∷ [])) (sym m.0) (k h.1 h.3)
    by (inr m) = subst (λ (l : List Token). P (l ++ bad ∷ [])) (sym m.1.2) (stop m.1.0 (m.1.1 ++ bad ∷ []))

LimitsBegun : Beginning Token
LimitsBegun = ThenBegun SizeOf LimitBegun LockBegun

OrdersBegun : Beginning Token
OrdersBegun = ThenBegun OrderOf OrderBegun (ThenBegun SizeOf LimitBegun LockBegun)

begins_limits : Begins bad (Then SizeOf LockOf) (both limit_at for_update_at) Past LimitsBegun
unfolding LimitsBegun
begins_limits = begins_then bad SizeOf limit_at EndsSize LimitBegun LockOf for_update_at Past LockBegun begins_size begins_lock
    (λ mid b rest h e. maybe_begins for_word (λ _. Behind update_word (Done tt)) EndsSize mid b rest (λ s. for_size) (past_size rest e) h)
    (λ w mid h. mark_follows bad EndsSize for_word (λ _. Further) w mid (λ s. for_size) h)

begins_orders : Begins bad (Then OrderOf (Then SizeOf LockOf)) (both order_at (both limit_at for_update_at)) Past OrdersBegun
unfolding LimitsBegun OrdersBegun
begins_orders = begins_then bad OrderOf order_at EndsOrder OrderBegun (Then SizeOf LockOf) (both limit_at for_update_at) Past LimitsBegun begins_order begins_limits
    (λ mid b rest h e. maybe_begins limit_word (λ _. LimitOf) EndsOrder mid b.0 h.0 (λ s. limit_order) (maybe_begins for_word (λ _. Behind update_word (Done tt)) EndsOrder h.0 b.1 rest (λ s. for_order) (past_order rest e) h.2) h.1)
    (λ w mid h. further_follows limit_word (λ _. LimitOf) SizeBegun LockBegun EndsOrder (λ s. limit_order) w mid (λ k l. mark_follows bad EndsOrder for_word (λ _. Further) w k (λ s. for_order) l) h)

begins_source : (d : ℕ) → Begins bad (SourceOf d) (source_at d) Past (SourceBegun d)
unfolding OrdersBegun
begins_source d = begins_then bad NameOf name_at Any Further (Then (FilterOf d) (Then OrderOf (Then SizeOf LockOf))) (both (filter_at d) (both order_at (both limit_at for_update_at))) Past (ThenBegun (FilterOf d) (FilterBegun d) OrdersBegun) (begins_name Wanted)
    (begins_then bad (FilterOf d) (filter_at d) EndsFilter (FilterBegun d) (Then OrderOf (Then SizeOf LockOf)) (both order_at (both limit_at for_update_at)) Past OrdersBegun (begins_filter d) begins_orders
    (λ mid b rest h e. maybe_begins order_word (λ _. Behind by_word (Listed comma OrderItemOf)) EndsFilter mid b.0 h.0 (λ s. order_filter) (maybe_begins limit_word (λ _. LimitOf) EndsFilter h.0 b.1.0 h.2.0 (λ s. limit_filter) (maybe_begins for_word (λ _. Behind update_word (Done tt)) EndsFilter h.2.0 b.1.1 rest (λ s. for_filter) (past_filter rest e) h.2.2) h.2.1) h.1)
    (λ w mid h. further_follows order_word (λ _. Behind by_word (Listed comma OrderItemOf)) (BehindBegun Wanted by_word (ListedBegun comma OrderItemOf OrderItemBegun)) (ThenBegun SizeOf LimitBegun LockBegun) EndsFilter (λ s. order_filter) w mid
    (λ k l. further_follows limit_word (λ _. LimitOf) SizeBegun LockBegun EndsFilter (λ s. limit_filter) w k (λ m n. mark_follows bad EndsFilter for_word (λ _. Further) w m (λ s. for_filter) n) l) h))
    (λ mid b rest h e. tt) (λ w mid h. tt)

pub begins_select : (d : ℕ) → Begins bad (SelectOf d) (select_at d) Past (SelectBegun d)
begins_select d = begins_made bad (Then (ListOf d) (Maybe from_word (λ _. SourceOf d))) (both (list_at d) (maybe after_from (λ _. source_at d))) Past (SelectBegun d)
    (begins_then bad (ListOf d) (list_at d) EndsList (SelectedBegun d) (Maybe from_word (λ _. SourceOf d)) (maybe after_from (λ _. source_at d)) Past (MarkBegun from_word (λ _. SourceBegun d)) (begins_list d)
    (begins_narrow bad (Maybe from_word (λ _. SourceOf d)) (maybe after_from (λ _. source_at d)) (Stops Past after_from) (MarkBegun from_word (λ _. SourceBegun d))
    (begins_maybe bad after_from from_word (λ _. SourceOf d) (λ _. source_at d) Past (λ _. SourceBegun d) from_keyed.are (λ _. begins_source d)) Past past_from)
    (λ mid b rest h e. maybe_begins from_word (λ _. SourceOf d) EndsList mid b rest (λ s. from_list) (past_list rest e) h)
    (λ w mid h. mark_follows bad EndsList from_word (λ _. SourceBegun d) w mid (λ s. from_list) h)) select_of
