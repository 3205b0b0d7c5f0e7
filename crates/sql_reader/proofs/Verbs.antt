-- The laws of SELECT behind its list, and of every statement.
use Rattle.std.proofs.Common.{◌≡◌, ℕ, ◌≤◌, Bool as Boolean, true, false, cond, List, [], ◌∷◌, length, Option, Some, None, Result, Ok, Err, refl, ap, subst, arith, inr}
use Rattle.std.specs.Prelude.{codes, IfOk}
use Rattle.sql_tokens.specs.declared.fault.Awaited.TheVariants.{Statement as Wanted, Item}
use Rattle.sql_tokens.specs.declared.fault.Fault.{Fault}
use Rattle.sql_tokens.specs.declared.fault.Fault.TheVariants.{Syntax}
use Rattle.sql_tokens.specs.Grammar.{Form}
use Rattle.sql_tokens.specs.declared.fault.ReadError.{ReadError}
use Rattle.sql_tokens.specs.Reading.{Gives}
use Rattle.sql_tokens.proofs.Good.{Has, Any, Stops, HasMark}
use Rattle.sql_tokens.proofs.Told.{head, Told, takes, refuses, behind as taking, by_none, by_head}
use Rattle.sql_tokens.specs.declared.mark.Mark.TheVariants as mark
use Rattle.sql_tokens.specs.declared.token.Name.{Name}
use Rattle.sql_tokens.specs.declared.token.Token.{Token}
use Rattle.sql_tokens.specs.declared.token.Token.TheVariants as token
use Rattle.sql_tokens.specs.declared.word.Word.TheVariants as word
use Rattle.sql_tree.specs.declared.expr.Expr.{Expr, Minus, Int, Null, Param}
use Rattle.sql_tree.specs.declared.statement.Statement.{Statement}
use Rattle.sql_tree.specs.declared.statement.Statement.TheVariants as statement
use Rattle.sql_expr.specs.Grammar.{comma, least}
use Rattle.sql_expr.specs.Reading.{after_comma}
use Rattle.sql_expr.proofs.Refusals.{blank}
use Rattle.sql_reader.specs.declared.verb.Verb.{Verb}
use Rattle.sql_reader.specs.declared.verb.Verb.TheVariants as verb
use Rattle.sql_reader.specs.Parts.{Done, Then, Maybe, Behind, Listed}
use Rattle.sql_reader.specs.Steps.{done, both, one_of, maybe, behind, listed}
use Rattle.sql_reader.specs.Words.{name_token, dot_mark, direction_word, order_word, by_word, limit_word, for_word, update_word, from_word, after_name, after_dot, after_direction, after_order, after_by, after_limit, after_for, after_update, after_from, after_verb, is_plain}
use Rattle.sql_reader.specs.Grammar.{NameOf, FilterOf, order_item, OrderItemOf, OrderOf, LimitOf, number, negative, lowest, null, parameter, SizeOf, LockOf, SourceOf, select_of, SelectOf, verb_token, BehindVerb, Bound, UpdateOf, BeginOf, StartOf, EndingOf, ShowOf, RecoverOf, InsertOf, DeleteOf}
use Rattle.sql_reader.specs.Reading.{name_at, filter_at, order_item_at, order_at, negative_at, size_at, limit_at, for_update_at, source_at, select_at, list_at, verb_at, update_at, begin_at, start_at, ending_at, show_at, recover_at, insert_at, delete_at}
use Rattle.sql_reader.proofs.Stage.{Stage, Keyed, stage_narrow, stage_done, stage_made, stage_then, stage_one, stage_behind, stage_maybe, stage_listed, maybe_begins}
use Rattle.sql_reader.proofs.Keyed.{name_keyed, dot_keyed, direction_keyed, order_keyed, by_keyed, limit_keyed, for_keyed, update_keyed, from_keyed, plain_is}
use Rattle.sql_reader.proofs.Ends.{EndsFilter, EndsUpdate, EndsWork, EndsIsolation, EndsBegin, EndsList, EndsOrderItem, EndsOrder, EndsSize, EndsLock, from_list, order_filter, limit_filter, for_filter, limit_order, for_order, for_size, bound_filter, bound_update, bound_work, bound_isolation, bound_begin, bound_list, bound_from, bound_order, bound_size, bound_lock, bound_rows}
use Rattle.sql_reader.proofs.OneStatement.{name_stage, comma_keyed, filter_stage, delete_stage, update_stage, begin_stage, start_stage, ending_stage, show_stage}
use Rattle.sql_reader.proofs.Rows.{recover_stage, insert_stage}
use Rattle.sql_reader.proofs.Selects.{list_stage}

-- ---- ORDER BY

first_name : Stage (λ d. NameOf) (λ d. one_of after_name Item (λ n. done n.text)) Any
first_name = stage_one after_name name_token (λ n d. Done n.text) (λ n d. done n.text) Any name_keyed (λ n. stage_done n.text) Item blank

direction_stage : Stage (λ d. Maybe direction_word Done) (λ d. maybe after_direction done) (Stops Any after_direction)
direction_stage = stage_maybe after_direction direction_word (λ s d. Done s) (λ s d. done s) Any direction_keyed (λ s. stage_done s)

dot_stage : Stage (λ d. Maybe dot_mark (λ _. NameOf)) (λ d. maybe after_dot (λ _. name_at)) (Stops Any after_dot)
dot_stage = stage_maybe after_dot dot_mark (λ _ d. NameOf) (λ _ d. name_at) Any dot_keyed (λ _. name_stage)

direction_dot : (s : Boolean) (after : List Token) → Stops Any after_dot (direction_word s ∷ after)
direction_dot false after = (tt, refl)
direction_dot true after = (tt, refl)

order_item_stage : Stage (λ d. OrderItemOf) (λ d. order_item_at) EndsOrderItem
order_item_stage = stage_made order_item _ _ EndsOrderItem
    (stage_then (λ d. NameOf) (λ d. one_of after_name Item (λ n. done n.text)) Any _ _ EndsOrderItem first_name
    (stage_then (λ d. Maybe dot_mark (λ _. NameOf)) (λ d. maybe after_dot (λ _. name_at)) (Stops Any after_dot) (λ d. Maybe direction_word Done) (λ d. maybe after_direction done) EndsOrderItem dot_stage
    (stage_narrow _ _ (Stops Any after_direction) EndsOrderItem (λ k e. e.0) direction_stage)
    (λ d mid b rest h e. maybe_begins direction_word Done (Stops Any after_dot) mid b rest direction_dot (tt, e.1) h))
    (λ d mid b rest h e. tt))

order_stage : Stage (λ d. OrderOf) (λ d. order_at) EndsOrder
order_stage = stage_maybe after_order order_word (λ _ d. Behind by_word (Listed comma OrderItemOf)) (λ _ d. behind after_by Wanted (listed after_comma order_item_at)) (Stops EndsOrderItem after_comma) order_keyed
    (λ _. stage_behind after_by by_word (λ d. Listed comma OrderItemOf) (λ d. listed after_comma order_item_at) (Stops EndsOrderItem after_comma) by_keyed
    (stage_listed after_comma comma (λ d. OrderItemOf) (λ d. order_item_at) EndsOrderItem comma_keyed refl order_item_stage (λ m after. ((tt, refl), refl))) Wanted)

-- ---- LIMIT

-- behind the minus of a limit
Negative : Form Token Expr
Negative ts e rest = LimitOf (token.Mark mark.Minus ∷ ts) e rest

negative_takes : (ts : List Token) → Has (negative_at ts) (LimitOf (token.Mark mark.Minus ∷ ts))
negative_takes (token.Number n ∷ ts) = negative n refl refl
negative_takes (token.Least ∷ ts) = lowest refl refl
negative_takes _ = tt

negative_told : (ts : List Token) → Told true Negative negative_at Any ts (negative_at ts)
unfolding Negative
negative_told (token.Number n ∷ ts) = takes (token.Number n) Negative negative_at ts (Minus (Int n)) (λ other. refl) (λ other. negative n refl refl)
negative_told (token.Least ∷ ts) = takes token.Least Negative negative_at ts (Int least) (λ other. refl) (λ other. lowest refl refl)
negative_told [] = refuses Negative negative_at Any Wanted [] (by_none negative_at (λ o. Err (Syntax (length o) Wanted)) refl) (token.Least ∷ []) (Int least) (λ k h. lowest refl refl)
negative_told (t ∷ ts) = refuses Negative negative_at Any Wanted (t ∷ ts) (by_head t negative_at (λ o. Err (Syntax (length o) Wanted)) (λ more. refl)) (token.Least ∷ []) (Int least) (λ k h. lowest refl refl)

size_takes : (ts : List Token) → Has (size_at ts) (LimitOf ts)
size_takes (token.Number n ∷ ts) = number n refl refl
size_takes (token.Mark mark.Minus ∷ ts) = negative_takes ts
size_takes (token.Word word.Null ∷ ts) = null refl refl
size_takes (token.Param n ∷ ts) = parameter n refl refl
size_takes _ = tt

size_again : (ts : List Token) (e : Expr) (rest : List Token) → LimitOf ts e rest → size_at ts ≡ Ok (e, rest)
size_again ts e rest (number n h k) = rw (h, k) refl
size_again ts e rest (negative n h k) = rw (h, k) refl
size_again ts e rest (lowest h k) = rw (h, k) refl
size_again ts e rest (null h k) = rw (h, k) refl
size_again ts e rest (parameter n h k) = rw (h, k) refl

size_most : (ts : List Token) (e : Expr) (rest : List Token) → LimitOf ts e rest → length rest ≤ length ts
size_most ts e rest (number n h k) = omega (arith, ap length h)
size_most ts e rest (negative n h k) = omega (arith, ap length h)
size_most ts e rest (lowest h k) = omega (arith, ap length h)
size_most ts e rest (null h k) = omega (arith, ap length h)
size_most ts e rest (parameter n h k) = omega (arith, ap length h)

size_told : (ts : List Token) → Told true LimitOf size_at Any ts (size_at ts)
unfolding Negative
size_told (token.Number n ∷ ts) = takes (token.Number n) LimitOf size_at ts (Int n) (λ other. refl) (λ other. number n refl refl)
size_told (token.Mark mark.Minus ∷ ts) = taking true (token.Mark mark.Minus) LimitOf Negative size_at negative_at Any ts (negative_at ts) (λ other. refl) (λ m a rest h. h) (negative_told ts)
size_told (token.Word word.Null ∷ ts) = takes (token.Word word.Null) LimitOf size_at ts Null (λ other. refl) (λ other. null refl refl)
size_told (token.Param n ∷ ts) = takes (token.Param n) LimitOf size_at ts (Param n) (λ other. refl) (λ other. parameter n refl refl)
size_told [] = refuses LimitOf size_at Any Wanted [] (by_none size_at (λ o. Err (Syntax (length o) Wanted)) refl) (token.Word word.Null ∷ []) Null (λ k h. null refl refl)
size_told (t ∷ ts) = refuses LimitOf size_at Any Wanted (t ∷ ts) (by_head t size_at (λ o. Err (Syntax (length o) Wanted)) (λ more. refl)) (token.Word word.Null ∷ []) Null (λ k h. null refl refl)

limit_of_stage : Stage (λ d. LimitOf) (λ d. size_at) Any
limit_of_stage = record {
  takes = λ d. size_takes;
  again = λ d ts e rest h ends. size_again ts e rest h;
  most = λ d. size_most;
  told = λ d. size_told;
  same = λ d ts. inr refl;
  more = token.Word word.Null ∷ [];
  tree = Null;
  goes_on = λ d k h. null refl refl;
}

size_stage : Stage (λ d. SizeOf) (λ d. limit_at) EndsSize
size_stage = stage_maybe after_limit limit_word (λ _ d. LimitOf) (λ _ d. size_at) Any limit_keyed (λ _. limit_of_stage)

-- ---- what stands behind FROM

lock_stage : Stage (λ d. LockOf) (λ d. for_update_at) Bound
lock_stage = stage_narrow _ _ EndsLock Bound bound_lock (stage_maybe after_for for_word (λ _ d. Behind update_word (Done tt)) (λ _ d. behind after_update Wanted (done tt)) Any for_keyed
    (λ _. stage_behind after_update update_word (λ d. Done tt) (λ d. done tt) Any update_keyed (stage_done tt) Wanted))

size_lock_stage : Stage (λ d. Then SizeOf LockOf) (λ d. both limit_at for_update_at) Bound
size_lock_stage = stage_then (λ d. SizeOf) (λ d. limit_at) EndsSize (λ d. LockOf) (λ d. for_update_at) Bound size_stage lock_stage
    (λ d mid b rest h e. maybe_begins for_word (λ _. Behind update_word (Done tt)) EndsSize mid b rest (λ s. for_size) (bound_size rest e) h)

order_on_stage : Stage (λ d. Then OrderOf (Then SizeOf LockOf)) (λ d. both order_at (both limit_at for_update_at)) Bound
order_on_stage = stage_then (λ d. OrderOf) (λ d. order_at) EndsOrder (λ d. Then SizeOf LockOf) (λ d. both limit_at for_update_at) Bound order_stage size_lock_stage
    (λ d mid b rest h e. maybe_begins limit_word (λ _. LimitOf) EndsOrder mid b.0 h.0 (λ s. limit_order) (maybe_begins for_word (λ _. Behind update_word (Done tt)) EndsOrder h.0 b.1 rest (λ s. for_order) (bound_order rest e) h.2) h.1)

filter_on_stage : Stage (λ d. Then (FilterOf d) (Then OrderOf (Then SizeOf LockOf))) (λ d. both (filter_at d) (both order_at (both limit_at for_update_at))) Bound
filter_on_stage = stage_then FilterOf filter_at EndsFilter (λ d. Then OrderOf (Then SizeOf LockOf)) (λ d. both order_at (both limit_at for_update_at)) Bound filter_stage order_on_stage
    (λ d mid b rest h e. maybe_begins order_word (λ _. Behind by_word (Listed comma OrderItemOf)) EndsFilter mid b.0 h.0 (λ s. order_filter) (maybe_begins limit_word (λ _. LimitOf) EndsFilter h.0 b.1.0 h.2.0 (λ s. limit_filter) (maybe_begins for_word (λ _. Behind update_word (Done tt)) EndsFilter h.2.0 b.1.1 rest (λ s. for_filter) (bound_filter rest e) h.2.2) h.2.1) h.1)

source_stage : Stage SourceOf source_at Bound
source_stage = stage_then (λ d. NameOf) (λ d. name_at) Any _ _ Bound name_stage filter_on_stage (λ d mid b rest h e. tt)

select_stage : Stage SelectOf select_at Bound
select_stage = stage_made select_of _ _ Bound
    (stage_then _ list_at EndsList (λ d. Maybe from_word (λ _. SourceOf d)) (λ d. maybe after_from (λ _. source_at d)) Bound list_stage
    (stage_narrow _ _ (Stops Bound after_from) Bound bound_from (stage_maybe after_from from_word (λ _. SourceOf) (λ _. source_at) Bound from_keyed (λ _. source_stage)))
    (λ d mid b rest h e. maybe_begins from_word (λ _. SourceOf d) EndsList mid b rest (λ s. from_list) (bound_list rest e) h))

-- ---- statements

pub verb_keyed : Keyed after_verb verb_token
verb_keyed = record { are = record { found = found; again = again }; stays = stays } where
  by_plain : (n : Name) (ts : List Token) (b : Boolean) → is_plain (codes "pgpool") n ≡ b → HasMark (cond {A = Option (Verb × List Token)} b (Some (verb.Pgpool, ts)) None) (λ m after. token.Name n ∷ ts ≡ verb_token m ∷ after)
  by_plain n ts true e = ap (λ (x : Name). token.Name x ∷ ts) (plain_is (codes "pgpool") n e)
  by_plain n ts false e = tt

  found : (ts : List Token) → HasMark (after_verb ts) (λ m after. ts ≡ verb_token m ∷ after)
  found (token.Word word.Select ∷ ts) = refl
  found (token.Word word.Insert ∷ ts) = refl
  found (token.Word word.Update ∷ ts) = refl
  found (token.Word word.Delete ∷ ts) = refl
  found (token.Word word.Begin ∷ ts) = refl
  found (token.Word word.Start ∷ ts) = refl
  found (token.Word word.Commit ∷ ts) = refl
  found (token.Word word.End ∷ ts) = refl
  found (token.Word word.Rollback ∷ ts) = refl
  found (token.Word word.Abort ∷ ts) = refl
  found (token.Word word.Show ∷ ts) = refl
  found (token.Name n ∷ ts) = by_plain n ts (is_plain (codes "pgpool") n) refl
  found _ = tt

  again : (m : Verb) (after : List Token) → after_verb (verb_token m ∷ after) ≡ Some (m, after)
  again verb.Select after = refl
  again verb.Insert after = refl
  again verb.Update after = refl
  again verb.Delete after = refl
  again verb.Begin after = refl
  again verb.Start after = refl
  again verb.Commit after = refl
  again verb.End after = refl
  again verb.Rollback after = refl
  again verb.Abort after = refl
  again verb.Show after = refl
  again verb.Pgpool after = refl

  no_plain : (m : Name) (ts : List Token) (b : Boolean) → is_plain (codes "pgpool") m ≡ b → (other : List Token) → head other ≡ Some (token.Name m) → cond {A = Option (Verb × List Token)} b (Some (verb.Pgpool, ts)) None ≡ None → after_verb other ≡ None
  no_plain m ts true e other h n = absurd cc
  no_plain m ts false e other h n = by_head (token.Name m) after_verb (λ _. None) (λ more. rw e refl) other h

  stays : (ts other : List Token) → head other ≡ head ts → after_verb ts ≡ None → after_verb other ≡ None
  stays [] other h n = by_none after_verb (λ _. None) refl other h
  stays (token.Word word.Select ∷ ts) other h n = absurd cc
  stays (token.Word word.Insert ∷ ts) other h n = absurd cc
  stays (token.Word word.Update ∷ ts) other h n = absurd cc
  stays (token.Word word.Delete ∷ ts) other h n = absurd cc
  stays (token.Word word.Begin ∷ ts) other h n = absurd cc
  stays (token.Word word.Start ∷ ts) other h n = absurd cc
  stays (token.Word word.Commit ∷ ts) other h n = absurd cc
  stays (token.Word word.End ∷ ts) other h n = absurd cc
  stays (token.Word word.Rollback ∷ ts) other h n = absurd cc
  stays (token.Word word.Abort ∷ ts) other h n = absurd cc
  stays (token.Word word.Show ∷ ts) other h n = absurd cc
  stays (token.Name m ∷ ts) other h n = no_plain m ts (is_plain (codes "pgpool") m) refl other h n
  stays (t ∷ ts) other h n = by_head t after_verb (λ _. None) (λ more. refl) other h

pub verb_stage : (v : Verb) → Stage (λ d. BehindVerb d v) (λ d. verb_at d v) Bound
verb_stage verb.Select = select_stage
verb_stage verb.Insert = stage_narrow InsertOf insert_at (Stops Any after_comma) Bound bound_rows insert_stage
verb_stage verb.Update = stage_narrow UpdateOf update_at EndsUpdate Bound bound_update update_stage
verb_stage verb.Delete = stage_narrow DeleteOf delete_at EndsFilter Bound bound_filter delete_stage
verb_stage verb.Begin = stage_narrow (λ d. BeginOf) (λ d. begin_at) EndsBegin Bound bound_begin begin_stage
verb_stage verb.Start = stage_narrow (λ d. StartOf) (λ d. start_at) EndsIsolation Bound bound_isolation start_stage
verb_stage verb.Commit = stage_narrow (λ d. EndingOf statement.Commit) (λ d. ending_at statement.Commit) EndsWork Bound bound_work (ending_stage statement.Commit)
verb_stage verb.End = stage_narrow (λ d. EndingOf statement.Commit) (λ d. ending_at statement.Commit) EndsWork Bound bound_work (ending_stage statement.Commit)
verb_stage verb.Rollback = stage_narrow (λ d. EndingOf statement.Rollback) (λ d. ending_at statement.Rollback) EndsWork Bound bound_work (ending_stage statement.Rollback)
verb_stage verb.Abort = stage_narrow (λ d. EndingOf statement.Rollback) (λ d. ending_at statement.Rollback) EndsWork Bound bound_work (ending_stage statement.Rollback)
verb_stage verb.Show = stage_narrow (λ d. ShowOf) (λ d. show_at) Any Bound (λ k h. tt) show_stage
verb_stage verb.Pgpool = stage_narrow (λ d. RecoverOf) (λ d. recover_at) Any Bound (λ k h. tt) recover_stage

-- ---- what was returned

module _ {X : Type 0} (view : X → Statement × List Token) (d : ℕ) (v : Verb) (ts : List Token) where
  pub is_found : (r : Result X ReadError) → Gives view r (verb_at d v ts) → IfOk r (λ x. BehindVerb d v ts (view x).0 (view x).1)
  is_found (Ok x) g = subst (λ (o : Result (Statement × List Token) Fault). Has o (BehindVerb d v ts)) g ((verb_stage v).takes d ts)
  is_found (Err e) g = tt

  pub is_only : (r : Result X ReadError) → Gives view r (verb_at d v ts) → (s : Statement) (rest : List Token) → BehindVerb d v ts s rest → Bound rest → Gives view r (Ok (s, rest))
  is_only r g s rest h ends = subst (λ (o : Result (Statement × List Token) Fault). Gives view r o) ((verb_stage v).again d ts s rest h ends) g
