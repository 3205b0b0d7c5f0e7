-- Behind an order its outcome is awaited, and while it is nothing is ordered.
use Rattle.std.proofs.Common.{◌≡◌, ◌≢◌, ℕ, ℤ, Bool, true, false, List, [], ◌∷◌, Option, Some, None, refl, sym, ap, subst, ◌∙◌}
use Rattle.std.specs.Prelude.{is_some}
use Rattle.schema.specs.declared.catalogue.TableDef.{TableDef}
use Rattle.sql_tree.specs.declared.statement.Statement.{Statement}
use Rattle.pg_messages.specs.declared.read.Read.{Read}
use Rattle.pg_messages.specs.declared.read.Read.TheVariants.{Whole, More, Bad, TooLong}
use Rattle.pg_messages.specs.declared.client.ClientMessage.{ClientMessage}
use Rattle.pg_messages.specs.declared.client.ClientMessage.TheVariants as said
use Rattle.pg_messages.specs.declared.start.StartMessage.{StartMessage}
use Rattle.pg_messages.specs.Fronts.{start_front, client_front}
use Rattle.session_orders.specs.declared.order.Order.{Order}
use Rattle.session_orders.specs.declared.order.OrderBody.{OrderBody}
use Rattle.session_orders.specs.declared.order.OrderBody.TheVariants as orders
use Rattle.wire_query.specs.declared.asking.Asked.{Asked}
use Rattle.wire_query.specs.declared.asking.Asked.TheVariants as asked
use Rattle.wire_query.specs.declared.reading.Reading.{Reading}
use Rattle.wire_query.specs.declared.reading.Reading.TheVariants as reading
use Rattle.wire_session.specs.declared.refusal.Refusal.{Refusal}
use Rattle.wire_extended.specs.declared.executing.Executed.{Executed}
use Rattle.wire_extended.specs.declared.executing.Executed.TheVariants as executed
use Rattle.wire_extended.specs.declared.replied.Replied.{Replied}
use Rattle.wire_extended.specs.declared.replied.Replied.TheVariants as replied
use Rattle.session_wire.specs.declared.due.Due.{Due}
use Rattle.session_wire.specs.declared.wire.Stage.{Stage}
use Rattle.session_wire.specs.declared.wire.Stage.TheVariants.{Starting, Open, Leaving, Closed}
use Rattle.session_wire.specs.declared.wire.WireStep.{WireStep}
use Rattle.session_wire.specs.declared.wire.WireStep.TheVariants as steps
use Rattle.session_wire.specs.Asking.{Orders}
use Rattle.session_wire.specs.Heeds.{Heard, Hears, Heeds, HeedsOther, LeadsTo, Replies, Unless, call, password, passed}
use Rattle.session_wire.specs.Queries.{IsDropped, Queries, Starts as StartsText, is_mixed}
use Rattle.session_wire.specs.Shown.{View}
use Rattle.session_wire.specs.Starts.{Starts}
use Rattle.session_wire.specs.Steps.{GoesAt, GoesWith, IsNext, Leads, Meets, Opens, is_answered, order, step_of}

no_order : (b : OrderBody) (P : Type 0) → Some b ≡ None → P
no_order b P e = absurd (cc)

-- ---- a message that asks for an order

abbrev pub Awaits : View → Type 0
Awaits new = is_some new.due ≡ true

dropped_awaits : (mid new : View) (r : Refusal) (b : OrderBody) → IsDropped r (Some b) mid new → Awaits new
dropped_awaits mid new r b h = ap (λ (v : View). is_some v.due) h.1

starts_awaits : (mixed : Bool) (mid new : View) (all : List Statement) (several : Refusal) (empty : List ℕ) (b : OrderBody) → StartsText mixed all several empty (Some b) mid new → Awaits new
starts_awaits true mid new all several empty b h = dropped_awaits mid new several b h
starts_awaits false mid new all several empty b h = no_order b (Awaits new) h.0

queries_awaits : (read : Reading) (mid new : View) (several : Refusal) (empty : List ℕ) (b : OrderBody) → Queries read several empty (Some b) mid new → Awaits new
queries_awaits (reading.Refused r) mid new several empty b h = dropped_awaits mid new r b h
queries_awaits (reading.Statements all) mid new several empty b h = starts_awaits (is_mixed all) mid new all several empty b h

replies_awaits : (reply : Replied) (mid new : View) (b : OrderBody) → Replies reply (Some b) mid new → Awaits new
replies_awaits (replied.Bytes bytes) mid new b h = no_order b (Awaits new) h.0
replies_awaits (replied.Refused r) mid new b h = ap (λ (v : View). is_some v.due) h.1

leads_awaits : (what : Executed) (portal : List ℕ) (limit : ℤ) (mid new : View) (b : OrderBody) → LeadsTo what portal limit (Some b) mid new → Awaits new
leads_awaits (executed.Bytes bytes) portal limit mid new b h = no_order b (Awaits new) h.2
leads_awaits (executed.Order given) portal limit mid new b h = ap (λ (v : View). is_some v.due) h.1
leads_awaits (executed.Refused r) portal limit mid new b h = ap (λ (v : View). is_some v.due) h.1

other_awaits : (tag : ℕ) (old new : View) (b : OrderBody) → HeedsOther tag (Some b) old new → Awaits new
other_awaits tag old new b (call is r) = dropped_awaits old new r.refusal b r.dropped
other_awaits tag old new b (password is r) = dropped_awaits old new r.refusal b r.dropped
other_awaits tag old new b (passed no_call no_password h) = no_order b (Awaits new) h.0

heeds_awaits : (tables : List TableDef) (m : ClientMessage) (old new : View) (b : OrderBody) → Heeds tables m (Some b) old new → Awaits new
heeds_awaits tables (said.Query text) old new b h = queries_awaits h.read h.mid new h.several h.empty b h.done
heeds_awaits tables (said.Parse name text kinds) old new b h = replies_awaits h.reply (record old { session = h.session }) new b h.replies
heeds_awaits tables (said.Bind portal name formats values results) old new b h = replies_awaits h.reply (record old { session = h.session }) new b h.replies
heeds_awaits tables (said.Describe portal name) old new b h = replies_awaits h.reply old new b h.replies
heeds_awaits tables (said.Execute portal limit) old new b h = leads_awaits h.what portal limit (record old { session = h.session }) new b h.leads
heeds_awaits tables (said.Close portal name) old new b h = no_order b (Awaits new) h.done.0
heeds_awaits tables (said.Other tag) old new b h = other_awaits tag old new b h
heeds_awaits tables said.Flush old new b h = no_order b (Awaits new) h.0
heeds_awaits tables said.Sync old new b h = no_order b (Awaits new) h.0
heeds_awaits tables said.Terminate old new b h = no_order b (Awaits new) h.0

unless_heeds : (skips : Bool) (old new : View) (b : OrderBody) (P : Type 0) → Unless skips (Some b) old new P → P
unless_heeds true old new b P h = no_order b P h.0
unless_heeds false old new b P h = h

heard_awaits : (tables : List TableDef) (m : ClientMessage) (old new : View) (b : OrderBody) → Heard tables m (Some b) old new → Awaits new
heard_awaits tables m old new b h = heeds_awaits tables m old new b (unless_heeds old.session.skipping old new b (Heeds tables m (Some b) old new) h)

hears_awaits : (tables : List TableDef) (m : ClientMessage) (old new : View) (b : OrderBody) → Hears tables m (Some b) old new → Awaits new
hears_awaits tables said.Terminate old new b h = no_order b (Awaits new) h.0
hears_awaits tables said.Sync old new b h = no_order b (Awaits new) h.0
hears_awaits tables said.Flush old new b h = no_order b (Awaits new) h.0
hears_awaits tables (said.Query text) old new b h = heard_awaits tables (said.Query text) old new b h
hears_awaits tables (said.Parse name text kinds) old new b h = heard_awaits tables (said.Parse name text kinds) old new b h
hears_awaits tables (said.Bind portal name formats values results) old new b h = heard_awaits tables (said.Bind portal name formats values results) old new b h
hears_awaits tables (said.Describe portal name) old new b h = heard_awaits tables (said.Describe portal name) old new b h
hears_awaits tables (said.Execute portal limit) old new b h = heard_awaits tables (said.Execute portal limit) old new b h
hears_awaits tables (said.Close portal name) old new b h = heard_awaits tables (said.Close portal name) old new b h
hears_awaits tables (said.Other tag) old new b h = heard_awaits tables (said.Other tag) old new b h

first_awaits : (what : Asked) (old new : View) (b : OrderBody) → Orders what b old new → Awaits new
first_awaits (asked.Order given d) old new b h = ap (λ (v : View). is_some v.due) h.1
first_awaits (asked.Refused r) old new b h = ap (λ (v : View). is_some v.due) h.1

-- ---- the steps

-- the outcome of an order is awaited, unless it is a Leave
abbrev pub IfAnswered : OrderBody → View → Type 0
IfAnswered b new = is_answered b ≡ true → Awaits new

body_of : (moment : ℤ) (o : Order) (b : OrderBody) → Some (steps.Order o) ≡ Some (order moment b) → o.body ≡ b
body_of moment o b e = let same : o ≡ record { moment = moment; body = b } = cc in ap (λ (x : Order). x.body) same

pub no_some : (step : WireStep) (P : Type 0) → Some step ≡ None → P
no_some step P e = absurd (cc)

no_step : (o : Order) (P : Type 0) → Some (steps.Order o) ≡ None → P
no_step o P e = absurd (cc)

pub of_step : (moment : ℤ) (o : Order) (body : Option OrderBody) → Some (steps.Order o) ≡ step_of moment body → body ≡ Some o.body
of_step moment o None e = no_step o (None ≡ Some o.body) e
of_step moment o (Some b) e = ap Some (sym (body_of moment o b e))

meets_awaits : (tables : List TableDef) (moment : ℤ) (front : Read ClientMessage) (old new : View) (o : Order) → Meets tables moment front old (Some (steps.Order o)) new → Awaits new
meets_awaits tables moment (Whole m n) old new o h =
    let hears : Hears tables m (Some o.body) old h.1 = subst (λ body. Hears tables m body old h.1) (of_step moment o h.0 h.4) h.2 in
    ap (λ (v : View). is_some v.due) h.3 ∙ hears_awaits tables m old h.1 o.body hears
meets_awaits tables moment More old new o h = absurd h
meets_awaits tables moment (Bad place) old new o h = no_step o (Awaits new) h.0
meets_awaits tables moment (TooLong n) old new o h = no_step o (Awaits new) h.0

opens_awaits : (tables : List TableDef) (moment : ℤ) (left : List Statement) (settles : Bool) (old new : View) (o : Order)
    → Opens tables moment left settles old (Some (steps.Order o)) new → Awaits new
opens_awaits tables moment (s ∷ more) settles old new o h = first_awaits (h.1).what old new h.0 (h.1).gives
opens_awaits tables moment [] true old new o h = ap (λ (v : View). is_some v.due) h.1
opens_awaits tables moment [] false old new o h = meets_awaits tables moment (client_front old.rest) old new o h

starts_no_order : (ssl gss : Bool) (front : Read StartMessage) (old new : View) (o : Order) → Starts ssl gss front old new (Some (steps.Order o)) → Awaits new
starts_no_order ssl gss (Whole m n) old new o h = no_step o (Awaits new) h.0
starts_no_order ssl gss More old new o h = absurd h
starts_no_order ssl gss (Bad place) old new o h = no_step o (Awaits new) h.0
starts_no_order ssl gss (TooLong n) old new o h = no_step o (Awaits new) h.0

leave_so : (b : OrderBody) (new : View) → b ≡ orders.Leave → IfAnswered b new
leave_so b new e = subst (λ (one : OrderBody). IfAnswered one new) (sym e) (λ answered. absurd (let f : false ≡ true = answered in cc))

stage_awaits : (tables : List TableDef) (moment : ℤ) (stage : Stage) (old new : View) (o : Order) → GoesAt tables moment stage old (Some (steps.Order o)) new → IfAnswered o.body new
stage_awaits tables moment (Starting ssl gss) old new o h = λ answered. starts_no_order ssl gss (start_front old.rest) old new o h
stage_awaits tables moment Open old new o h = λ answered. opens_awaits tables moment old.left old.settles old new o h
stage_awaits tables moment (Leaving refused) old new o h = leave_so o.body new (body_of moment o orders.Leave h.0)
stage_awaits tables moment (Closed refused) old new o h = absurd (let other : Some (steps.Order o) ≡ Some (steps.Close refused) = h.0 in cc)

with_awaits : (tables : List TableDef) (moment : ℤ) (due : Option Due) (old new : View) (o : Order) → GoesWith tables moment due old (Some (steps.Order o)) new → IfAnswered o.body new
with_awaits tables moment (Some d) old new o h = absurd (let other : Some (steps.Order o) ≡ Some steps.NeedOutcome = h.0 in cc)
with_awaits tables moment None old new o h = stage_awaits tables moment old.stage old new o h

steps_await : (tables : List TableDef) (moment : ℤ) (mids : List View) (old new : View) (o : Order) → Leads tables moment old mids (steps.Order o) new → IfAnswered o.body new
steps_await tables moment [] old new o h = with_awaits tables moment old.due old new o h
steps_await tables moment (mid ∷ mids) old new o h = steps_await tables moment mids mid new o h.1

pub next_answered : (tables : List TableDef) (moment : ℤ) (old new : View) (step : WireStep) (o : Order) → IsNext tables moment old step new → step ≡ steps.Order o → IfAnswered o.body new
next_answered tables moment old new step o h e = steps_await tables moment h.0 old new o (subst (λ one. Leads tables moment old h.0 one new) e h.1)

-- a step that hands out nothing
pub nothing_left : (step : Option WireStep) → ((s : WireStep) → step ≢ Some s) → step ≡ None
nothing_left None none = refl
nothing_left (Some s) none = absurd (none s refl)

-- ---- while an outcome is awaited

awaited_with : (tables : List TableDef) (moment : ℤ) (due : Option Due) (old new : View) (step : Option WireStep) → is_some due ≡ true → GoesWith tables moment due old step new
    → (step ≡ Some steps.NeedOutcome) × (new ≡ old)
awaited_with tables moment (Some d) old new step some h = h
awaited_with tables moment None old new step some h = absurd (let e : false ≡ true = some in cc)

one_step : (a b : WireStep) → Some a ≡ Some b → a ≡ b
one_step a b e = cc

no_need : (a : WireStep) (P : Type 0) → None ≡ Some a → P
no_need a P e = absurd (cc)

awaited_leads : (tables : List TableDef) (moment : ℤ) (mids : List View) (old new : View) (step : WireStep) → is_some old.due ≡ true → Leads tables moment old mids step new
    → (step ≡ steps.NeedOutcome) × (new ≡ old)
awaited_leads tables moment [] old new step some h =
    let a = awaited_with tables moment old.due old new (Some step) some h in
    (one_step step steps.NeedOutcome a.0, a.1)
awaited_leads tables moment (mid ∷ mids) old new step some h =
    let a = awaited_with tables moment old.due old mid None some h.0 in
    no_need steps.NeedOutcome ((step ≡ steps.NeedOutcome) × (new ≡ old)) a.0

pub next_awaits : (tables : List TableDef) (moment : ℤ) (old new : View) (step : WireStep) → is_some old.due ≡ true → IsNext tables moment old step new
    → (step ≡ steps.NeedOutcome) × (new ≡ old)
next_awaits tables moment old new step some h = awaited_leads tables moment h.0 old new step some h.1

pub goes_awaits : (tables : List TableDef) (moment : ℤ) (due : Option Due) (old : View) → is_some due ≡ true → GoesWith tables moment due old (Some steps.NeedOutcome) old
goes_awaits tables moment (Some d) old some = (refl, refl)
goes_awaits tables moment None old some = absurd (let e : false ≡ true = some in cc)

pub goes_on : (tables : List TableDef) (moment : ℤ) (due : Option Due) (old new : View) (step : Option WireStep) → is_some due ≡ false → GoesAt tables moment old.stage old step new
    → GoesWith tables moment due old step new
goes_on tables moment (Some d) old new step none h = absurd (let e : true ≡ false = none in cc)
goes_on tables moment None old new step none h = h
