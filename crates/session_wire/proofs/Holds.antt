-- An order and a message leave the bytes that were not taken, and the stage but for Terminate.
use Rattle.std.proofs.Common.{◌≡◌, ℕ, ℤ, Bool, true, false, List, [], ◌∷◌, Option, Some, None, refl, sym, ap, subst, ◌∙◌}
use Rattle.schema.specs.declared.catalogue.TableDef.{TableDef}
use Rattle.sql_tree.specs.declared.statement.Statement.{Statement}
use Rattle.pg_messages.specs.declared.client.ClientMessage.{ClientMessage}
use Rattle.pg_messages.specs.declared.client.ClientMessage.TheVariants as said
use Rattle.session_orders.specs.declared.order.OrderBody.{OrderBody}
use Rattle.session_orders.specs.declared.order.OrderBody.TheVariants.{Settle}
use Rattle.wire_query.specs.declared.asking.Asked.{Asked}
use Rattle.wire_query.specs.declared.asking.Asked.TheVariants as asked
use Rattle.wire_query.specs.declared.reading.Reading.{Reading}
use Rattle.wire_query.specs.declared.reading.Reading.TheVariants as reading
use Rattle.wire_session.specs.declared.refusal.Refusal.{Refusal}
use Rattle.wire_extended.specs.declared.executing.Executed.{Executed}
use Rattle.wire_extended.specs.declared.executing.Executed.TheVariants as executed
use Rattle.wire_extended.specs.declared.replied.Replied.{Replied}
use Rattle.wire_extended.specs.declared.replied.Replied.TheVariants as replied
use Rattle.session_wire.specs.declared.wire.Stage.{Stage}
use Rattle.session_wire.specs.declared.wire.Stage.TheVariants.{Open}
use Rattle.session_wire.specs.Asking.{Orders, OrdersNext}
use Rattle.session_wire.specs.Cuts.{Agrees}
use Rattle.session_wire.specs.Heeds.{Heard, Hears, Heeds, HeedsOther, LeadsTo, Passes, Replies, Unless, call, password, passed}
use Rattle.session_wire.specs.Hears.{with_session}
use Rattle.session_wire.specs.Queries.{IsDropped, Queries, Starts as StartsText, is_mixed}
use Rattle.session_wire.specs.Shown.{View}

abbrev pub Holds : View → View → Type 0
Holds old new = (new.rest ≡ old.rest) × (new.stage ≡ old.stage)

holds_on : (old mid new : View) → Holds old mid → Holds mid new → Holds old new
holds_on old mid new a b = (b.0 ∙ a.0, b.1 ∙ a.1)

-- ---- a message

passes_holds : (body : Option OrderBody) (old new : View) → Passes body old new → Holds old new
passes_holds body old new h = (ap (λ (v : View). v.rest) h.1, ap (λ (v : View). v.stage) h.1)

dropped_holds : (old new : View) (r : Refusal) (body : Option OrderBody) → IsDropped r body old new → Holds old new
dropped_holds old new r body h = (ap (λ (v : View). v.rest) h.1, ap (λ (v : View). v.stage) h.1)

starts_holds : (mixed : Bool) (old new : View) (all : List Statement) (several : Refusal) (empty : List ℕ) (body : Option OrderBody) → StartsText mixed all several empty body old new
    → Holds old new
starts_holds true old new all several empty body h = dropped_holds old new several body h
starts_holds false old new all several empty body h = (ap (λ (v : View). v.rest) h.1, ap (λ (v : View). v.stage) h.1)

queries_holds : (read : Reading) (old new : View) (several : Refusal) (empty : List ℕ) (body : Option OrderBody) → Queries read several empty body old new → Holds old new
queries_holds (reading.Refused r) old new several empty body h = dropped_holds old new r body h
queries_holds (reading.Statements all) old new several empty body h = starts_holds (is_mixed all) old new all several empty body h

replies_holds : (reply : Replied) (old new : View) (body : Option OrderBody) → Replies reply body old new → Holds old new
replies_holds (replied.Bytes bytes) old new body h = (ap (λ (v : View). v.rest) h.1, ap (λ (v : View). v.stage) h.1)
replies_holds (replied.Refused r) old new body h = (ap (λ (v : View). v.rest) h.1, ap (λ (v : View). v.stage) h.1)

leads_holds : (what : Executed) (portal : List ℕ) (limit : ℤ) (old new : View) (body : Option OrderBody) → LeadsTo what portal limit body old new → Holds old new
leads_holds (executed.Bytes bytes) portal limit old new body h = (ap (λ (v : View). v.rest) h.3, ap (λ (v : View). v.stage) h.3)
leads_holds (executed.Order given) portal limit old new body h = (ap (λ (v : View). v.rest) h.1, ap (λ (v : View). v.stage) h.1)
leads_holds (executed.Refused r) portal limit old new body h = (ap (λ (v : View). v.rest) h.1, ap (λ (v : View). v.stage) h.1)

other_holds : (tag : ℕ) (old new : View) (body : Option OrderBody) → HeedsOther tag body old new → Holds old new
other_holds tag old new body (call is r) = dropped_holds old new r.refusal body r.dropped
other_holds tag old new body (password is r) = dropped_holds old new r.refusal body r.dropped
other_holds tag old new body (passed no_call no_password h) = passes_holds body old new h

heeds_holds : (tables : List TableDef) (m : ClientMessage) (old new : View) (body : Option OrderBody) → Heeds tables m body old new → Holds old new
heeds_holds tables (said.Query text) old new body h =
    holds_on old h.mid new (ap (λ (v : View). v.rest) h.names, ap (λ (v : View). v.stage) h.names) (queries_holds h.read h.mid new h.several h.empty body h.done)
heeds_holds tables (said.Parse name text kinds) old new body h = replies_holds h.reply (with_session h.session old) new body h.replies
heeds_holds tables (said.Bind portal name formats values results) old new body h = replies_holds h.reply (with_session h.session old) new body h.replies
heeds_holds tables (said.Describe portal name) old new body h = replies_holds h.reply old new body h.replies
heeds_holds tables (said.Execute portal limit) old new body h = leads_holds h.what portal limit (with_session h.session old) new body h.leads
heeds_holds tables (said.Close portal name) old new body h = (ap (λ (v : View). v.rest) h.done.1, ap (λ (v : View). v.stage) h.done.1)
heeds_holds tables (said.Other tag) old new body h = other_holds tag old new body h
heeds_holds tables said.Flush old new body h = passes_holds body old new h
heeds_holds tables said.Sync old new body h = passes_holds body old new h
heeds_holds tables said.Terminate old new body h = passes_holds body old new h

unless_holds : (skips : Bool) (old new : View) (body : Option OrderBody) (P : Type 0) → (P → Holds old new) → Unless skips body old new P → Holds old new
unless_holds true old new body P holds h = passes_holds body old new h
unless_holds false old new body P holds h = holds h

heard_holds : (tables : List TableDef) (m : ClientMessage) (old new : View) (body : Option OrderBody) → Heard tables m body old new → Holds old new
heard_holds tables m old new body h = unless_holds old.session.skipping old new body (Heeds tables m body old new) (heeds_holds tables m old new body) h

pub hears_rest : (tables : List TableDef) (m : ClientMessage) (old new : View) (body : Option OrderBody) → Hears tables m body old new → new.rest ≡ old.rest
hears_rest tables said.Terminate old new body h = ap (λ (v : View). v.rest) h.1
hears_rest tables said.Sync old new body h = ap (λ (v : View). v.rest) h.1
hears_rest tables said.Flush old new body h = ap (λ (v : View). v.rest) h.1
hears_rest tables (said.Query text) old new body h = (heard_holds tables (said.Query text) old new body h).0
hears_rest tables (said.Parse name text kinds) old new body h = (heard_holds tables (said.Parse name text kinds) old new body h).0
hears_rest tables (said.Bind portal name formats values results) old new body h = (heard_holds tables (said.Bind portal name formats values results) old new body h).0
hears_rest tables (said.Describe portal name) old new body h = (heard_holds tables (said.Describe portal name) old new body h).0
hears_rest tables (said.Execute portal limit) old new body h = (heard_holds tables (said.Execute portal limit) old new body h).0
hears_rest tables (said.Close portal name) old new body h = (heard_holds tables (said.Close portal name) old new body h).0
hears_rest tables (said.Other tag) old new body h = (heard_holds tables (said.Other tag) old new body h).0

-- behind Terminate a session is left, else it stays open
stays_open : (tables : List TableDef) (m : ClientMessage) (old new : View) (body : Option OrderBody) → old.stage ≡ Open → Heard tables m body old new → Agrees new.stage true
stays_open tables m old new body opened h = subst (λ (s : Stage). Agrees s true) (sym ((heard_holds tables m old new body h).1 ∙ opened)) refl

pub hears_stage : (tables : List TableDef) (m : ClientMessage) (old new : View) (body : Option OrderBody) → old.stage ≡ Open → Hears tables m body old new → Agrees new.stage true
hears_stage tables said.Terminate old new body opened h = subst (λ (s : Stage). Agrees s true) (sym (ap (λ (v : View). v.stage) h.1)) tt
hears_stage tables said.Sync old new body opened h = subst (λ (s : Stage). Agrees s true) (sym (ap (λ (v : View). v.stage) h.1 ∙ opened)) refl
hears_stage tables said.Flush old new body opened h = subst (λ (s : Stage). Agrees s true) (sym (ap (λ (v : View). v.stage) h.1 ∙ opened)) refl
hears_stage tables (said.Query text) old new body opened h = stays_open tables (said.Query text) old new body opened h
hears_stage tables (said.Parse name text kinds) old new body opened h = stays_open tables (said.Parse name text kinds) old new body opened h
hears_stage tables (said.Bind portal name formats values results) old new body opened h = stays_open tables (said.Bind portal name formats values results) old new body opened h
hears_stage tables (said.Describe portal name) old new body opened h = stays_open tables (said.Describe portal name) old new body opened h
hears_stage tables (said.Execute portal limit) old new body opened h = stays_open tables (said.Execute portal limit) old new body opened h
hears_stage tables (said.Close portal name) old new body opened h = stays_open tables (said.Close portal name) old new body opened h
hears_stage tables (said.Other tag) old new body opened h = stays_open tables (said.Other tag) old new body opened h

-- ---- what was read before

first_holds : (what : Asked) (body : OrderBody) (old new : View) → Orders what body old new → Holds old new
first_holds (asked.Order given d) body old new h = (ap (λ (v : View). v.rest) h.1, ap (λ (v : View). v.stage) h.1)
first_holds (asked.Refused r) body old new h = (ap (λ (v : View). v.rest) h.1, ap (λ (v : View). v.stage) h.1)

pub orders_holds : (tables : List TableDef) (left : List Statement) (settles : Bool) (body : Option OrderBody) (old new : View) → OrdersNext tables left settles body old new → Holds old new
orders_holds tables (s ∷ more) settles None old new h = absurd h
orders_holds tables (s ∷ more) settles (Some body) old new h = first_holds h.what body old new h.gives
orders_holds tables [] true body old new h = (ap (λ (v : View). v.rest) h.1, ap (λ (v : View). v.stage) h.1)
orders_holds tables [] false body old new h = (ap (λ (v : View). v.rest) h.1, ap (λ (v : View). v.stage) h.1)

no_body : (b : OrderBody) (P : Type 0) → None ≡ Some b → P
no_body b P e = absurd (cc)

-- nothing is ordered where nothing is left
pub none_so : (tables : List TableDef) (left : List Statement) (settles : Bool) (old new : View) → OrdersNext tables left settles None old new
    → (left ≡ []) × (settles ≡ false) × (new ≡ old)
none_so tables (s ∷ more) settles old new h = absurd h
none_so tables [] true old new h = no_body Settle _ h.0
none_so tables [] false old new h = (refl, refl, h.1)
