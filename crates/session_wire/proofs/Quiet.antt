-- A step that is no order: more input is needed, or the session is over.
use Rattle.std.proofs.Common.{◌≡◌, ◌≢◌, ℤ, Bool, true, false, List, [], ◌∷◌, Option, Some, None, refl, sym, ap, subst, ◌∙◌}
use Rattle.schema.specs.declared.catalogue.TableDef.{TableDef}
use Rattle.sql_tree.specs.declared.statement.Statement.{Statement}
use Rattle.pg_messages.specs.declared.read.Read.{Read}
use Rattle.pg_messages.specs.declared.read.Read.TheVariants.{Whole, More, Bad, TooLong}
use Rattle.pg_messages.specs.declared.client.ClientMessage.{ClientMessage}
use Rattle.pg_messages.specs.declared.start.StartMessage.{StartMessage}
use Rattle.pg_messages.specs.Fronts.{start_front, client_front}
use Rattle.session_orders.specs.declared.order.Order.{Order}
use Rattle.session_orders.specs.declared.order.OrderBody.{OrderBody}
use Rattle.session_orders.specs.declared.order.OrderBody.TheVariants as orders
use Rattle.session_wire.specs.declared.due.Due.{Due}
use Rattle.session_wire.specs.declared.output.Output.{Output}
use Rattle.session_wire.specs.declared.wire.Stage.{Stage}
use Rattle.session_wire.specs.declared.wire.Stage.TheVariants.{Starting, Open, Leaving, Closed}
use Rattle.session_wire.specs.declared.wire.WireStep.{WireStep}
use Rattle.session_wire.specs.declared.wire.WireStep.TheVariants as steps
use Rattle.session_wire.specs.Sayings.{HasRoom, RoomBehind, RoomFor}
use Rattle.session_wire.specs.Shown.{View}
use Rattle.session_wire.specs.Starts.{Starts, Waits}
use Rattle.session_wire.specs.Steps.{GoesAt, GoesWith, IsNext, Leads, Meets, Opens, step_of}
use Rattle.session_wire.specs.Waiting.{IsIdle, IsShort, IsWaiting, NothingLeft}
use Rattle.session_wire.proofs.Awaited.{no_some, of_step}

abbrev pub IsQuiet : WireStep → Type 0
IsQuiet step = (o : Order) → step ≢ steps.Order o

input_quiet : IsQuiet steps.NeedInput
input_quiet o = λ e. absurd (cc)

close_quiet : (refused : Bool) → IsQuiet (steps.Close refused)
close_quiet refused o = λ e. absurd (cc)

not_ordered : (step : WireStep) (o : Order) (P : Type 0) → IsQuiet step → Some step ≡ Some (steps.Order o) → P
not_ordered step o P quiet e = let same : step ≡ steps.Order o = cc in absurd (quiet o same)

no_step_of : (moment : ℤ) (body : Option OrderBody) (step : WireStep) (P : Type 0) → IsQuiet step → Some step ≡ step_of moment body → P
no_step_of moment None step P quiet e = no_some step P e
no_step_of moment (Some b) step P quiet e = not_ordered step (record { moment = moment; body = b }) P quiet e

starts_quiet : (ssl gss : Bool) (front : Read StartMessage) (old new : View) (step : WireStep) → Starts ssl gss front old new (Some step) → (front ≡ More) × Waits old new (Some step)
starts_quiet ssl gss (Whole m n) old new step h = no_some step _ h.0
starts_quiet ssl gss More old new step h = (refl, h)
starts_quiet ssl gss (Bad place) old new step h = no_some step _ h.0
starts_quiet ssl gss (TooLong n) old new step h = no_some step _ h.0

meets_quiet : (tables : List TableDef) (moment : ℤ) (front : Read ClientMessage) (old new : View) (step : WireStep) → IsQuiet step → Meets tables moment front old (Some step) new
    → (front ≡ More) × Waits old new (Some step)
meets_quiet tables moment (Whole m n) old new step quiet h = no_step_of moment h.0 step _ quiet h.4
meets_quiet tables moment More old new step quiet h = (refl, h)
meets_quiet tables moment (Bad place) old new step quiet h = no_some step _ h.0
meets_quiet tables moment (TooLong n) old new step quiet h = no_some step _ h.0

-- of a client that was let in nothing is left to be ordered
pub record OpenQuiet (statements : List Statement) (waits_for_settle : Bool) (step : WireStep) (old new : View) : Type 0 where
  pub left : statements ≡ []
  pub settles : waits_for_settle ≡ false
  pub short : client_front old.rest ≡ More
  pub waits : Waits old new (Some step)

opens_quiet : (tables : List TableDef) (moment : ℤ) (left : List Statement) (settles : Bool) (old new : View) (step : WireStep) → IsQuiet step
    → Opens tables moment left settles old (Some step) new → OpenQuiet left settles step old new
opens_quiet tables moment (s ∷ more) settles old new step quiet h = not_ordered step (record { moment = moment; body = h.0 }) _ quiet h.2
opens_quiet tables moment [] true old new step quiet h = not_ordered step (record { moment = moment; body = orders.Settle }) _ quiet h.0
opens_quiet tables moment [] false old new step quiet h =
    let m = meets_quiet tables moment (client_front old.rest) old new step quiet h in
    record { left = refl; settles = refl; short = m.0; waits = m.1 }

-- ---- more input is needed

waiting_so : (old new : View) → IsShort old.stage old.rest → NothingLeft old.stage old → Waits old new (Some steps.NeedInput) → IsWaiting new
waiting_so old new short idle w = subst (λ (v : View). IsWaiting v) (sym w.1) (record { short = short; idle = idle; goes_on = w.0 })

stage_waits : (tables : List TableDef) (moment : ℤ) (stage : Stage) (old new : View) → old.stage ≡ stage → GoesAt tables moment stage old (Some steps.NeedInput) new → IsWaiting new
stage_waits tables moment (Starting ssl gss) old new e h =
    let w = starts_quiet ssl gss (start_front old.rest) old new steps.NeedInput h in
    waiting_so old new (subst (λ (s : Stage). IsShort s old.rest) (sym e) w.0) (subst (λ (s : Stage). NothingLeft s old) (sym e) tt) w.1
stage_waits tables moment Open old new e h =
    let w = opens_quiet tables moment old.left old.settles old new steps.NeedInput input_quiet h in
    let idle : IsIdle old = record { left = w.left; settles = w.settles } in
    waiting_so old new (subst (λ (s : Stage). IsShort s old.rest) (sym e) w.short) (subst (λ (s : Stage). NothingLeft s old) (sym e) idle) w.waits
stage_waits tables moment (Leaving refused) old new e h = not_ordered steps.NeedInput (record { moment = moment; body = orders.Leave }) _ input_quiet h.0
stage_waits tables moment (Closed refused) old new e h = absurd (let f : Some steps.NeedInput ≡ Some (steps.Close refused) = h.0 in cc)

with_waits : (tables : List TableDef) (moment : ℤ) (due : Option Due) (old new : View) → GoesWith tables moment due old (Some steps.NeedInput) new → IsWaiting new
with_waits tables moment (Some d) old new h = absurd (let e : Some steps.NeedInput ≡ Some steps.NeedOutcome = h.0 in cc)
with_waits tables moment None old new h = stage_waits tables moment old.stage old new refl h

leads_waits : (tables : List TableDef) (moment : ℤ) (mids : List View) (old new : View) → Leads tables moment old mids steps.NeedInput new → IsWaiting new
leads_waits tables moment [] old new h = with_waits tables moment old.due old new h
leads_waits tables moment (mid ∷ mids) old new h = leads_waits tables moment mids mid new h.1

pub next_waits : (tables : List TableDef) (moment : ℤ) (old new : View) (step : WireStep) → IsNext tables moment old step new → step ≡ steps.NeedInput → IsWaiting new
next_waits tables moment old new step h e = leads_waits tables moment h.0 old new (subst (λ (one : WireStep). Leads tables moment old h.0 one new) e h.1)

-- ---- the session is over

no_close : (old new : View) (refused : Bool) (P : Type 0) → Waits old new (Some (steps.Close refused)) → P
no_close old new refused P h = absurd h

stage_closes : (tables : List TableDef) (moment : ℤ) (stage : Stage) (old new : View) (refused : Bool) → old.stage ≡ stage
    → GoesAt tables moment stage old (Some (steps.Close refused)) new → new.stage ≡ Closed refused
stage_closes tables moment (Starting ssl gss) old new refused e h = no_close old new refused _ (starts_quiet ssl gss (start_front old.rest) old new (steps.Close refused) h).1
stage_closes tables moment Open old new refused e h =
    no_close old new refused _ (opens_quiet tables moment old.left old.settles old new (steps.Close refused) (close_quiet refused) h).waits
stage_closes tables moment (Leaving was) old new refused e h = not_ordered (steps.Close refused) (record { moment = moment; body = orders.Leave }) _ (close_quiet refused) h.0
stage_closes tables moment (Closed was) old new refused e h =
    let f : Some (steps.Close refused) ≡ Some (steps.Close was) = h.0 in
    let same : was ≡ refused = cc in
    ap (λ (v : View). v.stage) h.1 ∙ e ∙ ap Closed same

with_closes : (tables : List TableDef) (moment : ℤ) (due : Option Due) (old new : View) (refused : Bool) → GoesWith tables moment due old (Some (steps.Close refused)) new
    → new.stage ≡ Closed refused
with_closes tables moment (Some d) old new refused h = absurd (let e : Some (steps.Close refused) ≡ Some steps.NeedOutcome = h.0 in cc)
with_closes tables moment None old new refused h = stage_closes tables moment old.stage old new refused refl h

leads_closes : (tables : List TableDef) (moment : ℤ) (mids : List View) (old new : View) (refused : Bool) → Leads tables moment old mids (steps.Close refused) new → new.stage ≡ Closed refused
leads_closes tables moment [] old new refused h = with_closes tables moment old.due old new refused h
leads_closes tables moment (mid ∷ mids) old new refused h = leads_closes tables moment mids mid new refused h.1

pub next_closes : (tables : List TableDef) (moment : ℤ) (old new : View) (step : WireStep) (refused : Bool) → IsNext tables moment old step new → step ≡ steps.Close refused
    → new.stage ≡ Closed refused
next_closes tables moment old new step refused h e = leads_closes tables moment h.0 old new refused (subst (λ (one : WireStep). Leads tables moment old h.0 one new) e h.1)

-- ---- room for what may end a transaction

waits_order : (old new : View) (o : Order) (P : Type 0) → Waits old new (Some (steps.Order o)) → P
waits_order old new o P h = absurd h

pub waits_room : (old new : View) (step : Option WireStep) (out : Output) → Waits old new step → RoomBehind step out
waits_room old new step out h = λ o e ends. waits_order old new o (HasRoom out) (subst (λ (s : Option WireStep). Waits old new s) e h)

pub starts_room : (ssl gss : Bool) (front : Read StartMessage) (old new : View) (step : Option WireStep) (out : Output) → Starts ssl gss front old new step → RoomBehind step out
starts_room ssl gss front old new step out h =
    λ o e ends. waits_order old new o (HasRoom out) (starts_quiet ssl gss front old new (steps.Order o) (subst (λ (s : Option WireStep). Starts ssl gss front old new s) e h)).1

pub step_room : (moment : ℤ) (body : Option OrderBody) (step : Option WireStep) (out : Output) → step ≡ step_of moment body → RoomFor body out → RoomBehind step out
step_room moment body step out is room = λ o e ends. room o.body (of_step moment o body (sym e ∙ is)) ends
