-- What a wire does at a message, by what its functions do.
use Rattle.std.proofs.Common.{◌≡◌, ◌≢◌, ℤ, Bool, true, false, List, [], ◌∷◌, Option, Some, None, refl, sym, ap, subst}
use Rattle.schema.specs.declared.catalogue.TableDef.{TableDef}
use Rattle.sql_tree.specs.declared.statement.Statement.{Statement}
use Rattle.pg_messages.specs.declared.client.ClientMessage.{ClientMessage}
use Rattle.pg_messages.specs.declared.client.ClientMessage.TheVariants as said
use Rattle.pg_messages.specs.Fronts.{client_front}
use Rattle.session_orders.specs.declared.order.OrderBody.{OrderBody}
use Rattle.session_wire.specs.declared.wire.WireStep.{WireStep}
use Rattle.session_wire.specs.Asking.{OrdersNext}
use Rattle.session_wire.specs.Heeds.{Heard, Hears, Unless}
use Rattle.session_wire.specs.Shown.{View}
use Rattle.session_wire.specs.Steps.{Meets, Opens, order, step_of}

pub hears_other : (tables : List TableDef) (m : ClientMessage) (body : Option OrderBody) (old new : View) → m ≢ said.Terminate → m ≢ said.Sync → m ≢ said.Flush
    → Heard tables m body old new → Hears tables m body old new
hears_other tables said.Terminate body old new no_terminate no_sync no_flush h = absurd (no_terminate refl)
hears_other tables said.Sync body old new no_terminate no_sync no_flush h = absurd (no_sync refl)
hears_other tables said.Flush body old new no_terminate no_sync no_flush h = absurd (no_flush refl)
hears_other tables (said.Query text) body old new no_terminate no_sync no_flush h = h
hears_other tables (said.Parse name text kinds) body old new no_terminate no_sync no_flush h = h
hears_other tables (said.Bind portal name formats values results) body old new no_terminate no_sync no_flush h = h
hears_other tables (said.Describe portal name) body old new no_terminate no_sync no_flush h = h
hears_other tables (said.Execute portal limit) body old new no_terminate no_sync no_flush h = h
hears_other tables (said.Close portal name) body old new no_terminate no_sync no_flush h = h
hears_other tables (said.Other tag) body old new no_terminate no_sync no_flush h = h

pub skips_so : (skips : Bool) (old : View) (P : Type 0) → skips ≡ true → Unless skips None old old P
skips_so true old P e = (refl, refl)
skips_so false old P e = absurd (let f : false ≡ true = e in cc)

pub heeds_so : (skips : Bool) (body : Option OrderBody) (old new : View) (P : Type 0) → skips ≡ false → P → Unless skips body old new P
heeds_so true body old new P e p = absurd (let f : true ≡ false = e in cc)
heeds_so false body old new P e p = p

pub opens_some : (tables : List TableDef) (moment : ℤ) (left : List Statement) (settles : Bool) (body : OrderBody) (old new : View) → OrdersNext tables left settles (Some body) old new
    → Opens tables moment left settles old (Some (order moment body)) new
opens_some tables moment (s ∷ more) settles body old new h = (body, h, refl)
opens_some tables moment [] true body old new h = (ap (step_of moment) h.0, h.1)
opens_some tables moment [] false body old new h = absurd (let e : Some body ≡ None = h.0 in cc)

pub opens_none : (tables : List TableDef) (moment : ℤ) (left : List Statement) (settles : Bool) (old new : View) (step : Option WireStep) → left ≡ [] → settles ≡ false
    → Meets tables moment (client_front old.rest) old step new → Opens tables moment left settles old step new
opens_none tables moment left settles old new step e s h =
    subst (λ ss. Opens tables moment ss settles old step new) (sym e) (subst (λ b. Opens tables moment [] b old step new) (sym s) h)
