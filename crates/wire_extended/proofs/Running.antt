-- What an Execute is told, by what it found.
use Rattle.std.proofs.Common.{◌≡◌, ℤ, Bool, true, false, Option, Some, None, refl, sym, ap, subst}
use Rattle.std.specs.Option.{option_map}
use Rattle.catalogue.specs.declared.checked.Checked.{Checked}
use Rattle.session_orders.specs.declared.order.OrderBody.TheVariants.{Statement}
use Rattle.wire_session.specs.declared.portals.Portal.{Portal}
use Rattle.wire_session.specs.declared.portals.PortalState.{PortalState}
use Rattle.wire_session.specs.declared.portals.PortalState.TheVariants.{Bound}
use Rattle.wire_extended.specs.declared.executing.Executed.{Executed}
use Rattle.wire_extended.specs.declared.executing.Executed.TheVariants.{Order}
use Rattle.wire_extended.specs.Executing.{IsOrdered, Looks, Runs, RunsUnless, TellsExecute}

runs_so : (failed ends : Bool) (executed : Executed) (P : Type 0) → (failed ≡ true → ends ≡ true) → P → RunsUnless failed ends executed P
runs_so true true executed P free p = p
runs_so true false executed P free p = absurd (let e : false ≡ true = free refl in cc)
runs_so false ends executed P free p = p

pub executes_so : (failed implicit : Bool) (limit : ℤ) (portal : Portal) (found : Option Portal) (looked : Option Executed) (executed : Executed) → Some portal ≡ found
    → Looks failed implicit limit portal looked → ((e : Executed) → looked ≡ Some e → executed ≡ e)
    → ((checked : Checked) → looked ≡ None → option_map (λ (p : Portal). p.state) found ≡ Some (Bound checked) → executed ≡ Order (Statement checked))
    → TellsExecute failed implicit limit found executed
executes_so failed implicit limit portal found (Some e) executed there looks some none =
    let told : RunsUnless failed portal.ends_block executed (Runs implicit limit portal.state executed) =
    subst (λ (x : Executed). RunsUnless failed portal.ends_block x (Runs implicit limit portal.state x)) (sym (some e refl)) looks in
    subst (λ (f : Option Portal). TellsExecute failed implicit limit f executed) there told
executes_so failed implicit limit portal found None executed there looks some none =
    let state : option_map (λ (p : Portal). p.state) found ≡ Some (Bound looks.1) =
    subst (λ (f : Option Portal). option_map (λ (p : Portal). p.state) f ≡ Some (Bound looks.1)) there (ap Some looks.2) in
    let ordered : IsOrdered (λ body. body ≡ Statement looks.1) executed = subst (λ (x : Executed). IsOrdered (λ body. body ≡ Statement looks.1) x) (sym (none looks.1 refl state)) refl in
    let runs : Runs implicit limit portal.state executed = subst (λ (s : PortalState). Runs implicit limit s executed) (sym looks.2) ordered in
    subst (λ (f : Option Portal). TellsExecute failed implicit limit f executed) there
    (runs_so failed portal.ends_block executed (Runs implicit limit portal.state executed) looks.0 runs)
