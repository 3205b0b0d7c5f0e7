-- What a step did, wherever the other sessions stand.
use Rattle.std.proofs.Common.{◌≡◌, ◌≢◌, ℕ, List, Result, Ok, Err, Option, Some, None, refl, sym, ap, ◌∙◌, subst}
use Rattle.std.specs.Prelude.{ℤ, IfOk}
use Rattle.pool_base.specs.declared.session_id.SessionId.{SessionId}
use Rattle.schema.specs.declared.catalogue.TableDef.{TableDef}
use Rattle.session_machine.specs.declared.action.SessionEvent.{SessionEvent}
use Rattle.session_machine.specs.declared.machine.Machine.{Machine}
use Rattle.session_machine.specs.declared.machine.ReadPolicy.{ReadPolicy}
use Rattle.online_recovery.specs.declared.layout.Layout.{Layout}
use Rattle.online_recovery.specs.declared.recovery.Recovery.{Recovery}
use Rattle.online_recovery.specs.declared.standing.Due.TheVariants.{Resting}
use Rattle.online_recovery.specs.declared.standing.Standing.{Standing}
use Rattle.online_recovery.specs.Asking.{standing_in}
use Rattle.online_recovery.specs.State.{new_standing}
use Rattle.online_recovery.specs.Rules.{after}
use Rattle.online_recovery.specs.Allowed.{MayHappen as RecoveryMay}
use Rattle.session_seat.specs.declared.step.Step.{Step}
use Rattle.session_seat.specs.declared.step.Step.TheVariants as steps
use Rattle.session_seat.specs.Told.{added, told_of}
use Rattle.session_seat.specs.Schedule.{Moves, IsAnswered, with_machine}
use Rattle.session_seat.specs.Steps as seats
use Rattle.recovery_seat.specs.Schedule.{Of, Recovers, LetsRecovery, ServesRecovery, with_standing}
use Rattle.recovery_seat.specs.Places.{standing_at}
use Rattle.recovery_seat.specs.Steps.{Stand, at, state, Fits, TookPlace, Stays, GoesOn, IsStep}
use Rattle.recovery_seat.proofs.Among.{machine_self, machine_here, standing_self}

-- where a session stands beside its recovery
abbrev pub beside : Standing → seats.Stand → Stand
beside rest stand = at stand.shared stand.machine rest stand.journal

-- A step of the session.

pub own_place : (tables : List TableDef) (s : SessionId) (others : ℕ) (rest : Standing) (old new : seats.Stand) → rest.due ≡ Resting → (is : seats.TookPlace tables s old new)
    → (took : TookPlace tables s others (beside rest old) (beside rest new)) × (took.entry ≡ Of s is.event)
own_place tables s others rest old new resting is = (
  record {
    entry = Of s is.event;
    comes = λ machines recoveries own stands fits.
        let here : with_machine machines s new.machine s ≡ new.machine = machine_here machines s new.machine in
        record {
          rests = ap (λ (r : Standing). r.due) stands ∙ resting;
          moves = subst (λ (m : Machine). Moves tables s old.shared m is.event new.shared (with_machine machines s new.machine s)) (sym own)
              (subst (λ (m : Machine). Moves tables s old.shared old.machine is.event new.shared m) (sym here) is.moves);
          machines = ap (with_machine machines s) (sym here);
          recoveries = standing_self recoveries s rest stands;
        };
    tells = is.tells;
  },
  refl,
)

pub own_stays : (rest : Standing) (old new : seats.Stand) → seats.Stays old new → Stays (beside rest old) (beside rest new)
own_stays rest old new is = record { shared = is.shared; machine = is.machine; standing = refl; journal = is.journal }

-- but the order of a recovery
pub own_step : (tables : List TableDef) (policy : ReadPolicy) (layout : Layout) (s : SessionId) (others : ℕ) (old new : seats.Stand) (step : Step) → ((moment : ℤ) (number : ℕ) → step ≢ steps.Recovers moment number)
    → seats.IsStep tables policy s old step new → IsStep tables policy layout s others (beside (new_standing s layout) old) step (beside (new_standing s layout) new)
own_step tables policy layout s others old new (steps.Did mark) other is = (own_place tables s others (new_standing s layout) old new refl is).0
own_step tables policy layout s others old new steps.Waits other is = own_stays (new_standing s layout) old new is
own_step tables policy layout s others old new steps.Idle other is = own_stays (new_standing s layout) old new is
own_step tables policy layout s others old new steps.Closed other is = (own_stays (new_standing s layout) old new is.0, is.1, refl)
own_step tables policy layout s others old new (steps.Recovers moment number) other is = absurd (other moment number refl)

-- A step of the recovery.

pub went_on : (tables : List TableDef) (policy : ReadPolicy) (layout : Layout) (s : SessionId) (others : ℕ) (old new : Stand) (step : Step) → GoesOn tables s others old step new
    → IsStep tables policy layout s others old step new
went_on tables policy layout s others old new (steps.Did mark) is = is
went_on tables policy layout s others old new steps.Waits is = is
went_on tables policy layout s others old new steps.Idle is = absurd is
went_on tables policy layout s others old new steps.Closed is = absurd is
went_on tables policy layout s others old new (steps.Recovers moment number) is = absurd is

-- an event of it took place
pub proceeded : (tables : List TableDef) (s : SessionId) (others : ℕ) (event : SessionEvent) (old new : Stand) → RecoveryMay old.standing event
    → ((machines : SessionId → Machine) (recoveries : SessionId → Standing) → machines s ≡ old.machine → recoveries s ≡ old.standing → Fits others s machines recoveries
    → LetsRecovery (state old.shared machines recoveries) s event)
    → IsAnswered old.shared.gate event new.shared.gate → ServesRecovery tables old.shared.stores s.number event new.shared.stores → new.machine ≡ old.machine → new.standing ≡ after old.standing event
    → new.journal ≡ added old.journal (told_of tables s event) → (took : TookPlace tables s others old new) × (took.entry ≡ Recovers s event)
proceeded tables s others event old new may lets answered serves same leads tells = (
  record {
    entry = Recovers s event;
    comes = λ machines recoveries own stands fits. record {
      may = subst (λ (r : Standing). RecoveryMay r event) (sym stands) may;
      lets = lets machines recoveries own stands fits;
      answered = answered;
      serves = serves;
      machines = machine_self machines s new.machine (own ∙ sym same);
      recoveries = ap (with_standing recoveries s) (leads ∙ ap (λ (r : Standing). after r event) (sym stands));
    };
    tells = tells;
  },
  refl,
)

-- behind the order of a recovery, which has moved nothing, that begins
pub stand_same : (old new : seats.Stand) → seats.Stays old new → new ≡ old
stand_same old new is = λ i. record { shared = is.shared i; machine = is.machine i; journal = is.journal i }

pub begun_behind : (tables : List TableDef) (policy : ReadPolicy) (layout : Layout) (s t : SessionId) (others : ℕ) (old mid : seats.Stand) (before between : Standing) (new : Stand) (step : Step)
    → t ≡ s → between ≡ before → seats.Stays old mid → GoesOn tables t others (beside between mid) step new → IsStep tables policy layout s others (beside before old) step new
begun_behind tables policy layout s t others old mid before between new step same rests stays is =
    let at_s : GoesOn tables s others (beside between mid) step new = subst (λ (u : SessionId). GoesOn tables u others (beside between mid) step new) same is in
    let at_old : GoesOn tables s others (beside between old) step new = subst (λ (z : seats.Stand). GoesOn tables s others (beside between z) step new) (stand_same old mid stays) at_s in
    went_on tables policy layout s others (beside before old) new step (subst (λ (r : Standing). GoesOn tables s others (beside r old) step new) rests at_old)

pub begun_ok : {E : Type 0} (tables : List TableDef) (policy : ReadPolicy) (layout : Layout) (s t : SessionId) (others : ℕ) (old mid : seats.Stand) (before between : Standing) (new : Stand) (found : Step) (moment : ℤ) (number : ℕ)
    (result : Result Step E) → found ≡ steps.Recovers moment number → seats.IsStep tables policy s old found mid → t ≡ s → between ≡ before
    → IfOk result (λ step. GoesOn tables t others (beside between mid) step new) → IfOk result (λ step. IsStep tables policy layout s others (beside before old) step new)
begun_ok tables policy layout s t others old mid before between new found moment number (Ok step) handed stays same rests is =
    begun_behind tables policy layout s t others old mid before between new step same rests (subst (λ (z : Step). seats.IsStep tables policy s old z mid) handed stays).0 is
begun_ok tables policy layout s t others old mid before between new found moment number (Err fault) handed stays same rests is = tt

pub went_ok : {E : Type 0} (tables : List TableDef) (policy : ReadPolicy) (layout : Layout) (s : SessionId) (others : ℕ) (old new : Stand) (result : Result Step E)
    → IfOk result (λ step. GoesOn tables s others old step new) → IfOk result (λ step. IsStep tables policy layout s others old step new)
went_ok tables policy layout s others old new (Ok step) is = went_on tables policy layout s others old new step is
went_ok tables policy layout s others old new (Err fault) is = tt

pub own_taken : (tables : List TableDef) (policy : ReadPolicy) (layout : Layout) (s : SessionId) (others : ℕ) (old new : seats.Stand) (before behind : Standing) (step : Step) → before ≡ new_standing s layout
    → behind ≡ new_standing s layout → ((moment : ℤ) (number : ℕ) → step ≢ steps.Recovers moment number) → seats.IsStep tables policy s old step new
    → IsStep tables policy layout s others (beside before old) step (beside behind new)
own_taken tables policy layout s others old new before behind step first last other is =
    subst (λ (r : Standing). IsStep tables policy layout s others (beside r old) step (beside behind new)) (sym first)
    (subst (λ (r : Standing). IsStep tables policy layout s others (beside (new_standing s layout) old) step (beside r new)) (sym last)
    (own_step tables policy layout s others old new step other is))

-- where a recovery stands, by whether there is one
pub standing_none : (layout : Layout) (s : SessionId) (recovery : Option Recovery) → recovery ≡ None → standing_at layout s recovery ≡ new_standing s layout
standing_none layout s recovery none = ap (standing_at layout s) none

pub standing_some : (layout : Layout) (s : SessionId) (recovery : Option Recovery) (own : Recovery) → recovery ≡ Some own → standing_at layout s recovery ≡ standing_in own
standing_some layout s recovery own is = ap (standing_at layout s) is
