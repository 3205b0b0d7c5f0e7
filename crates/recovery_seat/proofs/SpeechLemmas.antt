-- What was told in a step, by the event that took place.
use Rattle.std.proofs.Common.{◌≡◌, ◌≢◌, ◌++◌, ℕ, List, Result, Ok, Err, refl, sym, ap, ◌∙◌, subst}
use Rattle.std.specs.Prelude.{ℤ, IfOk}
use Rattle.pool_base.specs.declared.session_id.SessionId.{SessionId}
use Rattle.pool_config.specs.declared.config.Node.{Node}
use Rattle.schema.specs.declared.catalogue.TableDef.{TableDef}
use Rattle.session_machine.specs.declared.action.Cause.{Cause}
use Rattle.session_machine.specs.declared.action.SessionEvent.{SessionEvent}
use Rattle.session_machine.specs.declared.action.SessionEvent.TheVariants as events
use Rattle.session_machine.specs.declared.machine.ReadPolicy.{ReadPolicy}
use Rattle.online_recovery.specs.declared.action.RecoveryAction.{RecoveryAction}
use Rattle.online_recovery.specs.declared.action.RecoveryAction.TheVariants as actions
use Rattle.online_recovery.specs.declared.layout.Layout.{Layout}
use Rattle.online_recovery.specs.declared.standing.Standing.{Standing}
use Rattle.online_recovery.specs.Asking.{Detaches}
use Rattle.online_recovery.specs.State.{new_standing}
use Rattle.session_seat.specs.declared.step.Step.{Step}
use Rattle.session_seat.specs.declared.step.Step.TheVariants as steps
use Rattle.session_seat.specs.Steps as seats
use Rattle.session_seat.specs.Speech as told
use Rattle.session_seat.specs.Speech.{Speech, recovering}
use Rattle.recovery_seat.specs.Schedule.{Entry, Recovers}
use Rattle.recovery_seat.specs.Steps.{Stand, TookPlace, GoesOn}
use Rattle.recovery_seat.specs.Speech.{DidAs, RecoverySays, SaysAt, Speaks, SpeaksOn}
use Rattle.recovery_seat.proofs.StepLemmas.{beside, own_place, own_stays, stand_same}

-- An event of a recovery.

pub said : (tables : List TableDef) (moment : ℤ) (nodes : List Node) (s : SessionId) (others : ℕ) (event : SessionEvent) (old new : Stand) (was is : Speech) → (took : TookPlace tables s others old new) × (took.entry ≡ Recovers s event)
    → RecoverySays tables moment nodes s.number was event is → (took : TookPlace tables s others old new) × SaysAt tables moment nodes s was took.entry is
said tables moment nodes s others event old new was is (took, as_it) says = (took, subst (λ (e : Entry). SaysAt tables moment nodes s was e is) (sym as_it) (refl, says))

pub still : (was : Speech) (lines : List ℕ) → lines ≡ was.lines → record was { lines = lines } ≡ was
still was lines same = ap (λ (z : List ℕ). record was { lines = z }) same

pub did_ok : {E : Type 0} (tables : List TableDef) (s : SessionId) (others : ℕ) (event : SessionEvent) (old new : Stand) (result : Result Step E) → IfOk result (λ step. DidAs tables s others event old step new)
    → IfOk result (λ step. GoesOn tables s others old step new)
did_ok tables s others event old new (Ok (steps.Did mark)) is = is.0
did_ok tables s others event old new (Ok steps.Waits) is = absurd is
did_ok tables s others event old new (Ok steps.Idle) is = absurd is
did_ok tables s others event old new (Ok steps.Closed) is = absurd is
did_ok tables s others event old new (Ok (steps.Recovers moment number)) is = absurd is
did_ok tables s others event old new (Err fault) is = tt

pub said_ok : {E : Type 0} (tables : List TableDef) (moment : ℤ) (nodes : List Node) (s : SessionId) (others : ℕ) (event : SessionEvent) (old new : Stand) (was is : Speech) (result : Result Step E)
    → IfOk result (λ step. DidAs tables s others event old step new) → RecoverySays tables moment nodes s.number was event is → IfOk result (λ step. SpeaksOn tables moment nodes s others old was step new is)
said_ok tables moment nodes s others event old new was is (Ok (steps.Did mark)) did says = said tables moment nodes s others event old new was is did says
said_ok tables moment nodes s others event old new was is (Ok steps.Waits) did says = absurd did
said_ok tables moment nodes s others event old new was is (Ok steps.Idle) did says = absurd did
said_ok tables moment nodes s others event old new was is (Ok steps.Closed) did says = absurd did
said_ok tables moment nodes s others event old new was is (Ok (steps.Recovers at_moment number)) did says = absurd did
said_ok tables moment nodes s others event old new was is (Err fault) did says = tt

-- lines behind those that were there
pub more_lines : (was : Speech) (had has text : List ℕ) → was.lines ≡ had → has ≡ had ++ text → record was { lines = has } ≡ told.saying was text
more_lines was had has text same is = ap (λ (z : List ℕ). record was { lines = z }) (is ∙ ap (λ (z : List ℕ). z ++ text) (sym same))

pub same_lines : (was : Speech) (had has : List ℕ) → was.lines ≡ had → has ≡ had → record was { lines = has } ≡ was
same_lines was had has same is = ap (λ (z : List ℕ). record was { lines = z }) (is ∙ sym same)

pub one_cause : (action : RecoveryAction) (a b : Cause) → Detaches action a → Detaches action b → b ≡ a
one_cause actions.Rest a b first other = absurd first
one_cause (actions.Gate call) a b first other = absurd first
one_cause (actions.Swap c) a b first other = absurd first
one_cause (actions.Detach c cause) a b first other = other ∙ sym first
one_cause (actions.Post c request) a b first other = absurd first
one_cause (actions.WaitFor c) a b first other = absurd first
one_cause (actions.Reply outcome status) a b first other = absurd first
one_cause actions.End a b first other = absurd first

-- A step of the session.

own_tells : (tables : List TableDef) (moment : ℤ) (nodes : List Node) (policy : ReadPolicy) (layout : Layout) (s : SessionId) (others : ℕ) (old new : seats.Stand) (was is : Speech) (step : Step)
    → ((at_moment : ℤ) (number : ℕ) → step ≢ steps.Recovers at_moment number) → told.Speaks tables moment nodes policy s old was step new is
    → Speaks tables moment nodes policy layout s others (beside (new_standing s layout) old) was step (beside (new_standing s layout) new) is
own_tells tables moment nodes policy layout s others old new was is (steps.Did mark) other speaks =
    let place = own_place tables s others (new_standing s layout) old new refl speaks.0 in
    (place.0, subst (λ (e : Entry). SaysAt tables moment nodes s was e is) (sym place.1) (refl, speaks.1))
own_tells tables moment nodes policy layout s others old new was is steps.Waits other speaks = (own_stays (new_standing s layout) old new speaks.0, speaks.1)
own_tells tables moment nodes policy layout s others old new was is steps.Idle other speaks = (own_stays (new_standing s layout) old new speaks.0, speaks.1)
own_tells tables moment nodes policy layout s others old new was is steps.Closed other speaks = (own_stays (new_standing s layout) old new speaks.0, speaks.1, refl, speaks.2)
own_tells tables moment nodes policy layout s others old new was is (steps.Recovers at_moment number) other speaks = absurd (other at_moment number refl)

pub own_spoken : (tables : List TableDef) (moment : ℤ) (nodes : List Node) (policy : ReadPolicy) (layout : Layout) (s : SessionId) (others : ℕ) (old new : seats.Stand) (before behind : Standing) (was is : Speech) (step : Step)
    → before ≡ new_standing s layout → behind ≡ new_standing s layout → ((at_moment : ℤ) (number : ℕ) → step ≢ steps.Recovers at_moment number) → told.Speaks tables moment nodes policy s old was step new is
    → Speaks tables moment nodes policy layout s others (beside before old) was step (beside behind new) is
own_spoken tables moment nodes policy layout s others old new before behind was is step first last other speaks =
    subst (λ (r : Standing). Speaks tables moment nodes policy layout s others (beside r old) was step (beside behind new) is) (sym first)
    (subst (λ (r : Standing). Speaks tables moment nodes policy layout s others (beside (new_standing s layout) old) was step (beside r new) is) (sym last)
    (own_tells tables moment nodes policy layout s others old new was is step other speaks))

-- its order of a recovery takes place
begun_as : (tables : List TableDef) (s t : SessionId) (others : ℕ) (moment : ℤ) (number : ℕ) (old mid : seats.Stand) (before between : Standing) (new : Stand) → t ≡ s → between ≡ before → mid ≡ old
    → (took : TookPlace tables t others (beside between mid) new) × (took.entry ≡ Recovers t (events.Ordered (recovering moment number)))
    → (took : TookPlace tables s others (beside before old) new) × (took.entry ≡ Recovers s (events.Ordered (recovering moment number)))
begun_as tables s t others moment number old mid before between new same rests kept did =
    let event = events.Ordered (recovering moment number) in
    let at_s : (took : TookPlace tables s others (beside between mid) new) × (took.entry ≡ Recovers s event) = subst (λ (u : SessionId). (took : TookPlace tables u others (beside between mid) new) × (took.entry ≡ Recovers u event)) same did in
    let at_old : (took : TookPlace tables s others (beside between old) new) × (took.entry ≡ Recovers s event) = subst (λ (z : seats.Stand). (took : TookPlace tables s others (beside between z) new) × (took.entry ≡ Recovers s event)) kept at_s in
    subst (λ (r : Standing). (took : TookPlace tables s others (beside r old) new) × (took.entry ≡ Recovers s event)) rests at_old

begun_step : (tables : List TableDef) (moment : ℤ) (nodes : List Node) (policy : ReadPolicy) (layout : Layout) (s t : SessionId) (others : ℕ) (at_moment : ℤ) (number : ℕ) (old mid : seats.Stand) (before between : Standing) (new : Stand)
    (was is : Speech) (step : Step) → told.Speaks tables moment nodes policy s old was (steps.Recovers at_moment number) mid is → t ≡ s → between ≡ before
    → DidAs tables t others (events.Ordered (recovering at_moment number)) (beside between mid) step new → Speaks tables moment nodes policy layout s others (beside before old) was step new is
begun_step tables moment nodes policy layout s t others at_moment number old mid before between new was is (steps.Did mark) asked same rests did =
    said tables moment nodes s others (events.Ordered (recovering at_moment number)) (beside before old) new was is
    (begun_as tables s t others at_moment number old mid before between new same rests (stand_same old mid asked.0) did) asked.2
begun_step tables moment nodes policy layout s t others at_moment number old mid before between new was is steps.Waits asked same rests did = absurd did
begun_step tables moment nodes policy layout s t others at_moment number old mid before between new was is steps.Idle asked same rests did = absurd did
begun_step tables moment nodes policy layout s t others at_moment number old mid before between new was is steps.Closed asked same rests did = absurd did
begun_step tables moment nodes policy layout s t others at_moment number old mid before between new was is (steps.Recovers again other) asked same rests did = absurd did

pub begun_spoken : {E : Type 0} (tables : List TableDef) (moment : ℤ) (nodes : List Node) (policy : ReadPolicy) (layout : Layout) (s t : SessionId) (others : ℕ) (old mid : seats.Stand) (before between : Standing) (new : Stand)
    (was is : Speech) (found : Step) (at_moment : ℤ) (number : ℕ) (result : Result Step E) → found ≡ steps.Recovers at_moment number → told.Speaks tables moment nodes policy s old was found mid is → t ≡ s → between ≡ before
    → IfOk result (λ step. DidAs tables t others (events.Ordered (recovering at_moment number)) (beside between mid) step new)
    → IfOk result (λ step. Speaks tables moment nodes policy layout s others (beside before old) was step new is)
begun_spoken tables moment nodes policy layout s t others old mid before between new was is found at_moment number (Ok step) handed asked same rests did =
    begun_step tables moment nodes policy layout s t others at_moment number old mid before between new was is step
    (subst (λ (z : Step). told.Speaks tables moment nodes policy s old was z mid is) handed asked) same rests did
begun_spoken tables moment nodes policy layout s t others old mid before between new was is found at_moment number (Err fault) handed asked same rests did = tt

-- A step of the recovery.

went_step : (tables : List TableDef) (moment : ℤ) (nodes : List Node) (policy : ReadPolicy) (layout : Layout) (s : SessionId) (others : ℕ) (old new : Stand) (was is : Speech) (step : Step)
    → SpeaksOn tables moment nodes s others old was step new is → Speaks tables moment nodes policy layout s others old was step new is
went_step tables moment nodes policy layout s others old new was is (steps.Did mark) speaks = speaks
went_step tables moment nodes policy layout s others old new was is steps.Waits speaks = speaks
went_step tables moment nodes policy layout s others old new was is steps.Idle speaks = absurd speaks
went_step tables moment nodes policy layout s others old new was is steps.Closed speaks = absurd speaks
went_step tables moment nodes policy layout s others old new was is (steps.Recovers at_moment number) speaks = absurd speaks

pub went_spoken : {E : Type 0} (tables : List TableDef) (moment : ℤ) (nodes : List Node) (policy : ReadPolicy) (layout : Layout) (s : SessionId) (others : ℕ) (old new : Stand) (was is last : Speech) (result : Result Step E) → last ≡ is
    → IfOk result (λ step. SpeaksOn tables moment nodes s others old was step new is) → IfOk result (λ step. Speaks tables moment nodes policy layout s others old was step new last)
went_spoken tables moment nodes policy layout s others old new was is last (Ok step) same speaks =
    subst (λ (z : Speech). Speaks tables moment nodes policy layout s others old was step new z) (sym same) (went_step tables moment nodes policy layout s others old new was is step speaks)
went_spoken tables moment nodes policy layout s others old new was is last (Err fault) same speaks = tt
