-- A Look that closes the chain of an ending.
use Rattle.std.proofs.Common.{◌≡◌, ℕ, ◌<◌, Bool, true, false, List, [], ◌∷◌, refl, sym, ap, ◌∙◌, subst, arith, inl, inr}
use Rattle.std.specs.Prelude.{◌⊎◌, Option, Some, None, if◌then◌else◌, is_some}
use Rattle.backend_trait.specs.declared.answer.Answer.{Answer}
use Rattle.session_machine.specs.declared.machine.GatePhase.{GatePhase}
use Rattle.session_machine.specs.declared.machine.GatePhase.TheVariants as phases
use Rattle.session_machine.specs.declared.machine.Session.{Session}
use Rattle.session_machine.specs.declared.machine.Ending.{Ending as MachineEnding}
use Rattle.session_machine.specs.declared.machine.Ending.TheVariants.{Replies, Leaves as EndsWith}
use Rattle.session_machine.specs.declared.machine.Stage.{Stage}
use Rattle.session_machine.specs.declared.machine.Stage.TheVariants.{Committing, Closing, RollingBack}
use Rattle.session_machine.specs.declared.machine.Point.TheVariants.{LookDue}
use Rattle.one_copy_model.specs.Deaths.{stage_at}
use Rattle.one_copy_model.specs.Standing.{standing_in, Nowhere, standing_by}
use Rattle.one_copy_model.specs.Invariant.{inserted_in}
use Rattle.backend_trait.specs.declared.answer.Answer.TheVariants as answers
use Rattle.backend_trait.specs.Acts.{IsOf}
use Rattle.session_machine.specs.declared.machine.Heard.{Heard}
use Rattle.session_machine.specs.Rules.{request_of}
use Rattle.one_copy_model.specs.Chains.{IsRising, AreAbove}
use Rattle.one_copy_model.specs.Deaths.{heard_from}
use Rattle.std.specs.Prelude.{find, ◌&&◌, ◌==◌}
use Rattle.std.proofs.lemmas.Bool.Decides.{eqb_tells}
use Rattle.session_machine.specs.Answers.{first_open, next_of}
use Rattle.session_machine.specs.Rules.{kind_of}
use Rattle.one_copy_model.specs.Chains.{goes_up}
use Rattle.one_copy_model.specs.Places.{where_decided, refused_look}
use Rattle.one_copy_laws.proofs.GateStranding.{released_point}
use Rattle.one_copy_laws.specs.Ends.{is_ending}
use Rattle.std.specs.Prelude.{cond}

-- members of a list of answers
abbrev pub IsAmong : Heard → List Heard → Type 0
IsAmong h [] = ⊥
IsAmong h (x ∷ xs) = (x ≡ h) ⊎ IsAmong h xs

found_at : (p : Heard → Bool) (x h : Heard) (xs : List Heard) (rest : find p xs ≡ Some h → (p h ≡ true) × IsAmong h xs) (v : Bool) → p x ≡ v → cond v (Some x) (find p xs) ≡ Some h → (p h ≡ true) × IsAmong h (x ∷ xs)
found_at p x h xs rest true is e = let same : x ≡ h = (let z : Some x ≡ Some h = e in cc) in (ap p (sym same) ∙ is, inl same)
found_at p x h xs rest false is e = let r = rest e in (r.0, inr r.1)

pub found_among : (p : Heard → Bool) (xs : List Heard) (h : Heard) → find p xs ≡ Some h → (p h ≡ true) × IsAmong h xs
found_among p [] h e = absurd (let z : None ≡ Some h = e in cc)
found_among p (x ∷ xs) h e = found_at p x h xs (found_among p xs h) (p x) refl e

pub none_among : (p : Heard → Bool) (xs : List Heard) → ((h : Heard) → IsAmong h xs → p h ≡ false) → find p xs ≡ None
none_among p [] each = refl
none_among p (x ∷ xs) each = ap (λ v. cond v (Some x) (find p xs)) (each x (inl refl)) ∙ none_among p xs (λ h in_it. each h (inr in_it))

pub above_of : (b : ℕ) (xs : List Heard) (h : Heard) → AreAbove b xs → IsAmong h xs → b < h.b.number
above_of b [] h above among = absurd among
above_of b (x ∷ xs) h above (inl is) = subst (λ (y : Heard). b < y.b.number) is above.0
above_of b (x ∷ xs) h above (inr rest) = above_of b xs h above.1 rest

pub same_test : (n : ℕ) → (n == n) ≡ true
same_test n = elim (eqb_tells n n) [ inl p ↦ p.0 | inr p ↦ absurd (p.1 refl) ]

less_test : (a b : ℕ) → a < b → (a == b) ≡ false
less_test a b less = elim (eqb_tells a b) [ inl p ↦ absurd (let same : a ≡ b = p.1 in omega (arith, same, less)) | inr p ↦ p.0 ]

-- who is among answers that go up is heard with its own
pub among_heard : (xs : List Heard) (h : Heard) → IsRising xs → IsAmong h xs → heard_from xs h.b.number ≡ Some h.answer
among_heard [] h rising among = absurd among
among_heard (x ∷ xs) h rising (inl is) =
    subst (λ (y : Heard). heard_from (x ∷ xs) y.b.number ≡ Some y.answer) is (ap (λ v. if v then Some x.answer else heard_from xs x.b.number) (same_test x.b.number))
among_heard (x ∷ xs) h rising (inr rest) =
    ap (λ v. if v then Some x.answer else heard_from xs h.b.number) (less_test x.b.number h.b.number (above_of x.b.number xs h rising.0 rest)) ∙ among_heard xs h rising.1 rest

pub ending_up : (stage : Stage) → is_ending stage ≡ true → goes_up stage ≡ true
ending_up Committing e = refl
ending_up Closing e = refl
ending_up (RollingBack ending) e = refl
ending_up stage e = absurd (let z : false ≡ true = e in cc)

pub ending_form : (stage : Stage) (answer : Answer) → is_ending stage ≡ true → IsOf (request_of stage) answer → answer ≡ answers.Done
ending_form Committing answer e h = h
ending_form Closing answer e h = h
ending_form (RollingBack ending) answer e h = h
ending_form stage answer e h = absurd (let z : false ≡ true = e in cc)

pub ending_stands : (stage : Stage) → is_ending stage ≡ true → standing_in stage (Some answers.Done) ≡ Nowhere
ending_stands Committing e = refl
ending_stands Closing e = refl
ending_stands (RollingBack ending) e = refl
ending_stands stage e = absurd (let z : false ≡ true = e in cc)

pub ending_places : (stage : Stage) (found : Option Answer) → is_ending stage ≡ true → where_decided stage found ≡ []
ending_places stage None e = refl
ending_places Committing (Some answer) e = refl
ending_places Closing (Some answer) e = refl
ending_places (RollingBack ending) (Some answer) e = refl
ending_places stage (Some answer) e = absurd (let z : false ≡ true = e in cc)

pub ending_refused : (session : Session) (stage : Stage) → is_ending stage ≡ true → refused_look session (LookDue stage) ≡ []
ending_refused session Committing e = refl
ending_refused session Closing e = refl
ending_refused session (RollingBack ending) e = refl
ending_refused session stage e = absurd (let z : false ≡ true = e in cc)

pub ending_inserts : (stage : Stage) (told : Option Answer) → is_ending stage ≡ true → inserted_in (Some stage) told ≡ None
ending_inserts Committing told e = refl
ending_inserts Closing told e = refl
ending_inserts (RollingBack ending) told e = refl
ending_inserts stage told e = absurd (let z : false ≡ true = e in cc)

pub ending_open : (stage : Stage) (attached : ℕ) (hs : List Heard) → is_ending stage ≡ true → next_of (kind_of stage) attached hs ≡ first_open attached hs
ending_open Committing attached hs e = refl
ending_open Closing attached hs e = refl
ending_open (RollingBack ending) attached hs e = refl
ending_open stage attached hs e = absurd (let z : false ≡ true = e in cc)

pub released_nowhere : (phase : GatePhase) (ending : MachineEnding) (told : Option Answer) → standing_by phase (released_point phase ending) (stage_at (released_point phase ending)) told ≡ Nowhere
released_nowhere phases.Out (Replies outcome) told = refl
released_nowhere phases.Out EndsWith told = refl
released_nowhere phases.InSnapshot ending told = refl
released_nowhere (phases.Live changed written) ending told = refl
released_nowhere phases.InCommit ending told = refl

pub and_none : (x : Bool) → (x && false) ≡ false
and_none true = refl
and_none false = refl

pub told_is : (x : Option Answer) → is_some x ≡ true → (answer : Answer) × (x ≡ Some answer)
told_is (Some answer) e = (answer, refl)
told_is None e = absurd (let z : false ≡ true = e in cc)
