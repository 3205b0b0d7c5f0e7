-- What is answered where a check has a fault, or a look-up.
use Rattle.std.proofs.Common.{◌≡◌, ℕ, List, ap, sym, refl, subst, inr}
use Rattle.std.specs.Prelude.{Result, Ok, Err}
use Rattle.pg_values.specs.declared.col_type.ColType.{ColType}
use Rattle.pg_values.specs.declared.value_fault.ValueFault.{ValueFault}
use Rattle.pg_values.specs.declared.value_fault.ValueFault.TheVariants as read
use Rattle.pg_values.specs.Answers.{IfRefused, RefusesText}
use Rattle.typed_sql.specs.declared.typed.TypedExpr.{TypedExpr}
use Rattle.typed_sql.specs.Typing.{TextForm}
use Rattle.typed_sql.specs.declared.fault.CheckFault.{CheckFault}
use Rattle.typed_sql.specs.declared.fault.CheckFault.TheVariants.{Refused, NoMemory}
use Rattle.typed_sql.specs.Steps.{Known, Fault, fault, Answer, Told, Made, Answers}
use Rattle.typed_sql.specs.Meaning.{IsFault, IsUnread, Finds}
use Rattle.typed_sql.proofs.Walking.{told_gives, told_fails, made_stops, made_gives}

-- the answer is this fault
pub answers_fault : {A B : Type 0} (view : A → B) (f : CheckFault) (e : Fault) (new : Known) (Is : Answer B → Type 0)
    → IsFault f e → Is (Err e) → Answers view (Err f) new Is
answers_fault view (Refused code name) e new Is is holds = subst (λ (x : Fault). Is (Err x)) is holds
answers_fault view NoMemory e new Is is holds = tt

-- a look-up is answered so
pub found_answers : {A B : Type 0} (view : A → B) (result : Result A CheckFault) (told : Result B Fault) (known : Known)
    → Finds view result told → Answers view result known (Told told known)
found_answers view (Ok a) told known is = told_gives told (view a) known is
found_answers view (Err (Refused code name)) told known is = told_fails told (fault code.bytes name) known is
found_answers view (Err NoMemory) told known is = tt

-- and where something is made of what it finds
pub found_made : {B C : Type 0} (make : B → C) (told : Result B Fault) (known : Known) (b : B)
    → told ≡ Ok b → Made make (Told told) known (Ok (make b, known))
found_made make told known b is = made_gives make (Told told) known b known (told_gives told b known is)

pub found_stops : {B C D : Type 0} (make : B → C) (shown : D → C) (f : CheckFault) (told : Result B Fault) (known new : Known)
    → Finds (λ (b : B). b) (Err f) told → Answers shown (Err f) new (Made make (Told told) known)
found_stops make shown f told known new is =
    made_stops make (Told told) known (λ b. b) shown f known new (found_answers (λ b. b) (Err f) told known is)

-- a text that is no value of its type
unread : (kind : ColType) (text : List ℕ) (known : Known) (f : ValueFault) (g : CheckFault)
    → IfRefused (Err f) (RefusesText kind text) → IsUnread f g → Answers (λ (e : TypedExpr). e) (Err g) known (TextForm kind text known)
unread kind text known (read.Bad code) (Refused found name) refuses is = inr (code.bytes, refuses, ap Err (sym is))
unread kind text known (read.Bad code) NoMemory refuses is = tt
unread kind text known read.NoMemory (Refused found name) refuses is = absurd is
unread kind text known read.NoMemory NoMemory refuses is = tt

pub unread_answers : (kind : ColType) (bytes text : List ℕ) (known : Known) (f : ValueFault) (g : CheckFault)
    → bytes ≡ text → IfRefused (Err f) (RefusesText kind bytes) → IsUnread f g → Answers (λ (e : TypedExpr). e) (Err g) known (TextForm kind text known)
unread_answers kind bytes text known f g same refuses is =
    subst (λ (t : List ℕ). Answers (λ (e : TypedExpr). e) (Err g) known (TextForm kind t known)) same (unread kind bytes known f g refuses is)
