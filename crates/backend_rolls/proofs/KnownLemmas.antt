-- What a post and an answer leave for each session.
use Rattle.std.proofs.Common.{◌≡◌, ℕ, ◌==◌, Bool, true, false, ◌||◌, List, refl, sym, ap, ◌∙◌, subst, inl, inr}
use Rattle.std.specs.Prelude.{Option, Some, None, is_some, if◌then◌else◌}
use Rattle.std.proofs.lemmas.Bool.Decides.{eqb_tells}
use Rattle.schema.specs.declared.catalogue.TableDef.{TableDef}
use Rattle.classifier.specs.Classes.{lock_of}
use Rattle.backend_trait.specs.declared.request.Request.{Request}
use Rattle.backend_trait.specs.declared.request.Request.TheVariants as requests
use Rattle.backend_trait.specs.declared.answer.Answer.{Answer}
use Rattle.backend_trait.specs.declared.answer.Polled.{Polled}
use Rattle.backend_trait.specs.declared.answer.Polled.TheVariants as polls
use Rattle.backend_trait.specs.Effect.{Wants}
use Rattle.backend_trait.specs.Rows.{with_at}
use Rattle.backend_trait.specs.Runnable.{IsRunnable}
use Rattle.backend_trait.specs.Store.{Store, Live, Transaction, Absent, Alive, Dead, Pending, WhereLive, MayRunIn, MaySetIn, MayPost, IsLocked, held_by, prepared, posted, lost_by, IsDead, Line, line_of, standing_of, request_in, idle_line, no_locks, line_answered, line_acted, is_refusal}
use Rattle.backend_trait.specs.Acts.{InForm, InFormAnswer}
use Rattle.backend_rolls.specs.declared.known.Awaits.{Awaits}
use Rattle.backend_rolls.specs.declared.known.Awaits.TheVariants as awaiting
use Rattle.backend_rolls.specs.declared.known.Holds.{Holds}
use Rattle.backend_rolls.specs.declared.known.Holds.TheVariants as holding
use Rattle.backend_rolls.specs.declared.known.Known.{Known}
use Rattle.backend_rolls.specs.Known.{Admits, Counts, HasLock, IsLockOf, Tells, holds_as, awaits_as, known_as, nothing_known, Knows, after_post, holds_behind, locked_behind, after_answer, after_poll}

-- no table is known to be locked
none_locked : (locks : ℕ → Bool) → IsLockOf None locks
none_locked locks t is = absurd (let never : None ≡ Some t = is in cc)

-- before the first request
pub prepared_known : (tables : List TableDef) (all : ℕ → Known) → ((s : ℕ) → all s ≡ nothing_known) → Knows all (prepared tables)
prepared_known tables all none s = subst (λ (k : Known). Tells k (line_of (prepared tables) s)) (sym (none s)) (refl, (refl, none_locked (line_of (prepared tables) s).locks))

-- a post
abbrev line_posted : Store → ℕ → Option Pending → Line
line_posted st o pending = record { standing = standing_of (st.transaction o); locks = (held_by (st.transaction o)).tables; waits = request_in pending }

posted_at : (st : Store) (all : ℕ → Known) (s o : ℕ) (request : Request) → Knows all st → (b : Bool) → (b ≡ true → o ≡ s)
    → Tells (if b then after_post (all s) request else all o) (line_posted st o (if b then Some (record { request = request; crossed = false }) else st.pending o))
posted_at st all s o request knows true same =
    subst (λ (j : ℕ). Tells (after_post (all s) request) (line_posted st j (Some (record { request = request; crossed = false })))) (sym (same refl))
    ((knows s).0, (refl, (knows s).1.1))
posted_at st all s o request knows false same = knows o

same_number : (o s : ℕ) → (o == s) ≡ true → o ≡ s
same_number o s e = elim (eqb_tells o s) [
  | inl p ↦ p.1
  | inr p ↦ absurd (let f : true ≡ false = sym e ∙ p.0 in cc)
]

pub posted_known : (st : Store) (all : ℕ → Known) (s : ℕ) (request : Request) → Knows all st → Knows (with_at all s (after_post (all s) request)) (posted st s request)
posted_known st all s request knows o = posted_at st all s o request knows (o == s) (same_number o s)

-- an answer
is_same : (t : ℕ) → (t == t) ≡ true
is_same t = elim (eqb_tells t t) [
  | inl p ↦ p.0
  | inr p ↦ absurd (p.1 refl)
]

locked_now : (table : ℕ) (locks : ℕ → Bool) → IsLockOf (Some table) (λ t. (t == table) || locks t)
locked_now table locks t is =
    let same : table ≡ t = (let e : Some table ≡ Some t = is in cc) in
    subst (λ (j : ℕ). ((t == j) || locks t) ≡ true) (sym same) (ap (λ (b : Bool). b || locks t) (is_same t))

by_request : (holds : Holds) (locked : Option ℕ) (line : Line) (request : Request) → holds ≡ holds_as line.standing → IsLockOf locked line.locks
    → Tells (known_as (holds_behind holds (awaits_as (Some request))) awaiting.Nothing (locked_behind locked (awaits_as (Some request)))) (line_answered line request)
by_request holds locked line requests.TakeSnapshot is lock = (refl, (refl, none_locked no_locks))
by_request holds locked line (requests.Run checked) is lock = (is, (refl, lock))
by_request holds locked line (requests.Lock table) is lock = (is, (refl, locked_now table line.locks))
by_request holds locked line requests.Commit is lock = (refl, (refl, none_locked no_locks))
by_request holds locked line requests.Rollback is lock = (refl, (refl, none_locked no_locks))
by_request holds locked line (requests.ReadSerial table) is lock = (is, (refl, lock))
by_request holds locked line (requests.SetSerial table n) is lock = (is, (refl, lock))

answered_line : (k : Known) (line : Line) (request : Request) (refused : Bool) → Tells k line → line.waits ≡ Some request
    → Tells (after_answer k refused) (if refused then idle_line IsDead no_locks else line_answered line request)
answered_line k line request true tells waits = (refl, (refl, none_locked no_locks))
answered_line k line request false tells waits =
    subst (λ (w : Awaits). Tells (known_as (holds_behind k.holds w) awaiting.Nothing (locked_behind k.locked w)) (line_answered line request))
    (sym (tells.1.0 ∙ ap awaits_as waits)) (by_request k.holds k.locked line request tells.0 tells.1.1)

answered_at : (old : Store) (all : ℕ → Known) (s o : ℕ) (request : Request) (answer : Answer) → Knows all old → request_in (old.pending s) ≡ Some request → (b : Bool)
    → Tells (if b then after_answer (all s) (is_refusal answer) else all o) (if b then line_acted (line_of old s) request answer else line_of old o)
answered_at old all s o request answer knows waits true = answered_line (all s) (line_of old s) request (is_refusal answer) (knows s) waits
answered_at old all s o request answer knows waits false = knows o

pub answered_known : (old new : Store) (all : ℕ → Known) (s : ℕ) (answer : Answer) → Knows all old → InFormAnswer old s answer new
    → Knows (with_at all s (after_answer (all s) (is_refusal answer))) new
answered_known old new all s answer knows form o =
    subst (λ (line : Line). Tells (with_at all s (after_answer (all s) (is_refusal answer)) o) line) (sym (form.lines o))
    (answered_at old all s o form.pending.request answer knows (ap request_in form.was) (o == s))

-- no answer: all is as before
kept_at : (all : ℕ → Known) (s o : ℕ) (b : Bool) → (b ≡ true → o ≡ s) → (if b then all s else all o) ≡ all o
kept_at all s o true same = ap all (sym (same refl))
kept_at all s o false same = refl

unanswered_known : (old new : Store) (all : ℕ → Known) (s : ℕ) → Knows all old → ((o : ℕ) → line_of new o ≡ line_of old o) → Knows (with_at all s (all s)) new
unanswered_known old new all s knows lines o =
    subst (λ (k : Known). Tells k (line_of new o)) (sym (kept_at all s o (o == s) (same_number o s)))
    (subst (λ (line : Line). Tells (all o) line) (sym (lines o)) (knows o))

-- a poll, of every backend
pub polled_known : (old new : Store) (all : ℕ → Known) (s : ℕ) (polled : Polled) (before after : ℕ) → Knows all old → InForm old s polled before after new
    → Knows (with_at all s (after_poll (all s) polled)) new
polled_known old new all s (polls.Answered answer) before after knows form = answered_known old new all s answer knows form
polled_known old new all s polls.NotYet before after knows form = unanswered_known old new all s knows form.0.lines
polled_known old new all s polls.Lost before after knows form = unanswered_known old new all s knows form.0.lines
polled_known old new all s polls.NoMemory before after knows form = unanswered_known old new all s knows form.0.lines

pub polled_tables : (old new : Store) (s : ℕ) (polled : Polled) (before after : ℕ) → InForm old s polled before after new → new.tables ≡ old.tables
polled_tables old new s (polls.Answered answer) before after form = form.tables
polled_tables old new s polls.NotYet before after form = form.0.tables
polled_tables old new s polls.Lost before after form = form.0.tables
polled_tables old new s polls.NoMemory before after form = form.0.tables

-- a loss
pub lost_known : (st : Store) (all : ℕ → Known) → Knows all st → Knows all (lost_by st)
lost_known st all knows s = knows s

-- a post, and a poll, as the program makes them
pub posted_as : (st new : Store) (all now : ℕ → Known) (s : ℕ) (k left : Known) (request : Request) → Knows all st → k ≡ all s → left ≡ after_post k request
    → now ≡ with_at all s left → new ≡ posted st s request → Knows now new
posted_as st new all now s k left request knows read made put is =
    subst (λ (f : ℕ → Known). Knows f new) (sym (put ∙ ap (with_at all s) (made ∙ ap (λ (x : Known). after_post x request) read)))
    (subst (λ (x : Store). Knows (with_at all s (after_post (all s) request)) x) (sym is) (posted_known st all s request knows))

pub polled_as : (old new : Store) (all now : ℕ → Known) (s : ℕ) (k left : Known) (polled : Polled) (before after : ℕ) → Knows all old → k ≡ all s → left ≡ after_poll k polled
    → now ≡ with_at all s left → InForm old s polled before after new → Knows now new
polled_as old new all now s k left polled before after knows read made put form =
    subst (λ (f : ℕ → Known). Knows f new) (sym (put ∙ ap (with_at all s) (made ∙ ap (λ (x : Known). after_poll x polled) read)))
    (polled_known old new all s polled before after knows form)

-- what is admitted may be posted
lock_known : (locked wanted : Option ℕ) (held : Wants) → HasLock locked wanted → IsLockOf locked held.tables → IsLocked held wanted
lock_known locked None held has is = tt
lock_known locked (Some table) held has is = is table has

live_at : (transaction : Transaction) (P : Live → Type 0) → holding.Live ≡ holds_as (standing_of transaction) → ((t : Live) → transaction ≡ Alive t → P t) → WhereLive transaction P
live_at Absent P is there = absurd (let never : holding.Live ≡ holding.Nothing = is in cc)
live_at (Alive t) P is there = there t refl
live_at Dead P is there = absurd (let never : holding.Live ≡ holding.Dead = is in cc)

absent_at : (transaction : Transaction) → holding.Nothing ≡ holds_as (standing_of transaction) → transaction ≡ Absent
absent_at Absent is = refl
absent_at (Alive t) is = absurd (let never : holding.Nothing ≡ holding.Live = is in cc)
absent_at Dead is = absurd (let never : holding.Nothing ≡ holding.Dead = is in cc)

pub may_post : (st : Store) (tables : List TableDef) (k : Known) (s : ℕ) (request : Request) → st.tables ≡ tables → Counts tables st → Tells k (line_of st s) → Admits tables k request → MayPost st s request
may_post st tables k s requests.TakeSnapshot same counts tells admits = absent_at (st.transaction s) (sym admits ∙ tells.0)
may_post st tables k s (requests.Run checked) same counts tells admits =
    live_at (st.transaction s) (MayRunIn st checked) (sym admits.0 ∙ tells.0) (λ t is. (
      subst (λ (ts : List TableDef). IsRunnable ts checked) (sym same) admits.1.1,
      lock_known k.locked (lock_of checked.body) t.held admits.1.0 (subst (λ (x : Transaction). IsLockOf k.locked (held_by x).tables) is tells.1.1),
    ))
may_post st tables k s (requests.Lock table) same counts tells admits = live_at (st.transaction s) (λ t. Unit {0}) (sym admits ∙ tells.0) (λ t is. tt)
may_post st tables k s requests.Commit same counts tells admits = live_at (st.transaction s) (λ t. Unit {0}) (sym admits ∙ tells.0) (λ t is. tt)
may_post st tables k s requests.Rollback same counts tells admits = tt
may_post st tables k s (requests.ReadSerial table) same counts tells admits = counts table admits
may_post st tables k s (requests.SetSerial table n) same counts tells admits =
    live_at (st.transaction s) (MaySetIn st table n) (sym admits.0 ∙ tells.0) (λ t is. record {
      counted = counts table admits.1.1.0;
      locked = subst (λ (x : Transaction). IsLockOf k.locked (held_by x).tables) is tells.1.1 table admits.1.0;
      positive = admits.1.1.1;
    })

asks_at : (request : Request) → awaiting.Nothing ≡ awaits_as (Some request) → ⊥
asks_at requests.TakeSnapshot is = let never : awaiting.Nothing ≡ awaiting.Begin = is in absurd (cc)
asks_at (requests.Run checked) is = let never : awaiting.Nothing ≡ awaiting.Work = is in absurd (cc)
asks_at (requests.Lock table) is = let never : awaiting.Nothing ≡ awaiting.Lock table = is in absurd (cc)
asks_at requests.Commit is = let never : awaiting.Nothing ≡ awaiting.End = is in absurd (cc)
asks_at requests.Rollback is = let never : awaiting.Nothing ≡ awaiting.End = is in absurd (cc)
asks_at (requests.ReadSerial table) is = let never : awaiting.Nothing ≡ awaiting.Work = is in absurd (cc)
asks_at (requests.SetSerial table n) is = let never : awaiting.Nothing ≡ awaiting.Work = is in absurd (cc)

-- who waits for nothing has no request there, and who waits has one
pub idle_known : (st : Store) (k : Known) (s : ℕ) → Tells k (line_of st s) → k.awaits ≡ awaiting.Nothing → st.pending s ≡ None
idle_known st k s tells idle = by_pending (st.pending s) (sym idle ∙ tells.1.0)
  where
    by_pending : (waits : Option Pending) → awaiting.Nothing ≡ awaits_as (request_in waits) → waits ≡ None
    by_pending None is = refl
    by_pending (Some p) is = absurd (asks_at p.request is)

pub waits_known : (st : Store) (k : Known) (s : ℕ) → Tells k (line_of st s) → (k.awaits ≡ awaiting.Nothing → ⊥) → is_some (st.pending s) ≡ true
waits_known st k s tells waits = by_pending (st.pending s) tells.1.0
  where
    by_pending : (pending : Option Pending) → k.awaits ≡ awaits_as (request_in pending) → is_some pending ≡ true
    by_pending None is = absurd (waits is)
    by_pending (Some p) is = refl
