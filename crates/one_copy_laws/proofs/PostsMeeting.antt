-- A post that is due at an attached backend meets its store's condition: nothing has been answered there in the chain, so the transaction
-- stands there as before it.
use Rattle.std.proofs.Common.{◌≡◌, ℕ, Bool, true, false, List, [], ◌∷◌, refl, sym, ap, ◌∙◌, subst}
use Rattle.std.specs.Prelude.{Option, Some, None, is_some, if◌then◌else◌, ◌||◌}
use Rattle.pool_base.specs.declared.backend_id.BackendId.{BackendId}
use Rattle.schema.specs.declared.catalogue.TableDef.{TableDef}
use Rattle.catalogue.specs.declared.checked.CheckedBody.{CheckedBody}
use Rattle.catalogue.specs.declared.checked.CheckedBody.TheVariants as body
use Rattle.classifier.specs.declared.class.Class.TheVariants as class
use Rattle.classifier.specs.Classes.{has_serial, locked, lock_of}
use Rattle.backend_trait.specs.declared.request.Request.{Request}
use Rattle.backend_trait.specs.declared.request.Request.TheVariants as requests
use Rattle.backend_trait.specs.declared.answer.Answer.{Answer}
use Rattle.backend_trait.specs.Effect.{both_wants}
use Rattle.backend_trait.specs.Runnable.{IsRunnable}
use Rattle.backend_trait.specs.Store.{Live, Transaction, Alive, Pending, Store, WhereLive, IsLocked, MayPost, MayRunIn, table_lock, where_live}
use Rattle.session_machine.specs.declared.action.Action.TheVariants as actions
use Rattle.session_machine.specs.declared.work.Verb.TheVariants as verbs
use Rattle.session_machine.specs.declared.work.Class.TheVariants as classes
use Rattle.session_machine.specs.declared.work.Work.{Work}
use Rattle.session_machine.specs.declared.machine.Machine.{Machine}
use Rattle.session_machine.specs.declared.machine.Session.{Session}
use Rattle.session_machine.specs.declared.machine.Stage.{Stage}
use Rattle.session_machine.specs.declared.machine.Stage.TheVariants.{Opening, Reading, Running, Locking, Inserting, Committing, Closing, RollingBack}
use Rattle.session_machine.specs.declared.machine.Point.{Point}
use Rattle.session_machine.specs.declared.machine.Point.TheVariants.{PostDue}
use Rattle.session_machine.specs.Classes.{class_in}
use Rattle.session_machine.specs.Rules.{action_at, request_of}
use Rattle.one_copy_model.specs.Places.{asks_as, asks_of}
use Rattle.one_copy_model.specs.Deaths.{is_live, stage_at, heard_from, mail_or, answer_from}
use Rattle.one_copy_model.specs.Tracking.{Tracked, single}
use Rattle.one_copy_model.specs.Chains.{asked_in}
use Rattle.one_copy_model.specs.Orders.{IsClassed, IsClassedIn, IsClassedAt}
use Rattle.one_copy_model.specs.Standing.{Standing, Stands, Alike, ahead_by, standing_in, standing_by, leaving_of}
use Rattle.one_copy_model.specs.Invariant.{Invariant, IsHere, IsInLine}
use Rattle.one_copy_model.proofs.Calm.{free_of, is_waiting}
use Rattle.one_copy_model.proofs.Made.{ahead_made}
use Rattle.one_copy_laws.proofs.ActsRunning.{runs_plain, itself}
use Rattle.one_copy_laws.proofs.ChainsTaking.{none_below}
use Rattle.one_copy_laws.proofs.MarksWanting.{unlocked}
use Rattle.one_copy_laws.specs.Posts.{MeetsPost, PostsMeet, AreAwaited, awaited_at}

-- The lock of an INSERT that takes a number is that of its table.

read_serial : (v : Bool) (table : ℕ) → (if v then classes.LockingRead else classes.Read) ≡ classes.SerialInsert table → ⊥
read_serial true table e = cc
read_serial false table e = cc

insert_locked : (v : Bool) (own table : ℕ) → (if v then classes.SerialInsert own else classes.Write verbs.Insert) ≡ classes.SerialInsert table
    → locked (if v then class.SerialInsert else class.Write) (Some own) ≡ Some table
insert_locked true own table e = let same : own ≡ table = cc in ap Some same
insert_locked false own table e = absurd (cc)

serial_locked : (b : CheckedBody) (table : ℕ) → class_in b ≡ classes.SerialInsert table → lock_of b ≡ Some table
serial_locked (body.Read read) table e = absurd (read_serial read.for_update table e)
serial_locked (body.Insert insert) table e = insert_locked (has_serial insert.rows) insert.table table e
serial_locked (body.Change change) table e = absurd (cc)
serial_locked (body.Remove remove) table e = absurd (cc)

-- Who stands here as there is live here.

where_alike : (P : Live → Type 0) (here there : Transaction) → Alike here there → ((u : Live) → P u) → WhereLive here P
where_alike P (Alive u) (Alive k) alike all = all u
where_alike P here there alike all = absurd alike

where_live_all : (P : Live → Type 0) (here : Transaction) → is_live here ≡ true → ((u : Live) → P u) → WhereLive here P
where_live_all P (Alive u) live all = all u
where_live_all P here live all = absurd (let z : false ≡ true = live in cc)

abbrev with_lock : ℕ → Live → Live
with_lock table k = record k { held = both_wants (table_lock table) k.held }

has_lock : (table : ℕ) (here there : Transaction) → Alike here (where_live (with_lock table) there) → WhereLive here (λ u. u.held.tables table ≡ true)
has_lock table (Alive u) (Alive k) alike = ap (λ w. w.tables table) alike.2 ∙ ap (λ v. v || k.held.tables table) (itself table)
has_lock table here there alike = absurd alike

where_more : (P Q : Live → Type 0) (here : Transaction) → WhereLive here P → ((u : Live) → P u → Q u) → WhereLive here Q
where_more P Q (Alive u) h more = more u h
where_more P Q here h more = h

pub post_due : (session : Session) (point : Point) (b : BackendId) (request : Request) → action_at session point ≡ actions.Post b request
    → (stage : Stage) × (point ≡ PostDue stage b) × (request ≡ request_of stage)
post_due session (PostDue stage c) b request e = (
  stage,
  ap (PostDue stage) (let same : c ≡ b = cc in same),
  (let same : request ≡ request_of stage = cc in same),
)
post_due session point b request e = absurd (cc)

module _ (t : Tracked) (h : Invariant t) (a : AreAwaited t.world) (s : ℕ) (b : BackendId) (stage : Stage)
    (at : (t.world.machine s).point ≡ PostDue stage b) (in_it : IsHere t.world b.number) where
  abbrev m : Machine
  m = t.world.machine s

  abbrev store : Store
  store = t.world.store b.number

  no_mail : (found : Option Answer) → t.world.mail s b.number ≡ found → found ≡ None
  no_mail None e = refl
  no_mail (Some answer) e =
      let line : IsInLine m b.number _ = ((h.line s b.number).told answer e).1 in
      absurd (free_of m.point (ap is_waiting at) line.stage line.at line.waits)

  silent : answer_from t.world s b.number ≡ None
  silent =
      ap (λ (x : Option Answer). mail_or x (heard_from m.session.heard b.number)) (no_mail (t.world.mail s b.number) refl)
      ∙ none_below b.number m.session.heard ((h.in_order s stage (ap stage_at at)).above b.number (ap asked_in at))

  stands : (x : Stage) → stage ≡ x
      → Stands (single t) s (leaving_of t.world.tables s t.history) (standing_in x None) (store.transaction s) ((single t).transaction s)
  stands x is =
      subst (λ (y : Standing). Stands (single t) s (leaving_of t.world.tables s t.history) y (store.transaction s) ((single t).transaction s))
      (ap (λ (p : Point). standing_by m.session.gate p (stage_at p) (answer_from t.world s b.number)) at
      ∙ ap (standing_in stage) silent ∙ ap (λ (y : Stage). standing_in y None) is)
      (h.stands s b.number in_it)

  classed : (x : Stage) → stage ≡ x → IsClassedIn t.world.tables x
  classed x is = subst (IsClassedIn t.world.tables) is (subst (IsClassedAt t.world.tables) at (h.classed s))

  runnable : (work : Work) → IsClassed t.world.tables work → IsRunnable store.tables work.statement
  runnable work c = subst (λ (ts : List TableDef). IsRunnable ts work.statement) (sym (h.tables b.number)) c.runnable

  runs : (work : Work) → IsClassed t.world.tables work → lock_of work.statement.body ≡ None
      → Alike (store.transaction s) ((single t).transaction s) → MayPost store s (requests.Run work.statement)
  runs work c plain alike =
      where_alike (MayRunIn store work.statement) (store.transaction s) ((single t).transaction s) alike
      (λ u. (runnable work c, subst (IsLocked u.held) (sym plain) tt))

  -- behind its lock
  inserts : (work : Work) (table : ℕ) → IsClassed t.world.tables work → work.class ≡ classes.SerialInsert table
      → Alike (store.transaction s) (ahead_by (single t) s (asks_of work ∷ []) ((single t).transaction s)) → MayPost store s (requests.Run work.statement)
  inserts work table c is alike =
      let ahead : ahead_by (single t) s (asks_of work ∷ []) ((single t).transaction s) ≡ where_live (with_lock table) ((single t).transaction s) =
      ap (λ (r : Request). ahead_by (single t) s (r ∷ []) ((single t).transaction s)) (ap (asks_as work.statement) is)
      ∙ ahead_made (single t) s (requests.Lock table ∷ []) ((single t).transaction s) in
      where_more (λ u. u.held.tables table ≡ true) (MayRunIn store work.statement) (store.transaction s)
      (has_lock table (store.transaction s) ((single t).transaction s) (subst (Alike (store.transaction s)) ahead alike))
      (λ u has. (runnable work c, subst (IsLocked u.held) (sym (serial_locked work.statement.body table (sym c.class ∙ is))) has))

  may : (x : Stage) → stage ≡ x → MayPost store s (request_of x)
  may (Opening work) is = (stands (Opening work) is).0
  may (Reading work ticket) is =
      let c = classed (Reading work ticket) is in
      runs work c.0 (unlocked t.world.tables work classes.Read c.0 c.1 refl) (stands (Reading work ticket) is)
  may (Running work) is =
      let c = classed (Running work) is in
      runs work c.0 (runs_plain t.world.tables work work.class c.0 refl c.1) (stands (Running work) is)
  may (Locking work table) is =
      where_alike (λ u. Unit {0}) (store.transaction s) ((single t).transaction s) (stands (Locking work table) is) (λ u. tt)
  may (Inserting work posted) is =
      let c = classed (Inserting work posted) is in
      inserts work c.1.0 c.0 c.1.1 (stands (Inserting work posted) is)
  may Committing is =
      where_alike (λ u. Unit {0}) (store.transaction s) (leaving_of t.world.tables s t.history) (stands Committing is).0 (λ u. tt)
  may Closing is = where_live_all (λ u. Unit {0}) (store.transaction s) ((a s).closing b.number in_it (ap stage_at at ∙ ap Some is) silent) (λ u. tt)
  may (RollingBack ending) is = tt

  empty : (found : Option Pending) → store.pending s ≡ found → found ≡ None
  empty None e = refl
  empty (Some p) e = absurd (let z : None ≡ Some b.number = sym (ap awaited_at at) ∙ (a s).waiting b.number in_it (ap is_some e) in cc)

  meets : MeetsPost store s (request_of stage)
  meets = record { may = may stage refl; free = empty (store.pending s) refl }

pub posts_met : (t : Tracked) → Invariant t → AreAwaited t.world → PostsMeet t.world
posts_met t h a s b request due in_it =
    let d = post_due (t.world.machine s).session (t.world.machine s).point b request due in
    subst (MeetsPost (t.world.store b.number) s) (sym d.2) (meets t h a s b d.0 d.1 in_it)
