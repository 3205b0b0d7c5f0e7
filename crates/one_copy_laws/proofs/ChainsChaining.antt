-- A chain goes on with its stage: what holds of its session holds on.
use Rattle.std.proofs.Common.{◌≡◌, ℕ, Bool, true, false, List, sym, ap, ◌∙◌, subst, inl, inr}
use Rattle.std.specs.Prelude.{Option, Some, None, is_some}
use Rattle.schema.specs.declared.catalogue.TableDef.{TableDef}
use Rattle.backend_trait.specs.declared.request.Request.{Request}
use Rattle.backend_trait.specs.declared.answer.Answer.{Answer}
use Rattle.backend_trait.specs.Store.{Store}
use Rattle.session_machine.specs.declared.action.Action.TheVariants as actions
use Rattle.session_machine.specs.declared.work.Work.{Work}
use Rattle.session_orders.specs.declared.outcome.Outcome.{Outcome}
use Rattle.session_machine.specs.declared.machine.Machine.{Machine}
use Rattle.session_machine.specs.declared.machine.Session.{Session}
use Rattle.session_machine.specs.declared.machine.Ending.TheVariants.{Replies}
use Rattle.session_machine.specs.declared.machine.Stage.{Stage}
use Rattle.session_machine.specs.declared.machine.Stage.TheVariants.{Opening, Reading, Running, Locking, Inserting, Committing, Closing, RollingBack}
use Rattle.session_machine.specs.declared.machine.Point.{Point}
use Rattle.session_machine.specs.declared.machine.Point.TheVariants.{Resting, LookDue, PostDue, Waiting, LostDue, SplitDue}
use Rattle.one_copy_model.specs.declared.deed.Entry.{Entry}
use Rattle.one_copy_model.specs.SingleRun.{store_after}
use Rattle.one_copy_model.specs.Deaths.{stage_at}
use Rattle.one_copy_model.specs.Tracking.{Told}
use Rattle.one_copy_model.specs.Orders.{OrderAt, reply_in, is_of_commit, IsClassedAt, lists}
use Rattle.one_copy_model.specs.Invariant.{IsStranger}
use Rattle.one_copy_model.specs.Standing.{standing_in, Standing, Stands, leaving_of, standing_by}
use Rattle.one_copy_model.specs.Invariant.{FitsPoint, where_live, wants_of, IsUnderWay}
use Rattle.one_copy_model.specs.Own.{told_by, stand, Own}
use Rattle.session_machine.specs.declared.action.Cause.{Cause}
use Rattle.pool_base.specs.declared.backend_id.BackendId.{BackendId}
use Rattle.session_machine.specs.Rules.{next_action, commit_outcome}
use Rattle.one_copy_model.specs.Statement.{HasCause}
use Rattle.one_copy_model.specs.Chains.{IsInOrder}
use Rattle.one_copy_laws.proofs.GateCalling.{right_moves}
use Rattle.one_copy_laws.proofs.GateFinishing.{under_way}
use Rattle.pool_base.specs.declared.backend_set.BackendSet.{BackendSet}
use Rattle.backend_trait.specs.declared.answer.Answer.TheVariants as answers
use Rattle.backend_trait.specs.Store.{Pending}
use Rattle.backend_trait.specs.Acts.{IsOf}
use Rattle.session_machine.specs.declared.machine.Heard.{Heard}
use Rattle.one_copy_model.specs.Chains.{IsParting, IsKept}
use Rattle.one_copy_model.specs.Orders.{OrderIn, IsClassedIn, IsStatement, IsCommit, reply_of_stage}
use Rattle.one_copy_model.specs.Invariant.{IsInLine, Inserts, inserting_in}
use Rattle.one_copy_model.specs.Own.{IsIn, Speaks}

-- of a point with a chain its stage says these
pub class_in : (tables : List TableDef) → (point : Point) (stage : Stage) → stage_at point ≡ Some stage → IsClassedAt tables point → IsClassedIn tables stage
class_in tables (LookDue stage) other e h = subst (IsClassedIn tables) (let same : stage ≡ other = cc in same) h
class_in tables (PostDue stage b) other e h = subst (IsClassedIn tables) (let same : stage ≡ other = cc in same) h
class_in tables (Waiting stage b) other e h = subst (IsClassedIn tables) (let same : stage ≡ other = cc in same) h
class_in tables (LostDue stage b before more) other e h = subst (IsClassedIn tables) (let same : stage ≡ other = cc in same) h
class_in tables (SplitDue stage best own among more) other e h = subst (IsClassedIn tables) (let same : stage ≡ other = cc in same) h
class_in tables point other e h = absurd (let z : None ≡ Some other = e in cc)

pub class_at : (tables : List TableDef) → (point : Point) (stage : Stage) → stage_at point ≡ Some stage → IsClassedIn tables stage → IsClassedAt tables point
class_at tables (LookDue stage) other e h = subst (IsClassedIn tables) (let same : other ≡ stage = cc in same) h
class_at tables (PostDue stage b) other e h = subst (IsClassedIn tables) (let same : other ≡ stage = cc in same) h
class_at tables (Waiting stage b) other e h = subst (IsClassedIn tables) (let same : other ≡ stage = cc in same) h
class_at tables (LostDue stage b before more) other e h = subst (IsClassedIn tables) (let same : other ≡ stage = cc in same) h
class_at tables (SplitDue stage best own among more) other e h = subst (IsClassedIn tables) (let same : other ≡ stage = cc in same) h
class_at tables point other e h = absurd (let z : None ≡ Some other = e in cc)

pub order_in : (session : Session) (point : Point) (stage : Stage) (told : Told) → stage_at point ≡ Some stage → OrderAt session point told → OrderIn session stage told
order_in session (LookDue stage) other told e h = subst (λ x. OrderIn session x told) (let same : stage ≡ other = cc in same) h
order_in session (PostDue stage b) other told e h = subst (λ x. OrderIn session x told) (let same : stage ≡ other = cc in same) h
order_in session (Waiting stage b) other told e h = subst (λ x. OrderIn session x told) (let same : stage ≡ other = cc in same) h
order_in session (LostDue stage b before more) other told e h = subst (λ x. OrderIn session x told) (let same : stage ≡ other = cc in same) h
order_in session (SplitDue stage best own among more) other told e h = subst (λ x. OrderIn session x told) (let same : stage ≡ other = cc in same) h
order_in session point other told e h = absurd (let z : None ≡ Some other = e in cc)

pub order_at : (session : Session) (point : Point) (stage : Stage) (told : Told) → stage_at point ≡ Some stage → OrderIn session stage told → OrderAt session point told
order_at session (LookDue stage) other told e h = subst (λ x. OrderIn session x told) (let same : other ≡ stage = cc in same) h
order_at session (PostDue stage b) other told e h = subst (λ x. OrderIn session x told) (let same : other ≡ stage = cc in same) h
order_at session (Waiting stage b) other told e h = subst (λ x. OrderIn session x told) (let same : other ≡ stage = cc in same) h
order_at session (LostDue stage b before more) other told e h = subst (λ x. OrderIn session x told) (let same : other ≡ stage = cc in same) h
order_at session (SplitDue stage best own among more) other told e h = subst (λ x. OrderIn session x told) (let same : other ≡ stage = cc in same) h
order_at session point other told e h = absurd (let z : None ≡ Some other = e in cc)

stated : (m n : Session) (told : Told) (work : Work) → n.status ≡ m.status → IsStatement m told work → IsStatement n told work
stated m n told work same h = record { checked = h.checked; body = h.body; written = h.written; status = same ∙ h.status }

committed : (m n : Session) (told : Told) → n.status ≡ m.status → IsCommit m told → IsCommit n told
committed m n told same h = record { body = h.body; status = same ∙ h.status; begun = h.begun }

pub order_moves : (m n : Session) (stage : Stage) (told : Told) → n.status ≡ m.status → OrderIn m stage told → OrderIn n stage told
order_moves m n (Opening work) told same h = stated m n told work same h
order_moves m n (Reading work ticket) told same h = stated m n told work same h
order_moves m n (Running work) told same h = stated m n told work same h
order_moves m n (Locking work table) told same h = stated m n told work same h
order_moves m n (Inserting work posted) told same h = stated m n told work same h
order_moves m n Committing told same h = committed m n told same h
order_moves m n Closing told same h = committed m n told same h
order_moves m n (RollingBack ending) told same h = h

pub reply_is : (point : Point) (stage : Stage) → stage_at point ≡ Some stage → reply_in point ≡ reply_of_stage stage
reply_is (LookDue stage) other e = ap reply_of_stage (let same : stage ≡ other = cc in same)
reply_is (PostDue stage b) other e = ap reply_of_stage (let same : stage ≡ other = cc in same)
reply_is (Waiting stage b) other e = ap reply_of_stage (let same : stage ≡ other = cc in same)
reply_is (LostDue stage b before more) other e = ap reply_of_stage (let same : stage ≡ other = cc in same)
reply_is (SplitDue stage best own among more) other e = ap reply_of_stage (let same : stage ≡ other = cc in same)
reply_is point other e = absurd (let z : None ≡ Some other = e in cc)

pub way_is : (point : Point) (stage : Stage) (told : Option Told) → stage_at point ≡ Some stage → is_some told ≡ true → IsUnderWay point told
way_is (LookDue stage) other told e h = h
way_is (PostDue stage b) other told e h = h
way_is (Waiting stage b) other told e h = h
way_is (LostDue stage b before more) other told e h = h
way_is (SplitDue stage best own among more) other told e h = h
way_is point other told e h = absurd (let z : None ≡ Some other = e in cc)

pub unlisted_in : (tables : List TableDef) → (stage : Stage) (outcome : Outcome) → IsClassedIn tables stage → reply_of_stage stage ≡ Some outcome → lists outcome ≡ false
unlisted_in tables (RollingBack (Replies other)) outcome e f = ap lists (let z : Some other ≡ Some outcome = f in let same : outcome ≡ other = cc in same) ∙ e
unlisted_in tables stage outcome e f = absurd (let z : None ≡ Some outcome = f in cc)

-- of one stage, it inserts what it did
pub inserts_same : (m n : Machine) (stage : Stage) → stage_at m.point ≡ Some stage → stage_at n.point ≡ Some stage → (table : ℕ) → Inserts n table → Inserts m table
inserts_same m n stage at next table i = record { work = i.work; inserting = ap inserting_in (at ∙ sym next) ∙ i.inserting; at = i.at }

stage_rests : (point : Point) (stage : Stage) → stage_at point ≡ Some stage → point ≡ Resting → ⊥
stage_rests point stage e is = let z : None ≡ Some stage = sym (ap stage_at is) ∙ e in cc

module _ (tables : List TableDef) (attached : ℕ) (history : List Entry) (here : ℕ → Store) (m : Machine) (mail post : ℕ → Option Answer) (told : Option Told) (done : ℕ → Bool) (live : Bool) (s : ℕ)
    (real : IsStranger s → ⊥) (old : Own tables attached history here m mail told done live s)
    (n : Machine) (stage : Stage) (at : stage_at m.point ≡ Some stage) (next : stage_at n.point ≡ Some stage)
    (gate : n.session.gate ≡ m.session.gate) (status : n.session.status ≡ m.session.status)
    (same_told : (b : ℕ) → told_by n post b ≡ told_by m mail b) where
  pub stand_same : (b : ℕ) → stand n post b ≡ stand m mail b
  stand_same b =
      ap (λ x. standing_by n.session.gate n.point x (told_by n post b)) next
      ∙ ap (standing_in stage) (same_told b)
      ∙ sym (ap (λ x. standing_by m.session.gate m.point x (told_by m mail b)) at)

  stages_same : (x : Stage) → stage_at n.point ≡ Some x → stage_at m.point ≡ Some x
  stages_same x e = at ∙ sym next ∙ e

  pub chain_own : ((b : ℕ) (p : Pending) → (here b).lost ≡ false → (here b).pending s ≡ Some p → IsInLine n b p.request)
      → ((b : ℕ) (p : Pending) → (here b).pending s ≡ Some p → post b ≡ None)
      → ((b : ℕ) (answer : Answer) → post b ≡ Some answer → (request : Request) × IsInLine n b request × IsOf request answer)
      → IsInOrder attached n stage
      → ((x : Stage) (best own : Heard) (among : BackendSet) (more : Bool) → n.point ≡ SplitDue x best own among more → IsParting attached n best own among more)
      → ((b : BackendId) (cause : Cause) → next_action n ≡ actions.Detach b cause → HasCause n b cause)
      → ((answer : Answer) → IsKept n.point answer → ((b : ℕ) × IsIn attached b) → Speaks attached m mail answer)
      → Own tables attached history here n post told done live s
  chain_own asked untold answer in_order parting causes kept = record {
    stranger = λ is. absurd (real is);
    inside = subst (λ x. FitsPoint x n.point n.session.gate) (sym next) (subst (λ g. FitsPoint (Some stage) n.point g) (sym gate) (by_stage (stage_at m.point) at old.inside));
    classed = class_at tables n.point stage next (class_in tables m.point stage at old.classed);
    asked = asked;
    untold = untold;
    answer = answer;
    in_order = λ x e. subst (IsInOrder attached n) (let same : stage ≡ x = (let z : Some stage ≡ Some x = sym next ∙ e in cc) in same) in_order;
    heard = λ b x answer in_it e says. old.heard b x answer in_it (stages_same x e) (sym (same_told b) ∙ says);
    parting = parting;
    causes = causes;
    stands = λ b in_it. subst (λ (x : Standing). Stands (store_after tables history) s (leaving_of tables s history) x ((here b).transaction s) ((store_after tables history).transaction s)) (sym (stand_same b)) (old.stands b in_it);
    crossed = old.crossed;
    unchanged = λ u written e. old.unchanged u written (sym gate ∙ e);
    closes = λ b l in_it e. old.closes b l in_it (stages_same Closing e);
    reasons = λ x by code e is says. old.reasons x by code (stages_same x e) is (elim says [
      | inl y ↦ inl (y.0, y.1, sym (same_told y.0) ∙ y.2)
      | inr y ↦ kept (answers.Refused code) y.0 y.1
    ]);
    posts = old.posts ∙ ap (λ x. where_live live (wants_of m.point x)) at ∙ sym (ap (λ x. where_live live (wants_of n.point x)) next);
    replies = λ by outcome e f.
        let r : reply_of_stage stage ≡ Some outcome = sym (reply_is n.point stage next) ∙ f in
        right_moves attached m n live s history by outcome (unlisted_in tables stage outcome (class_in tables m.point stage at old.classed) r) (old.replies by outcome e (reply_is m.point stage at ∙ r));
    orders = way_is n.point stage told next (under_way m.point told (stage_rests m.point stage at) old.orders);
    order_is = λ by e. order_at n.session n.point stage by next (order_moves m.session n.session stage by status (order_in m.session m.point stage by at (old.order_is by e)));
    since = old.since;
    commits = λ b by in_it e f. old.commits b by in_it e (ap is_of_commit at ∙ sym (ap is_of_commit next) ∙ f) ∙ ap (λ x. Some (commit_outcome x)) (sym status);
    done_first = λ b by e entered in_it f. old.done_first b by e entered in_it (λ x. f (stand_same b ∙ x));
  }
    where
      by_stage : (found : Option Stage) → found ≡ Some stage → FitsPoint found m.point m.session.gate → FitsPoint (Some stage) n.point m.session.gate
      by_stage (Some x) e f = subst (λ y. FitsPoint (Some y) n.point m.session.gate) (let same : x ≡ stage = cc in same) f
      by_stage None e f = absurd (let z : None ≡ Some stage = e in cc)
