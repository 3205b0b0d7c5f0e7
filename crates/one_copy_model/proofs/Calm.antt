-- A session comes to a point without a chain, and waits for nothing before and behind it.
use Rattle.std.proofs.Common.{◌≡◌, ◌≢◌, ℕ, ◌≤◌, Bool, true, false, List, length, sym, ap, ◌∙◌, subst}
use Rattle.std.specs.Prelude.{Option, Some, None}
use Rattle.pool_base.specs.declared.backend_id.BackendId.{BackendId}
use Rattle.schema.specs.declared.catalogue.TableDef.{TableDef}
use Rattle.backend_trait.specs.declared.answer.Answer.{Answer}
use Rattle.backend_trait.specs.Store.{Store}
use Rattle.session_machine.specs.declared.action.Cause.{Cause}
use Rattle.session_machine.specs.declared.action.Action.TheVariants as actions
use Rattle.session_orders.specs.declared.outcome.Outcome.{Outcome}
use Rattle.session_machine.specs.declared.machine.GatePhase.TheVariants as phases
use Rattle.session_machine.specs.declared.machine.Stage.TheVariants.{Closing}
use Rattle.session_machine.specs.declared.machine.Machine.{Machine}
use Rattle.session_machine.specs.declared.machine.Session.{Session}
use Rattle.session_machine.specs.declared.machine.Stage.{Stage}
use Rattle.session_machine.specs.declared.machine.Point.{Point}
use Rattle.session_machine.specs.declared.machine.Point.TheVariants.{LookDue, PostDue, Waiting, LostDue, SplitDue}
use Rattle.session_machine.specs.Rules.{action_at}
use Rattle.one_copy_model.specs.declared.deed.Entry.{Entry}
use Rattle.one_copy_model.specs.SingleRun.{store_after}
use Rattle.one_copy_model.specs.Deaths.{stage_at}
use Rattle.one_copy_model.specs.Tracking.{Told}
use Rattle.one_copy_model.specs.Orders.{OrderAt, reply_in, is_of_commit, IsClassedAt}
use Rattle.one_copy_model.specs.Standing.{Leaving, Standing, Stands, leaving_of}
use Rattle.one_copy_model.specs.Invariant.{FitsPoint, where_live, wants_of, IsUnderWay, IsStranger, inserted_in}
use Rattle.one_copy_model.specs.Own.{stand, IsIn, Own, IsRightBy}

abbrev pub IsFree : Point → Type 0
IsFree point = (stage : Stage) (b : BackendId) → point ≡ Waiting stage b → ⊥

abbrev pub is_waiting : Point → Bool
is_waiting (Waiting stage b) = true
is_waiting point = false

pub free_of : (point : Point) → is_waiting point ≡ false → IsFree point
free_of point e stage b is = let n : true ≡ false = sym (ap is_waiting is) ∙ e in cc

-- a detachment is due in a chain alone
pub none_due : (session : Session) (point : Point) (b : BackendId) (cause : Cause) → stage_at point ≡ None → action_at session point ≡ actions.Detach b cause → ⊥
none_due session (LookDue stage) b cause e f = let n : Some stage ≡ None = e in cc
none_due session (PostDue stage c) b cause e f = let n : Some stage ≡ None = e in cc
none_due session (Waiting stage c) b cause e f = let n : Some stage ≡ None = e in cc
none_due session (LostDue stage c before more) b cause e f = let n : Some stage ≡ None = e in cc
none_due session (SplitDue stage best own among more) b cause e f = let n : Some stage ≡ None = e in cc
none_due session point b cause e f = cc

commits_in : (stage : Option Stage) → stage ≡ None → is_of_commit stage ≡ true → ⊥
commits_in stage e f = let n : false ≡ true = sym (ap is_of_commit e) ∙ f in cc

no_stage : (found : Option Stage) (stage : Stage) → found ≡ None → found ≡ Some stage → ⊥
no_stage found stage e f = let n : None ≡ Some stage = sym e ∙ f in cc

pub inserts_none : (stage : Option Stage) (told : Option Answer) → stage ≡ None → inserted_in stage told ≡ None
inserts_none stage told e = ap (λ x. inserted_in x told) e

module _ (tables : List TableDef) (attached : ℕ) (history : List Entry) (here : ℕ → Store) (m : Machine) (mail : ℕ → Option Answer) (told : Option Told) (done : ℕ → Bool) (live : Bool) (s : ℕ)
    (real : IsStranger s → ⊥) (free : IsFree m.point) (n : Machine) (by : Option Told) (did : ℕ → Bool) (calm : stage_at n.point ≡ None)
    (old : Own tables attached history here m mail told done live s) where
  pub calm_own : FitsPoint (stage_at n.point) n.point n.session.gate
      → IsClassedAt tables n.point
      → ((b : ℕ) → IsIn attached b → stand n mail b ≡ stand m mail b)
      → ((written : ℕ) → n.session.gate ≡ phases.Live false written → m.session.gate ≡ phases.Live false written)
      → where_live live (wants_of n.point (stage_at n.point)) ≡ where_live live (wants_of m.point (stage_at m.point))
      → ((is : Told) (outcome : Outcome) → by ≡ Some is → reply_in n.point ≡ Some outcome → IsRightBy attached n live s history is outcome)
      → IsUnderWay n.point by
      → ((is : Told) → by ≡ Some is → OrderAt n.session n.point is)
      → ((is : Told) → by ≡ Some is → is.entries ≤ length history)
      → ((b : ℕ) (is : Told) → by ≡ Some is → is.entered ≡ true → IsIn attached b → stand n mail b ≢ Leaving → did b ≡ true)
      → Own tables attached history here n mail by did live s
  calm_own inside classed stands unchanged posts replies orders order_is since done_first = record {
    stranger = λ is. absurd (real is);
    inside = inside;
    classed = classed;
    asked = λ b p sound is. let line = old.asked b p sound is in absurd (free line.stage line.at line.waits);
    untold = old.untold;
    answer = λ b answer is. let line = (old.answer b answer is).1 in absurd (free line.stage line.at line.waits);
    in_order = λ stage is. absurd (no_stage (stage_at n.point) stage calm is);
    heard = λ b stage answer at is. absurd (no_stage (stage_at n.point) stage calm is);
    parting = λ stage best own among more is. absurd (no_stage (stage_at n.point) stage calm (ap stage_at is));
    causes = λ b cause is. absurd (none_due n.session n.point b cause calm is);
    stands = λ b at. subst (λ (x : Standing). Stands (store_after tables history) s (leaving_of tables s history) x ((here b).transaction s) ((store_after tables history).transaction s)) (sym (stands b at)) (old.stands b at);
    crossed = old.crossed;
    unchanged = λ u written is. old.unchanged u written (unchanged written is);
    closes = λ b l at is. absurd (no_stage (stage_at n.point) Closing calm is);
    reasons = λ stage is code at. absurd (no_stage (stage_at n.point) stage calm at);
    posts = old.posts ∙ sym posts;
    replies = replies;
    orders = orders;
    order_is = order_is;
    since = since;
    commits = λ b is at e f. absurd (commits_in (stage_at n.point) calm f);
    done_first = done_first;
  }
