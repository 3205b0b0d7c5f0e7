-- A session that waits for nothing comes to a point at which nothing has been answered: at rest, at the gate, or at a chain's begin.
use Rattle.std.proofs.Common.{◌≡◌, ◌≢◌, ℕ, ◌≤◌, Bool, true, false, List, [], length, refl, sym, ap, ◌∙◌, subst, inl, inr}
use Rattle.std.specs.Prelude.{is_some, Option, Some, None}
use Rattle.pool_base.specs.declared.backend_id.BackendId.{BackendId}
use Rattle.schema.specs.declared.catalogue.TableDef.{TableDef}
use Rattle.backend_trait.specs.declared.answer.Answer.{Answer}
use Rattle.backend_trait.specs.declared.answer.Answer.TheVariants as answers
use Rattle.backend_trait.specs.Store.{Live, Alive, Store}
use Rattle.backend_trait.specs.Rows.{no_changes}
use Rattle.session_machine.specs.declared.action.Cause.{Cause}
use Rattle.session_machine.specs.declared.action.Action.TheVariants as actions
use Rattle.session_orders.specs.declared.outcome.Outcome.{Outcome}
use Rattle.session_machine.specs.declared.machine.GatePhase.TheVariants as phases
use Rattle.session_machine.specs.declared.machine.Stage.TheVariants.{Closing}
use Rattle.session_machine.specs.declared.machine.Machine.{Machine}
use Rattle.session_machine.specs.declared.machine.Session.{Session}
use Rattle.session_machine.specs.declared.machine.Stage.{Stage}
use Rattle.session_machine.specs.declared.machine.Point.{Point}
use Rattle.session_machine.specs.declared.machine.Point.TheVariants.{LookDue, Waiting, LostDue, SplitDue}
use Rattle.session_machine.specs.Rules.{action_at, next_action, commit_outcome}
use Rattle.one_copy_model.specs.Statement.{HasCause}
use Rattle.one_copy_model.specs.declared.deed.Entry.{Entry}
use Rattle.one_copy_model.specs.SingleRun.{store_after}
use Rattle.one_copy_model.specs.Deaths.{stage_at, heard_from, mail_or}
use Rattle.one_copy_model.specs.Tracking.{Told}
use Rattle.one_copy_model.specs.Chains.{IsInOrder, IsRising, IsKept, HasOne, asked_in}
use Rattle.session_machine.specs.declared.machine.Heard.{Heard}
use Rattle.pool_base.specs.declared.backend_set.BackendSet.{BackendSet}
use Rattle.one_copy_model.specs.Orders.{OrderAt, reply_in, is_of_commit, IsClassedAt}
use Rattle.one_copy_model.specs.Standing.{Leaving, Stands, leaving_of}
use Rattle.one_copy_model.specs.Invariant.{FitsPoint, where_live, wants_of, IsUnderWay, IsStranger, request_in}
use Rattle.one_copy_model.specs.Own.{told_by, stand, IsIn, Own, IsRightBy, given_by}
use Rattle.one_copy_model.proofs.Calm.{IsFree}

abbrev pub is_plain : Point → Bool
is_plain (Waiting stage b) = false
is_plain (LostDue stage b before more) = false
is_plain (SplitDue stage best own among more) = false
is_plain point = true

-- at a plain point nobody is detached, and no answer is kept
abbrev pub is_split : Point → Bool
is_split (SplitDue stage best own among more) = true
is_split point = false

unsplit_splits : (point : Point) (stage : Stage) (best own : Heard) (among : BackendSet) (more : Bool) → is_split point ≡ false → point ≡ SplitDue stage best own among more → ⊥
unsplit_splits point stage best own among more e is = let n : true ≡ false = sym (ap is_split is) ∙ e in cc

pub plain_unsplit : (point : Point) → is_plain point ≡ true → is_split point ≡ false
plain_unsplit (SplitDue stage best own among more) e = absurd (let n : false ≡ true = e in cc)
plain_unsplit point e = refl

pub plain_causes : (session : Session) (point : Point) (b : BackendId) (cause : Cause) → is_plain point ≡ true → action_at session point ≡ actions.Detach b cause → ⊥
plain_causes session (LostDue stage c before more) b cause e f = let n : false ≡ true = e in cc
plain_causes session (SplitDue stage best own among more) b cause e f = let n : false ≡ true = e in cc
plain_causes session point b cause e f = cc

unsplit_kept : (point : Point) (answer : Answer) → is_split point ≡ false → IsKept point answer → ⊥
unsplit_kept (SplitDue stage best own among more) answer e f = let n : true ≡ false = e in cc
unsplit_kept point answer e f = f

none_says : (found : Option Answer) (answer : Answer) → found ≡ None → found ≡ Some answer → ⊥
none_says found answer e f = let n : None ≡ Some answer = sym e ∙ f in cc

some_or_none : (x : Option Answer) → ((answer : Answer) → x ≡ Some answer → ⊥) → x ≡ None
some_or_none None h = refl
some_or_none (Some answer) h = absurd (h answer refl)

pub none_one : (asked : Option ℕ) → HasOne asked []
none_one None = tt
none_one (Some b) = refl

-- who is not asked any more
pub one_unasked : (asked : Option ℕ) (heard : List Heard) → HasOne asked heard → HasOne None heard
one_unasked None heard h = h
one_unasked (Some b) heard h = subst (HasOne None) (sym h) tt

-- where nobody has answered, and nobody is asked
pub fresh_order : (attached : ℕ) (n : Machine) (stage : Stage) → n.session.heard ≡ [] → asked_in n.point ≡ None → IsInOrder attached n stage
fresh_order attached n stage none unasked = record {
  rising = subst IsRising (sym none) tt;
  above = λ b e. absurd (let x : None ≡ Some b = sym unasked ∙ e in cc);
  below = λ b c up in_it under told. elim told [
    | inl e ↦ absurd (let x : None ≡ Some c = sym unasked ∙ e in cc)
    | inr e ↦ absurd (let x : false ≡ true = sym (ap (λ (hs : List Heard). is_some (heard_from hs c)) none) ∙ e in cc)
  ];
  one = λ single. subst (HasOne (asked_in n.point)) (sym none) (none_one (asked_in n.point));
}

-- of a chain that begins nobody has answered
pub begun_order : (attached : ℕ) (session : Session) (stage at : Stage) → session.heard ≡ [] → IsInOrder attached (record { session = session; point = LookDue at }) stage
begun_order attached session stage at none = record {
  rising = subst IsRising (sym none) tt;
  above = λ b e. absurd (let n : None ≡ Some b = e in cc);
  below = λ b c up in_it under told. elim told [
    | inl e ↦ absurd (let n : None ≡ Some c = e in cc)
    | inr e ↦ absurd (let n : false ≡ true = sym (ap (λ (hs : List Heard). is_some (heard_from hs c)) none) ∙ e in cc)
  ];
  one = λ single. subst (HasOne None) (sym none) tt;
}

module _ (tables : List TableDef) (attached : ℕ) (history mid : List Entry) (here : ℕ → Store) (m : Machine) (mail : ℕ → Option Answer) (told : Option Told) (done : ℕ → Bool) (live : Bool) (s : ℕ)
    (real : IsStranger s → ⊥) (free : IsFree m.point) (old : Own tables attached history here m mail told done live s) where
  pub no_mail : (b : ℕ) → mail b ≡ None
  no_mail b = some_or_none (mail b) (λ answer is. let line = (old.answer b answer is).1 in free line.stage line.at line.waits)

  pub none_told : (n : Machine) → n.session.heard ≡ [] → (b : ℕ) → told_by n mail b ≡ None
  none_told n none b = ap (λ (x : Option Answer). mail_or x (heard_from n.session.heard b)) (no_mail b) ∙ ap (λ (hs : List Heard). heard_from hs b) none

  pub free_own_with : (n : Machine) (by : Option Told) (did : ℕ → Bool) (more : Bool) → is_split n.point ≡ false
      → ((b : BackendId) (cause : Cause) → next_action n ≡ actions.Detach b cause → HasCause n b cause)
      → FitsPoint (stage_at n.point) n.point n.session.gate
      → IsClassedAt tables n.point
      → ((stage : Stage) → stage_at n.point ≡ Some stage → IsInOrder attached n stage)
      → ((b : ℕ) (stage : Stage) → IsIn attached b → stage_at n.point ≡ Some stage → told_by n mail b ≡ None)
      → ((b : ℕ) → IsIn attached b → Stands (store_after tables mid) s (leaving_of tables s mid) (stand n mail b) ((here b).transaction s) ((store_after tables mid).transaction s))
      → ((u : Live) (written : ℕ) → n.session.gate ≡ phases.Live false written → (store_after tables mid).transaction s ≡ Alive u → u.changes ≡ no_changes)
      → ((b : ℕ) (l : Live) → IsIn attached b → stage_at n.point ≡ Some Closing → (here b).transaction s ≡ Alive l → l.changes ≡ no_changes)
      → request_in ((store_after tables mid).pending s) ≡ where_live more (wants_of n.point (stage_at n.point))
      → ((is : Told) (outcome : Outcome) → by ≡ Some is → reply_in n.point ≡ Some outcome → IsRightBy attached n more s mid is outcome)
      → IsUnderWay n.point by
      → ((is : Told) → by ≡ Some is → OrderAt n.session n.point is)
      → ((is : Told) → by ≡ Some is → is.entries ≤ length mid)
      → ((b : ℕ) (is : Told) → IsIn attached b → by ≡ Some is → is_of_commit (stage_at n.point) ≡ true → given_by s is mid ≡ Some (commit_outcome n.session.status))
      → ((b : ℕ) (is : Told) → by ≡ Some is → is.entered ≡ true → IsIn attached b → stand n mail b ≢ Leaving → did b ≡ true)
      → Own tables attached mid here n mail by did more s
  free_own_with n by did more unsplit causes inside classed in_order untold stands unchanged closes posts replies orders order_is since commits done_first = record {
    stranger = λ is. absurd (real is);
    inside = inside;
    classed = classed;
    asked = λ b p sound is. let line = old.asked b p sound is in absurd (free line.stage line.at line.waits);
    untold = old.untold;
    answer = λ b answer is. let line = (old.answer b answer is).1 in absurd (free line.stage line.at line.waits);
    in_order = in_order;
    heard = λ b stage answer at is says. absurd (none_says (told_by n mail b) answer (untold b stage at is) says);
    parting = λ stage best own among more is. absurd (unsplit_splits n.point stage best own among more unsplit is);
    causes = causes;
    stands = stands;
    crossed = λ b p q at sound is there e. let line = old.asked b p sound is in absurd (free line.stage line.at line.waits);
    unchanged = unchanged;
    closes = closes;
    reasons = λ stage is code at e says. absurd (elim says [
      | inl x ↦ none_says (told_by n mail x.0) (answers.Refused code) (untold x.0 stage x.1 at) x.2
      | inr kept ↦ unsplit_kept n.point (answers.Refused code) unsplit kept.0
    ]);
    posts = posts;
    replies = replies;
    orders = orders;
    order_is = order_is;
    since = since;
    commits = commits;
    done_first = done_first;
  }

  pub free_own : (n : Machine) (by : Option Told) (did : ℕ → Bool) (more : Bool) → is_plain n.point ≡ true
      → FitsPoint (stage_at n.point) n.point n.session.gate
      → IsClassedAt tables n.point
      → ((stage : Stage) → stage_at n.point ≡ Some stage → IsInOrder attached n stage)
      → ((b : ℕ) (stage : Stage) → IsIn attached b → stage_at n.point ≡ Some stage → told_by n mail b ≡ None)
      → ((b : ℕ) → IsIn attached b → Stands (store_after tables mid) s (leaving_of tables s mid) (stand n mail b) ((here b).transaction s) ((store_after tables mid).transaction s))
      → ((u : Live) (written : ℕ) → n.session.gate ≡ phases.Live false written → (store_after tables mid).transaction s ≡ Alive u → u.changes ≡ no_changes)
      → ((b : ℕ) (l : Live) → IsIn attached b → stage_at n.point ≡ Some Closing → (here b).transaction s ≡ Alive l → l.changes ≡ no_changes)
      → request_in ((store_after tables mid).pending s) ≡ where_live more (wants_of n.point (stage_at n.point))
      → ((is : Told) (outcome : Outcome) → by ≡ Some is → reply_in n.point ≡ Some outcome → IsRightBy attached n more s mid is outcome)
      → IsUnderWay n.point by
      → ((is : Told) → by ≡ Some is → OrderAt n.session n.point is)
      → ((is : Told) → by ≡ Some is → is.entries ≤ length mid)
      → ((b : ℕ) (is : Told) → IsIn attached b → by ≡ Some is → is_of_commit (stage_at n.point) ≡ true → given_by s is mid ≡ Some (commit_outcome n.session.status))
      → ((b : ℕ) (is : Told) → by ≡ Some is → is.entered ≡ true → IsIn attached b → stand n mail b ≢ Leaving → did b ≡ true)
      → Own tables attached mid here n mail by did more s
  free_own n by did more plain inside classed in_order untold stands unchanged closes posts replies orders order_is since commits done_first =
      free_own_with n by did more (plain_unsplit n.point plain) (λ b cause is. absurd (plain_causes n.session n.point b cause plain is))
      inside classed in_order untold stands unchanged closes posts replies orders order_is since commits done_first
