-- Who is live in the single run and alive at no attached backend has fallen at each: what holds of it holds on behind its death.
use Rattle.std.proofs.Common.{◌≡◌, ◌≢◌, ℕ, ◌≤◌, Bool, true, false, List, [], ◌∷◌, length, refl, sym, ap, ◌∙◌, subst, inl, inr, le_trans}
use Rattle.std.specs.Prelude.{◌==◌, Option, Some, None, if◌then◌else◌}
use Rattle.std.proofs.lemmas.Bool.Decides.{eqb_tells}
use Rattle.pool_base.specs.declared.code.Code.{Code}
use Rattle.schema.specs.declared.catalogue.TableDef.{TableDef}
use Rattle.backend_trait.specs.declared.request.Request.{Request}
use Rattle.backend_trait.specs.declared.answer.Answer.{Answer}
use Rattle.backend_trait.specs.declared.answer.Answer.TheVariants as answers
use Rattle.backend_trait.specs.Acts.{IsOf}
use Rattle.backend_trait.specs.Store.{Live, Transaction, Absent, Alive, Dead, Store, is_refusal}
use Rattle.session_machine.specs.declared.machine.GatePhase.{GatePhase}
use Rattle.session_machine.specs.declared.machine.GatePhase.TheVariants as phases
use Rattle.session_machine.specs.declared.machine.Machine.{Machine}
use Rattle.session_machine.specs.declared.machine.Stage.{Stage}
use Rattle.session_machine.specs.declared.machine.Stage.TheVariants.{Opening, Reading, Running, Locking, Inserting, Committing, Closing, RollingBack}
use Rattle.session_machine.specs.declared.machine.Point.{Point}
use Rattle.session_machine.specs.declared.machine.Point.TheVariants.{LeaveSnapshotDue, UnwindDue, LeaveCommitDue, FinishDue}
use Rattle.session_machine.specs.Rules.{request_of}
use Rattle.one_copy_model.specs.declared.deed.Deed.TheVariants.{Falls}
use Rattle.one_copy_model.specs.declared.deed.Entry.{Entry}
use Rattle.one_copy_model.specs.SingleRun.{store_after}
use Rattle.one_copy_model.specs.World.{World}
use Rattle.one_copy_model.specs.Deaths.{is_live, stage_at, death_in}
use Rattle.one_copy_model.specs.Tracking.{Told, in_commit}
use Rattle.one_copy_model.specs.Chains.{IsHeard}
use Rattle.one_copy_model.specs.Orders.{reply_of_stage, is_of_commit}
use Rattle.one_copy_model.specs.Standing.{Standing, Nowhere, Fresh, Ahead, Leaving, Fallen, Ending, Stands, standing_in, standing_open, standing_at, standing_by, leaving_of, ahead_by}
use Rattle.one_copy_model.specs.Invariant.{FitsPoint, fits_stage, AtDeath, AtDeathIf, HasReason, MayCode, inserted_in, request_in}
use Rattle.one_copy_model.specs.Own.{told_by, stand, IsIn, Own}
use Rattle.one_copy_model.proofs.Deeds.{entry}
use Rattle.one_copy_model.proofs.Livings.{alike_live}
use Rattle.one_copy_laws.proofs.ChainsChaining.{reply_is}
use Rattle.one_copy_laws.specs.Dying.{is_inserting}
use Rattle.one_copy_laws.proofs.FallsDeaths.{dead_at_death}

pub itself : (n : ℕ) → (n == n) ≡ true
itself n = elim (eqb_tells n n) [ inl p ↦ p.0 | inr p ↦ absurd (p.1 refl) ]

-- who is live there and not here has fallen here
fallen_is : (st : Store) (s : ℕ) (last : Transaction) (standing : Standing) (here there : Transaction) → Stands st s last standing here there
    → is_live there ≡ true → is_live here ≡ false → standing ≡ Fallen
fallen_is st s last Nowhere here there h is gone = absurd (let z : false ≡ true = sym (ap is_live h.1) ∙ is in cc)
fallen_is st s last Fresh here there h is gone = absurd (let z : false ≡ true = sym (ap is_live h.1) ∙ is in cc)
fallen_is st s last (Ahead asked) here there h is gone =
    let a = alike_live here (ahead_by st s asked there) h in
    absurd (let z : true ≡ false = sym (ap is_live a.2) ∙ gone in cc)
fallen_is st s last Leaving here there h is gone = absurd (let z : false ≡ true = sym (ap is_live h.1) ∙ is in cc)
fallen_is st s last Fallen here there h is gone = refl
fallen_is st s last Ending here there h is gone = absurd (let z : false ≡ true = sym (ap is_live h) ∙ is in cc)

-- it has fallen in a chain that is none of an ending
abbrev ends_it : Stage → Bool
ends_it Committing = true
ends_it Closing = true
ends_it (RollingBack ending) = true
ends_it stage = false

open_falls : (phase : GatePhase) → standing_open phase ≡ Fallen → ⊥
open_falls phases.Out e = cc
open_falls phases.InSnapshot e = cc
open_falls (phases.Live changed written) e = cc
open_falls phases.InCommit e = cc

at_falls : (phase : GatePhase) (point : Point) → standing_at phase point ≡ Fallen → ⊥
at_falls phase (LeaveSnapshotDue work) e = let z : Fresh ≡ Fallen = e in cc
at_falls phase (UnwindDue ending) e = let z : Nowhere ≡ Fallen = e in cc
at_falls phase (LeaveCommitDue ending) e = let z : Nowhere ≡ Fallen = e in cc
at_falls phase (FinishDue ending) e = let z : Nowhere ≡ Fallen = e in cc
at_falls phase point e = open_falls phase e

told_falls : (v : Bool) (behind : Standing) → v ≡ false → (if v then Fallen else behind) ≡ Fallen → behind ≡ Fallen
told_falls true behind e f = absurd (let z : true ≡ false = e in cc)
told_falls false behind e f = f

-- a result is no fall
result_stands : (x : Stage) (answer : Answer) → is_refusal answer ≡ false → standing_in x (Some answer) ≡ Fallen → ⊥
result_stands (Opening work) answer right e = let z : Fresh ≡ Fallen = told_falls (is_refusal answer) _ right e in cc
result_stands (Reading work ticket) answer right e = let z : Ahead [] ≡ Fallen = told_falls (is_refusal answer) _ right e in cc
result_stands (Running work) answer right e = absurd (ahead_falls _ (told_falls (is_refusal answer) _ right e))
  where
    ahead_falls : (asked : List Request) → Ahead asked ≡ Fallen → ⊥
    ahead_falls asked e = cc
result_stands (Locking work table) answer right e = absurd (ahead_falls _ (told_falls (is_refusal answer) _ right e))
  where
    ahead_falls : (asked : List Request) → Ahead asked ≡ Fallen → ⊥
    ahead_falls asked e = cc
result_stands (Inserting work posted) answer right e = absurd (ahead_falls _ (told_falls (is_refusal answer) _ right e))
  where
    ahead_falls : (asked : List Request) → Ahead asked ≡ Fallen → ⊥
    ahead_falls asked e = cc
result_stands Committing answer right e = let z : Nowhere ≡ Fallen = told_falls (is_refusal answer) _ right e in cc
result_stands Closing answer right e = let z : Nowhere ≡ Fallen = told_falls (is_refusal answer) _ right e in cc
result_stands (RollingBack ending) answer right e = let z : Nowhere ≡ Fallen = told_falls (is_refusal answer) _ right e in cc

-- an ending is answered by no refusal
done_stands : (x : Stage) (answer : Answer) → answer ≡ answers.Done → standing_in x (Some answer) ≡ Fallen → ⊥
done_stands x answer is e = result_stands x answer (ap is_refusal is) e

mid_stage : (x : Stage) (told : Option Answer) → standing_in x told ≡ Fallen → ((answer : Answer) → told ≡ Some answer → IsOf (request_of x) answer) → ends_it x ≡ false
mid_stage Committing None e form = absurd (let z : Leaving ≡ Fallen = e in cc)
mid_stage Committing (Some answer) e form = absurd (done_stands Committing answer (form answer refl) e)
mid_stage Closing None e form = absurd (let z : Ending ≡ Fallen = e in cc)
mid_stage Closing (Some answer) e form = absurd (done_stands Closing answer (form answer refl) e)
mid_stage (RollingBack ending) None e form = absurd (let z : Ending ≡ Fallen = e in cc)
mid_stage (RollingBack ending) (Some answer) e form = absurd (done_stands (RollingBack ending) answer (form answer refl) e)
mid_stage (Opening work) told e form = refl
mid_stage (Reading work ticket) told e form = refl
mid_stage (Running work) told e form = refl
mid_stage (Locking work table) told e form = refl
mid_stage (Inserting work posted) told e form = refl

reply_none : (x : Stage) → ends_it x ≡ false → reply_of_stage x ≡ None
reply_none (RollingBack ending) e = absurd (let z : true ≡ false = e in cc)
reply_none (Opening work) e = refl
reply_none (Reading work ticket) e = refl
reply_none (Running work) e = refl
reply_none (Locking work table) e = refl
reply_none (Inserting work posted) e = refl
reply_none Committing e = refl
reply_none Closing e = refl

commit_none : (x : Stage) → ends_it x ≡ false → is_of_commit (Some x) ≡ false
commit_none Committing e = absurd (let z : true ≡ false = e in cc)
commit_none Closing e = absurd (let z : true ≡ false = e in cc)
commit_none (RollingBack ending) e = refl
commit_none (Opening work) e = refl
commit_none (Reading work ticket) e = refl
commit_none (Running work) e = refl
commit_none (Locking work table) e = refl
commit_none (Inserting work posted) e = refl

outside_is : (x : Stage) (phase : GatePhase) → ends_it x ≡ false → fits_stage x phase ≡ true → in_commit phase ≡ false
outside_is x phases.Out e f = refl
outside_is x phases.InSnapshot e f = refl
outside_is x (phases.Live changed written) e f = refl
outside_is (Opening work) phases.InCommit e f = absurd (let z : false ≡ true = f in cc)
outside_is (Reading work ticket) phases.InCommit e f = absurd (let z : false ≡ true = f in cc)
outside_is (Running work) phases.InCommit e f = absurd (let z : false ≡ true = f in cc)
outside_is (Locking work table) phases.InCommit e f = absurd (let z : false ≡ true = f in cc)
outside_is (Inserting work posted) phases.InCommit e f = absurd (let z : false ≡ true = f in cc)
outside_is Committing phases.InCommit e f = absurd (let z : true ≡ false = e in cc)
outside_is Closing phases.InCommit e f = absurd (let z : true ≡ false = e in cc)
outside_is (RollingBack ending) phases.InCommit e f = absurd (let z : true ≡ false = e in cc)

pub no_insert : (found : Option Stage) (told : Option Answer) → is_inserting found ≡ false → inserted_in found told ≡ None
no_insert (Some (Inserting work posted)) told e = absurd (let z : true ≡ false = e in cc)
no_insert (Some (Opening work)) told e = refl
no_insert (Some (Reading work ticket)) told e = refl
no_insert (Some (Running work)) told e = refl
no_insert (Some (Locking work table)) told e = refl
no_insert (Some Committing) told e = refl
no_insert (Some Closing) told e = refl
no_insert (Some (RollingBack ending)) told e = refl
no_insert None told e = refl

pub plain_death : (w : World) (s : ℕ) (found : Option Stage) → is_inserting found ≡ false → death_in w s found ≡ Falls None ∷ []
plain_death w s (Some (Inserting work posted)) e = absurd (let z : true ≡ false = e in cc)
plain_death w s (Some (Opening work)) e = refl
plain_death w s (Some (Reading work ticket)) e = refl
plain_death w s (Some (Running work)) e = refl
plain_death w s (Some (Locking work table)) e = refl
plain_death w s (Some Committing) e = refl
plain_death w s (Some Closing) e = refl
plain_death w s (Some (RollingBack ending)) e = refl
plain_death w s None e = refl

-- a reason of the moment is one at the death
at_death : (tables : List TableDef) → (s : ℕ) (code : Code) (since : ℕ) (h : List Entry) → since ≤ length h → MayCode tables h s code → AtDeath tables s code since (entry s (Falls None) ∷ h)
at_death tables s code since h most now = subst (λ v. AtDeathIf tables v s code since (entry s (Falls None)) h (AtDeath tables s code since h)) (sym (itself s)) (refl, most, now)

pub reason_dies : (tables : List TableDef) → (x : Stage) (s : ℕ) (code : Code) (since : ℕ) (h : List Entry) → is_inserting (Some x) ≡ false → since ≤ length h → is_live ((store_after tables h).transaction s) ≡ true
    → HasReason tables x s code since h → HasReason tables x s code since (entry s (Falls None) ∷ h)
reason_dies tables (Opening work) s code since h e most lives r = r
reason_dies tables (Reading work ticket) s code since h e most lives (inl now) = inr (at_death tables s code since h most now)
reason_dies tables (Reading work ticket) s code since h e most lives (inr death) = absurd (let z : false ≡ true = sym (dead_at_death tables s code since h death) ∙ lives in cc)
reason_dies tables (Running work) s code since h e most lives (inl now) = inr (at_death tables s code since h most now)
reason_dies tables (Running work) s code since h e most lives (inr death) = absurd (let z : false ≡ true = sym (dead_at_death tables s code since h death) ∙ lives in cc)
reason_dies tables (Locking work table) s code since h e most lives (inl now) = inr (at_death tables s code since h most now)
reason_dies tables (Locking work table) s code since h e most lives (inr death) = absurd (let z : false ≡ true = sym (dead_at_death tables s code since h death) ∙ lives in cc)
reason_dies tables (Inserting work posted) s code since h e most lives r = absurd (let z : true ≡ false = e in cc)
reason_dies tables Committing s code since h e most lives r = r
reason_dies tables Closing s code since h e most lives r = r
reason_dies tables (RollingBack ending) s code since h e most lives r = r

module _ (tables : List TableDef) (attached : ℕ) (h : List Entry) (here : ℕ → Store) (m : Machine) (mail : ℕ → Option Answer) (told : Option Told) (done : ℕ → Bool) (live : Bool) (s : ℕ)
    (old : Own tables attached h here m mail told done live s) (first : ℕ) (there : IsIn attached first)
    (lives : is_live ((store_after tables h).transaction s) ≡ true)
    (gone : (b : ℕ) → IsIn attached b → is_live ((here b).transaction s) ≡ false) where
  pub fallen_at : (b : ℕ) → IsIn attached b → stand m mail b ≡ Fallen
  fallen_at b in_it = fallen_is (store_after tables h) s (leaving_of tables s h) (stand m mail b) ((here b).transaction s) ((store_after tables h).transaction s) (old.stands b in_it) lives (gone b in_it)

  dead_at : (b : ℕ) → IsIn attached b → (here b).transaction s ≡ Dead
  dead_at b in_it = subst (λ (x : Standing). Stands (store_after tables h) s (leaving_of tables s h) x ((here b).transaction s) ((store_after tables h).transaction s)) (fallen_at b in_it) (old.stands b in_it)

  pub in_stage : (x : Stage) → stage_at m.point ≡ Some x → (b : ℕ) → stand m mail b ≡ standing_in x (told_by m mail b)
  in_stage x e b = ap (λ (f : Option Stage). standing_by m.session.gate m.point f (told_by m mail b)) e

  stage_of : (found : Option Stage) → stage_at m.point ≡ found → (x : Stage) × (stage_at m.point ≡ Some x)
  stage_of (Some x) e = (x, e)
  stage_of None e = absurd (at_falls m.session.gate m.point (sym (ap (λ (f : Option Stage). standing_by m.session.gate m.point f (told_by m mail first)) e) ∙ fallen_at first there))

  abbrev x : Stage
  x = (stage_of (stage_at m.point) refl).0

  at : stage_at m.point ≡ Some x
  at = (stage_of (stage_at m.point) refl).1

  plain : ends_it x ≡ false
  plain = mid_stage x (told_by m mail first) (sym (in_stage x at first) ∙ fallen_at first there) (λ answer e. (old.heard first x answer there at e).form)

  fits_it : (found : Option Stage) (y : Stage) → found ≡ Some y → FitsPoint found m.point m.session.gate → fits_stage y m.session.gate ≡ true
  fits_it (Some z) y e f = subst (λ (k : Stage). fits_stage k m.session.gate ≡ true) (let same : z ≡ y = cc in same) f
  fits_it None y e f = absurd (let z : None ≡ Some y = e in cc)

  pub dies_outside : in_commit m.session.gate ≡ false
  dies_outside = outside_is x m.session.gate plain (fits_it (stage_at m.point) x at old.inside)

  pub dies_here : (b : ℕ) → IsIn attached b → stand m mail b ≢ Leaving
  dies_here b in_it e = let z : Fallen ≡ Leaving = sym (fallen_at b in_it) ∙ e in cc

  -- behind deeds of its own that end it, where each reason stays one
  module _ (mid : List Entry) (none : (store_after tables mid).transaction s ≡ Absent) (clear : (store_after tables mid).pending s ≡ None) (longer : length h ≤ length mid)
      (reasons : (y : Stage) (by : Told) (code : Code) → stage_at m.point ≡ Some y → told ≡ Some by → HasReason tables y s code by.entries h → HasReason tables y s code by.entries mid) where
    lives_not : (u : Live) → (store_after tables mid).transaction s ≡ Alive u → ⊥
    lives_not u e = let z : Absent ≡ Alive u = sym none ∙ e in cc

    pub own_dies : Own tables attached mid here m mail told done false s
    own_dies = record {
      stranger = λ is. let r = old.stranger is in absurd (let z : false ≡ true = sym (ap is_live r.none_there) ∙ lives in cc);
      inside = old.inside;
      classed = old.classed;
      asked = old.asked;
      untold = old.untold;
      answer = old.answer;
      in_order = old.in_order;
      heard = λ b y answer in_it e says.
          let o : IsHeard (store_after tables h) s y answer = old.heard b y answer in_it e says in
          record {
            form = o.form;
            posted = o.posted;
            result = λ no. absurd (result_stands y answer no (sym (in_stage y e b ∙ ap (standing_in y) says) ∙ fallen_at b in_it));
          };
      parting = old.parting;
      causes = old.causes;
      stands = λ b in_it. subst (λ (y : Standing). Stands (store_after tables mid) s (leaving_of tables s mid) y ((here b).transaction s) ((store_after tables mid).transaction s)) (sym (fallen_at b in_it)) (dead_at b in_it);
      crossed = λ b p q in_it sound is waits mark. absurd (let z : None ≡ Some q = sym clear ∙ waits in cc);
      unchanged = λ u written e is. absurd (lives_not u is);
      closes = old.closes;
      reasons = λ y by code e is says. reasons y by code e is (old.reasons y by code e is says);
      posts = ap request_in clear;
      replies = λ by outcome is f. absurd (let z : None ≡ Some outcome = sym (reply_is m.point x at ∙ reply_none x plain) ∙ f in cc);
      orders = old.orders;
      order_is = old.order_is;
      since = λ by is. le_trans (old.since by is) longer;
      commits = λ b by in_it is f. absurd (let z : false ≡ true = sym (ap is_of_commit at ∙ commit_none x plain) ∙ f in cc);
      done_first = old.done_first;
    }
