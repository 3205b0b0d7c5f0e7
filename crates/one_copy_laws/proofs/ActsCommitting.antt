-- A commit is done at a backend.
use Rattle.std.proofs.Common.{◌≡◌, ◌≢◌, ℕ, Bool, true, false, ◌||◌, refl, sym, ap, ◌∙◌, subst, inl, inr}
use Rattle.std.specs.Prelude.{◌⊎◌, if◌then◌else◌, [], ◌∷◌, Option, Some, None, is_some}
use Rattle.std.specs.FinMap as fin
use Rattle.std.proofs.lemmas.Bool.Decides.{leb_tells}
use Rattle.pool_base.specs.declared.session_id.SessionId.{SessionId}
use Rattle.pool_base.specs.declared.backend_id.BackendId.{BackendId}
use Rattle.sql_eval.specs.declared.row.Row.{Row}
use Rattle.backend_trait.specs.Typed.{AreAllStored}
use Rattle.backend_trait.specs.declared.answer.Answer.{Answer}
use Rattle.backend_trait.specs.declared.answer.Answer.TheVariants as answers
use Rattle.backend_trait.specs.declared.request.Request.TheVariants as requests
use Rattle.backend_trait.specs.Keys.{Place, place_order}
use Rattle.backend_trait.specs.Rows.{Changes, no_changes}
use Rattle.backend_trait.specs.Effect.{nothing, Conflicts, same_place, has_place}
use Rattle.backend_trait.specs.Store.{Live, Transaction, Absent, Alive, Dead, Pending, Store, held_by, where_live, made_stale, committed_by, is_refusal}
use Rattle.backend_trait.specs.Acts.{IsOf}
use Rattle.backend_trait.proofs.RowLaws.{get-laid_over, row_over}
use Rattle.outcomes.proofs.StoredRows.{laid_stored}
use Rattle.session_machine.specs.declared.machine.GatePhase.{GatePhase}
use Rattle.session_machine.specs.declared.machine.GatePhase.TheVariants as phases
use Rattle.session_machine.specs.declared.machine.Stage.{Stage}
use Rattle.session_machine.specs.declared.machine.Stage.TheVariants.{Opening, Reading, Running, Locking, Inserting, Committing, Closing, RollingBack}
use Rattle.session_machine.specs.declared.machine.Point.{Point}
use Rattle.session_machine.specs.declared.machine.Point.TheVariants.{Resting, EnterDue, LookDue, PostDue, Waiting, LostDue, SplitDue, ChooseDue, ShowDue, LeaveSnapshotDue, UnwindDue, EnterCommitDue, LeaveCommitDue, FinishDue, ReplyDue, EndDue}
use Rattle.session_machine.specs.Rules.{request_of}
use Rattle.one_copy_model.specs.declared.event.Event.TheVariants.{Act}
use Rattle.one_copy_model.specs.World.{MayHappen}
use Rattle.one_copy_model.specs.Places.{asks_of}
use Rattle.one_copy_model.specs.Deaths.{is_live, stage_at, answer_from}
use Rattle.one_copy_model.specs.Tracking.{Tracked, single, tracked_after, in_commit}
use Rattle.one_copy_model.specs.Chains.{IsHeard, AreShaped}
use Rattle.one_copy_model.specs.Standing.{Standing, Nowhere, Fresh, Ahead, Leaving, Fallen, Ending, same, Alike, Stands, told_in, ahead_by, standing_in, standing_open, standing_by, standing_of, leaving_of}
use Rattle.one_copy_model.specs.Invariant.{Invariant, IsHere, IsInLine, IsSound, FitsPoint, Leaves, fits_stage, in_snapshot, inserted_in}
use Rattle.one_copy_model.specs.Facts.{Going, Shared}
use Rattle.one_copy_model.proofs.Counts.{count_some}
use Rattle.one_copy_model.proofs.Places.{same_or_other, with_at-same, with_at-other}
use Rattle.one_copy_model.proofs.Turning.{facts_of, live_there}
use Rattle.one_copy_model.proofs.Quiet.{below_65}
use Rattle.one_copy_model.proofs.Endings.{unstaled}
use Rattle.one_copy_laws.specs.Acted.{GoingBehind, IsAct}
use Rattle.one_copy_laws.proofs.ActsActing.{facts_behind, act_lands, stands_was, to_going, going_forth, stand_was}
use Rattle.one_copy_laws.proofs.ActsSettling.{none_held, swapped, calm_numbers, calm_ahead}
use Rattle.one_copy_laws.proofs.ActsBeginning.{acted_is, answers_of, none_alive}
use Rattle.one_copy_laws.proofs.ActsHolding.{or_first, or_second, or_true, live_of}

-- who stands begun here and not yet there is in a snapshot
abbrev is_fresh : Standing → Bool
is_fresh Nowhere = false
is_fresh Fresh = true
is_fresh (Ahead asked) = false
is_fresh Leaving = false
is_fresh Fallen = false
is_fresh Ending = false

not_fresh : {A : Type 0} (x : Standing) → is_fresh x ≡ false → x ≡ Fresh → A
not_fresh x e f = absurd (let z : true ≡ false = sym (ap is_fresh f) ∙ e in cc)

told_fresh : (before behind : Standing) (told : Option Answer) → is_fresh before ≡ false → is_fresh behind ≡ false → is_fresh (told_in before behind told) ≡ false
told_fresh before behind None e f = e
told_fresh before behind (Some answer) e f = by (is_refusal answer)
  where
    by : (v : Bool) → is_fresh (if v then Fallen else behind) ≡ false
    by true = refl
    by false = f

stage_fresh : (stage : Stage) (phase : GatePhase) (told : Option Answer) → fits_stage stage phase ≡ true → standing_in stage told ≡ Fresh → in_snapshot phase ≡ true
stage_fresh (Opening work) phase told fits e = fits
stage_fresh (Reading work ticket) phase told fits e = not_fresh (standing_in (Reading work ticket) told) (told_fresh same same told refl refl) e
stage_fresh (Running work) phase told fits e = not_fresh (standing_in (Running work) told) (told_fresh same (Ahead (requests.Run work.statement ∷ [])) told refl refl) e
stage_fresh (Locking work table) phase told fits e = not_fresh (standing_in (Locking work table) told) (told_fresh same (Ahead (requests.Lock table ∷ [])) told refl refl) e
stage_fresh (Inserting work posted) phase told fits e = not_fresh (standing_in (Inserting work posted) told) (told_fresh (Ahead (asks_of work ∷ [])) (Ahead (requests.Run work.statement ∷ asks_of work ∷ [])) told refl refl) e
stage_fresh Committing phase told fits e = not_fresh (standing_in Committing told) (told_fresh Leaving Nowhere told refl refl) e
stage_fresh Closing phase told fits e = not_fresh (standing_in Closing told) (told_fresh Ending Nowhere told refl refl) e
stage_fresh (RollingBack ending) phase told fits e = not_fresh (standing_in (RollingBack ending) told) (told_fresh Ending Nowhere told refl refl) e

open_fresh : (phase : GatePhase) → is_fresh (standing_open phase) ≡ false
open_fresh phases.Out = refl
open_fresh phases.InSnapshot = refl
open_fresh (phases.Live changed tables) = refl
open_fresh phases.InCommit = refl

point_fresh : (point : Point) (phase : GatePhase) (told : Option Answer) → FitsPoint (stage_at point) point phase → standing_by phase point (stage_at point) told ≡ Fresh → in_snapshot phase ≡ true
point_fresh (LookDue stage) phase told fits e = stage_fresh stage phase told fits e
point_fresh (PostDue stage b) phase told fits e = stage_fresh stage phase told fits e
point_fresh (Waiting stage b) phase told fits e = stage_fresh stage phase told fits e
point_fresh (LostDue stage b before more) phase told fits e = stage_fresh stage phase told fits e
point_fresh (SplitDue stage best own among more) phase told fits e = stage_fresh stage phase told fits e
point_fresh Resting phase told fits e = not_fresh (standing_open phase) (open_fresh phase) e
point_fresh (EnterDue work) phase told fits e = not_fresh (standing_open phase) (open_fresh phase) e
point_fresh (ChooseDue work) phase told fits e = not_fresh (standing_open phase) (open_fresh phase) e
point_fresh ShowDue phase told fits e = not_fresh (standing_open phase) (open_fresh phase) e
point_fresh (LeaveSnapshotDue work) phase told fits e = fits
point_fresh (UnwindDue ending) phase told fits e = not_fresh Nowhere refl e
point_fresh EnterCommitDue phase told fits e = not_fresh (standing_open phase) (open_fresh phase) e
point_fresh (LeaveCommitDue ending) phase told fits e = not_fresh Nowhere refl e
point_fresh (FinishDue ending) phase told fits e = not_fresh Nowhere refl e
point_fresh (ReplyDue outcome) phase told fits e = not_fresh (standing_open phase) (open_fresh phase) e
point_fresh EndDue phase told fits e = not_fresh (standing_open phase) (open_fresh phase) e

-- while a session is in a commit nobody is in a snapshot
module _ (t : Tracked) (h : Invariant t) (s : SessionId) (inside : in_commit (t.world.machine s.number).session.gate ≡ true) where
  none_snaps : t.world.gate.snaps ≡ 0
  none_snaps = elim h.counts.apart [
    | inl none ↦ none
    | inr none ↦ absurd (count_some (λ o. in_commit (t.world.machine o).session.gate) 65 s.number (sym h.counts.commits ∙ none) (below_65 s) inside)
  ]

  out_of_snapshot : (o : ℕ) → in_snapshot (t.world.machine o).session.gate ≡ true → ⊥
  out_of_snapshot o e = elim (leb_tells 65 o) [
    | inl above ↦ (let z : false ≡ true = sym (ap in_snapshot (h.strangers o (inr above.1)).out) ∙ e in cc)
    | inr below ↦ count_some (λ k. in_snapshot (t.world.machine k).session.gate) 65 o (sym h.counts.snaps ∙ none_snaps) below.1 e
  ]

  pub none_fresh : (o b : ℕ) → standing_of t.world o b ≡ Fresh → ⊥
  none_fresh o b e = out_of_snapshot o (point_fresh (t.world.machine o).point (t.world.machine o).session.gate (answer_from t.world o b) (h.inside o) e)

-- a transaction to which more is stale stands as before, where it is not just begun
alike_stale : (c : Changes) (here there : Transaction) → Alike here there → Alike (where_live (made_stale c) here) there
alike_stale c (Alive l) (Alive u) a = a
alike_stale c (Alive l) Absent a = absurd a
alike_stale c (Alive l) Dead a = absurd a
alike_stale c Absent there a = absurd a
alike_stale c Dead there a = absurd a

stale_stands : (c : Changes) (st : Store) (s : ℕ) (last : Transaction) (standing : Standing) (here there : Transaction) → (standing ≡ Fresh → ⊥) → Stands st s last standing here there
    → Stands st s last standing (where_live (made_stale c) here) there
stale_stands c st s last Nowhere here there none h = (ap (where_live (made_stale c)) h.0, h.1)
stale_stands c st s last Fresh here there none h = absurd (none refl)
stale_stands c st s last (Ahead asked) here there none h = alike_stale c here (ahead_by st s asked there) h
stale_stands c st s last Leaving here there none h = (alike_stale c here last h.0, h.1)
stale_stands c st s last Fallen here there none h = ap (where_live (made_stale c)) h
stale_stands c st s last Ending here there none h = h

stale_live : (c : Changes) (here : Transaction) (l : Live) → where_live (made_stale c) here ≡ Alive l → (k : Live) × (here ≡ Alive k) × (made_stale c k ≡ l)
stale_live c (Alive k) l e = (k, refl, (let same : made_stale c k ≡ l = cc in same))
stale_live c Absent l e = absurd (cc)
stale_live c Dead l e = absurd (cc)

stale_held : (c : Changes) (here : Transaction) → held_by (where_live (made_stale c) here) ≡ held_by here
stale_held c (Alive k) = refl
stale_held c Absent = refl
stale_held c Dead = refl

stale_alive : (c : Changes) (here : Transaction) → is_live here ≡ true → is_live (where_live (made_stale c) here) ≡ true
stale_alive c (Alive k) e = refl
stale_alive c Absent e = e
stale_alive c Dead e = e

-- what is to be shown of a commit that is done
pub record IsCommitted (t : Tracked) (s : SessionId) (b : BackendId) (stage : Stage) (u : Live) : Type 0 where
  behind : standing_in stage (Some answers.Done) ≡ Nowhere
  idle : inserted_in (Some stage) (Some answers.Done) ≡ None
  form : IsOf (request_of stage) answers.Done
  heard : IsHeard (single t) s.number stage answers.Done
  gone : IsHere t.world b.number → (single t).transaction s.number ≡ Absent
  others : IsHere t.world b.number → (o : ℕ) → o ≢ s.number
      → Stands (single t) o (leaving_of t.world.tables o t.history) (standing_of t.world o b.number) (where_live (made_stale u.changes) ((t.world.store b.number).transaction o)) ((single t).transaction o)
  stale : IsHere t.world b.number → (o : ℕ) (k : Live) (q : Place) → is_some (fin.get u.changes q) ≡ true → (single t).transaction o ≡ Alive k → k.stale q ≡ true
  forth : IsHere t.world b.number → (o : ℕ) (q : Place) → Going t.world.tables t.history (t.world.machine o) (t.world.mail o) o b.number q
      → (GoingBehind t s.number b.number answers.Done o q) ⊎ (is_some (fin.get u.changes q) ≡ true)
  rows : IsHere t.world b.number → (q : Place) → ((o : ℕ) → ¬ (GoingBehind t s.number b.number answers.Done o q))
      → row_over (fin.get u.changes q) (fin.get (t.world.store b.number).rows q) ≡ fin.get (single t).rows q

module _ (t : Tracked) (h : Invariant t) (s : SessionId) (b : BackendId) (p : Pending) (waits : (t.world.store b.number).pending s.number ≡ Some p)
    (stage : Stage) (at : BackendId) (waiting : (t.world.machine s.number).point ≡ Waiting stage at) (number : at.number ≡ b.number)
    (asks : requests.Commit ≡ request_of stage) (is : p.request ≡ requests.Commit) (u : Live) (live : (t.world.store b.number).transaction s.number ≡ Alive u)
    (a : IsCommitted t s b stage u) where
  abbrev st : Store
  st = t.world.store b.number

  abbrev x : Store
  x = committed_by st s.number (Alive u)

  w : Shared t.world.tables t.world.gate.attached.bits t.history t.world.store t.world.machine t.world.mail
  w = (facts_of t h).shared

  mine_is : x.transaction s.number ≡ Absent
  mine_is = with_at-same (λ o. where_live (made_stale u.changes) (st.transaction o)) s.number Absent

  other_is : (o : ℕ) → o ≢ s.number → x.transaction o ≡ where_live (made_stale u.changes) (st.transaction o)
  other_is o other = with_at-other (λ o. where_live (made_stale u.changes) (st.transaction o)) s.number Absent o other

  -- who is live behind it was live before
  was_live : (o : ℕ) (l : Live) → x.transaction o ≡ Alive l → (o ≢ s.number) × ((k : Live) × (st.transaction o ≡ Alive k) × (made_stale u.changes k ≡ l))
  was_live o l e = elim (same_or_other o s.number) [
    | inl same_o ↦ none_alive l (sym (ap x.transaction same_o ∙ mine_is) ∙ e)
    | inr other ↦ (other, stale_live u.changes (st.transaction o) l (sym (other_is o other) ∙ e))
  ]

  held_was : (o : ℕ) → ((o ≡ s.number) × (held_by (x.transaction o) ≡ nothing)) ⊎ ((o ≢ s.number) × (held_by (x.transaction o) ≡ held_by (st.transaction o)))
  held_was o = elim (same_or_other o s.number) [
    | inl same_o ↦ inl (same_o, ap held_by (ap x.transaction same_o ∙ mine_is))
    | inr other ↦ inr (other, ap held_by (other_is o other) ∙ stale_held u.changes (st.transaction o))
  ]

  shaped_behind : AreShaped x
  shaped_behind =
      let was : AreShaped st = w.shaped b.number in
      record {
        rows = laid_stored st.tables st.rows u.changes was.rows (λ q row e. was.changes s.number u q row live e);
        bases = λ o l e. let k = was_live o l e in subst (λ (z : Live). AreAllStored st.tables z.base) k.1.2 (was.bases o k.1.0 k.1.1);
        changes = λ o l q row e f. let k = was_live o l e in was.changes o k.1.0 q row k.1.1 (ap (λ (z : Live). fin.get z.changes q) k.1.2 ∙ f);
      }

  sound_behind : IsHere t.world b.number → IsSound x
  sound_behind in_it =
      let was : IsSound st = w.sound b.number in_it in
      record {
        apart = λ o k differ c. apart_at o k differ (held_was o) (held_was k) c;
        changed = λ o l q e f. let k = was_live o l e in ap (λ (z : Live). has_place z.held q) (sym k.1.2) ∙ was.changed o k.1.0 q k.1.1 (ap (λ (z : Live). is_some (fin.get z.changes q)) k.1.2 ∙ f);
        fresh = λ o l q e f. let k = was_live o l e in ap (λ (z : Live). z.stale q) (sym k.1.2)
            ∙ either (is_some (fin.get u.changes q)) (k.1.0.stale q)
            (λ mine. was.apart s.number o (λ same_o. k.0 (sym same_o))
            (subst (λ z. Conflicts (held_by z) (held_by (st.transaction o))) (sym live)
            (subst (λ z. Conflicts u.held (held_by z)) (sym k.1.1)
            (same_place q (was.changed s.number u q live mine) (ap (λ (z : Live). has_place z.held q) k.1.2 ∙ f)))))
            (was.fresh o k.1.0 q k.1.1 (ap (λ (z : Live). has_place z.held q) k.1.2 ∙ f));
      }
    where
      either : (c d : Bool) → (c ≡ true → ⊥) → d ≡ false → (c || d) ≡ false
      either true d none e = absurd (none refl)
      either false d none e = e

      apart_at : (o k : ℕ) → o ≢ k → ((o ≡ s.number) × (held_by (x.transaction o) ≡ nothing)) ⊎ ((o ≢ s.number) × (held_by (x.transaction o) ≡ held_by (st.transaction o)))
          → ((k ≡ s.number) × (held_by (x.transaction k) ≡ nothing)) ⊎ ((k ≢ s.number) × (held_by (x.transaction k) ≡ held_by (st.transaction k)))
          → Conflicts (held_by (x.transaction o)) (held_by (x.transaction k)) → ⊥
      apart_at o k differ (inl mine) any c = none_held (held_by (x.transaction k)) (subst (λ z. Conflicts z (held_by (x.transaction k))) mine.1 c)
      apart_at o k differ (inr other) (inl mine) c = none_held (held_by (x.transaction o)) (swapped (held_by (x.transaction o)) nothing (subst (λ z. Conflicts (held_by (x.transaction o)) z) mine.1 c))
      apart_at o k differ (inr other) (inr more) c = (w.sound b.number in_it).apart o k differ (subst (λ z. Conflicts (held_by (st.transaction o)) z) more.1 (subst (λ z. Conflicts z (held_by (x.transaction k))) other.1 c))

  stale_at : (c : Changes) (k l : Live) (q : Place) → made_stale c k ≡ l → (is_some (fin.get c q) || k.stale q) ≡ l.stale q
  stale_at c k l q e = ap (λ (z : Live). z.stale q) e

  stales : IsHere t.world b.number → (o : ℕ) (l r : Live) (q : Place) → x.transaction o ≡ Alive l → (single t).transaction o ≡ Alive r → r.stale q ≡ true
      → (l.stale q ≡ true) ⊎ ((k : ℕ) × GoingBehind t s.number b.number answers.Done k q)
  stales in_it o l r q e there f =
      let k = was_live o l e in
      by k.1.0 k.1.2 (w.stale_here o b.number k.1.0 r q in_it k.1.1 there f)
    where
      by : (k : Live) → made_stale u.changes k ≡ l → (k.stale q ≡ true) ⊎ ((j : ℕ) × Going t.world.tables t.history (t.world.machine j) (t.world.mail j) j b.number q)
          → (l.stale q ≡ true) ⊎ ((j : ℕ) × GoingBehind t s.number b.number answers.Done j q)
      by k same_l (inl was) = inl (sym (stale_at u.changes k l q same_l) ∙ or_second (is_some (fin.get u.changes q)) (k.stale q) was)
      by k same_l (inr j) = elim (a.forth in_it j.0 q j.1) [
        | inl goes ↦ inr (j.0, goes)
        | inr mine ↦ inl (sym (stale_at u.changes k l q same_l) ∙ or_first (is_some (fin.get u.changes q)) (k.stale q) mine)
      ]

  pub committed_acts : IsAct t s b stage answers.Done x
  committed_acts = record {
    tables = refl;
    lost = refl;
    pending = refl;
    none = λ o other e. other_is o other ∙ ap (where_live (made_stale u.changes)) e;
    form = a.form;
    posted = a.heard.posted;
    shaped = shaped_behind;
    closes = λ in_it l e is. none_alive l (sym mine_is ∙ is);
    same_changes = λ o l other is. let k = (was_live o l is).1 in (k.0, k.1, ap (λ (z : Live). z.changes) k.2);
    heard = λ in_it. a.heard;
    stands = λ in_it. subst (λ z. Stands (single t) s.number (leaving_of t.world.tables s.number t.history) z (x.transaction s.number) ((single t).transaction s.number)) (sym a.behind) (mine_is, a.gone in_it);
    others = λ in_it o other. subst (λ z. Stands (single t) o (leaving_of t.world.tables o t.history) (standing_of t.world o b.number) z ((single t).transaction o)) (sym (other_is o other)) (a.others in_it o other);
    reasons = λ in_it by code e f. absurd (cc);
    sound = sound_behind;
    stale_here = stales;
    stale_there = λ in_it o l r q e there f. let k = was_live o l e in
        elim (or_true (is_some (fin.get u.changes q)) (k.1.0.stale q) (stale_at u.changes k.1.0 l q k.1.2 ∙ f)) [
          | inl mine ↦ a.stale in_it o r q mine there
          | inr was ↦ w.stale_there o b.number k.1.0 r q in_it k.1.1 there was
        ];
    rows = λ in_it q none. get-laid_over u.changes st.rows q ∙ a.rows in_it q none;
    numbers = calm_numbers t h s b p waits stage at waiting number answers.Done a.idle;
    ahead = calm_ahead t h s b p waits stage at waiting number answers.Done a.idle;
  }

  pub committed_holds : Invariant (tracked_after t (Act s b answers.Done))
  committed_holds =
      act_lands t s b answers.Done x h (ap (committed_by st s.number) (sym live) ∙ acted_is st s.number answers.Done p requests.Commit waits is)
      (facts_behind t h s b p waits stage at waiting number answers.Done (is ∙ asks) x committed_acts)
      (λ in_it o lives was. elim (same_or_other o s.number) [
        | inl same_o ↦ absurd (let n : false ≡ true = sym (ap is_live (a.gone in_it)) ∙ ap (live_there t) (sym same_o) ∙ lives in cc)
        | inr other ↦ ap is_live (other_is o other) ∙ stale_alive u.changes (st.transaction o) was
      ])

-- with changes: it has committed there, and leaves here
module _ (t : Tracked) (h : Invariant t) (s : SessionId) (b : BackendId) (p : Pending) (waits : (t.world.store b.number).pending s.number ≡ Some p)
    (at : BackendId) (waiting : (t.world.machine s.number).point ≡ Waiting Committing at) (number : at.number ≡ b.number)
    (u : Live) (live : (t.world.store b.number).transaction s.number ≡ Alive u) where
  abbrev last : Transaction
  last = leaving_of t.world.tables s.number t.history

  inside : in_commit (t.world.machine s.number).session.gate ≡ true
  inside = subst (λ (pt : Point). FitsPoint (stage_at pt) pt (t.world.machine s.number).session.gate) waiting (h.inside s.number)

  was : IsHere t.world b.number → Alike (Alive u) last × ((single t).transaction s.number ≡ Absent)
  was in_it = let e = stands_was t h s b p waits Committing at waiting number answers.Done in_it in (subst (λ z. Alike z last) live e.0, e.1)

  last_of : (z : Transaction) → Alike (Alive u) z → (k : Live) × (z ≡ Alive k) × (u.changes ≡ k.changes)
  last_of (Alive k) e = (k, refl, e.1)
  last_of Absent e = absurd e
  last_of Dead e = absurd e

  leaves : IsHere t.world b.number → (q : Place) → is_some (fin.get u.changes q) ≡ true → Leaves t s.number b.number q
  leaves in_it q e =
      let k = last_of last (was in_it).0 in
      record { leaves = stand_was t h s b p waits Committing at waiting number answers.Done; last = k.0; was = k.1; changes = ap (λ (c : Changes). is_some (fin.get c q)) (sym k.2) ∙ e }

  changed_of : IsHere t.world b.number → (k : Live) → last ≡ Alive k → u.changes ≡ k.changes
  changed_of in_it k e =
      let r = last_of last (was in_it).0 in
      r.2 ∙ ap (λ (z : Live). z.changes) (let z : Alive r.0 ≡ Alive k = sym r.1 ∙ e in let same_k : r.0 ≡ k = cc in same_k)

  goes_forth : IsHere t.world b.number → (o : ℕ) (q : Place) → Going t.world.tables t.history (t.world.machine o) (t.world.mail o) o b.number q
      → (GoingBehind t s.number b.number answers.Done o q) ⊎ (is_some (fin.get u.changes q) ≡ true)
  goes_forth in_it o q g = elim (same_or_other o s.number) [
    | inl same_o ↦ inr (ap (λ (c : Changes). is_some (fin.get c q)) (changed_of in_it g.last (ap (λ j. leaving_of t.world.tables j t.history) (sym same_o) ∙ g.was)) ∙ g.changes)
    | inr other ↦ inl (to_going t h s b p waits Committing at waiting number answers.Done o b.number q (inl other) g)
  ]

  rows_at : IsHere t.world b.number → (q : Place) → ((o : ℕ) → ¬ (GoingBehind t s.number b.number answers.Done o q)) → (c : Option (Option Row)) → fin.get u.changes q ≡ c
      → row_over c (fin.get (t.world.store b.number).rows q) ≡ fin.get (single t).rows q
  rows_at in_it q none (Some row) e =
      let k = last_of last (was in_it).0 in
      let left : fin.get k.0.changes q ≡ Some (fin.get (single t).rows q) = h.rows_left s.number b.number q k.0 in_it (leaves in_it q (ap is_some e)) k.1 in
      let z : Some row ≡ Some (fin.get (single t).rows q) = sym e ∙ ap (λ (c : Changes). fin.get c q) k.2 ∙ left in
      let same_row : row ≡ fin.get (single t).rows q = cc in
      same_row
  rows_at in_it q none None e = (facts_of t h).shared.rows_same b.number q in_it
      (λ o g. elim (goes_forth in_it o q g) [ inl goes ↦ none o goes | inr mine ↦ (let z : false ≡ true = sym (ap is_some e) ∙ mine in cc) ])

  leaving_committed : IsCommitted t s b Committing u
  leaving_committed = record {
    behind = refl;
    idle = refl;
    form = refl;
    heard = record { form = refl; posted = refl; result = λ e. tt };
    gone = λ in_it. (was in_it).1;
    others = λ in_it o other. stale_stands u.changes (single t) o (leaving_of t.world.tables o t.history) (standing_of t.world o b.number) ((t.world.store b.number).transaction o) ((single t).transaction o)
        (none_fresh t h s inside o b.number) (h.stands o b.number in_it);
    stale = λ in_it o k q mine e. let r = last_of last (was in_it).0 in h.stale s.number o q r.0 k inside r.1 (ap (λ (c : Changes). is_some (fin.get c q)) (sym r.2) ∙ mine) e;
    forth = goes_forth;
    rows = λ in_it q none. rows_at in_it q none (fin.get u.changes q) refl;
  }

-- without changes: it has ended there
module _ (t : Tracked) (h : Invariant t) (s : SessionId) (b : BackendId) (p : Pending) (waits : (t.world.store b.number).pending s.number ≡ Some p)
    (at : BackendId) (waiting : (t.world.machine s.number).point ≡ Waiting Closing at) (number : at.number ≡ b.number)
    (u : Live) (empty : IsHere t.world b.number → u.changes ≡ no_changes) where
  no_change : IsHere t.world b.number → (q : Place) → fin.get u.changes q ≡ None
  no_change in_it q = ap (λ (c : Changes). fin.get c q) (empty in_it) ∙ fin.get-empty place_order q

  closing_committed : IsCommitted t s b Closing u
  closing_committed = record {
    behind = refl;
    idle = refl;
    form = refl;
    heard = record { form = refl; posted = refl; result = λ e. tt };
    gone = λ in_it. stands_was t h s b p waits Closing at waiting number answers.Done in_it;
    others = λ in_it o other. subst (λ z. Stands (single t) o (leaving_of t.world.tables o t.history) (standing_of t.world o b.number) z ((single t).transaction o))
        (sym (ap (λ c. where_live (made_stale c) ((t.world.store b.number).transaction o)) (empty in_it) ∙ unstaled ((t.world.store b.number).transaction o))) (h.stands o b.number in_it);
    stale = λ in_it o k q mine e. absurd (let z : false ≡ true = sym (ap is_some (no_change in_it q)) ∙ mine in cc);
    forth = λ in_it o q g. inl (going_forth t h s b p waits Closing at waiting number answers.Done refl o q g);
    rows = λ in_it q none. ap (λ c. row_over c (fin.get (t.world.store b.number).rows q)) (no_change in_it q)
        ∙ (facts_of t h).shared.rows_same b.number q in_it (λ o g. none o (going_forth t h s b p waits Closing at waiting number answers.Done refl o q g));
  }

commit_stage : (stage : Stage) → requests.Commit ≡ request_of stage → (stage ≡ Committing) ⊎ (stage ≡ Closing)
commit_stage Committing e = inl refl
commit_stage Closing e = inr refl
commit_stage stage e = absurd (cc)

pub commit_kept : (t : Tracked) (s : SessionId) (b : BackendId) (answer : Answer) (p : Pending) → Invariant t → (t.world.store b.number).pending s.number ≡ Some p → p.request ≡ requests.Commit
    → MayHappen t.world (Act s b answer) → Invariant (tracked_after t (Act s b answer))
commit_kept t s b answer p h waits is may =
    let line : IsInLine (t.world.machine s.number) b.number p.request = (h.line s.number b.number).asked p may.0 waits in
    let asks : requests.Commit ≡ request_of line.stage = sym is ∙ line.asks in
    let u = live_of ((t.world.store b.number).transaction s.number) (λ k. answer ≡ answers.Done) (answers_of (t.world.store b.number) s.number answer p requests.Commit waits is may) in
    subst (λ (c : Answer). Invariant (tracked_after t (Act s b c))) (sym u.2) (elim (commit_stage line.stage asks) [
      | inl commits ↦ (let waiting : (t.world.machine s.number).point ≡ Waiting Committing line.at = line.waits ∙ ap (λ z. Waiting z line.at) commits in
          committed_holds t h s b p waits Committing line.at waiting line.number refl is u.0 u.1 (leaving_committed t h s b p waits line.at waiting line.number u.0 u.1))
      | inr ends ↦ (let waiting : (t.world.machine s.number).point ≡ Waiting Closing line.at = line.waits ∙ ap (λ z. Waiting z line.at) ends in
          committed_holds t h s b p waits Closing line.at waiting line.number refl is u.0 u.1 (closing_committed t h s b p waits line.at waiting line.number u.0 (λ in_it. h.closes s.number b.number u.0 in_it (ap stage_at waiting) u.1)))
    ])
