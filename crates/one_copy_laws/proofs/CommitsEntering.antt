-- A commit is entered: what is of all sessions together, where rows of the single run change and transactions there grow stale.
use Rattle.std.proofs.Common.{◌≡◌, ◌≢◌, ℕ, Bool, true, false, ◌||◌, List, ℤ, refl, sym, ap, ◌∙◌, subst, inl, inr}
use Rattle.std.specs.Prelude.{◌⊎◌, Option, Some, None, is_some}
use Rattle.std.specs.FinMap as fin
use Rattle.schema.specs.declared.catalogue.TableDef.{TableDef}
use Rattle.sql_eval.specs.declared.row.Row.{Row}
use Rattle.backend_trait.specs.declared.answer.Answer.{Answer}
use Rattle.backend_trait.specs.Keys.{Place}
use Rattle.backend_trait.specs.Rows.{Rows, Changes, with_at}
use Rattle.backend_trait.specs.Effect.{Wants, Conflicts, has_place, same_place}
use Rattle.backend_trait.specs.Store.{Live, Transaction, Absent, Alive, Dead, Store, held_by, table_lock, made_stale}
use Rattle.backend_trait.proofs.RowLaws.{row_over, get-laid_over}
use Rattle.session_machine.specs.declared.work.Work.{Work}
use Rattle.session_machine.specs.declared.machine.Machine.{Machine}
use Rattle.one_copy_model.specs.declared.deed.Entry.{Entry}
use Rattle.one_copy_model.specs.SingleRun.{store_after}
use Rattle.one_copy_model.specs.Deaths.{is_live, stage_at}
use Rattle.one_copy_model.specs.Tracking.{in_commit}
use Rattle.one_copy_model.specs.Standing.{Leaving, leaving_of}
use Rattle.one_copy_model.specs.Invariant.{FitsPoint, IsSound, is_dead, inserted_in, numbers_behind, drawn_where, Inserts, HaveLocks}
use Rattle.one_copy_model.specs.Own.{told_by, stand, IsIn}
use Rattle.one_copy_model.specs.Facts.{Going, Inserted, Shared}
use Rattle.one_copy_model.proofs.Places.{same_or_other, with_at-same, each_at, each_at2}
use Rattle.one_copy_model.proofs.Tables.{tables_same}
use Rattle.one_copy_model.proofs.Locks.{no_right}
use Rattle.one_copy_model.proofs.Turns.{no_left}
use Rattle.one_copy_model.proofs.Livings.{none_of}
use Rattle.one_copy_laws.proofs.CommitsCommitted.{committed_to, committed_rows, committed_next, committed_none, committed_others, committed_leaves, committed_run, committed_grows}
use Rattle.one_copy_laws.proofs.CommitsSteady.{grown, live_grown, held_grown, dead_grown, grown_is, leaves_in}

or_left : (a b : Bool) → a ≡ true → (a || b) ≡ true
or_left true b e = refl
or_left false b e = absurd (let z : false ≡ true = e in cc)

or_right : (a b : Bool) → b ≡ true → (a || b) ≡ true
or_right true b e = refl
or_right false b e = e

or_either : (a b : Bool) → (a || b) ≡ true → (a ≡ true) ⊎ (b ≡ true)
or_either true b e = inl refl
or_either false b e = inr e

or_none : (a b : Bool) → a ≡ false → b ≡ false → (a || b) ≡ false
or_none true b e f = absurd (let z : true ≡ false = e in cc)
or_none false b e f = f

none_at : (x : Option (Option Row)) → is_some x ≡ false → x ≡ None
none_at None e = refl
none_at (Some row) e = absurd (let z : true ≡ false = e in cc)

some_at : (x : Option (Option Row)) → is_some x ≡ true → (row : Option Row) × (x ≡ Some row)
some_at None e = absurd (let z : false ≡ true = e in cc)
some_at (Some row) e = (row, refl)

not_alive : (x : Transaction) (u : Live) → x ≡ Absent → x ≡ Alive u → ⊥
not_alive x u e f = let z : Absent ≡ Alive u = sym e ∙ f in cc

same_live : (x : Transaction) (u v : Live) → x ≡ Alive u → x ≡ Alive v → u ≡ v
same_live x u v e f = let z : Alive u ≡ Alive v = sym e ∙ f in cc

drawn_grown : (tables : List TableDef) (next : ℕ → Option ℤ) (work : Work) (c : Changes) (x : Transaction) → drawn_where tables next work (grown c x) ≡ drawn_where tables next work x
drawn_grown tables next work c Absent = refl
drawn_grown tables next work c (Alive t) = refl
drawn_grown tables next work c Dead = refl

module _ (tables : List TableDef) (attached : ℕ) (old : List Entry) (here : ℕ → Store) (machine : ℕ → Machine) (mail : ℕ → ℕ → Option Answer)
    (s : ℕ) (n : Machine) (u : Live) (is : (store_after tables old).transaction s ≡ Alive u) (clear : (store_after tables old).pending s ≡ None)
    (stays : (b : ℕ) → IsIn attached b → stand (machine s) (mail s) b ≢ Leaving)
    (leaves : (b : ℕ) → IsIn attached b → stand n (mail s) b ≡ Leaving)
    (idle : (b : ℕ) (work : Work) → IsIn attached b → inserted_in (stage_at (machine s).point) (told_by (machine s) (mail s) b) ≡ Some work → ⊥)
    (idles : (b : ℕ) (work : Work) → IsIn attached b → inserted_in (stage_at n.point) (told_by n (mail s) b) ≡ Some work → ⊥)
    (inside : (o : ℕ) → FitsPoint (stage_at (machine o).point) (machine o).point (machine o).session.gate)
    (h : Shared tables attached old here machine mail) where
  abbrev new : List Entry
  new = committed_to tables s old u is

  abbrev was : Store
  was = store_after tables old

  abbrev now : Store
  now = store_after tables new

  abbrev c : Changes
  c = u.changes

  abbrev machines : ℕ → Machine
  machines = with_at machine s n

  abbrev mails : ℕ → ℕ → Option Answer
  mails = with_at mail s (mail s)

  abbrev Changed : Place → Type 0
  Changed p = is_some (fin.get c p) ≡ true

  others : (o : ℕ) → o ≢ s → now.transaction o ≡ grown c (was.transaction o)
  others o other = committed_others tables s old u is o other

  none : now.transaction s ≡ Absent
  none = committed_none tables s old u is

  left_others : (o : ℕ) → o ≢ s → leaving_of tables o new ≡ leaving_of tables o old
  left_others o other = (committed_grows tables s old u is o other).leaving

  left_mine : leaving_of tables s new ≡ Alive u
  left_mine = committed_leaves tables s old u is

  -- who is live has grown stale
  was_live : (a : ℕ) (x : Live) → now.transaction a ≡ Alive x → (a ≢ s) × (v : Live) × (was.transaction a ≡ Alive v) × (x ≡ made_stale c v)
  was_live a x e = elim (same_or_other a s) [
    | inl same ↦ absurd (not_alive (now.transaction a) x (ap now.transaction same ∙ none) e)
    | inr other ↦ (let g = grown_is c (was.transaction a) x (sym (others a other) ∙ e) in (other, g.0, g.1, g.2))
  ]

  -- what it has changed is held, and not stale to it
  held : (p : Place) → Changed p → has_place u.held p ≡ true
  held p e = h.sound_there.changed s u p is e

  fresh : (p : Place) → Changed p → u.stale p ≡ false
  fresh p e = h.sound_there.fresh s u p is (held p e)

  -- who leaves somewhere, before and behind
  going_to : (b : ℕ) (p : Place) → IsIn attached b → (o : ℕ) → Going tables old (machine o) (mail o) o b p → Going tables new (machines o) (mails o) o b p
  going_to b p at = each_at2 (λ o x y. Going tables old (machine o) (mail o) o b p → Going tables new x y o b p) machine mail s n (mail s)
      (λ g. absurd (stays b at g.leaves))
      (λ o other g. record { leaves = g.leaves; last = g.last; was = left_others o other ∙ g.was; changes = g.changes })

  its_going : (b : ℕ) (p : Place) → IsIn attached b → Changed p → Going tables new (machines s) (mails s) s b p
  its_going b p at e =
      subst (λ (x : Machine). Going tables new x (mails s) s b p) (sym (with_at-same machine s n))
      (subst (λ (y : ℕ → Option Answer). Going tables new n y s b p) (sym (with_at-same mail s (mail s)))
      (record { leaves = leaves b at; last = u; was = left_mine; changes = e }))

  abbrev Either : ℕ → ℕ → Place → Type 0
  Either o b p = ((o ≡ s) × Changed p) ⊎ ((o ≢ s) × Going tables old (machine o) (mail o) o b p)

  going_from : (b : ℕ) (p : Place) → IsIn attached b → (o : ℕ) → Going tables new (machines o) (mails o) o b p → Either o b p
  going_from b p at = each_at2 (λ o x y. Going tables new x y o b p → Either o b p) machine mail s n (mail s)
      (λ g. inl (refl, subst (λ (x : Live). is_some (fin.get x.changes p) ≡ true) (same_live (leaving_of tables s new) g.last u g.was left_mine) g.changes))
      (λ o other g. inr (other, record { leaves = g.leaves; last = g.last; was = sym (left_others o other) ∙ g.was; changes = g.changes }))

  commit_from : (o : ℕ) → in_commit (machines o).session.gate ≡ true → (o ≡ s) ⊎ ((o ≢ s) × (in_commit (machine o).session.gate ≡ true))
  commit_from = each_at (λ o x. in_commit x.session.gate ≡ true → (o ≡ s) ⊎ ((o ≢ s) × (in_commit (machine o).session.gate ≡ true))) machine s n
      (λ e. inl refl) (λ o other e. inr (other, e))

  -- two that leave have changed other places
  disjoint : (o b : ℕ) (p : Place) → Going tables old (machine o) (mail o) o b p → Changed p → ⊥
  disjoint o b p g e =
      let enters : in_commit (machine o).session.gate ≡ true = leaves_in (stage_at (machine o).point) (machine o).point (machine o).session.gate (told_by (machine o) (mail o) b) (inside o) g.leaves in
      let z : true ≡ false = sym (h.stale o s p g.last u enters g.was g.changes is) ∙ fresh p e in cc

  -- a row that it has not changed stays
  row_stays : (p : Place) → is_some (fin.get c p) ≡ false → fin.get now.rows p ≡ fin.get was.rows p
  row_stays p e =
      ap (λ (r : Rows). fin.get r p) (committed_rows tables s old u is) ∙ get-laid_over c was.rows p
      ∙ ap (λ x. row_over x (fin.get was.rows p)) (none_at (fin.get c p) e)

  row_changes : (p : Place) → Changed p → fin.get c p ≡ Some (fin.get now.rows p)
  row_changes p e =
      let r = some_at (fin.get c p) e in
      let behind : fin.get now.rows p ≡ r.0 = ap (λ (r : Rows). fin.get r p) (committed_rows tables s old u is) ∙ get-laid_over c was.rows p ∙ ap (λ x. row_over x (fin.get was.rows p)) r.1 in
      r.1 ∙ ap Some (sym behind)

  -- the single run is sound
  held_same : (o : ℕ) → o ≢ s → held_by (now.transaction o) ≡ held_by (was.transaction o)
  held_same o other = ap held_by (others o other) ∙ held_grown c (was.transaction o)

  apart : (a o : ℕ) → a ≢ o → ¬ (Conflicts (held_by (now.transaction a)) (held_by (now.transaction o)))
  apart a o differ x = elim (same_or_other a s) [
    | inl same ↦ no_left (held_by (now.transaction o)) (subst (λ (y : Transaction). Conflicts (held_by y) (held_by (now.transaction o))) (ap now.transaction same ∙ none) x)
    | inr not_a ↦ elim (same_or_other o s) [
      | inl same ↦ no_right (held_by (now.transaction a)) (subst (λ (y : Transaction). Conflicts (held_by (now.transaction a)) (held_by y)) (ap now.transaction same ∙ none) x)
      | inr not_o ↦ h.sound_there.apart a o differ (subst (λ (y : Wants). Conflicts y (held_by (was.transaction o))) (held_same a not_a) (subst (λ (y : Wants). Conflicts (held_by (now.transaction a)) y) (held_same o not_o) x))
    ]
  ]

  changed_held : (a : ℕ) (x : Live) (p : Place) → now.transaction a ≡ Alive x → is_some (fin.get x.changes p) ≡ true → has_place x.held p ≡ true
  changed_held a x p e f =
      let v = was_live a x e in
      ap (λ (y : Live). has_place y.held p) v.3 ∙ h.sound_there.changed a v.1 p v.2 (subst (λ (y : Live). is_some (fin.get y.changes p) ≡ true) v.3 f)

  unchanged_by : (a : ℕ) (v : Live) (p : Place) → a ≢ s → was.transaction a ≡ Alive v → has_place v.held p ≡ true → is_some (fin.get c p) ≡ false
  unchanged_by a v p other e f = none_of (is_some (fin.get c p)) (λ changed.
      h.sound_there.apart s a (λ same. other (sym same)) (subst (λ (y : Transaction). Conflicts (held_by y) (held_by (was.transaction a))) (sym is)
      (subst (λ (y : Transaction). Conflicts u.held (held_by y)) (sym e) (same_place p (held p changed) f))))

  held_fresh : (a : ℕ) (x : Live) (p : Place) → now.transaction a ≡ Alive x → has_place x.held p ≡ true → x.stale p ≡ false
  held_fresh a x p e f =
      let v = was_live a x e in
      let holds : has_place v.1.held p ≡ true = subst (λ (y : Live). has_place y.held p ≡ true) v.3 f in
      ap (λ (y : Live). y.stale p) v.3 ∙ or_none (is_some (fin.get c p)) (v.1.stale p) (unchanged_by a v.1 p v.0 v.2 holds) (h.sound_there.fresh a v.1 p v.2 holds)

  sound : IsSound now
  sound = record { apart = apart; changed = changed_held; fresh = held_fresh }

  undead : (a : ℕ) → is_dead (now.transaction a) ≡ false
  undead a = elim (same_or_other a s) [
    | inl same ↦ ap is_dead (ap now.transaction same ∙ none)
    | inr other ↦ ap is_dead (others a other) ∙ dead_grown c (was.transaction a) ∙ h.undead a
  ]

  -- stale places
  stale_is : (x v : Live) (p : Place) → x ≡ made_stale c v → x.stale p ≡ (is_some (fin.get c p) || v.stale p)
  stale_is x v p e = ap (λ (y : Live). y.stale p) e

  stale_by : (o a : ℕ) (p : Place) (last x : Live) → in_commit (machines o).session.gate ≡ true → leaving_of tables o new ≡ Alive last
      → is_some (fin.get last.changes p) ≡ true → now.transaction a ≡ Alive x → x.stale p ≡ true
  stale_by o a p last x comm left changes e =
      let v = was_live a x e in
      stale_is x v.1 p v.3 ∙ elim (commit_from o comm) [
        | inl same ↦ or_left (is_some (fin.get c p)) (v.1.stale p)
            (subst (λ (y : Live). is_some (fin.get y.changes p) ≡ true) (same_live (leaving_of tables s new) last u (ap (λ i. leaving_of tables i new) (sym same) ∙ left) left_mine) changes)
        | inr other ↦ or_right (is_some (fin.get c p)) (v.1.stale p) (h.stale o a p last v.1 other.1 (sym (left_others o other.0) ∙ left) changes v.2)
      ]

  stale_here_by : (a b : ℕ) (l x : Live) (p : Place) → IsIn attached b → (here b).transaction a ≡ Alive l → now.transaction a ≡ Alive x → x.stale p ≡ true
      → (l.stale p ≡ true) ⊎ ((o : ℕ) × Going tables new (machines o) (mails o) o b p)
  stale_here_by a b l x p at is_l e f =
      let v = was_live a x e in
      elim (or_either (is_some (fin.get c p)) (v.1.stale p) (sym (stale_is x v.1 p v.3) ∙ f)) [
        | inl changed ↦ inr (s, its_going b p at changed)
        | inr stale ↦ elim (h.stale_here a b l v.1 p at is_l v.2 stale) [ inl known ↦ inl known | inr o ↦ inr (o.0, going_to b p at o.0 o.1) ]
      ]

  stale_there_by : (a b : ℕ) (l x : Live) (p : Place) → IsIn attached b → (here b).transaction a ≡ Alive l → now.transaction a ≡ Alive x → l.stale p ≡ true → x.stale p ≡ true
  stale_there_by a b l x p at is_l e f =
      let v = was_live a x e in
      stale_is x v.1 p v.3 ∙ or_right (is_some (fin.get c p)) (v.1.stale p) (h.stale_there a b l v.1 p at is_l v.2 f)

  -- rows
  same_row : (b : ℕ) (p : Place) → IsIn attached b → ((o : ℕ) → ¬ (Going tables new (machines o) (mails o) o b p)) → fin.get (here b).rows p ≡ fin.get now.rows p
  same_row b p at nobody =
      h.rows_same b p at (λ o g. nobody o (going_to b p at o g))
      ∙ sym (row_stays p (none_of (is_some (fin.get c p)) (λ changed. nobody s (its_going b p at changed))))

  left_row : (o b : ℕ) (p : Place) (last : Live) → IsIn attached b → Going tables new (machines o) (mails o) o b p → leaving_of tables o new ≡ Alive last
      → fin.get last.changes p ≡ Some (fin.get now.rows p)
  left_row o b p last at g left = elim (going_from b p at o g) [
    | inl mine ↦ ap (λ (y : Live). fin.get y.changes p) (same_live (leaving_of tables s new) last u (ap (λ i. leaving_of tables i new) (sym mine.0) ∙ left) left_mine) ∙ row_changes p mine.1
    | inr other ↦ h.rows_left o b p last at other.1 (sym (left_others o other.0) ∙ left)
        ∙ ap Some (sym (row_stays p (none_of (is_some (fin.get c p)) (disjoint o b p other.1))))
  ]

  -- numbers
  live_same : (o : ℕ) → o ≢ s → is_live (now.transaction o) ≡ is_live (was.transaction o)
  live_same o other = ap is_live (others o other) ∙ live_grown c (was.transaction o)

  inserted_to : (b table : ℕ) (work : Work) → IsIn attached b → (o : ℕ) → Inserted tables old (machine o) (mail o) o b table work → Inserted tables new (machines o) (mails o) o b table work
  inserted_to b table work at = each_at2 (λ o x y. Inserted tables old (machine o) (mail o) o b table work → Inserted tables new x y o b table work) machine mail s n (mail s)
      (λ i. absurd (idle b work at i.inserted))
      (λ o other i. record { live = live_same o other ∙ i.live; inserted = i.inserted; at = i.at })

  inserted_from : (b table : ℕ) (work : Work) → IsIn attached b → (o : ℕ) → Inserted tables new (machines o) (mails o) o b table work → (o ≢ s) × Inserted tables old (machine o) (mail o) o b table work
  inserted_from b table work at = each_at2 (λ o x y. Inserted tables new x y o b table work → (o ≢ s) × Inserted tables old (machine o) (mail o) o b table work) machine mail s n (mail s)
      (λ i. absurd (idles b work at i.inserted))
      (λ o other i. (other, record { live = sym (live_same o other) ∙ i.live; inserted = i.inserted; at = i.at }))

  behind_same : (o : ℕ) (work : Work) (table : ℕ) → o ≢ s → numbers_behind now o work table ≡ numbers_behind was o work table
  behind_same o work table other =
      ap (λ (x : Transaction). drawn_where now.tables now.next work x table) (others o other)
      ∙ ap (λ f. f table) (drawn_grown now.tables now.next work c (was.transaction o))
      ∙ ap (λ (ts : List TableDef). drawn_where ts now.next work (was.transaction o) table) (tables_same tables new old)
      ∙ ap (λ (f : ℕ → Option ℤ). drawn_where was.tables f work (was.transaction o) table) (committed_next tables s old u is)

  -- its own transaction has ended, and the others hold what they held
  was_inserting : (table o : ℕ) → is_live (now.transaction o) ≡ true → Inserts (machines o) table → (is_live (was.transaction o) ≡ true) × Inserts (machine o) table
  was_inserting table = each_at (λ o x. is_live (now.transaction o) ≡ true → Inserts x table → (is_live (was.transaction o) ≡ true) × Inserts (machine o) table) machine s n
      (λ live i. absurd (let z : false ≡ true = sym (ap is_live none) ∙ live in cc))
      (λ o other live i. (sym (live_same o other) ∙ live, i))

  held_before : (w : Wants) (o : ℕ) → Conflicts w (held_by (now.transaction o)) → Conflicts w (held_by (was.transaction o))
  held_before w o x = elim (same_or_other o s) [
    | inl same ↦ absurd (no_right w (subst (λ (y : Transaction). Conflicts w (held_by y)) (ap now.transaction same ∙ none) x))
    | inr other ↦ subst (Conflicts w) (held_same o other) x
  ]

  locks : HaveLocks now machines
  locks = record {
    alone = λ a o table live there i j.
        let x = was_inserting table a live i in
        let y = was_inserting table o there j in
        h.locks.alone a o table x.0 y.0 x.1 y.1;
    free = λ a o table differ live i conflict.
        let x = was_inserting table a live i in
        h.locks.free a o table differ x.0 x.1 (held_before (table_lock table) o conflict);
  }

  pub enters_shared : Shared tables attached new here machines mails
  enters_shared = record {
    tables_here = h.tables_here;
    sound = h.sound;
    shaped = h.shaped;
    sound_there = sound;
    undead = undead;
    stale = stale_by;
    stale_here = stale_here_by;
    stale_there = stale_there_by;
    rows_same = same_row;
    rows_left = left_row;
    numbers = λ b table at nobody. h.numbers b table at (λ o work i. nobody o work (inserted_to b table work at o i)) ∙ ap (λ (f : ℕ → Option ℤ). f table) (sym (committed_next tables s old u is));
    numbers_ahead = λ o b table work at i.
        let k = inserted_from b table work at o i in
        h.numbers_ahead o b table work at k.1 ∙ sym (behind_same o work table k.0);
    locks = locks;
    run = committed_run tables s old u is clear h.run;
  }
