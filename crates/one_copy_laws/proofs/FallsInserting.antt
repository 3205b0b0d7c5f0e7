-- A serial insert that dies: its lock, its run and its fall take place in the single run, and what holds of the others holds on.
use Rattle.std.proofs.Common.{◌≡◌, ◌≢◌, ℕ, ◌≤◌, Bool, true, false, List, ◌∷◌, length, refl, sym, ap, ◌∙◌, subst, arith, inl, inr}
use Rattle.std.specs.Prelude.{Option, Some, None, is_some}
use Rattle.pool_base.specs.declared.code.Code.{Code}
use Rattle.pool_base.specs.declared.backend_id.BackendId.{BackendId}
use Rattle.backend_trait.specs.declared.request.Request.{Request}
use Rattle.backend_trait.specs.declared.request.Request.TheVariants as requests
use Rattle.backend_trait.specs.declared.answer.Answer.{Answer}
use Rattle.backend_trait.specs.declared.answer.Answer.TheVariants as answers
use Rattle.backend_trait.specs.Effect.{Conflicts}
use Rattle.backend_trait.specs.Rows.{with_at}
use Rattle.backend_trait.specs.Store.{Live, Absent, Alive, held_by, table_lock}
use Rattle.session_machine.specs.declared.work.Work.{Work}
use Rattle.session_machine.specs.declared.machine.Machine.{Machine}
use Rattle.session_machine.specs.declared.machine.Stage.{Stage}
use Rattle.session_machine.specs.declared.machine.Stage.TheVariants.{Inserting}
use Rattle.session_machine.specs.Answers.{lowest, is_attached}
use Rattle.one_copy_model.specs.declared.deed.Deed.TheVariants.{Asks, Gets, Falls}
use Rattle.one_copy_model.specs.declared.deed.Entry.{Entry}
use Rattle.one_copy_model.specs.SingleRun.{store_after}
use Rattle.one_copy_model.specs.World.{World}
use Rattle.one_copy_model.specs.Places.{asks_of}
use Rattle.one_copy_model.specs.Deaths.{is_live, stage_at, code_from, code_of_lowest, death_of, death_in, recorded}
use Rattle.one_copy_model.specs.Tracking.{Told, in_commit}
use Rattle.one_copy_model.specs.Chains.{is_unposted}
use Rattle.one_copy_model.specs.Orders.{IsClassedIn}
use Rattle.one_copy_model.specs.Standing.{Ahead, Fallen, Leaving, standing_in}
use Rattle.one_copy_model.specs.Invariant.{AtDeath, AtDeathIf, HasReason, NowOrAtDeath, MayRefuseTo, Inserts, inserted_in, inserting_in, request_in, where_live, wants_of}
use Rattle.one_copy_model.specs.Own.{told_by, stand, IsIn, Own}
use Rattle.one_copy_model.specs.Facts.{Facts, Inserted, Shared}
use Rattle.one_copy_model.proofs.Places.{same_or_other}
use Rattle.one_copy_model.proofs.Landing.{with_at-self}
use Rattle.one_copy_model.proofs.Locks.{locks_ended}
use Rattle.one_copy_model.proofs.Turns.{sound_ended, undead_ended, was_live}
use Rattle.one_copy_model.proofs.Deeds.{entry}
use Rattle.one_copy_model.proofs.Finding.{is_found, nobody_attached}
use Rattle.one_copy_model.proofs.Livings.{live_is}
use Rattle.one_copy_laws.proofs.GateFinishing.{under_way}
use Rattle.one_copy_laws.proofs.ChainsChaining.{class_in}
use Rattle.one_copy_laws.proofs.DrawsDrawing.{own_draws}
use Rattle.one_copy_laws.proofs.DrawsInserting.{Drawn, insert_falls, insert_ended, insert_code}
use Rattle.one_copy_laws.proofs.DrawsSharing.{shared_draws}
use Rattle.one_copy_laws.proofs.FallsDeaths.{dead_at_death}
use Rattle.one_copy_laws.proofs.FallsFalling.{itself, fallen_at, in_stage, dies_outside, dies_here, own_dies}

-- who has fallen in its run was refused
ahead_falls : (asked : List Request) → Ahead asked ≡ Fallen → ⊥
ahead_falls asked e = cc

refused_in : (work : Work) (posted : Bool) (told : Option Answer) → standing_in (Inserting work posted) told ≡ Fallen → (code : Code) × (told ≡ Some (answers.Refused code))
refused_in work posted None e = absurd (ahead_falls _ e)
refused_in work posted (Some (answers.Refused code)) e = (code, refl)
refused_in work posted (Some answers.Began) e = absurd (ahead_falls _ e)
refused_in work posted (Some (answers.Rows rows)) e = absurd (ahead_falls _ e)
refused_in work posted (Some (answers.Count n)) e = absurd (ahead_falls _ e)
refused_in work posted (Some answers.Locked) e = absurd (ahead_falls _ e)
refused_in work posted (Some answers.Done) e = absurd (ahead_falls _ e)
refused_in work posted (Some (answers.Serial n)) e = absurd (ahead_falls _ e)

posted_is : (work : Work) (posted : Bool) → is_unposted (Inserting work posted) ≡ false → posted ≡ true
posted_is work true e = refl
posted_is work false e = absurd (let z : true ≡ false = e in cc)

told_of : (found : Option Told) → is_some found ≡ true → (told : Told) × (found ≡ Some told)
told_of (Some told) e = (told, refl)
told_of None e = absurd (let z : false ≡ true = e in cc)

module _ (w : World) (orders : ℕ → Option Told) (done : ℕ → ℕ → Bool) (first : ℕ) (there : IsIn w.gate.attached.bits first) (h : List Entry)
    (f : Facts w.tables w.gate w.machine w.store w.mail h orders done (λ s. is_live ((store_after w.tables h).transaction s)))
    (s : ℕ) (lives : is_live ((store_after w.tables h).transaction s) ≡ true)
    (gone : (b : ℕ) → IsIn w.gate.attached.bits b → is_live ((w.store b).transaction s) ≡ false)
    (work : Work) (posted : Bool) (at : stage_at (w.machine s).point ≡ Some (Inserting work posted)) where
  abbrev attached : ℕ
  attached = w.gate.attached.bits

  abbrev m : Machine
  m = w.machine s

  abbrev mail : ℕ → Option Answer
  mail = w.mail s

  abbrev OwnAt : List Entry → Bool → Type 0
  OwnAt g live = Own w.tables attached g w.store m mail (orders s) (done s) live s

  old : OwnAt h (is_live ((store_after w.tables h).transaction s))
  old = f.own s

  alive : (k : Live) × ((store_after w.tables h).transaction s ≡ Alive k)
  alive = live_is ((store_after w.tables h).transaction s) lives

  -- its table, and what it waits for there
  classed : IsClassedIn w.tables (Inserting work posted)
  classed = class_in w.tables m.point (Inserting work posted) at old.classed

  abbrev table : ℕ
  table = classed.1.0

  inserts : Inserts m table
  inserts = record { work = work; inserting = ap inserting_in at; at = classed.1.1 }

  asks : request_in ((store_after w.tables h).pending s) ≡ Some (asks_of work)
  asks = old.posts ∙ ap (λ (v : Bool). where_live v (wants_of m.point (stage_at m.point))) lives ∙ ap (wants_of m.point) at

  free : (o : ℕ) → s ≢ o → ¬ (Conflicts (table_lock table) (held_by ((store_after w.tables h).transaction o)))
  free o apart = f.shared.locks.free s o table apart lives inserts

  -- each attached backend has refused its run
  pub refused_at : (b : ℕ) → IsIn attached b → (code : Code) × (told_by m mail b ≡ Some (answers.Refused code))
  refused_at b in_it = refused_in work posted (told_by m mail b)
      (sym (in_stage w.tables attached h w.store m mail (orders s) (done s) _ s old first there lives gone (Inserting work posted) at b)
      ∙ fallen_at w.tables attached h w.store m mail (orders s) (done s) _ s old first there lives gone b in_it)

  pub lowest_is : (found : Option BackendId) → lowest attached ≡ found → (low : BackendId) × (lowest attached ≡ Some low)
  lowest_is (Some low) e = (low, e)
  lowest_is None e = absurd (nobody_attached attached f.counts.few e first there)

  abbrev low : BackendId
  low = (lowest_is (lowest attached) refl).0

  low_is : lowest attached ≡ Some low
  low_is = (lowest_is (lowest attached) refl).1

  pub low_here : IsIn attached low.number
  low_here = is_found (is_attached attached) low low_is

  abbrev code : Code
  code = (refused_at low.number low_here).0

  code_is : told_by m mail low.number ≡ Some (answers.Refused code)
  code_is = (refused_at low.number low_here).1

  abbrev to : List Entry
  to = recorded s (death_of work (Some code)) h

  pub deeds_are : death_in w s (stage_at m.point) ≡ death_of work (Some code)
  deeds_are =
      ap (death_in w s) at
      ∙ ap (λ (found : Option BackendId). death_of work (code_of_lowest w s found)) low_is
      ∙ ap (λ (told : Option Answer). death_of work (code_from told)) code_is

  -- each reason stays one: the code of the lowest is placed, and of the others it is said that it might have been
  by : (told : Told) × (orders s ≡ Some told)
  by = told_of (orders s) (under_way m.point (orders s) (λ rests. let z : None ≡ Some (Inserting work posted) = sym (ap stage_at rests) ∙ at in cc) old.orders)

  now_of : (other : Code) (since : ℕ) → NowOrAtDeath w.tables (Inserting work posted) s other since h → MayRefuseTo (store_after w.tables h) s ⊥ (requests.Run work.statement) other
  now_of other since (inl now) = now
  now_of other since (inr death) = absurd (let z : false ≡ true = sym (dead_at_death w.tables s other since h death) ∙ lives in cc)

  may : MayRefuseTo (store_after w.tables h) s ⊥ (requests.Run work.statement) code
  may = now_of code by.0.entries (old.reasons (Inserting work posted) by.0 code at by.1 (inl (low.number, low_here, code_is)))

  drawn : Drawn w.tables s table work h to
  drawn = insert_falls w.tables s table h work alive.0 classed.0 classed.1.1 alive.1 asks free f.shared.run code may

  ended : (store_after w.tables to).transaction s ≡ Absent
  ended = insert_ended w.tables s table h work alive.0 classed.0 classed.1.1 alive.1 asks free f.shared.run code

  abbrev ran : List Entry
  ran = entry s (Asks (requests.Run work.statement)) ∷ entry s (Gets answers.Locked) ∷ h

  death : (other : Code) (since : ℕ) → since ≤ length h → MayRefuseTo (store_after w.tables h) s ⊥ (requests.Run work.statement) other → AtDeath w.tables s other since to
  death other since most now = subst (λ v. AtDeathIf w.tables v s other since (entry s (Falls (Some code))) ran (AtDeath w.tables s other since ran)) (sym (itself s)) (
    refl,
    (let z : since ≤ length ran = omega (arith, most) in z),
    insert_code w.tables s table h work alive.0 classed.0 classed.1.1 alive.1 asks free f.shared.run other now,
  )

  reasons : (y : Stage) (told : Told) (other : Code) → stage_at m.point ≡ Some y → orders s ≡ Some told → HasReason w.tables y s other told.entries h → HasReason w.tables y s other told.entries to
  reasons y told other e is r =
      let same : Inserting work posted ≡ y = (let z : Some (Inserting work posted) ≡ Some y = sym at ∙ e in cc) in
      subst (λ (z : Stage). HasReason w.tables z s other told.entries to) same
      (inr (death other told.entries (old.since told is) (now_of other told.entries (subst (λ (z : Stage). HasReason w.tables z s other told.entries h) (sym same) r))))

  abbrev Lives : List Entry → ℕ → Bool
  Lives g o = is_live ((store_after w.tables g).transaction o)

  its_own : OwnAt to (Lives to s)
  its_own = subst (OwnAt to) (sym (ap is_live ended))
      (own_dies w.tables attached h w.store m mail (orders s) (done s) _ s old first there lives gone to ended drawn.clear drawn.longer reasons)

  pub others : (o : ℕ) → o ≢ s → (store_after w.tables to).transaction o ≡ (store_after w.tables h).transaction o
  others o other = (drawn.draws o other).transaction

  alone : (o : ℕ) → o ≢ s → Lives h o ≡ true → Inserts (w.machine o) table → ⊥
  alone o other live i = other (sym (f.shared.locks.alone s o table lives live inserts i))

  -- where it has answered here the numbers are those there behind its run
  inserted_at : (b : ℕ) → IsIn attached b → Inserted w.tables h m mail s b table work
  inserted_at b in_it =
      let r = refused_at b in_it in
      record {
        live = lives;
        inserted = ap (λ (x : Option Stage). inserted_in x (told_by m mail b)) at
            ∙ ap (λ (v : Bool). inserted_in (Some (Inserting work v)) (told_by m mail b)) (posted_is work posted (old.heard b (Inserting work posted) (answers.Refused r.0) in_it at r.1).posted)
            ∙ ap (inserted_in (Some (Inserting work true))) r.1;
        at = classed.1.1;
      }

  ahead : (b : ℕ) → IsIn attached b → (w.store b).next table ≡ (store_after w.tables to).next table
  ahead b in_it = f.shared.numbers_ahead s b table work in_it (inserted_at b in_it) ∙ sym drawn.next

  leaves_none : (b : ℕ) → IsIn attached b → stand m mail b ≢ Leaving
  leaves_none = dies_here w.tables attached h w.store m mail (orders s) (done s) _ s old first there lives gone

  outside_it : in_commit m.session.gate ≡ false
  outside_it = dies_outside w.tables attached h w.store m mail (orders s) (done s) _ s old first there lives gone

  no_more : (b other : ℕ) (mine : Work) → IsIn attached b → Inserted w.tables to m mail s b other mine → ⊥
  no_more b other mine in_it i = let z : false ≡ true = sym (ap is_live ended) ∙ i.live in cc

  pub insert_dies : Facts w.tables w.gate w.machine w.store w.mail to orders done (λ o. is_live ((store_after w.tables to).transaction o))
  insert_dies = record {
    own = λ o. elim (same_or_other o s) [
      | inl e ↦ subst (λ j. Own w.tables attached to w.store (w.machine j) (w.mail j) (orders j) (done j) (Lives to j) j) (sym e) its_own
      | inr other ↦ own_draws w.tables table o h to (drawn.draws o other) attached w.store (w.machine o) (w.mail o) (orders o) (done o) (Lives h o) (Lives to o) (ap is_live (others o other)) (alone o other) (f.own o)
    ];
    shared =
        subst (λ (y : ℕ → Machine). Shared w.tables attached to w.store y w.mail) (with_at-self w.machine s)
        (subst (λ (y : ℕ → ℕ → Option Answer). Shared w.tables attached to w.store (with_at w.machine s m) y) (with_at-self w.mail s)
        (shared_draws w.tables attached h to w.store w.machine w.mail s m mail table drawn.draws lives inserts leaves_none leaves_none outside_it no_more drawn.rows ahead
        (sound_ended (store_after w.tables h) (store_after w.tables to) s others ended f.shared.sound_there)
        (undead_ended (store_after w.tables h) (store_after w.tables to) s others ended f.shared.undead) drawn.run
        (λ a u is. let v = was_live (store_after w.tables h) (store_after w.tables to) s others ended a u is in (u, v.1, refl))
        (locks_ended (store_after w.tables h) (store_after w.tables to) w.machine s m others ended f.shared.locks)
        (λ o. (f.own o).classed) f.shared));
    counts = f.counts;
  }

  pub insert_none : (store_after w.tables to).transaction s ≡ Absent
  insert_none = ended
