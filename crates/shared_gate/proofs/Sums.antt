-- The counts of the gate are those of the phases.
use Rattle.std.proofs.Common.{◌≡◌, ◌≢◌, ℕ, zero, suc, ◌+◌, ◌*◌, ◌<◌, ◌≤◌, Bool, true, false, List, [], ◌∷◌, ◌++◌, set, refl, ap, sym, subst, ◌∙◌, arith}
use mathlib.Core.Option.{some, some-injective, some-ne-none}
use lib.ListN.{get_elem?}
use Rattle.pool_base.specs.Sets.{has}
use Rattle.pool_base.specs.declared.gate_call.GateCall.{GateCall}
use Rattle.pool_base.specs.declared.gate_call.GateCall.TheVariants.{Look, EnterSnapshot, LeaveSnapshot, EnterCommit, LeaveCommit, Finish, Detach, StartCopy, AskQuiet, EnterQuiet, Attach, LeaveQuiet}
use Rattle.snapshot_gate.specs.declared.state.GateState.{GateState}
use Rattle.shared_gate.specs.declared.history.Entry.{Entry}
use Rattle.shared_gate.specs.declared.history.Knows.{Knows}
use Rattle.snapshot_gate.specs.Function.{granted, MayCall}
use Rattle.shared_gate.specs.History.{Stand, Copy, Out, InSnapshot, Live, InCommit, Idle, Copying, Asked, Entered, is_copying, stand_of, copy_of, stand_by, copy_by, MayStand}
use Rattle.shared_gate.specs.Rule.{in_snapshot, in_commit, is_live, stage, copies, total, Counts}
use Rattle.shared_gate.proofs.Logs.{Free}

pub total_set : (f : Knows → ℕ) (views : List Knows) (i : ℕ) (v w : Knows) → get_elem? views i ≡ some v → total f (set views i w) + f v ≡ total f views + f w
total_set f [] i v w at = absurd (some-ne-none v (sym at))
total_set f (x ∷ xs) zero v w at = let same : f x ≡ f v = ap f (some-injective x v at) in omega arith
total_set f (x ∷ xs) (suc i) v w at = let t = total_set f xs i v w at in omega arith

pub total_snoc : (f : Knows → ℕ) (views : List Knows) (v : Knows) → total f (views ++ v ∷ []) ≡ total f views + f v
total_snoc f [] v = omega arith
total_snoc f (x ∷ xs) v = let t = total_snoc f xs v in omega arith

pub total_le : (f g : Knows → ℕ) → ((u : Knows) → f u ≤ g u) → (views : List Knows) → total f views ≤ total g views
total_le f g le [] = omega arith
total_le f g le (x ∷ xs) = let h = le x in let t = total_le f g le xs in omega arith

total_three : (f g : Knows → ℕ) → ((u : Knows) → f u ≤ 3 * g u) → (views : List Knows) → total f views ≤ 3 * total g views
total_three f g le [] = omega arith
total_three f g le (x ∷ xs) = let h = le x in let t = total_three f g le xs in omega arith

pub total_ge : (f : Knows → ℕ) (views : List Knows) (i : ℕ) (v : Knows) → get_elem? views i ≡ some v → f v ≤ total f views
total_ge f [] i v at = absurd (some-ne-none v (sym at))
total_ge f (x ∷ xs) zero v at = let same : f x ≡ f v = ap f (some-injective x v at) in omega arith
total_ge f (x ∷ xs) (suc i) v at = let t = total_ge f xs i v at in omega arith

pub total_lt : (f g : Knows → ℕ) → ((u : Knows) → f u ≤ g u) → (views : List Knows) (i : ℕ) (v : Knows) → get_elem? views i ≡ some v → f v < g v → total f views < total g views
total_lt f g le [] i v at lt = absurd (some-ne-none v (sym at))
total_lt f g le (x ∷ xs) zero v at lt =
    let a : f x ≡ f v = ap f (some-injective x v at) in let b : g x ≡ g v = ap g (some-injective x v at) in let t = total_le f g le xs in omega arith
total_lt f g le (x ∷ xs) (suc i) v at lt = let h = le x in let t = total_lt f g le xs i v at lt in omega arith

-- where there is one at most, and this is it, the sum is its own
pub only : (f g : Knows → ℕ) → ((u : Knows) → f u ≤ 3 * g u) → (views : List Knows) (i : ℕ) (v : Knows) → get_elem? views i ≡ some v → total g views ≤ 1 → g v ≡ 1 → total f views ≡ f v
only f g le [] i v at one is = absurd (some-ne-none v (sym at))
only f g le (x ∷ xs) zero v at one is =
    let a : f x ≡ f v = ap f (some-injective x v at) in let b : g x ≡ g v = ap g (some-injective x v at) in let t = total_three f g le xs in omega arith
only f g le (x ∷ xs) (suc i) v at one is =
    let h = le x in let k = total_ge g xs i v at in let t = only f g le xs i v at (omega arith) is in omega arith

pub two : (f : Knows → ℕ) (views : List Knows) (i j : ℕ) (v u : Knows) → get_elem? views i ≡ some v → get_elem? views j ≡ some u → j ≢ i → f v + f u ≤ total f views
two f [] i j v u at to apart = absurd (some-ne-none v (sym at))
two f (x ∷ xs) zero zero v u at to apart = absurd (apart refl)
two f (x ∷ xs) zero (suc j) v u at to apart = let a : f x ≡ f v = ap f (some-injective x v at) in let t = total_ge f xs j u to in omega arith
two f (x ∷ xs) (suc i) zero v u at to apart = let a : f x ≡ f u = ap f (some-injective x u to) in let t = total_ge f xs i v at in omega arith
two f (x ∷ xs) (suc i) (suc j) v u at to apart = let t = two f xs i j v u at to (λ e. apart (ap suc e)) in omega arith

pub commit_le : (s : Stand) → in_commit s ≤ is_live s
commit_le Out = omega arith
commit_le InSnapshot = omega arith
commit_le Live = omega arith
commit_le InCommit = omega arith

pub stage_three : (c : Copy) → stage c ≤ 3 * copies c
stage_three Idle = omega arith
stage_three Copying = omega arith
stage_three Asked = omega arith
stage_three Entered = omega arith

pub copies_le : (c : Copy) → copies c ≤ stage c
copies_le Idle = omega arith
copies_le Copying = omega arith
copies_le Asked = omega arith
copies_le Entered = omega arith

pub is_copier : (c : Copy) → is_copying c ≡ true → (copies c ≡ 1) × (0 < stage c)
is_copier Idle e = absurd (cc)
is_copier Copying e = (refl, omega arith)
is_copier Asked e = (refl, omega arith)
is_copier Entered e = (refl, omega arith)

pub record Sums (s : GateState) (snaps commits live quiet copiers : ℕ) : Type 0 where
  pub snaps_is : s.snaps ≡ snaps
  pub commits_is : s.commits ≡ commits
  pub live_is : s.live ≡ live
  pub quiet_is : s.quiet ≡ quiet
  pub copiers_few : copiers ≤ 1

-- one pass goes from a phase to another: each sum goes with it
pub record Shift (st st' : Stand) (cp cp' : Copy) (S C L Q K S' C' L' Q' K' : ℕ) : Type 0 where
  pub snaps_go : S' + in_snapshot st ≡ S + in_snapshot st'
  pub commits_go : C' + in_commit st ≡ C + in_commit st'
  pub live_go : L' + is_live st ≡ L + is_live st'
  pub quiet_go : Q' + stage cp ≡ Q + stage cp'
  pub copiers_go : K' + copies cp ≡ K + copies cp'
  pub idle : Q ≡ 0 → K ≡ 0
  pub part : stage cp ≤ Q
  pub own : copies cp ≡ 1 → Q ≡ stage cp

module _ (st : Stand) (cp : Copy) (seen s : GateState) (S C L Q K S' C' L' Q' K' : ℕ) (was : Sums s S C L Q K) where
  abbrev pub Goes : GateCall → Type 0
  Goes call = MayStand st cp seen call → Free s call → Shift st (stand_by st call) cp (copy_by cp call) S C L Q K S' C' L' Q' K' → Sums (granted s call) S' C' L' Q' K'

  abbrev same : Shift st st cp cp S C L Q K S' C' L' Q' K' → (S' ≡ S) × (C' ≡ C) × (L' ≡ L) × (Q' ≡ Q) × (K' ≡ K)
  same h = let a = h.snaps_go in let b = h.commits_go in let c = h.live_go in let d = h.quiet_go in let e = h.copiers_go in (omega arith, omega arith, omega arith, omega arith, omega arith)

  pub goes : (call : GateCall) → Goes call
  goes Look may free h = let t = same h in record { snaps_is = was.snaps_is ∙ sym t.0; commits_is = was.commits_is ∙ sym t.1; live_is = was.live_is ∙ sym t.2; quiet_is = was.quiet_is ∙ sym t.3; copiers_few = subst (λ (k : ℕ). k ≤ 1) (sym t.4) was.copiers_few }
  goes EnterSnapshot may free h =
      let s0 : in_snapshot st ≡ 0 = ap in_snapshot may in let c0 : in_commit st ≡ 0 = ap in_commit may in let l0 : is_live st ≡ 0 = ap is_live may in
      let a = h.snaps_go in let b = h.commits_go in let c = h.live_go in let d = h.quiet_go in let e = h.copiers_go in
      let a' = was.snaps_is in let b' = was.commits_is in let c' = was.live_is in let d' = was.quiet_is in let e' = was.copiers_few in
      record { snaps_is = omega arith; commits_is = omega arith; live_is = omega arith; quiet_is = omega arith; copiers_few = omega arith }
  goes LeaveSnapshot may free h =
      let s0 : in_snapshot st ≡ 1 = ap in_snapshot may in let c0 : in_commit st ≡ 0 = ap in_commit may in let l0 : is_live st ≡ 0 = ap is_live may in
      let a = h.snaps_go in let b = h.commits_go in let c = h.live_go in let d = h.quiet_go in let e = h.copiers_go in
      let a' = was.snaps_is in let b' = was.commits_is in let c' = was.live_is in let d' = was.quiet_is in let e' = was.copiers_few in
      record { snaps_is = omega arith; commits_is = omega arith; live_is = omega arith; quiet_is = omega arith; copiers_few = omega arith }
  goes (EnterCommit tables) may free h =
      let s0 : in_snapshot st ≡ 0 = ap in_snapshot may in let c0 : in_commit st ≡ 0 = ap in_commit may in let l0 : is_live st ≡ 1 = ap is_live may in
      let a = h.snaps_go in let b = h.commits_go in let c = h.live_go in let d = h.quiet_go in let e = h.copiers_go in
      let a' = was.snaps_is in let b' = was.commits_is in let c' = was.live_is in let d' = was.quiet_is in let e' = was.copiers_few in
      record { snaps_is = omega arith; commits_is = omega arith; live_is = omega arith; quiet_is = omega arith; copiers_few = omega arith }
  goes LeaveCommit may free h =
      let s0 : in_snapshot st ≡ 0 = ap in_snapshot may in let c0 : in_commit st ≡ 1 = ap in_commit may in let l0 : is_live st ≡ 1 = ap is_live may in
      let a = h.snaps_go in let b = h.commits_go in let c = h.live_go in let d = h.quiet_go in let e = h.copiers_go in
      let a' = was.snaps_is in let b' = was.commits_is in let c' = was.live_is in let d' = was.quiet_is in let e' = was.copiers_few in
      record { snaps_is = omega arith; commits_is = omega arith; live_is = omega arith; quiet_is = omega arith; copiers_few = omega arith }
  goes Finish may free h =
      let s0 : in_snapshot st ≡ 0 = ap in_snapshot may in let c0 : in_commit st ≡ 0 = ap in_commit may in let l0 : is_live st ≡ 1 = ap is_live may in
      let a = h.snaps_go in let b = h.commits_go in let c = h.live_go in let d = h.quiet_go in let e = h.copiers_go in
      let a' = was.snaps_is in let b' = was.commits_is in let c' = was.live_is in let d' = was.quiet_is in let e' = was.copiers_few in
      record { snaps_is = omega arith; commits_is = omega arith; live_is = omega arith; quiet_is = omega arith; copiers_few = omega arith }
  goes (Detach b) may free h = let t = same h in record { snaps_is = was.snaps_is ∙ sym t.0; commits_is = was.commits_is ∙ sym t.1; live_is = was.live_is ∙ sym t.2; quiet_is = was.quiet_is ∙ sym t.3; copiers_few = subst (λ (k : ℕ). k ≤ 1) (sym t.4) was.copiers_few }
  goes StartCopy may free h =
      let none : K ≡ 0 = h.idle (sym was.quiet_is ∙ free) in let z = copies_le cp in let q : Q ≡ 0 = sym was.quiet_is ∙ free in let p = h.part in
      let a = h.snaps_go in let b = h.commits_go in let c = h.live_go in let d = h.quiet_go in let e = h.copiers_go in
      let a' = was.snaps_is in let b' = was.commits_is in let c' = was.live_is in let d' = was.quiet_is in let e' = was.copiers_few in
      record { snaps_is = omega arith; commits_is = omega arith; live_is = omega arith; quiet_is = omega arith; copiers_few = omega arith }
  goes AskQuiet may free h =
      let k1 : copies cp ≡ 1 = ap copies may in let q1 : stage cp ≡ 1 = ap stage may in let o = h.own k1 in
      let a = h.snaps_go in let b = h.commits_go in let c = h.live_go in let d = h.quiet_go in let e = h.copiers_go in
      let a' = was.snaps_is in let b' = was.commits_is in let c' = was.live_is in let d' = was.quiet_is in let e' = was.copiers_few in
      record { snaps_is = omega arith; commits_is = omega arith; live_is = omega arith; quiet_is = omega arith; copiers_few = omega arith }
  goes EnterQuiet may free h =
      let k1 : copies cp ≡ 1 = ap copies may in let q1 : stage cp ≡ 2 = ap stage may in let o = h.own k1 in
      let a = h.snaps_go in let b = h.commits_go in let c = h.live_go in let d = h.quiet_go in let e = h.copiers_go in
      let a' = was.snaps_is in let b' = was.commits_is in let c' = was.live_is in let d' = was.quiet_is in let e' = was.copiers_few in
      record { snaps_is = omega arith; commits_is = omega arith; live_is = omega arith; quiet_is = omega arith; copiers_few = omega arith }
  goes (Attach b) may free h = let t = same h in record { snaps_is = was.snaps_is ∙ sym t.0; commits_is = was.commits_is ∙ sym t.1; live_is = was.live_is ∙ sym t.2; quiet_is = was.quiet_is ∙ sym t.3; copiers_few = subst (λ (k : ℕ). k ≤ 1) (sym t.4) was.copiers_few }
  goes LeaveQuiet may free h =
      let k = is_copier cp may in let k1 : copies cp ≡ 1 = k.0 in let o = h.own k1 in
      let a = h.snaps_go in let b = h.commits_go in let c = h.live_go in let d = h.quiet_go in let e = h.copiers_go in
      let a' = was.snaps_is in let b' = was.commits_is in let c' = was.live_is in let d' = was.quiet_is in let e' = was.copiers_few in
      record { snaps_is = omega arith; commits_is = omega arith; live_is = omega arith; quiet_is = omega arith; copiers_few = omega arith }

abbrev pub snap_of : Knows → ℕ
snap_of v = in_snapshot (stand_of v.mine)

abbrev pub commit_of : Knows → ℕ
commit_of v = in_commit (stand_of v.mine)

abbrev pub live_of : Knows → ℕ
live_of v = is_live (stand_of v.mine)

abbrev pub stage_of : Knows → ℕ
stage_of v = stage (copy_of v.mine)

abbrev pub copies_in : Knows → ℕ
copies_in v = copies (copy_of v.mine)

-- a call that is granted
pub counts_grant : (s seen : GateState) (call : GateCall) (views : List Knows) (i : ℕ) (v w : Knows) → Counts s views → get_elem? views i ≡ some v
    → MayStand (stand_of v.mine) (copy_of v.mine) seen call → Free s call → stand_of w.mine ≡ stand_by (stand_of v.mine) call → copy_of w.mine ≡ copy_by (copy_of v.mine) call
    → Counts (granted s call) (set views i w)
counts_grant s seen call views i v w c at may free st cp =
    let views' = set views i w in
    let was : Sums s (total snap_of views) (total commit_of views) (total live_of views) (total stage_of views) (total copies_in views) =
    record { snaps_is = c.snaps; commits_is = c.commits; live_is = c.live; quiet_is = c.quiet; copiers_few = c.copiers } in
    let shift : Shift (stand_of v.mine) (stand_by (stand_of v.mine) call) (copy_of v.mine) (copy_by (copy_of v.mine) call)
    (total snap_of views) (total commit_of views) (total live_of views) (total stage_of views) (total copies_in views)
    (total snap_of views') (total commit_of views') (total live_of views') (total stage_of views') (total copies_in views') =
    record {
      snaps_go = total_set snap_of views i v w at ∙ ap (λ (t : Stand). total snap_of views + in_snapshot t) st;
      commits_go = total_set commit_of views i v w at ∙ ap (λ (t : Stand). total commit_of views + in_commit t) st;
      live_go = total_set live_of views i v w at ∙ ap (λ (t : Stand). total live_of views + is_live t) st;
      quiet_go = total_set stage_of views i v w at ∙ ap (λ (t : Copy). total stage_of views + stage t) cp;
      copiers_go = total_set copies_in views i v w at ∙ ap (λ (t : Copy). total copies_in views + copies t) cp;
      idle = λ none. (let t = total_le copies_in stage_of (λ u. copies_le (copy_of u.mine)) views in omega arith);
      part = total_ge stage_of views i v at;
      own = λ one. only stage_of copies_in (λ u. stage_three (copy_of u.mine)) views i v at c.copiers one;
    } in
    let t = goes (stand_of v.mine) (copy_of v.mine) seen s (total snap_of views) (total commit_of views) (total live_of views) (total stage_of views) (total copies_in views)
    (total snap_of views') (total commit_of views') (total live_of views') (total stage_of views') (total copies_in views') was call may free shift in
    record { snaps = t.snaps_is; commits = t.commits_is; live = t.live_is; quiet = t.quiet_is; copiers = t.copiers_few }

same_total : (f : Knows → ℕ) (views : List Knows) (i : ℕ) (v w : Knows) → get_elem? views i ≡ some v → f w ≡ f v → total f (set views i w) ≡ total f views
same_total f views i v w at is = let t = total_set f views i v w at in omega arith

-- a pass whose phase stays
pub counts_stay : (s : GateState) (views : List Knows) (i : ℕ) (v w : Knows) → Counts s views → get_elem? views i ≡ some v → stand_of w.mine ≡ stand_of v.mine → copy_of w.mine ≡ copy_of v.mine
    → Counts s (set views i w)
counts_stay s views i v w c at st cp =
    record {
      snaps = c.snaps ∙ sym (same_total snap_of views i v w at (ap in_snapshot st));
      commits = c.commits ∙ sym (same_total commit_of views i v w at (ap in_commit st));
      live = c.live ∙ sym (same_total live_of views i v w at (ap is_live st));
      quiet = c.quiet ∙ sym (same_total stage_of views i v w at (ap stage cp));
      copiers = subst (λ (k : ℕ). k ≤ 1) (sym (same_total copies_in views i v w at (ap copies cp))) c.copiers;
    }

-- a new pass that is out
pub counts_new : (s : GateState) (views : List Knows) (v : Knows) → Counts s views → v.mine ≡ [] → Counts s (views ++ v ∷ [])
counts_new s views v c out =
    let a : snap_of v ≡ 0 = ap (λ (m : List Entry). in_snapshot (stand_of m)) out in let b : commit_of v ≡ 0 = ap (λ (m : List Entry). in_commit (stand_of m)) out in
    let d : live_of v ≡ 0 = ap (λ (m : List Entry). is_live (stand_of m)) out in let e : stage_of v ≡ 0 = ap (λ (m : List Entry). stage (copy_of m)) out in
    let f : copies_in v ≡ 0 = ap (λ (m : List Entry). copies (copy_of m)) out in
    let a' = total_snoc snap_of views v in let b' = total_snoc commit_of views v in let d' = total_snoc live_of views v in let e' = total_snoc stage_of views v in
    let f' = total_snoc copies_in views v in
    let s' = c.snaps in let c' = c.commits in let l' = c.live in let q' = c.quiet in let k' = c.copiers in
    record { snaps = omega arith; commits = omega arith; live = omega arith; quiet = omega arith; copiers = omega arith }

-- the gate's condition follows from the caller's
pub ready : (s seen : GateState) (call : GateCall) (views : List Knows) (i : ℕ) (v : Knows) → Counts s views → get_elem? views i ≡ some v
    → (copy_of v.mine ≡ Entered → (b : ℕ) → b ≤ 7 → has s.attached.bits b ≡ true → has seen.attached.bits b ≡ true)
    → MayStand (stand_of v.mine) (copy_of v.mine) seen call → MayCall s call
ready s seen Look views i v c at away may = tt
ready s seen EnterSnapshot views i v c at away may = tt
ready s seen LeaveSnapshot views i v c at away may = let a : snap_of v ≡ 1 = ap in_snapshot may in let t = total_ge snap_of views i v at in let n = c.snaps in omega arith
ready s seen (EnterCommit tables) views i v c at away may =
    let a : commit_of v ≡ 0 = ap in_commit may in let b : live_of v ≡ 1 = ap is_live may in
    let t = total_lt commit_of live_of (λ u. commit_le (stand_of u.mine)) views i v at (omega arith) in let m = c.commits in let n = c.live in omega arith
ready s seen LeaveCommit views i v c at away may = let a : commit_of v ≡ 1 = ap in_commit may in let t = total_ge commit_of views i v at in let n = c.commits in omega arith
ready s seen Finish views i v c at away may =
    let a : commit_of v ≡ 0 = ap in_commit may in let b : live_of v ≡ 1 = ap is_live may in
    let t = total_lt commit_of live_of (λ u. commit_le (stand_of u.mine)) views i v at (omega arith) in let m = c.commits in let n = c.live in omega arith
ready s seen (Detach b) views i v c at away may = tt
ready s seen StartCopy views i v c at away may = tt
ready s seen AskQuiet views i v c at away may = c.quiet ∙ (only stage_of copies_in (λ u. stage_three (copy_of u.mine)) views i v at c.copiers (ap copies may) ∙ ap stage may)
ready s seen EnterQuiet views i v c at away may = c.quiet ∙ (only stage_of copies_in (λ u. stage_three (copy_of u.mine)) views i v at c.copiers (ap copies may) ∙ ap stage may)
ready s seen (Attach b) views i v c at away may =
    (c.quiet ∙ (only stage_of copies_in (λ u. stage_three (copy_of u.mine)) views i v at c.copiers (ap copies may.0) ∙ ap stage may.0), off (has s.attached.bits b.number) (away may.0 b.number (let n = b.below_8 in omega arith)) may.1)
  where
    off : {seen_has : Bool} (h : Bool) → (h ≡ true → seen_has ≡ true) → seen_has ≡ false → h ≡ false
    off true f no' = absurd (cc (f refl))
    off false f no' = refl
ready s seen LeaveQuiet views i v c at away may = let k = is_copier (copy_of v.mine) may in let t = total_ge stage_of views i v at in let n = c.quiet in let p = k.1 in omega arith
