-- A call keeps the rule.
use Rattle.std.proofs.Common.{◌≡◌, ◌≢◌, ◌⊎◌, ℕ, zero, suc, ◌<◌, ◌≤◌, Bool, true, false, List, [], ◌∷◌, ◌++◌, set, length, refl, ap, sym, subst, ◌∙◌, inl, inr, ⊎_elim, arith, if◌then◌else◌, MatchBool, MatchResult, Result, Ok, Err, is_ok, nat_eq, ◌&&◌, eqb-true}
use Rattle.std.proofs.lemmas.List.{append-nil, length-set}
use mathlib.Core.Option.{some, some-injective, some-ne-none}
use lib.ListN.{get_elem?}
use Rattle.crossbeam_utils.specs.Register.{Turns}
use Rattle.atomic_table.proofs.Lists.{at_set, set_again}
use Rattle.pool_base.specs.Sets.{has}
use Rattle.pool_base.proofs.Finite.{without_has}
use Rattle.pool_base.specs.declared.backend_set.BackendSet.{BackendSet}
use Rattle.pool_base.specs.declared.gate_call.GateCall.{GateCall}
use Rattle.pool_base.specs.declared.gate_call.GateCall.TheVariants.{Look, EnterSnapshot, LeaveSnapshot, EnterCommit, LeaveCommit, Finish, Detach, StartCopy, AskQuiet, EnterQuiet, Attach, LeaveQuiet}
use Rattle.pool_base.specs.declared.gate_call.GateAnswer.{GateAnswer}
use Rattle.shared_gate.specs.declared.stored.Stored.{Stored}
use Rattle.snapshot_gate.specs.declared.state.GateState.{GateState}
use Rattle.shared_gate.specs.declared.history.Entry.{Entry}
use Rattle.shared_gate.specs.declared.history.Knows.{Knows}
use Rattle.snapshot_gate.specs.Function.{step, granted, Turn, MayCall, first, set_of}
use Rattle.shared_gate.specs.History.{Stand, Copy, Out, Idle, Entered, entry, state_after, IsReplay, IsOrderly, calls_by, StartsWith, stand_of, copy_of, stand_next, copy_next, stand_by, copy_by, is_grant, MayStand, MayStep, Extends, IsAtRest}
use Rattle.shared_gate.specs.Rule.{copies, Counts, Fits, Kept, Reads, Makes, Opens, unborn}
use Rattle.shared_gate.proofs.Logs.{state_snoc, replay_snoc, orderly_snoc, at_state, stand_snoc, copy_snoc, calls_more, calls_else, starts_snoc, starts_same, last_or, Free, Refuses, Grants, Either, each_turn}
use Rattle.shared_gate.proofs.Sums.{counts_grant, counts_stay, ready, two, copies_in}

-- a turn of either kind keeps the counts
pub counts_turn : (s seen : GateState) (by : ℕ) (call : GateCall) (t : Turn) (views : List Knows) (i : ℕ) (v w : Knows) → Either s call t → Counts s views → get_elem? views i ≡ some v
    → MayStand (stand_of v.mine) (copy_of v.mine) seen call → w.mine ≡ v.mine ++ entry by call t.1 ∷ [] → Counts t.0 (set views i w)
counts_turn s seen by call t views i v w each c at may mine =
    let st : stand_of w.mine ≡ stand_next (stand_of v.mine) call t.1 = ap stand_of mine ∙ stand_snoc Out v.mine (entry by call t.1) in
    let cp : copy_of w.mine ≡ copy_next (copy_of v.mine) call t.1 = ap copy_of mine ∙ copy_snoc Idle v.mine (entry by call t.1) in
    ⊎_elim
    (λ (r : Refuses s call t).
    let no' : is_grant t.1 ≡ false = ap (λ (u : Turn). is_grant u.1) r.1 ∙ r.2 in
    subst (λ (u : Turn). Counts u.0 (set views i w)) (sym r.1)
    (counts_stay s views i v w c at (st ∙ ap (λ (b : Bool). if b then stand_by (stand_of v.mine) call else stand_of v.mine) no') (cp ∙ ap (λ (b : Bool). if b then copy_by (copy_of v.mine) call else copy_of v.mine) no')))
    (λ (g : Grants s call t).
    let yes' : is_grant t.1 ≡ true = ap (λ (u : Turn). is_grant u.1) g.0 in
    subst (λ (u : Turn). Counts u.0 (set views i w)) (sym g.0)
    (counts_grant s seen call views i v w c at may g.1 (st ∙ ap (λ (b : Bool). if b then stand_by (stand_of v.mine) call else stand_of v.mine) yes') (cp ∙ ap (λ (b : Bool). if b then copy_by (copy_of v.mine) call else copy_of v.mine) yes')))
    each

-- only an Attach, which its caller may make in the quiet alone, lets a backend in
grant_lets : (s seen : GateState) (call : GateCall) (st : Stand) (cp : Copy) → s.attached.bits < 256 → MayStand st cp seen call
    → (((b : ℕ) → b ≤ 7 → has (granted s call).attached.bits b ≡ true → has s.attached.bits b ≡ true) ⊎ (cp ≡ Entered))
grant_lets s seen Look st cp small may = inl (λ b h e. e)
grant_lets s seen EnterSnapshot st cp small may = inl (λ b h e. e)
grant_lets s seen LeaveSnapshot st cp small may = inl (λ b h e. e)
grant_lets s seen (EnterCommit tables) st cp small may = inl (λ b h e. e)
grant_lets s seen LeaveCommit st cp small may = inl (λ b h e. e)
grant_lets s seen Finish st cp small may = inl (λ b h e. e)
grant_lets s seen (Detach d) st cp small may = inl (λ b h e. without_has s.attached.bits d.number b small d.below_8 (omega arith) e)
grant_lets s seen StartCopy st cp small may = inl (λ b h e. e)
grant_lets s seen AskQuiet st cp small may = inl (λ b h e. e)
grant_lets s seen EnterQuiet st cp small may = inl (λ b h e. e)
grant_lets s seen (Attach d) st cp small may = inr may.0
grant_lets s seen LeaveQuiet st cp small may = inl (λ b h e. e)

turn_lets : (s seen : GateState) (call : GateCall) (t : Turn) (st : Stand) (cp : Copy) → s.attached.bits < 256 → MayStand st cp seen call → Either s call t
    → (((b : ℕ) → b ≤ 7 → has t.0.attached.bits b ≡ true → has s.attached.bits b ≡ true) ⊎ (cp ≡ Entered))
turn_lets s seen call t st cp small may each =
    let P : Turn → Type 0 = λ u. ((b : ℕ) → b ≤ 7 → has u.0.attached.bits b ≡ true → has s.attached.bits b ≡ true) ⊎ (cp ≡ Entered) in
    ⊎_elim (λ (r : Refuses s call t). subst P (sym r.1) (inl (λ b h e. e))) (λ (g : Grants s call t). subst P (sym g.0) (grant_lets s seen call st cp small may)) each

-- the condition of the gate's function
pub may_call : (x : Stored) (views : List Knows) (i : ℕ) (v : Knows) (call : GateCall) → Kept x views → get_elem? views i ≡ some v → v.admitted ≡ true → MayStep v call → MayCall x.gate.state call
may_call x views i v call k at open' may =
    let f = k.fits i v at in
    let may' : MayStand (stand_of v.mine) (copy_of v.mine) (state_after k.start v.seen) call =
    subst (λ (s : GateState). MayStand (stand_of v.mine) (copy_of v.mine) (state_after s v.seen) call) (f.begun open') may in
    ready x.gate.state (state_after k.start v.seen) call views i v k.counts at (λ q. f.quiet open' q v.seen (f.seen open') ([], sym (append-nil v.seen))) may'

i_below : (views : List Knows) (i : ℕ) (v : Knows) → get_elem? views i ≡ some v → length views ≤ i → ⊥
i_below [] i v at far = some-ne-none v (sym at)
i_below (x ∷ xs) zero v at far = absurd (omega arith)
i_below (x ∷ xs) (suc i) v at far = i_below xs i v at (omega arith)

abbrev pub added : List Entry → Knows → Entry → Knows
added log v e = record { fresh = false; admitted = true; first = v.first; seen = log ++ e ∷ []; told = []; mine = v.mine ++ e ∷ [] }

-- a call is one entry more of the one history
pub calls : (x y : Stored) (views : List Knows) (i : ℕ) (v : Knows) (call : GateCall) → Kept x views → get_elem? views i ≡ some v → v.admitted ≡ true → MayStep v call → y.gate.state ≡ (step x.gate.state call).0
    → (w : Knows) × Kept y (set views i w) × (IsAtRest w × Extends v i call (step x.gate.state call).1 w)
calls x y views i v call k at open' may is =
    let t : Turn = step x.gate.state call in
    let e : Entry = entry i call t.1 in
    let log' : List Entry = k.log ++ e ∷ [] in
    let w : Knows = added k.log v e in
    let f = k.fits i v at in
    let can : MayCall x.gate.state call = may_call x views i v call k at open' may in
    let may' : MayStand (stand_of v.mine) (copy_of v.mine) (state_after k.start v.seen) call =
    subst (λ (s : GateState). MayStand (stand_of v.mine) (copy_of v.mine) (state_after s v.seen) call) (f.begun open') may in
    let can' : MayCall (state_after k.start k.log) call = subst (λ (s : GateState). MayCall s call) (sym k.stands) can in
    let told : (step (state_after k.start k.log) call).1 ≡ t.1 = ap (λ (s : GateState). (step s call).1) k.stands in
    let replays : IsReplay k.start log' = replay_snoc k.start k.log e k.replays can' told in
    let by_log : calls_by i k.log ≡ v.mine = f.mine open' in
    let orderly : IsOrderly k.start [] log' =
    orderly_snoc k.start [] k.log e k.orderly
    (subst (λ (l : List Entry). MayStand (stand_of l) (copy_of l) (state_after k.start k.log) call) (sym by_log)
    (at_state (stand_of v.mine) (copy_of v.mine) (state_after k.start v.seen) (state_after k.start k.log) call may' can')) in
    let stands : state_after k.start log' ≡ y.gate.state = state_snoc k.start k.log e ∙ (ap (λ (s : GateState). (step s call).0) k.stands ∙ sym is) in
    let own : calls_by i log' ≡ v.mine ++ e ∷ [] = calls_more i k.log e refl ∙ ap (λ (l : List Entry). l ++ e ∷ []) (f.mine open') in
    let count : length (set views i w) ≡ length views = length-set views i w in
    let lets = turn_lets x.gate.state (state_after k.start v.seen) call t (stand_of v.mine) (copy_of v.mine) x.gate.wide.0 may' (each_turn x.gate.state call) in
    let mine_fits : Fits k.start log' (length (set views i w)) y.gate.state i w =
    record {
      alone = λ born. absurd (cc);
      old = λ _. refl;
      begun = λ _. f.begun open';
      seen = λ _. ([], sym (append-nil log'));
      told = λ _. (log', refl);
      mine = λ _. own;
      own = λ _. own;
      quiet = λ _ _ mid p r b h there.
          let whole : mid ≡ log' = starts_same log' mid p r in
          subst (λ (s : GateState). has s.attached.bits b ≡ true) (sym (ap (state_after k.start) whole ∙ stands)) there;
    } in
    let other_fits : (j : ℕ) (u : Knows) → j ≢ i → get_elem? views j ≡ some u → Fits k.start log' (length (set views i w)) y.gate.state j u =
    λ j u apart there.
    let g = k.fits j u there in
    record {
      alone = λ born. count ∙ g.alone born;
      old = g.old;
      begun = g.begun;
      seen = λ o. starts_snoc k.log u.seen e (g.seen o);
      told = λ o. starts_snoc k.log u.told e (g.told o);
      own = g.own;
      mine = λ o. calls_else j k.log e (λ (same : i ≡ j). apart (sym same)) ∙ g.mine o;
      quiet = λ o q mid p r b h here.
          ⊎_elim
          (λ lets'.
          ⊎_elim (λ (p' : StartsWith k.log mid). g.quiet o q mid p' r b h (lets' b h (subst (λ (s : GateState). has s.attached.bits b ≡ true) is here)))
          (λ (whole : mid ≡ log'). subst (λ (s : GateState). has s.attached.bits b ≡ true) (sym (ap (state_after k.start) whole ∙ stands)) here)
          (last_or k.log mid e p))
          (λ (mine' : copy_of v.mine ≡ Entered).
          let one = two copies_in views i j v u at there apart in
          let a : copies_in v ≡ 1 = ap copies mine' in let b' : copies_in u ≡ 1 = ap copies q in let few = k.counts.copiers in
          absurd (omega arith))
          lets;
    } in (
      w,
      record {
        start = k.start;
        log = log';
        replays = replays;
        orderly = orderly;
        stands = stands;
        fits = λ j u there.
            ⊎_elim
            (λ same. subst (λ (n : ℕ). Fits k.start log' (length (set views i w)) y.gate.state n u) (sym same.0) (subst (λ (z : Knows). Fits k.start log' (length (set views i w)) y.gate.state i z) same.1 mine_fits))
            (λ else'. other_fits j u else'.0 else'.1)
            (at_set views i j w u there);
        nobody = λ j far.
            calls_else j k.log e (λ (same : i ≡ j). i_below views i v at (subst (λ (n : ℕ). length views ≤ n) (sym same) (subst (λ (n : ℕ). n ≤ j) count far)))
            ∙ k.nobody j (subst (λ (n : ℕ). n ≤ j) count far);
        counts = subst (λ (s : GateState). Counts s (set views i w)) (sym is) (counts_turn x.gate.state (state_after k.start v.seen) i call t views i v w (each_turn x.gate.state call) k.counts at may' refl);
      },
      (
        (refl, refl),
        record {
          first = refl;
          between = (f.seen open').0;
          seen = ap (λ (l : List Entry). l ++ e ∷ []) (f.seen open').1;
          mine = refl;
          own = own;
          replays = subst (λ (s : GateState). IsReplay s log') (sym (f.begun open')) replays;
          orderly = subst (λ (s : GateState). IsOrderly s [] log') (sym (f.begun open')) orderly;
        },
      ),
    )

stays : (s : GateState) (call : GateCall) → is_grant (step s call).1 ≡ false → s ≡ (step s call).0
stays s call is = ⊎_elim (λ (r : Refuses s call (step s call)). sym (ap (λ (u : Turn). u.0) r.1))
    (λ (g : Grants s call (step s call)). let t : is_grant (step s call).1 ≡ true = ap (λ (u : Turn). is_grant u.1) g.0 in absurd (cc)) (each_turn s call)

-- a load by which a refused call is made
reads_by : (x : Stored) (views : List Knows) (i : ℕ) (v : Knows) (call : GateCall) → Kept x views → get_elem? views i ≡ some v → v.admitted ≡ true → MayStep v call
    → (b : Bool) → is_grant (step x.gate.state call).1 ≡ b → (w : Knows) × Kept x (set views i w) × (MayCall x.gate.state call × MatchBool b (w ≡ v) (IsAtRest w × Extends v i call (step x.gate.state call).1 w))
reads_by x views i v call k at open' may true is = (v, subst (λ (l : List Knows). Kept x l) (sym (set_again views i v at)) k, (may_call x views i v call k at open' may, refl))
reads_by x views i v call k at open' may false is =
    let same : x.gate.state ≡ (step x.gate.state call).0 = stays x.gate.state call is in
    let t = calls x x views i v call k at open' may same in (t.0, t.1, (may_call x views i v call k at open' may, t.2))

pub reads : (i : ℕ) (v : Knows) (call : GateCall) → v.admitted ≡ true → MayStep v call → Turns Kept i v (λ x. x) (Reads i call)
reads i v call open' may x views k at = reads_by x views i v call k at open' may (is_grant (step x.gate.state call).1) refl

-- an exchange by which a granted call is made
makes_by : (x next : Stored) (views : List Knows) (i : ℕ) (v : Knows) (call : GateCall) → Kept x views → get_elem? views i ≡ some v → v.admitted ≡ true → MayStep v call
    → (b : Bool) → (b ≡ true → (is_grant (step x.gate.state call).1 ≡ true) × (next.gate.state ≡ (step x.gate.state call).0))
    → (w : Knows) × Kept (if b then next else x) (set views i w) × Makes i call v x (if b then next else x) w
makes_by x next views i v call k at open' may true same =
    let s = same refl in let t = calls x next views i v call k at open' may s.1 in (t.0, t.1, (may_call x views i v call k at open' may, inr (s.0, s.1, t.2.0, t.2.1)))
makes_by x next views i v call k at open' may false same = (v, subst (λ (l : List Knows). Kept x l) (sym (set_again views i v at)) k, (may_call x views i v call k at open' may, inl (refl, refl)))

pub makes : (i : ℕ) (v : Knows) (call : GateCall) (next : Stored) (eq : Stored → Bool) → v.admitted ≡ true → MayStep v call
    → ((x : Stored) → eq x ≡ true → (is_grant (step x.gate.state call).1 ≡ true) × (next.gate.state ≡ (step x.gate.state call).0))
    → Turns Kept i v (λ x. if eq x then next else x) (Makes i call)
makes i v call next eq open' may same x views k at = makes_by x next views i v call k at open' may (eq x) (same x)

-- a call that is granted changes the state
abbrev Moves : GateState → GateCall → Type 0
Moves s Look = Unit {0}
Moves s call = granted s call ≢ s

grant_moves : (s : GateState) (call : GateCall) → Free s call → MayCall s call → Moves s call
grant_moves s Look free may = tt
grant_moves s EnterSnapshot free may = λ e. let n = ap (λ (g : GateState). g.snaps) e in omega arith
grant_moves s LeaveSnapshot free may = λ e. let n = ap (λ (g : GateState). g.live) e in omega arith
grant_moves s (EnterCommit tables) free may = λ e. let n = ap (λ (g : GateState). g.commits) e in omega arith
grant_moves s LeaveCommit free may = λ e. let n = ap (λ (g : GateState). g.done) e in omega arith
grant_moves s Finish free may = λ e. let n = ap (λ (g : GateState). g.live) e in omega arith
grant_moves s (Detach b) free may = λ e. let n = ap (λ (g : GateState). g.epoch) e in omega arith
grant_moves s StartCopy free may = λ e. let n : 1 ≡ s.quiet = ap (λ (g : GateState). g.quiet) e in let z : s.quiet ≡ 0 = free in omega arith
grant_moves s AskQuiet free may = λ e. let n : 2 ≡ s.quiet = ap (λ (g : GateState). g.quiet) e in let z : s.quiet ≡ 1 = may in omega arith
grant_moves s EnterQuiet free may = λ e. let n : 3 ≡ s.quiet = ap (λ (g : GateState). g.quiet) e in let z : s.quiet ≡ 2 = may in omega arith
grant_moves s (Attach b) free may = λ e. let n = ap (λ (g : GateState). g.epoch) e in omega arith
grant_moves s LeaveQuiet free may = λ e. let n : 0 ≡ s.quiet = ap (λ (g : GateState). g.quiet) e in let z : 0 < s.quiet = may in omega arith

moved : (s : GateState) (call : GateCall) → MayCall s call → is_grant (step s call).1 ≡ true → (Moves s call → granted s call ≢ s) → (step s call).0 ≢ s
moved s call may is m e = ⊎_elim
    (λ (r : Refuses s call (step s call)). let f : is_grant (step s call).1 ≡ false = ap (λ (u : Turn). is_grant u.1) r.1 ∙ r.2 in absurd (cc))
    (λ (g : Grants s call (step s call)). m (grant_moves s call g.1 may) (sym (ap (λ (u : Turn). u.0) g.0) ∙ e))
    (each_turn s call)

pub moves : (s : GateState) (call : GateCall) → MayCall s call → is_grant (step s call).1 ≡ true → (step s call).0 ≢ s
moves s Look may is = λ e. absurd (cc)
moves s EnterSnapshot may is = moved s EnterSnapshot may is (λ m. m)
moves s LeaveSnapshot may is = moved s LeaveSnapshot may is (λ m. m)
moves s (EnterCommit tables) may is = moved s (EnterCommit tables) may is (λ m. m)
moves s LeaveCommit may is = moved s LeaveCommit may is (λ m. m)
moves s Finish may is = moved s Finish may is (λ m. m)
moves s (Detach b) may is = moved s (Detach b) may is (λ m. m)
moves s StartCopy may is = moved s StartCopy may is (λ m. m)
moves s AskQuiet may is = moved s AskQuiet may is (λ m. m)
moves s EnterQuiet may is = moved s EnterQuiet may is (λ m. m)
moves s (Attach b) may is = moved s (Attach b) may is (λ m. m)
moves s LeaveQuiet may is = moved s LeaveQuiet may is (λ m. m)

-- whether two states are one, as the exchange compares them
abbrev pub alike : GateState → GateState → Bool
alike x y =
    nat_eq x.attached.bits y.attached.bits
    && (nat_eq x.epoch y.epoch
    && (nat_eq x.snaps y.snaps
    && (nat_eq x.commits y.commits
    && (nat_eq x.live y.live
    && (nat_eq x.quiet y.quiet
    && (nat_eq x.done y.done && nat_eq x.touched y.touched))))))

both : (a b : Bool) → (a && b) ≡ true → (a ≡ true) × (b ≡ true)
both true b e = (refl, e)
both false b e = absurd (cc)

pub same_state : (x y : GateState) → alike x y ≡ true → x ≡ y
same_state x y e =
    let a = both _ _ e in let b = both _ _ a.1 in let c = both _ _ b.1 in let d = both _ _ c.1 in let f = both _ _ d.1 in let g = both _ _ f.1 in let h = both _ _ g.1 in
    let a' = eqb-true x.attached.bits y.attached.bits a.0 in let b' = eqb-true x.epoch y.epoch b.0 in let c' = eqb-true x.snaps y.snaps c.0 in
    let d' = eqb-true x.commits y.commits d.0 in let f' = eqb-true x.live y.live f.0 in let g' = eqb-true x.quiet y.quiet g.0 in
    let h' = eqb-true x.done y.done h.0 in let i' = eqb-true x.touched y.touched h.1 in
    λ k. record { attached = record { bits = a' k }; epoch = b' k; snaps = c' k; commits = d' k; live = f' k; quiet = g' k; done = h' k; touched = i' k }

pub reads_as : (by id : ℕ) (call call' : GateCall) (v v' : Knows) → by ≡ id → call' ≡ call → v' ≡ v → v.admitted ≡ true → MayStep v call → Turns Kept id v' (λ x. x) (Reads by call')
reads_as by id call call' v v' i c s open' may =
    subst (λ (b : ℕ). Turns Kept id v' (λ x. x) (Reads b call')) (sym i)
    (subst (λ (d : GateCall). Turns Kept id v' (λ x. x) (Reads id d)) (sym c) (subst (λ (u : Knows). Turns Kept id u (λ x. x) (Reads id call)) (sym s) (reads id v call open' may)))

-- the state that the exchange expects is the one that the call turns into the next
exchange : (i : ℕ) (v : Knows) (call : GateCall) (found next : Stored) → v.admitted ≡ true → MayStep v call → is_grant (step found.gate.state call).1 ≡ true → next.gate.state ≡ (step found.gate.state call).0
    → Turns Kept i v (λ x. if alike x.gate.state found.gate.state then next else x) (Makes i call)
exchange i v call found next open' may granted' is =
    makes i v call next (λ x. alike x.gate.state found.gate.state) open' may
    (λ x e. let s : found.gate.state ≡ x.gate.state = sym (same_state x.gate.state found.gate.state e) in
    (subst (λ (t : GateState). is_grant (step t call).1 ≡ true) s granted', subst (λ (t : GateState). next.gate.state ≡ (step t call).0) s is))

pub exchange_as : (by id : ℕ) (call call' : GateCall) (v v' : Knows) (found next : Stored) → by ≡ id → call' ≡ call → v' ≡ v → v.admitted ≡ true → MayStep v call
    → is_grant (step found.gate.state call).1 ≡ true → next.gate.state ≡ (step found.gate.state call).0
    → Turns Kept id v' (λ x. if alike x.gate.state found.gate.state then next else x) (Makes by call')
exchange_as by id call call' v v' found next i c s open' may granted' is =
    let f : Stored → Stored = λ x. if alike x.gate.state found.gate.state then next else x in
    subst (λ (b : ℕ). Turns Kept id v' f (Makes b call')) (sym i)
    (subst (λ (d : GateCall). Turns Kept id v' f (Makes id d)) (sym c) (subst (λ (u : Knows). Turns Kept id u f (Makes id call)) (sym s) (exchange id v call found next open' may granted' is)))

when_true : (P Q : Type 0) (b : Bool) → MatchBool b P Q → b ≡ true → P
when_true P Q true p e = p
when_true P Q false p e = absurd (cc)

-- a load that finds that the call can be granted changes no view
pub read_same : (by : ℕ) (call call' : GateCall) (v w : Knows) (x : Stored) → call' ≡ call → Reads by call' v x x w → is_grant (step x.gate.state call).1 ≡ true → w ≡ v
read_same by call call' v w x c rule is =
    when_true (w ≡ v) (IsAtRest w × Extends v by call' (step x.gate.state call').1 w) (is_grant (step x.gate.state call').1) rule.1 (ap (λ (d : GateCall). is_grant (step x.gate.state d).1) c ∙ is)

-- an exchange that took place made the call
pub made : (by : ℕ) (call : GateCall) (v w : Knows) (found next : Stored) (r : Result Stored Stored) → is_ok r ≡ true → is_grant (step found.gate.state call).1 ≡ true → next.gate.state ≡ (step found.gate.state call).0
    → MatchResult r (λ x. (alike x.gate.state found.gate.state ≡ true) × Makes by call v x next w) (λ x. (alike x.gate.state found.gate.state ≡ false) × Makes by call v x x w)
    → IsAtRest w × Extends v by call (step found.gate.state call).1 w
made by call v w found next (Err x) ok granted' is rule = absurd (cc)
made by call v w found next (Ok x) ok granted' is rule =
    let s : x.gate.state ≡ found.gate.state = same_state x.gate.state found.gate.state rule.0 in
    let may : MayCall found.gate.state call = subst (λ (t : GateState). MayCall t call) s rule.1.0 in
    ⊎_elim
    (λ t. absurd (moves found.gate.state call may granted' (sym is ∙ (t.1 ∙ s))))
    (λ t. (t.2, subst (λ (z : GateState). Extends v by call (step z call).1 w) s t.3))
    rule.1.1

-- one that did not changed nothing
pub missed : (by : ℕ) (call : GateCall) (v w : Knows) (found next : Stored) (r : Result Stored Stored) → is_ok r ≡ false
    → MatchResult r (λ x. (alike x.gate.state found.gate.state ≡ true) × Makes by call v x next w) (λ x. (alike x.gate.state found.gate.state ≡ false) × Makes by call v x x w)
    → w ≡ v
missed by call v w found next (Ok x) ok rule = absurd (cc)
missed by call v w found next (Err x) ok rule = ⊎_elim (λ t. t.0) (λ t. absurd (moves x.gate.state call rule.1.0 t.0 (sym t.1))) rule.1.1

one_there : (w : Knows) (j : ℕ) (u : Knows) → get_elem? (w ∷ []) j ≡ some u → w ≡ u
one_there w zero u there = some-injective w u there
one_there w (suc j) u there = absurd (some-ne-none u (sym there))

alone_set : (views : List Knows) (i : ℕ) (v w : Knows) → length views ≡ 1 → get_elem? views i ≡ some v → set views i w ≡ w ∷ []
alone_set [] i v w one at = absurd (some-ne-none v (sym at))
alone_set (x ∷ []) zero v w one at = refl
alone_set (x ∷ []) (suc i) v w one at = absurd (some-ne-none v (sym at))
alone_set (x ∷ (y ∷ ys)) i v w one at = absurd (omega arith)

-- a gate that is not open yet
pub born : (x : Stored) → x.gate.state ≡ first (set_of 0) → Kept x (unborn ∷ [])
born x is =
    record {
      start = x.gate.state;
      log = [];
      replays = tt;
      orderly = tt;
      stands = refl;
      fits = λ j u there.
          subst (λ (z : Knows). Fits x.gate.state [] 1 x.gate.state j z) (one_there unborn j u there)
          (record { alone = λ _. refl; old = λ (e : false ≡ true). absurd (cc); begun = λ (e : false ≡ true). absurd (cc); seen = λ (e : false ≡ true). absurd (cc); told = λ (e : false ≡ true). absurd (cc); mine = λ (e : false ≡ true). absurd (cc); own = λ (e : false ≡ true). absurd (cc); quiet = λ (e : false ≡ true). absurd (cc) });
      nobody = λ j far. refl;
      counts = subst (λ (s : GateState). Counts s (unborn ∷ [])) (sym is) (record { snaps = refl; commits = refl; live = refl; quiet = refl; copiers = omega arith });
    }

-- the gate is opened
pub opened : (i : ℕ) (v : Knows) (y : Stored) (attached : BackendSet) → y.gate.state ≡ first attached → v.fresh ≡ true → Turns Kept i v (λ _. y) Opens
opened i v y attached is fresh x views k at =
    let w : Knows = record { fresh = false; admitted = true; first = y.gate.state; seen = []; told = []; mine = [] } in
    let one : length views ≡ 1 = (k.fits i v at).alone fresh in
    let all : set views i w ≡ w ∷ [] = alone_set views i v w one at in (
      w,
      subst (λ (l : List Knows). Kept y l) (sym all)
          (record {
            start = y.gate.state;
            log = [];
            replays = tt;
            orderly = tt;
            stands = refl;
            fits = λ j u there.
                subst (λ (z : Knows). Fits y.gate.state [] 1 y.gate.state j z) (one_there w j u there)
                (record { alone = λ (e : false ≡ true). absurd (cc); old = λ _. refl; begun = λ _. refl; seen = λ _. ([], refl); told = λ _. ([], refl); mine = λ _. refl; own = λ _. refl; quiet = λ _ (e : Idle ≡ Entered). absurd (cc) });
            nobody = λ j far. refl;
            counts = subst (λ (s : GateState). Counts s (w ∷ [])) (sym is) (record { snaps = refl; commits = refl; live = refl; quiet = refl; copiers = omega arith });
          }),
      refl,
    )

-- what the caller of an exchange that took place learns
pub made_as : (by id : ℕ) (call call' : GateCall) (v v' w : Knows) (found next : Stored) (answer : GateAnswer) (r : Result Stored Stored) → by ≡ id → call' ≡ call → v' ≡ v → is_ok r ≡ true
    → step found.gate.state call ≡ (next.gate.state, answer) → is_grant (step found.gate.state call).1 ≡ true
    → MatchResult r (λ x. (alike x.gate.state found.gate.state ≡ true) × Makes by call' v' x next w) (λ x. (alike x.gate.state found.gate.state ≡ false) × Makes by call' v' x x w)
    → Extends v id call answer w
made_as by id call call' v v' w found next answer r i c s ok is granted' rule =
    let d : is_grant (step found.gate.state call').1 ≡ true = ap (λ (z : GateCall). is_grant (step found.gate.state z).1) c ∙ granted' in
    let n : next.gate.state ≡ (step found.gate.state call').0 = sym (ap (λ (u : Turn). u.0) is) ∙ sym (ap (λ (z : GateCall). (step found.gate.state z).0) c) in
    let t : Extends v' by call' (step found.gate.state call').1 w = (made by call' v' w found next r ok d n rule).1 in
    let a : Extends v' by call (step found.gate.state call).1 w = subst (λ (z : GateCall). Extends v' by z (step found.gate.state z).1 w) c t in
    let b : Extends v' id call (step found.gate.state call).1 w = subst (λ (z : ℕ). Extends v' z call (step found.gate.state call).1 w) i a in
    let e : Extends v id call (step found.gate.state call).1 w = subst (λ (z : Knows). Extends z id call (step found.gate.state call).1 w) s b in
    subst (λ (z : GateAnswer). Extends v id call z w) (ap (λ (u : Turn). u.1) is) e
