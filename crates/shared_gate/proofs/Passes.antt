-- A pass is cut off, and one is taken in.
use Rattle.std.proofs.Common.{◌≡◌, ◌⊎◌, ℕ, zero, suc, ◌<◌, ◌≤◌, Bool, true, false, List, [], ◌∷◌, ◌++◌, set, length, refl, ap, sym, subst, ◌∙◌, inl, inr, ⊎_elim, arith, if◌then◌else◌, length-append, nat_lt, ◌==◌}
use Rattle.std.proofs.lemmas.List.{append-nil, length-set}
use Rattle.std.proofs.lemmas.List.Elements.{filter-append}
use Rattle.std.proofs.lemmas.Bool.Decides.{nat_tests}
use mathlib.Core.Option.{some, some-injective, some-ne-none}
use lib.ListN.{get_elem?}
use Rattle.crossbeam_utils.specs.Register.{Turns, Forks, Merges}
use Rattle.atomic_table.proofs.Lists.{at_set, set_again}
use Rattle.atomic_table.specs.Seated.{TableId}
use Rattle.pool_base.specs.declared.gate_call.GateCall.{GateCall}
use Rattle.pool_base.specs.declared.gate_call.GateAnswer.{GateAnswer}
use Rattle.shared_gate.specs.declared.stored.Stored.{Stored}
use Rattle.snapshot_gate.specs.declared.state.GateState.{GateState}
use Rattle.shared_gate.specs.declared.history.Entry.{Entry}
use Rattle.shared_gate.specs.declared.history.Knows.{Knows}
use Rattle.snapshot_gate.specs.Function.{step}
use Rattle.shared_gate.specs.History.{state_after, IsReplay, IsOrderly, calls_by, StartsWith, stand_of, copy_of, newcomer, Extends, Entered, Idle, Out, entry, stand_next, copy_next, Shows, known, Tells}
use Rattle.shared_gate.specs.Rule.{Fits, Kept, spent, told_of, heard, Listens}
use Rattle.shared_gate.proofs.Logs.{orderly_before, squeeze, starts_trans, begins, stand_snoc, copy_snoc, last_shows}
use Rattle.shared_gate.proofs.Sums.{counts_stay, counts_new}

-- the last place of a list, and the places before it
at_end : (l : List Knows) (a b : Knows) (j : ℕ) → get_elem? (l ++ a ∷ []) j ≡ some b → (get_elem? l j ≡ some b) ⊎ ((a ≡ b) × (j ≡ length l))
at_end [] a b zero e = inr (some-injective a b e, refl)
at_end [] a b (suc j) e = absurd (some-ne-none b (sym e))
at_end (x ∷ xs) a b zero e = inl e
at_end (x ∷ xs) a b (suc j) e = ⊎_elim (λ t. inl t) (λ t. inr (t.0, let n = t.1 in omega arith)) (at_end xs a b j e)

nil_left : (xs ys : List Entry) → xs ++ ys ≡ [] → xs ≡ []
nil_left [] ys e = refl
nil_left (x ∷ xs) ys e = absurd (cc)

-- who has no call in the history has none in its beginning
none_seen : (by : ℕ) (log seen : List Entry) → StartsWith log seen → calls_by by log ≡ [] → calls_by by seen ≡ []
none_seen by log seen r e = nil_left (calls_by by seen) (calls_by by r.0) (sym (filter-append (λ (x : Entry). x.by == by) seen r.0) ∙ (sym (ap (calls_by by) r.1) ∙ e))

-- what fits where there are n passes fits where there are more, unless it is alone
fits_more : (start : GateState) (log : List Entry) (n m : ℕ) (s : GateState) (by : ℕ) (v : Knows) → (v.fresh ≡ true → m ≡ 1) → Fits start log n s by v → Fits start log m s by v
fits_more start log n m s by v alone f = record { alone = alone; old = f.old; begun = f.begun; seen = f.seen; told = f.told; mine = f.mine; own = f.own; quiet = f.quiet }

i_below : (views : List Knows) (i : ℕ) (v : Knows) → get_elem? views i ≡ some v → i < length views
i_below [] i v at = absurd (some-ne-none v (sym at))
i_below (x ∷ xs) zero v at = omega arith
i_below (x ∷ xs) (suc i) v at = let t = i_below xs i v at in omega arith

-- a pass that is alone has no other beside it
alone_is : (views : List Knows) (i j : ℕ) (v u : Knows) → length views ≡ 1 → get_elem? views i ≡ some v → get_elem? views j ≡ some u → i ≡ j
alone_is views i j v u one at there = let a = i_below views i v at in let b = i_below views j u there in omega arith

same_at : (views : List Knows) (i : ℕ) (v u : Knows) → get_elem? views i ≡ some v → get_elem? views i ≡ some u → v ≡ u
same_at views i v u a b = some-injective v u (sym a ∙ b)

-- none is fresh where one is admitted
not_fresh : (x : Stored) (views : List Knows) (i j : ℕ) (v u : Knows) → Kept x views → get_elem? views i ≡ some v → v.fresh ≡ false → get_elem? views j ≡ some u → u.fresh ≡ true → ⊥
not_fresh x views i j v u k at old there new =
    let one = (k.fits j u there).alone new in
    let place = alone_is views i j v u one at there in
    let same : v ≡ u = same_at views i v u at (subst (λ (n : ℕ). get_elem? views n ≡ some u) (sym place) there) in
    let f : v.fresh ≡ true = ap (λ (z : Knows). z.fresh) same ∙ new in cc

pub forks : (i : ℕ) (v : Knows) → v.admitted ≡ true → Forks Kept i v v (newcomer v)
forks i v in' x views k at =
    let f = k.fits i v at in
    let old = f.old in' in
    let n : Knows = newcomer v in
    subst (λ (l : List Knows). Kept x (l ++ n ∷ [])) (sym (set_again views i v at))
    (record {
      start = k.start;
      log = k.log;
      replays = k.replays;
      orderly = k.orderly;
      stands = k.stands;
      fits = λ j u there.
          ⊎_elim
          (λ was. fits_more k.start k.log (length views) (length (views ++ n ∷ [])) x.gate.state j u (λ new. absurd (not_fresh x views i j v u k at old was new)) (k.fits j u was))
          (λ same.
          let empty : calls_by j k.log ≡ [] = k.nobody j (let e = same.1 in omega arith) in
          subst (λ (z : Knows). Fits k.start k.log (length (views ++ n ∷ [])) x.gate.state j z) same.0
          (record {
            alone = λ (e : false ≡ true). absurd (cc);
            old = λ _. refl;
            begun = λ _. f.begun in';
            seen = λ _. f.seen in';
            told = λ _. (k.log, refl);
            mine = λ _. empty;
            own = λ _. none_seen j k.log v.seen (f.seen in') empty;
            quiet = λ _ (e : Idle ≡ Entered). absurd (cc);
          }))
          (at_end views n u j there);
      nobody = λ j far. k.nobody j (let e = length-append views (n ∷ []) in omega arith);
      counts = counts_new x.gate.state views n k.counts refl;
    })

-- one view is changed, and neither its phase nor its calls
alter : (x : Stored) (views : List Knows) (i : ℕ) (v w : Knows) → (k : Kept x views) → get_elem? views i ≡ some v → w.mine ≡ v.mine → Fits k.start k.log (length views) x.gate.state i w → Kept x (set views i w)
alter x views i v w k at mine fits =
    let count : length (set views i w) ≡ length views = length-set views i w in
    record {
      start = k.start;
      log = k.log;
      replays = k.replays;
      orderly = k.orderly;
      stands = k.stands;
      fits = λ j u there.
          subst (λ (n : ℕ). Fits k.start k.log n x.gate.state j u) (sym count)
          (⊎_elim
          (λ same. subst (λ (n : ℕ). Fits k.start k.log (length views) x.gate.state n u) (sym same.0) (subst (λ (z : Knows). Fits k.start k.log (length views) x.gate.state i z) same.1 fits))
          (λ else'. k.fits j u else'.1)
          (at_set views i j w u there));
      nobody = λ j far. k.nobody j (subst (λ (n : ℕ). n ≤ j) count far);
      counts = counts_stay x.gate.state views i v w k.counts at (ap stand_of mine) (ap copy_of mine);
    }

pub merges : (i : ℕ) (v : Knows) (other : ℕ) (u : Knows) → v.admitted ≡ true → u.admitted ≡ true → u.mine ≡ [] → Merges Kept i v other u (told_of v u) spent
merges i v other u in' in'' out x views k at apart there =
    let b : Knows = told_of v u in
    let f = k.fits i v at in
    let there' : get_elem? views other ≡ some u = ⊎_elim (λ same. absurd (apart same.0)) (λ else'. else'.1) (at_set views i other b u there) in
    let g = k.fits other u there' in
    let k' : Kept x (set views i b) =
    alter x views i v b k at refl (record { alone = f.alone; old = f.old; begun = f.begun; seen = f.seen; told = λ _. g.seen in''; mine = f.mine; own = f.own; quiet = f.quiet }) in
    alter x (set views i b) other u spent k' there (sym out)
    (record {
      alone = λ (e : false ≡ true). absurd (cc);
      old = λ (e : false ≡ true). absurd (cc);
      begun = λ (e : false ≡ true). absurd (cc);
      seen = λ (e : false ≡ true). absurd (cc);
      told = λ (e : false ≡ true). absurd (cc);
      mine = λ (e : false ≡ true). absurd (cc);
      own = λ (e : false ≡ true). absurd (cc);
      quiet = λ (e : false ≡ true). absurd (cc);
    })

-- the longer of two beginnings begins with both, and begins the list
both_begin : (log xs ys : List Entry) → StartsWith log xs → StartsWith log ys → (b : Bool) → nat_lt (length xs) (length ys) ≡ b
    → StartsWith (if b then ys else xs) xs × StartsWith (if b then ys else xs) ys × StartsWith log (if b then ys else xs)
both_begin log xs ys p q true is = let le : length xs < length ys = grind (arith, nat_tests) in (begins xs ys p.0 q.0 (sym p.1 ∙ q.1) (omega arith), ([], sym (append-nil ys)), q)
both_begin log xs ys p q false is = let le : length ys ≤ length xs = grind (arith, nat_tests) in (([], sym (append-nil xs)), begins ys xs q.0 p.0 (sym q.1 ∙ p.1) le, p)

replay_before : (s : GateState) (xs ys : List Entry) → IsReplay s (xs ++ ys) → IsReplay s xs
replay_before s [] ys r = tt
replay_before s (x ∷ xs) ys r = (r.0, r.1, replay_before (step s x.call).0 xs ys r.2)

own_between : (by : ℕ) (log seen mid mine : List Entry) → StartsWith mid seen → StartsWith log mid → calls_by by seen ≡ mine → calls_by by log ≡ mine → calls_by by mid ≡ mine
own_between by log seen mid mine p q a b =
    let P : Entry → Bool = λ x. x.by == by in
    let m : calls_by by mid ≡ mine ++ calls_by by p.0 = ap (calls_by by) p.1 ∙ (filter-append P seen p.0 ∙ ap (λ (l : List Entry). l ++ calls_by by p.0) a) in
    let w : calls_by by log ≡ (mine ++ calls_by by p.0) ++ calls_by by q.0 = ap (calls_by by) q.1 ∙ (filter-append P mid q.0 ∙ ap (λ (l : List Entry). l ++ calls_by by q.0) m) in
    let none : calls_by by p.0 ≡ [] = squeeze mine (calls_by by p.0) (calls_by by q.0) (sym w ∙ b) in
    m ∙ (ap (λ (l : List Entry). mine ++ l) none ∙ append-nil mine)

pub listens : (i : ℕ) (v : Knows) → v.admitted ≡ true → Turns Kept i v (λ x. x) (Listens i)
listens i v in' x views k at =
    let f = k.fits i v at in
    let h : Knows = heard v in
    let t = both_begin k.log v.seen v.told (f.seen in') (f.told in') (nat_lt (length v.seen) (length v.told)) refl in
    let own : calls_by i h.seen ≡ v.mine = own_between i k.log v.seen h.seen v.mine t.0 t.2 (f.own in') (f.mine in') in (
      h,
      alter x views i v h k at refl
          (record {
            alone = f.alone;
            old = f.old;
            begun = f.begun;
            seen = λ _. t.2;
            told = λ _. (k.log, refl);
            mine = f.mine;
            own = λ _. own;
            quiet = λ o q mid p r. f.quiet o q mid p (starts_trans mid h.seen v.seen r t.0);
          }),
      (
        refl,
        record {
          first = refl;
          seen = refl;
          mine = refl;
          this = t.0;
          that = t.1;
          own = own;
          replays = subst (λ (s : GateState). IsReplay s h.seen) (sym (f.begun in')) (replay_before k.start h.seen t.2.0 (subst (λ (l : List Entry). IsReplay k.start l) t.2.1 k.replays));
          orderly = subst (λ (s : GateState). IsOrderly s [] h.seen) (sym (f.begun in')) (orderly_before k.start [] h.seen t.2.0 (subst (λ (l : List Entry). IsOrderly k.start [] l) t.2.1 k.orderly));
        },
      ),
    )

pub listens_as : (by id : ℕ) (v : Knows) → by ≡ id → v.admitted ≡ true → Turns Kept id v (λ x. x) (Listens by)
listens_as by id v i in' = subst (λ (b : ℕ). Turns Kept id v (λ x. x) (Listens b)) (sym i) (listens id v in')

-- the phase after a call
pub stand_after : (v : Knows) (by : ℕ) (call : GateCall) (answer : GateAnswer) (w : Knows) → Extends v by call answer w → stand_of w.mine ≡ stand_next (stand_of v.mine) call answer
stand_after v by call answer w e = ap stand_of e.mine ∙ stand_snoc Out v.mine (entry by call answer)

pub copy_after : (v : Knows) (by : ℕ) (call : GateCall) (answer : GateAnswer) (w : Knows) → Extends v by call answer w → copy_of w.mine ≡ copy_next (copy_of v.mine) call answer
copy_after v by call answer w e = ap copy_of e.mine ∙ copy_snoc Idle v.mine (entry by call answer)

pub shows_after : (v : Knows) (by : ℕ) (call : GateCall) (answer : GateAnswer) (w : Knows) → Extends v by call answer w → Shows answer (state_after w.first w.seen)
shows_after v by call answer w e =
    subst (λ (l : List Entry). Shows answer (state_after w.first l)) (sym e.seen)
    (last_shows w.first (v.seen ++ e.between) (entry by call answer) (subst (λ (l : List Entry). IsReplay w.first l) e.seen e.replays))

pub tells : (gate gate' : TableId) (id id' : ℕ) (v : Knows) (by : ℕ) (call : GateCall) (answer : GateAnswer) (w : Knows) → Extends v by call answer w → Tells (known gate id v) call answer (known gate' id' w)
tells gate gate' id id' v by call answer w e = record { stand = stand_after v by call answer w e; copy = copy_after v by call answer w e; shows = shows_after v by call answer w e }
