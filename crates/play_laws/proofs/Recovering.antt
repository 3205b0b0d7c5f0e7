-- What of these facts stays where a recovery moves.
use Rattle.std.proofs.Common.{◌≡◌, ◌≢◌, ℕ, Bool, true, false, List, inl, inr, refl, sym, ap, subst, ◌∙◌, is_some}
use Rattle.std.specs.Prelude.{◌⊎◌, Option}
use Rattle.pool_base.specs.Sets.{has}
use Rattle.pool_base.specs.declared.backend_id.BackendId.{BackendId}
use Rattle.schema.specs.declared.catalogue.TableDef.{TableDef}
use Rattle.backend_trait.specs.declared.request.Request.{Request}
use Rattle.backend_trait.specs.Rows.{with_at}
use Rattle.backend_trait.specs.Store.{Transaction, Absent, Store, prepared}
use Rattle.session_machine.specs.declared.machine.Stage.{Stage}
use Rattle.session_machine.specs.declared.machine.Point.TheVariants.{Waiting}
use Rattle.session_machine.specs.declared.machine.Machine.{Machine}
use Rattle.online_recovery.specs.declared.standing.Due.{Due}
use Rattle.online_recovery.specs.declared.standing.Due.TheVariants as dues
use Rattle.online_recovery.specs.declared.standing.Held.{Held}
use Rattle.online_recovery.specs.declared.standing.Standing.{Standing}
use Rattle.one_copy_model.proofs.Places.{same_or_other, with_at-same, with_at-other, each_at}
use Rattle.recovery_laws.specs.Pool.{with_two}
use Rattle.recovery_laws.proofs.Lining.{WaitsAt}
use Rattle.play_laws.proofs.Courses.{HasSource, IsCopy, IsCalm, Tidy, Steps}
use Rattle.play_laws.proofs.Apart.{IsAway, IsLostDue, IsHolding, IsClear, IsKept, Facts, still_out}

calm_wait : (held : Held) (at : Due) (b : ℕ) → IsCalm at → WaitsAt held at b → ⊥
calm_wait held (dues.Waiting task) b calm e = calm
calm_wait held (dues.Undoing side ending) b calm e = calm
calm_wait held at b calm e = e

pub two_same : {A : Type 0} (f : ℕ → ℕ → A) (s b : ℕ) (x : A) → with_two f s b x s b ≡ x
two_same f s b x = ap (λ (g : ℕ → _). g b) (with_at-same f s (with_at (f s) b x)) ∙ with_at-same (f s) b x

module _ (n : ℕ) (M : ℕ → Machine) (S : ℕ → Store) (R : ℕ → Standing) (X : ℕ → ℕ → Transaction) (A : ℕ → ℕ → Option Request) (f : Facts n M S R X A) where
  -- fewer backends are attached, and else the same
  fewer_clear : (m : ℕ) → ((b : ℕ) → has m b ≡ true → has n b ≡ true) → (s b : ℕ) (holds : Bool) → IsClear n M S X s b holds → IsClear m M S X s b holds
  fewer_clear m less s b holds c = record { free = still_out n m b (less b) c.free; away = c.away; none = c.none; unasked = c.unasked; others = c.others; own = c.own }

  fewer_kept : (m : ℕ) → ((b : ℕ) → has m b ≡ true → has n b ≡ true) → (r : Standing) (s b : ℕ) → IsKept n M r s b → IsKept m M r s b
  fewer_kept m less r s b k = record { away = k.away; held = elim k.held [ inl out ↦ inl (still_out n m b (less b) out) | inr holds ↦ inr holds ] }

  -- the source and the target of one that has moved
  abbrev AreApart : ℕ → Standing → Type 0
  AreApart o x = HasSource x.held x.due → IsCopy x.held x.due → x.held.source.number ≢ x.held.target.number

  same_apart : (s : ℕ) (x : Standing) → HasSource (R s).held (R s).due → IsCopy (R s).held (R s).due → x.held.source ≡ (R s).held.source → x.held.target ≡ (R s).held.target
      → x.held.source.number ≢ x.held.target.number
  same_apart s x source copy one other e =
      f.apart s source copy (ap (λ (z : BackendId). z.number) (sym one) ∙ (e ∙ ap (λ (z : BackendId). z.number) other))

  -- a call of the gate, an order or a detachment
  module _ (m : ℕ) (less : (b : ℕ) → has m b ≡ true → has n b ≡ true) (s : ℕ) (x : Standing) (step : Steps m (R s) x)
      (lost : IsLostDue (R s).due → has m (R s).held.source.number ≡ false) (fresh : (b : ℕ) → has m b ≡ true → (S b).transaction s ≡ Absent) where
    step_kept : (b : ℕ) → IsKept n M (R s) s b → IsKept m M x s b
    step_kept b k = record {
      away = k.away;
      held = elim k.held [
        | inl out ↦ inl (still_out n m b (less b) out)
        | inr holds ↦ by holds
      ];
    }
      where
        gone : IsHolding (R s) b → has m (R s).held.source.number ≡ false → has m b ≡ false
        gone holds out = subst (λ k. has m k ≡ false) holds.1 out

        by : IsHolding (R s) b → (has m b ≡ false) ⊎ IsHolding x b
        by holds = elim holds.0 [
          | inl e ↦ elim (step.holds e) [
            | inl q ↦ inr (inl q.0, ap (λ (z : BackendId). z.number) q.1 ∙ holds.1)
            | inr out ↦ inl (gone holds out)
          ]
          | inr e ↦ inl (gone holds (lost e))
        ]

    pub step_facts : Facts m M S (with_at R s x) X A
    step_facts = record {
      tidy = each_at (λ o r. Tidy r) R s x step.tidy (λ o other. f.tidy o);
      waits = f.waits;
      asks = each_at (λ o r. (b : ℕ) → WaitsAt r.held r.due b → is_some (A o b) ≡ true) R s x (λ b e. absurd (calm_wait x.held x.due b step.calm e)) (λ o other. f.asks o);
      clear = each_at (λ o r. IsCopy r.held r.due → IsClear m M S X o r.held.target.number r.held.at_target) R s x
          (λ copy.
          let c = step.copies copy in
          subst (λ (z : BackendId). IsClear m M S X s z.number x.held.at_target) (sym c.1)
          (subst (λ (v : Bool). IsClear m M S X s (R s).held.target.number v) (sym step.same_target)
          (fewer_clear m less s (R s).held.target.number (R s).held.at_target (f.clear s c.0))))
          (λ o other copy. fewer_clear m less o (R o).held.target.number (R o).held.at_target (f.clear o copy));
      keeps = each_at (λ o r. (b : ℕ) → (X o b ≡ Absent) ⊎ IsKept m M r o b) R s x
          (λ b. elim (f.keeps s b) [ inl none ↦ inl none | inr k ↦ inr (step_kept b k) ])
          (λ o other b. elim (f.keeps o b) [ inl none ↦ inl none | inr k ↦ inr (fewer_kept m less (R o) o b k) ]);
      sources = each_at (λ o r. HasSource r.held r.due → (S r.held.source.number).transaction o ≡ Absent) R s x
          (λ has_one. elim (step.sources has_one) [
            | inl q ↦ subst (λ (z : BackendId). (S z.number).transaction s ≡ Absent) (sym q.1) (f.sources s q.0)
            | inr here ↦ fresh x.held.source.number here
          ])
          (λ o other. f.sources o);
      apart = each_at (λ o r. AreApart o r) R s x
          (λ has_one copy. elim (step.sources has_one) [
            | inl q ↦ same_apart s x q.0 (step.copies copy).0 q.1 (step.copies copy).1
            | inr here ↦ λ e.
                let c = step.copies copy in
                let out : has m (R s).held.target.number ≡ false = still_out n m (R s).held.target.number (less (R s).held.target.number) (f.clear s c.0).free in
                (let z : true ≡ false = sym here ∙ (ap (has m) (e ∙ ap (λ (k : BackendId). k.number) c.1) ∙ out) in cc)
          ])
          (λ o other. f.apart o);
    }

  -- its target is attached
  module _ (m : ℕ) (s : ℕ) (x : Standing) (copy : IsCopy (R s).held (R s).due) (more : (b : ℕ) → b ≢ (R s).held.target.number → has n b ≡ false → has m b ≡ false)
      (rid : (R s).held.at_target ≡ false) (alone : (o : ℕ) → o ≢ s → IsCopy (R o).held (R o).due → ⊥)
      (calm : IsCalm x.due) (tidy : Tidy x) (over : IsCopy x.held x.due → ⊥) (source : HasSource x.held x.due → HasSource (R s).held (R s).due) (same : x.held.source ≡ (R s).held.source)
      (holds : (b : ℕ) → IsHolding (R s) b → (has m b ≡ false) ⊎ IsHolding x b) where
    abbrev target : ℕ
    target = (R s).held.target.number

    none_at : (o : ℕ) → X o target ≡ Absent
    none_at o = elim (same_or_other o s) [
      | inl e ↦ subst (λ i. X i target ≡ Absent) (sym e) ((f.clear s copy).own rid)
      | inr other ↦ (f.clear s copy).others o other
    ]

    more_kept : (r : Standing) (o b : ℕ) → b ≢ target → (IsHolding (R o) b → (has m b ≡ false) ⊎ IsHolding r b) → IsKept n M (R o) o b → IsKept m M r o b
    more_kept r o b other held k = record { away = k.away; held = elim k.held [ inl out ↦ inl (more b other out) | inr h ↦ held h ] }

    attached_keeps : (r : Standing) (o : ℕ) → ((b : ℕ) → IsHolding (R o) b → (has m b ≡ false) ⊎ IsHolding r b) → (b : ℕ) → (X o b ≡ Absent) ⊎ IsKept m M r o b
    attached_keeps r o held b = elim (same_or_other b target) [
      | inl e ↦ inl (subst (λ k. X o k ≡ Absent) (sym e) (none_at o))
      | inr other ↦ elim (f.keeps o b) [ inl none ↦ inl none | inr k ↦ inr (more_kept r o b other (held b) k) ]
    ]

    pub attach_facts : Facts m M S (with_at R s x) X A
    attach_facts = record {
      tidy = each_at (λ o r. Tidy r) R s x tidy (λ o other. f.tidy o);
      waits = f.waits;
      asks = each_at (λ o r. (b : ℕ) → WaitsAt r.held r.due b → is_some (A o b) ≡ true) R s x (λ b e. absurd (calm_wait x.held x.due b calm e)) (λ o other. f.asks o);
      clear = each_at (λ o r. IsCopy r.held r.due → IsClear m M S X o r.held.target.number r.held.at_target) R s x (λ c. absurd (over c)) (λ o other c. absurd (alone o other c));
      keeps = each_at (λ o r. (b : ℕ) → (X o b ≡ Absent) ⊎ IsKept m M r o b) R s x (attached_keeps x s holds) (λ o other. attached_keeps (R o) o (λ b h. inr h));
      sources = each_at (λ o r. HasSource r.held r.due → (S r.held.source.number).transaction o ≡ Absent) R s x
          (λ h. subst (λ (z : BackendId). (S z.number).transaction s ≡ Absent) (sym same) (f.sources s (source h))) (λ o other. f.sources o);
      apart = each_at (λ o r. AreApart o r) R s x (λ has_one c. absurd (over c)) (λ o other. f.apart o);
    }

  -- a request of it is posted, or it has seen that the backend is lost, or it is at its end
  module _ (s : ℕ) (x : Standing) (B : ℕ → ℕ → Option Request) (tidy : Tidy x) (asks : (b : ℕ) → WaitsAt x.held x.due b → is_some (B s b) ≡ true) (others : (o : ℕ) → o ≢ s → B o ≡ A o)
      (copies : IsCopy x.held x.due → IsCopy (R s).held (R s).due × ((x.held.target ≡ (R s).held.target) × (x.held.at_target ≡ (R s).held.at_target)))
      (sources : HasSource x.held x.due → HasSource (R s).held (R s).due × (x.held.source ≡ (R s).held.source))
      (holds : (b : ℕ) → IsHolding (R s) b → IsHolding x b) where
    pub moved_facts : Facts n M S (with_at R s x) X B
    moved_facts = record {
      tidy = each_at (λ o r. Tidy r) R s x tidy (λ o other. f.tidy o);
      waits = f.waits;
      asks = each_at (λ o r. (b : ℕ) → WaitsAt r.held r.due b → is_some (B o b) ≡ true) R s x asks
          (λ o other b e. ap (λ (g : ℕ → Option Request). is_some (g b)) (others o other) ∙ f.asks o b e);
      clear = each_at (λ o r. IsCopy r.held r.due → IsClear n M S X o r.held.target.number r.held.at_target) R s x
          (λ copy.
          let c = copies copy in
          subst (λ (z : BackendId). IsClear n M S X s z.number x.held.at_target) (sym c.1.0)
          (subst (λ (v : Bool). IsClear n M S X s (R s).held.target.number v) (sym c.1.1) (f.clear s c.0)))
          (λ o other. f.clear o);
      keeps = each_at (λ o r. (b : ℕ) → (X o b ≡ Absent) ⊎ IsKept n M r o b) R s x
          (λ b. elim (f.keeps s b) [
            | inl none ↦ inl none
            | inr k ↦ inr (record { away = k.away; held = elim k.held [ inl out ↦ inl out | inr h ↦ inr (holds b h) ] })
          ])
          (λ o other. f.keeps o);
      sources = each_at (λ o r. HasSource r.held r.due → (S r.held.source.number).transaction o ≡ Absent) R s x
          (λ h. let q = sources h in subst (λ (z : BackendId). (S z.number).transaction s ≡ Absent) (sym q.1) (f.sources s q.0)) (λ o other. f.sources o);
      apart = each_at (λ o r. AreApart o r) R s x (λ has_one copy. same_apart s x (sources has_one).0 (copies copy).0 (sources has_one).1 (copies copy).1.0) (λ o other. f.apart o);
    }

  -- a blank store comes in the place of its target
  module _ (tables : List TableDef) (s : ℕ) (x : Standing) (b : ℕ) (free : has n b ≡ false) (away : (o : ℕ) → IsAway b (M o).point)
      (alone : (o : ℕ) → o ≢ s → IsCopy (R o).held (R o).due → ⊥) (calm : IsCalm x.due) (tidy : Tidy x) (target : x.held.target.number ≡ b) (source : HasSource x.held x.due → HasSource (R s).held (R s).due)
      (same : x.held.source ≡ (R s).held.source) (at_source : x.held.at_source ≡ (R s).held.at_source) (unlost : IsLostDue (R s).due → ⊥)
      (unheld : HasSource x.held x.due → ⊥) where
    abbrev N : ℕ → Store
    N = with_at S b (prepared tables)

    abbrev Y : ℕ → ℕ → Transaction
    Y o = with_at (X o) b Absent

    not_there : (o : ℕ) (stage : Stage) (c : BackendId) → (M o).point ≡ Waiting stage c → c.number ≢ b
    not_there o stage c e = subst (IsAway b) e (away o)

    blank_clear : (v : Bool) → IsClear n M N Y s b v
    blank_clear v = record {
      free = free;
      away = away;
      none = λ o. ap (λ (z : Store). z.transaction o) (with_at-same S b (prepared tables));
      unasked = λ o. ap (λ (z : Store). z.pending o) (with_at-same S b (prepared tables));
      others = λ o other. with_at-same (X o) b Absent;
      own = λ e. with_at-same (X s) b Absent;
    }

    blank_none : (o k : ℕ) → (S k).transaction o ≡ Absent → (N k).transaction o ≡ Absent
    blank_none o = each_at (λ k z. (S k).transaction o ≡ Absent → z.transaction o ≡ Absent) S b (prepared tables) (λ e. refl) (λ k other e. e)

    blank_keeps : (r : Standing) (o : ℕ) → ((k : ℕ) → IsHolding (R o) k → IsHolding r k) → (k : ℕ) → (Y o k ≡ Absent) ⊎ IsKept n M r o k
    blank_keeps r o holds = each_at (λ k y. (y ≡ Absent) ⊎ IsKept n M r o k) (X o) b Absent (inl refl)
        (λ k other. elim (f.keeps o k) [
          | inl none ↦ inl none
          | inr h ↦ inr (record { away = h.away; held = elim h.held [ inl out ↦ inl out | inr g ↦ inr (holds k g) ] })
        ])

    still_held : (k : ℕ) → IsHolding (R s) k → IsHolding x k
    still_held k h = (elim h.0 [ inl e ↦ inl (at_source ∙ e) | inr e ↦ absurd (unlost e) ], ap (λ (z : BackendId). z.number) same ∙ h.1)

    pub swap_facts : Facts n M N (with_at R s x) Y A
    swap_facts = record {
      tidy = each_at (λ o r. Tidy r) R s x tidy (λ o other. f.tidy o);
      waits = λ o stage c e. ap (λ (z : Store). is_some (z.pending o)) (with_at-other S b (prepared tables) c.number (not_there o stage c e)) ∙ f.waits o stage c e;
      asks = each_at (λ o r. (k : ℕ) → WaitsAt r.held r.due k → is_some (A o k) ≡ true) R s x (λ k e. absurd (calm_wait x.held x.due k calm e)) (λ o other. f.asks o);
      clear = each_at (λ o r. IsCopy r.held r.due → IsClear n M N Y o r.held.target.number r.held.at_target) R s x
          (λ copy. subst (λ k. IsClear n M N Y s k x.held.at_target) (sym target) (blank_clear x.held.at_target))
          (λ o other copy. absurd (alone o other copy));
      keeps = each_at (λ o r. (k : ℕ) → (Y o k ≡ Absent) ⊎ IsKept n M r o k) R s x (blank_keeps x s still_held) (λ o other. blank_keeps (R o) o (λ k h. h));
      sources = each_at (λ o r. HasSource r.held r.due → (N r.held.source.number).transaction o ≡ Absent) R s x
          (λ h. subst (λ (z : BackendId). (N z.number).transaction s ≡ Absent) (sym same) (blank_none s (R s).held.source.number (f.sources s (source h))))
          (λ o other h. blank_none o (R o).held.source.number (f.sources o h));
      apart = each_at (λ o r. AreApart o r) R s x (λ has_one copy. absurd (unheld has_one)) (λ o other. f.apart o);
    }

  -- an answer to it is given and taken
  module _ (s b : ℕ) (x : Standing) (y : Store) (t : Transaction) (B : ℕ → ℕ → Option Request) (others : (o : ℕ) → o ≢ s → B o ≡ A o)
      (pending : y.pending ≡ (S b).pending) (none : (o : ℕ) → (S b).transaction o ≡ Absent → y.transaction o ≡ Absent)
      (calm : IsCalm x.due) (tidy : Tidy x) (alone : (o : ℕ) → o ≢ s → IsCopy (R o).held (R o).due → ⊥)
      (copies : IsCopy x.held x.due → IsCopy (R s).held (R s).due × (x.held.target ≡ (R s).held.target))
      (rid : (R s).held.target.number ≡ b → IsCopy x.held x.due → x.held.at_target ≡ false → t ≡ Absent)
      (still : ((R s).held.target.number ≡ b → ⊥) → x.held.at_target ≡ false → (R s).held.at_target ≡ false)
      (sources : HasSource x.held x.due → HasSource (R s).held (R s).due × (x.held.source ≡ (R s).held.source))
      (has_now : (t ≡ Absent) ⊎ IsKept n M x s b) (holds : (k : ℕ) → k ≢ b → IsHolding (R s) k → IsHolding x k) where
    abbrev V : ℕ → Store
    V = with_at S b y

    abbrev W : ℕ → ℕ → Transaction
    W = with_two X s b t

    others_have : (o k : ℕ) → o ≢ s → W o k ≡ X o k
    others_have o k other = ap (λ (g : ℕ → Transaction). g k) (with_at-other X s (with_at (X s) b t) o other)

    own_has : (k : ℕ) → k ≢ b → W s k ≡ X s k
    own_has k other = ap (λ (g : ℕ → Transaction). g k) (with_at-same X s (with_at (X s) b t)) ∙ with_at-other (X s) b t k other

    waits_same : (o k : ℕ) → (V k).pending o ≡ (S k).pending o
    waits_same o = each_at (λ k z. z.pending o ≡ (S k).pending o) S b y (ap (λ (g : ℕ → _). g o) pending) (λ k other. refl)

    none_left : (o k : ℕ) → (S k).transaction o ≡ Absent → (V k).transaction o ≡ Absent
    none_left o = each_at (λ k z. (S k).transaction o ≡ Absent → z.transaction o ≡ Absent) S b y (none o) (λ k other e. e)

    told_clear : IsCopy x.held x.due → IsClear n M V W s (R s).held.target.number x.held.at_target
    told_clear copy =
        let k = (R s).held.target.number in
        let c = f.clear s (copies copy).0 in
        record {
          free = c.free;
          away = c.away;
          none = λ o. none_left o k (c.none o);
          unasked = λ o. waits_same o k ∙ c.unasked o;
          others = λ o other. others_have o k other ∙ c.others o other;
          own = λ e. elim (same_or_other k b) [
            | inl at ↦ subst (λ j. W s j ≡ Absent) (sym at) (two_same X s b t ∙ rid at copy e)
            | inr other ↦ own_has k other ∙ c.own (still other e)
          ];
        }

    told_keeps : (k : ℕ) → (W s k ≡ Absent) ⊎ IsKept n M x s k
    told_keeps k = elim (same_or_other k b) [
      | inl at ↦ elim has_now [
        | inl e ↦ inl (subst (λ j. W s j ≡ Absent) (sym at) (two_same X s b t ∙ e))
        | inr h ↦ inr (subst (IsKept n M x s) (sym at) h)
      ]
      | inr other ↦ elim (f.keeps s k) [
        | inl e ↦ inl (own_has k other ∙ e)
        | inr h ↦ inr (record { away = h.away; held = elim h.held [ inl out ↦ inl out | inr g ↦ inr (holds k other g) ] })
      ]
    ]

    pub told_facts : Facts n M V (with_at R s x) W B
    told_facts = record {
      tidy = each_at (λ o r. Tidy r) R s x tidy (λ o other. f.tidy o);
      waits = λ o stage c e. ap is_some (waits_same o c.number) ∙ f.waits o stage c e;
      asks = each_at (λ o r. (k : ℕ) → WaitsAt r.held r.due k → is_some (B o k) ≡ true) R s x (λ k e. absurd (calm_wait x.held x.due k calm e))
          (λ o other k e. ap (λ (g : ℕ → Option Request). is_some (g k)) (others o other) ∙ f.asks o k e);
      clear = each_at (λ o r. IsCopy r.held r.due → IsClear n M V W o r.held.target.number r.held.at_target) R s x
          (λ copy. subst (λ (z : BackendId). IsClear n M V W s z.number x.held.at_target) (sym (copies copy).1) (told_clear copy))
          (λ o other copy. absurd (alone o other copy));
      keeps = each_at (λ o r. (k : ℕ) → (W o k ≡ Absent) ⊎ IsKept n M r o k) R s x told_keeps
          (λ o other k. elim (f.keeps o k) [ inl e ↦ inl (others_have o k other ∙ e) | inr h ↦ inr h ]);
      sources = each_at (λ o r. HasSource r.held r.due → (V r.held.source.number).transaction o ≡ Absent) R s x
          (λ h. let q = sources h in subst (λ (z : BackendId). (V z.number).transaction s ≡ Absent) (sym q.1) (none_left s (R s).held.source.number (f.sources s q.0)))
          (λ o other h. none_left o (R o).held.source.number (f.sources o h));
      apart = each_at (λ o r. AreApart o r) R s x (λ has_one copy. same_apart s x (sources has_one).0 (copies copy).0 (sources has_one).1 (copies copy).1) (λ o other. f.apart o);
    }
