-- The locks of serial inserts under way, where one session moves on.
use Rattle.std.proofs.Common.{◌≡◌, ◌≢◌, ℕ, Bool, true, false, refl, sym, ap, ◌∙◌, subst, inl, inr}
use Rattle.std.specs.Prelude.{Option, Some, None}
use Rattle.backend_trait.specs.Rows.{with_at}
use Rattle.backend_trait.specs.Effect.{Wants, nothing, Conflicts, same_place, same_table, table_left, table_right}
use Rattle.backend_trait.specs.Store.{Transaction, Absent, Store, held_by, table_lock}
use Rattle.session_machine.specs.declared.machine.Machine.{Machine}
use Rattle.session_machine.specs.declared.machine.Stage.{Stage}
use Rattle.session_machine.specs.declared.work.Work.{Work}
use Rattle.one_copy_model.specs.Deaths.{is_live, stage_at}
use Rattle.one_copy_model.specs.Invariant.{Inserts, HaveLocks, inserting_in}
use Rattle.one_copy_model.proofs.Places.{same_or_other, each_at}

-- who holds nothing is in nobody's way
pub no_right : (a : Wants) → ¬ (Conflicts a nothing)
no_right a (same_place p x y) = let e : false ≡ true = y in cc
no_right a (same_table t x y) = let e : false ≡ true = y in cc
no_right a (table_left p x y) = let e : false ≡ true = y in cc
no_right a (table_right p x y) = let e : false ≡ true = y in cc

-- without a chain there is no insert
pub calm_inserts : (n : Machine) (table : ℕ) → stage_at n.point ≡ None → Inserts n table → ⊥
calm_inserts n table calm i = let e : None ≡ Some i.work = sym (ap inserting_in calm) ∙ i.inserting in cc

-- the transaction of one session changes: it holds no more than before, and where it is live and inserts, it was so before
module _ (old new : Store) (machine : ℕ → Machine) (s : ℕ) (n : Machine) (others : (o : ℕ) → o ≢ s → new.transaction o ≡ old.transaction o)
    (holds : (w : Wants) → Conflicts w (held_by (new.transaction s)) → Conflicts w (held_by (old.transaction s)))
    (own : (table : ℕ) → is_live (new.transaction s) ≡ true → Inserts n table → (is_live (old.transaction s) ≡ true) × Inserts (machine s) table) where
  was_inserting : (table o : ℕ) → is_live (new.transaction o) ≡ true → Inserts (with_at machine s n o) table → (is_live (old.transaction o) ≡ true) × Inserts (machine o) table
  was_inserting table = each_at (λ o x. is_live (new.transaction o) ≡ true → Inserts x table → (is_live (old.transaction o) ≡ true) × Inserts (machine o) table) machine s n
      (own table)
      (λ o other live i. (ap is_live (sym (others o other)) ∙ live, i))

  held_before : (w : Wants) (o : ℕ) → Conflicts w (held_by (new.transaction o)) → Conflicts w (held_by (old.transaction o))
  held_before w o c = elim (same_or_other o s) [
    | inl e ↦ subst (λ j. Conflicts w (held_by (old.transaction j))) (sym e) (holds w (subst (λ j. Conflicts w (held_by (new.transaction j))) e c))
    | inr other ↦ subst (λ (x : Transaction). Conflicts w (held_by x)) (others o other) c
  ]

  pub locks_turned : HaveLocks old machine → HaveLocks new (with_at machine s n)
  locks_turned h = record {
    alone = λ a o table live there i j.
        let x = was_inserting table a live i in
        let y = was_inserting table o there j in
        h.alone a o table x.0 y.0 x.1 y.1;
    free = λ a o table apart live i c.
        let x = was_inserting table a live i in
        h.free a o table apart x.0 x.1 (held_before (table_lock table) o c);
  }

-- the single run stays, and no insert begins
pub locks_stay : (st : Store) (machine : ℕ → Machine) (s : ℕ) (n : Machine) → ((table : ℕ) → Inserts n table → Inserts (machine s) table)
    → HaveLocks st machine → HaveLocks st (with_at machine s n)
locks_stay st machine s n enters h = locks_turned st st machine s n (λ o other. refl) (λ w c. c) (λ table live i. (live, enters table i)) h

-- the transaction of one session has ended
pub locks_ended : (old new : Store) (machine : ℕ → Machine) (s : ℕ) (n : Machine) → ((o : ℕ) → o ≢ s → new.transaction o ≡ old.transaction o)
    → new.transaction s ≡ Absent → HaveLocks old machine → HaveLocks new (with_at machine s n)
locks_ended old new machine s n others none h = locks_turned old new machine s n others
    (λ w c. absurd (no_right w (subst (λ (x : Transaction). Conflicts w (held_by x)) none c)))
    (λ table live i. absurd (let e : false ≡ true = sym (ap is_live none) ∙ live in cc)) h
