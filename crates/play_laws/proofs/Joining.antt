-- A store of a play stands to that of the world behind each event as it did before.
use Rattle.std.proofs.Common.{◌≡◌, ◌≢◌, ℕ, Bool, true, false, List, ◌||◌, refl, sym, ap, ◌∙◌, subst, inl, inr, is_some}
use Rattle.std.specs.Prelude.{Option, Some, None}
use Rattle.std.specs.FinMap as fin
use Rattle.schema.specs.declared.catalogue.TableDef.{TableDef}
use Rattle.backend_trait.specs.declared.request.Request.{Request}
use Rattle.backend_trait.specs.declared.answer.Answer.{Answer}
use Rattle.backend_trait.specs.Rows.{Changes, with_at}
use Rattle.backend_trait.specs.Store.{Transaction, Absent, Alive, Dead, Pending, Store, prepared, posted, lost_by, made_stale, where_live, acted}
use Rattle.one_copy_model.specs.Marks.{marked}
use Rattle.one_copy_model.proofs.Places.{same_or_other, with_at-same, with_at-other, each_at, each_at2}
use Rattle.play_laws.specs.Unmarked.{unmark}
use Rattle.play_laws.proofs.Marks.{unmarked_marked}
use Rattle.play_laws.proofs.Answers.{none_waits}
use Rattle.recovery_laws.specs.Pool.{store_left}
use Rattle.play_laws.specs.Joined.{SameOwn, IsJoined, IsPosed, IsWhole}
use Rattle.play_laws.proofs.Acts.{ActsAlike, is_same, acted_alike}

some_none : {A P : Type 0} (x : A) → Some x ≡ None → P
some_none x e = absurd (cc)

-- What a session has.

-- a commit of another
aged : (x own z : Transaction) (c : Changes) → IsJoined x own z → IsJoined x (where_live (made_stale c) own) (where_live (made_stale c) z)
aged Absent own z c j = ap (where_live (made_stale c)) j
aged (Alive u) own z c j =
    let t = j.1.0 in (
      ap (where_live (made_stale c)) j.0,
      (
        made_stale c t,
        ap (where_live (made_stale c)) j.1.1,
        record {
          base = j.1.2.base;
          changes = j.1.2.changes;
          held = j.1.2.held;
          stale = λ q e. later (is_some (fin.get c q)) (t.stale q) (j.1.2.stale q e);
        },
      ),
    )
  where
    later : (a b : Bool) → b ≡ true → (a || b) ≡ true
    later true b e = refl
    later false b e = e
aged Dead own z c j = (ap (where_live (made_stale c)) j.0, ap (where_live (made_stale c)) j.1)

pub own_of : (x own z : Transaction) → IsJoined x own z → own ≡ Absent → SameOwn z x
own_of Absent own z j none = subst (λ (y : Transaction). SameOwn y Absent) (sym (j ∙ none)) refl
own_of (Alive u) own z j none = subst (λ (y : Transaction). SameOwn y (Alive u)) (sym j.1.1) (u, refl, j.1.2)
own_of Dead own z j none = subst (λ (y : Transaction). SameOwn y Dead) (sym j.1) refl

joined_own : (x own z : Transaction) → own ≡ Absent → SameOwn z x → IsJoined x own z
joined_own x own Absent none same = subst (λ (y : Transaction). IsJoined y own Absent) (sym same) (sym none)
joined_own x own (Alive t) none same = subst (λ (y : Transaction). IsJoined y own (Alive t)) (sym same.1) (none, (t, refl, same.2))
joined_own x own Dead none same = subst (λ (y : Transaction). IsJoined y own Dead) (sym same) (none, refl)

pub is_own : (x own z : Transaction) → IsJoined x own z → x ≡ Absent → z ≡ own
is_own x own z j none = subst (λ (y : Transaction). IsJoined y own z) none j

-- What waits.

posed_mark : (lost : Bool) (asked : Option Request) (own more z : Option Pending) → unmark more ≡ unmark own → IsPosed lost asked own z → IsPosed lost asked more z
posed_mark lost None own more z same (inl e) = inl (e ∙ sym same)
posed_mark lost None own more z same (inr e) = inr (e.0, none_waits more (same ∙ ap unmark e.1))
posed_mark lost (Some request) own more z same e = (none_waits more (same ∙ ap unmark e.0), e.1)

posed_lost : (lost : Bool) (asked : Option Request) (own z : Option Pending) → IsPosed lost asked own z → IsPosed true asked own z
posed_lost lost None own z (inl e) = inl e
posed_lost lost None own z (inr e) = inr (refl, e.1)
posed_lost lost (Some request) own z e = e

pub unposed : (lost : Bool) (asked : Option Request) (own z : Option Pending) → IsPosed lost asked own z → z ≡ None → (asked ≡ None) × (own ≡ None)
unposed lost None own z (inl e) none = (refl, none_waits own (sym e ∙ none))
unposed lost None own z (inr e) none = (refl, e.1)
unposed lost (Some request) own z e none = some_none _ (sym e.1 ∙ none)

asked_alone : (lost : Bool) (asked : Option Request) (own z : Option Pending) (request : Request) → IsPosed lost asked own z → asked ≡ Some request
    → (own ≡ None) × (z ≡ Some (record { request = request; crossed = false }))
asked_alone lost asked own z request e is = subst (λ (a : Option Request). IsPosed lost a own z) is e

-- The store.

module _ (own st : Store) (T : ℕ → Transaction) (A : ℕ → Option Request) (w : IsWhole own T A st) where
  pub alike_whole : (V : ℕ → Transaction) (B : ℕ → Option Request) → ((s : ℕ) → V s ≡ T s) → ((s : ℕ) → B s ≡ A s) → IsWhole own V B st
  alike_whole V B same asks = record {
    same = w.same;
    transactions = λ s. subst (λ (x : Transaction). IsJoined x (own.transaction s) (st.transaction s)) (sym (same s)) (w.transactions s);
    posed = λ s. subst (λ (x : Option Request). IsPosed own.lost x (own.pending s) (st.pending s)) (sym (asks s)) (w.posed s);
  }

  pub marked_whole : IsWhole (marked own) T A st
  marked_whole = record {
    same = w.same;
    transactions = w.transactions;
    posed = λ s. posed_mark own.lost (A s) (own.pending s) ((marked own).pending s) (st.pending s) (ap (λ (x : Store). x.pending s) (unmarked_marked own)) (w.posed s);
  }

  pub lost_whole : IsWhole (lost_by own) T A (lost_by st)
  lost_whole = record {
    same = ap lost_by w.same;
    transactions = w.transactions;
    posed = λ s. posed_lost own.lost (A s) (own.pending s) (st.pending s) (w.posed s);
  }

  abbrev asks : Request → Option Pending
  asks request = Some (record { request = request; crossed = false })

  pub posted_whole : (s : ℕ) (request : Request) → st.pending s ≡ None → IsWhole (posted own s request) T A (posted st s request)
  posted_whole s request none = record {
    same = ap (λ (x : Store). posted x s request) w.same;
    transactions = w.transactions;
    posed = each_at2 (λ o x z. IsPosed own.lost (A o) x z) own.pending st.pending s (asks request) (asks request)
        (subst (λ (a : Option Request). IsPosed own.lost a (asks request) (asks request)) (sym (unposed own.lost (A s) (own.pending s) (st.pending s) (w.posed s) none).0) (inl refl))
        (λ o other. w.posed o);
  }

  pub asked_whole : (s : ℕ) (request : Request) → st.pending s ≡ None → IsWhole own T (with_at A s (Some request)) (posted st s request)
  asked_whole s request none = record {
    same = ap (λ (x : Store). posted x s request) w.same;
    transactions = w.transactions;
    posed = each_at2 (λ o a z. IsPosed own.lost a (own.pending o) z) A st.pending s (Some request) (asks request)
        ((unposed own.lost (A s) (own.pending s) (st.pending s) (w.posed s) none).1, refl)
        (λ o other. w.posed o);
  }

  -- the recovery has seen that the backend is lost
  pub faulted_whole : (s : ℕ) (request : Request) → own.lost ≡ true → A s ≡ Some request → IsWhole own T (with_at A s None) st
  faulted_whole s request lost is = record {
    same = w.same;
    transactions = w.transactions;
    posed = each_at (λ o a. IsPosed own.lost a (own.pending o) (st.pending o)) A s None
        (inr (lost, (asked_alone own.lost (A s) (own.pending s) (st.pending s) request (w.posed s) is).0))
        (λ o other. w.posed o);
  }

  -- others have what they had, but for stale places
  module _ (s : ℕ) (U : ℕ → Transaction) (Q : ℕ → Option Pending) (more less : Store) (a : ActsAlike own.lost s st.transaction U st.pending Q more less)
      (others : (o : ℕ) → o ≢ s → U o ≡ own.transaction o) where
    still_joined : (o : ℕ) → o ≢ s → IsJoined (T o) (less.transaction o) (more.transaction o)
    still_joined o other = elim a.others [
      | inl f ↦
          subst (λ (y : Transaction). IsJoined (T o) y (more.transaction o)) (sym ((f o other).1 ∙ others o other))
          (subst (IsJoined (T o) (own.transaction o)) (sym (f o other).0) (w.transactions o))
      | inr f ↦
          let c = f.0 in
          subst (λ (y : Transaction). IsJoined (T o) y (more.transaction o)) (sym ((f.1 o other).1 ∙ ap (where_live (made_stale c)) (others o other)))
          (subst (IsJoined (T o) (where_live (made_stale c) (own.transaction o))) (sym (f.1 o other).0) (aged (T o) (own.transaction o) (st.transaction o) c (w.transactions o)))
    ]

  -- an answer to a session
  module _ (s : ℕ) (request : Request) (answer : Answer) (none : T s ≡ Absent) (unasked : A s ≡ None) where
    abbrev from : Store
    from = record own { transaction = st.transaction; pending = st.pending }

    same_here : st.transaction s ≡ own.transaction s
    same_here = is_own (T s) (own.transaction s) (st.transaction s) (w.transactions s) none

    a : ActsAlike own.lost s st.transaction own.transaction st.pending own.pending (acted from s request answer) (acted own s request answer)
    a = acted_alike own st.transaction own.transaction st.pending own.pending s (is_same (st.transaction s) (own.transaction s) same_here) request answer

    from_whole : IsWhole (acted own s request answer) T A (acted from s request answer)
    from_whole = record {
      same = a.rest;
      transactions = λ o. elim (same_or_other o s) [
        | inl e ↦
            subst (λ k. IsJoined (T k) ((acted own s request answer).transaction k) ((acted from s request answer).transaction k)) (sym e)
            (subst (λ (x : Transaction). IsJoined x ((acted own s request answer).transaction s) ((acted from s request answer).transaction s)) (sym none) (a.exact same_here))
        | inr other ↦ still_joined s own.transaction own.pending (acted from s request answer) (acted own s request answer) a (λ k unlike. refl) o other
      ];
      posed = λ o.
          subst (λ (v : Bool). IsPosed v (A o) ((acted own s request answer).pending o) ((acted from s request answer).pending o)) (sym a.lost)
          (subst (λ (p : ℕ → Option Pending). IsPosed own.lost (A o) (p o) ((acted from s request answer).pending o)) (sym a.less_waits)
          (subst (λ (p : ℕ → Option Pending). IsPosed own.lost (A o) (with_at own.pending s None o) (p o)) (sym a.more_waits)
          (each_at2 (λ k x z. IsPosed own.lost (A k) x z) own.pending st.pending s None None
          (subst (λ (x : Option Request). IsPosed own.lost x None None) (sym unasked) (inl refl)) (λ k other. w.posed k) o)));
    }

    pub acted_whole : IsWhole (acted own s request answer) T A (acted st s request answer)
    acted_whole = subst (λ (x : Store). IsWhole (acted own s request answer) T A (acted x s request answer)) (sym w.same) from_whole

  -- an answer to a recovery
  module _ (s : ℕ) (request : Request) (answer : Answer) (is : A s ≡ Some request) (none : own.transaction s ≡ Absent) where
    abbrev pub found : Store
    found = record own { transaction = with_at own.transaction s (T s) }

    abbrev seen : Store
    seen = record own { transaction = st.transaction; pending = st.pending }

    abbrev less : Store
    less = acted found s request answer

    abbrev more : Store
    more = acted seen s request answer

    pub same_at : SameOwn (st.transaction s) (found.transaction s)
    same_at =
        subst (SameOwn (st.transaction s)) (sym (with_at-same own.transaction s (T s)))
        (own_of (T s) (own.transaction s) (st.transaction s) (w.transactions s) none)

    b : ActsAlike own.lost s st.transaction found.transaction st.pending own.pending more less
    b = acted_alike own st.transaction found.transaction st.pending own.pending s same_at request answer

    told_from : IsWhole (store_left own less s) (with_at T s (less.transaction s)) (with_at A s None) more
    told_from = record {
      same = b.rest;
      transactions = each_at2 (λ o t y. IsJoined t y (more.transaction o)) T less.transaction s (less.transaction s) (own.transaction s)
          (joined_own (less.transaction s) (own.transaction s) (more.transaction s) none b.own)
          (still_joined s found.transaction own.pending more less b (λ o other. with_at-other own.transaction s (T s) o other));
      posed = λ o.
          subst (λ (v : Bool). IsPosed v (with_at A s None o) (own.pending o) (more.pending o)) (sym b.lost)
          (subst (λ (p : ℕ → Option Pending). IsPosed own.lost (with_at A s None o) (own.pending o) (p o)) (sym b.more_waits)
          (each_at2 (λ k x z. IsPosed own.lost x (own.pending k) z) A st.pending s None None
          (inl (sym (ap unmark (asked_alone own.lost (A s) (own.pending s) (st.pending s) request (w.posed s) is).0))) (λ k other. w.posed k) o));
    }

    pub told_whole : IsWhole (store_left own less s) (with_at T s (less.transaction s)) (with_at A s None) (acted st s request answer)
    told_whole = subst (λ (x : Store). IsWhole (store_left own less s) (with_at T s (less.transaction s)) (with_at A s None) (acted x s request answer)) (sym w.same) told_from

    -- where the recovery has there what it has in the play, it has so behind the answer
    pub told_exact : st.transaction s ≡ T s → (acted st s request answer).transaction s ≡ less.transaction s
    told_exact e =
        ap (λ (x : Store). (acted x s request answer).transaction s) w.same
        ∙ b.exact (e ∙ sym (with_at-same own.transaction s (T s)))

-- a blank store
pub blank_whole : (tables : List TableDef) (A : ℕ → Option Request) → ((s : ℕ) → A s ≡ None) → IsWhole (prepared tables) (λ s. Absent) A (prepared tables)
blank_whole tables A none = record {
  same = refl;
  transactions = λ s. refl;
  posed = λ s. subst (λ (x : Option Request). IsPosed false x None None) (sym (none s)) (inl refl);
}
