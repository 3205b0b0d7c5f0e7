-- Lists of stores of which one is asked.
use Rattle.std.proofs.Common.{◌≡◌, ◌≢◌, ◌⊎◌, ℕ, zero, suc, ◌+◌, ◌<◌, ◌≤◌, Bool, true, false, if◌then◌else◌, List, [], ◌∷◌, length, map, get_or, slice_set, refl, sym, ap, ◌∙◌, subst, inl, inr, arith, All}
use Rattle.std.specs.Prelude.{Option, Some, None, slice_get}
use Rattle.std.specs.Option.{option_map}
use Rattle.std.proofs.lemmas.List.{map-set, length-map}
use Rattle.std.proofs.lemmas.Option.{slice_get-map}
use Rattle.std.proofs.lemmas.Bool.Decides.{eqb_tells, leb_tells}
use Rattle.pool_base.specs.Sets.{has}
use Rattle.backend_trait.specs.declared.request.Request.{Request}
use Rattle.backend_trait.specs.declared.answer.Answer.{Answer}
use Rattle.backend_trait.specs.Store.{Store, is_refusal, MayPost}
use Rattle.write_path.specs.declared.chain.Chain.{Chain}
use Rattle.write_path.specs.declared.slots.Taken.{Taken}
use Rattle.write_path.specs.Slots.{slot_at, answer_in, is_taken}
use Rattle.write_path.specs.Chains.{answer_of, has_refused, is_waited_for, HaveAllAnswered, IsNext, Takes}
use Rattle.session_core.specs.Standing.{IsAlone, IsAsked}
use Rattle.session_core.specs.Chains.{AreFirst, MayAllPost, WasAsked, WereAsked, AskedAt}

pub same_or_other : (a b : ℕ) → (a ≡ b) ⊎ (a ≢ b)
same_or_other a b = elim (eqb_tells a b) [ inl p ↦ inl p.1 | inr p ↦ inr p.1 ]

pub got : {A : Type 0} (xs : List A) (b : ℕ) (old : A) → b < length xs → old ≡ get_or xs b old → slice_get xs b ≡ Some old
got [] b old known h = absurd (omega arith)
got (x ∷ xs) zero old known h = ap Some (sym h)
got (x ∷ xs) (suc b) old known h = got xs b old (omega arith) h

pub got_set-same : {A : Type 0} (xs : List A) (b : ℕ) (x y : A) → slice_get (slice_set xs b x) b ≡ Some y → x ≡ y
got_set-same [] b x y h = cc
got_set-same (z ∷ xs) zero x y h = cc
got_set-same (z ∷ xs) (suc b) x y h = got_set-same xs b x y h

pub got_set-other : {A : Type 0} (xs : List A) (b j : ℕ) (x : A) → j ≢ b → slice_get (slice_set xs b x) j ≡ slice_get xs j
got_set-other [] b j x other = refl
got_set-other (z ∷ xs) zero zero x other = absurd (other refl)
got_set-other (z ∷ xs) zero (suc j) x other = refl
got_set-other (z ∷ xs) (suc b) zero x other = refl
got_set-other (z ∷ xs) (suc b) (suc j) x other = got_set-other xs b j x (λ e. other (ap suc e))

-- what is there is within
pub within : {A : Type 0} (xs : List A) (b : ℕ) (x : A) → slice_get xs b ≡ Some x → b < length xs
within [] b x h = absurd (cc)
within (y ∷ xs) zero x h = omega arith
within (y ∷ xs) (suc b) x h = omega (arith, within xs b x h)

-- what is within is there
pub there : {A : Type 0} (xs : List A) (b : ℕ) → b < length xs → (x : A) × (slice_get xs b ≡ Some x)
there [] b below = absurd (omega arith)
there (y ∷ xs) zero below = (y, refl)
there (y ∷ xs) (suc b) below = there xs b (omega arith)

pub asked_at : {X : Type 0} (v : X → Store) (xs : List X) (s : ℕ) (request : Request) (b : ℕ) (answer : Answer) (old new : X) → b < length xs → old ≡ get_or xs b old
    → IsAsked (v old) s request answer (v new) → AskedAt s request b answer (map v xs) (map v (slice_set xs b new))
asked_at v xs s request b answer old new below is asked = record {
  was = v old;
  now = v new;
  was_there = slice_get-map v xs b ∙ ap (option_map v) (got xs b old below is);
  asked = asked;
  is_now = map-set v xs b new;
}

-- the premises of a request at one of a list
pub may_at : {X : Type 0} (v : X → Store) (xs : List X) (P : Store → Type 0) (b : ℕ) (old : X) → b < length xs → old ≡ get_or xs b old
    → ((st : Store) → slice_get (map v xs) b ≡ Some st → P st) → P (v old)
may_at v xs P b old below is may = may (v old) (slice_get-map v xs b ∙ ap (option_map v) (got xs b old below is))

-- an open place has no answer
pub no_answer : {A : Type 0} (chain : Chain A) (attached b : ℕ) → is_waited_for chain attached b ≡ true → (answer_of chain b ≡ None) × (has attached b ≡ true)
no_answer {A = A} chain attached b waits = go (has attached b) refl (slot_at chain.slots.items b) refl waits
  where
    go : (h : Bool) → has attached b ≡ h → (o : Option (Taken A)) → slot_at chain.slots.items b ≡ o → (if h then (if is_taken o then false else true) else false) ≡ true → (answer_of chain b ≡ None) × (has attached b ≡ true)
    go true h None o e = (ap answer_in o, h)
    go true h (Some taken) o e = absurd (cc)
    go false h o p e = absurd (cc)

-- a place with an answer is not open
taken_closed : {A : Type 0} (chain : Chain A) (attached b : ℕ) (answer : A) → answer_of chain b ≡ Some answer → is_waited_for chain attached b ≡ false
taken_closed {A = A} chain attached b answer is = go (has attached b) (slot_at chain.slots.items b) refl
  where
    go : (h : Bool) → (o : Option (Taken A)) → slot_at chain.slots.items b ≡ o → (if h then (if is_taken o then false else true) else false) ≡ false
    go true None o = absurd (let t : None ≡ Some answer = sym (ap answer_in o) ∙ is in cc)
    go true (Some taken) o = refl
    go false p o = refl

same_open : {A : Type 0} (old new : Chain A) (attached k : ℕ) → answer_of new k ≡ answer_of old k → is_waited_for old attached k ≡ false → is_waited_for new attached k ≡ false
same_open {A = A} old new attached k same closed = go (has attached k) (slot_at old.slots.items k) (slot_at new.slots.items k) same closed
  where
    go : (h : Bool) (o n : Option (Taken A)) → answer_in n ≡ answer_in o → (if h then (if is_taken o then false else true) else false) ≡ false → (if h then (if is_taken n then false else true) else false) ≡ false
    go true None n e c = absurd (cc)
    go true (Some o) None e c = absurd (cc)
    go true (Some o) (Some n) e c = refl
    go false o n e c = refl

module _ (s : ℕ) (request : Request) (olds mids news : List Store) (old new : Chain Answer) (b : ℕ) (answer : Answer) (refused : Bool) where
  -- one answer more
  pub more : WereAsked s request (answer_of old) (has_refused old) olds mids → answer_of old b ≡ None → AskedAt s request b answer mids news → refused ≡ is_refusal answer → Takes old b answer refused new
      → WereAsked s request (answer_of new) (has_refused new) olds news
  more were none at is takes k st there_k = elim (same_or_other k b) [
    | inl same ↦
        let at_b : slice_get news b ≡ Some st = ap (slice_get news) (sym same) ∙ there_k in
        let now : at.now ≡ st = got_set-same mids b at.now st (ap (λ l. slice_get l b) (sym at.is_now) ∙ at_b) in
        let (was, was_there, was_asked) = were b at.was at.was_there in
        let unasked : at.was ≡ was = subst (λ (o : Option Answer). WasAsked s request o (has_refused old b) was at.was) none was_asked in
        let asked : IsAsked was s request answer st = subst (λ (x : Store). IsAsked x s request answer st) unasked (subst (λ (x : Store). IsAsked at.was s request answer x) now at.asked) in
        let here : WasAsked s request (answer_of new b) (has_refused new b) was st =
        subst (λ (o : Option Answer). WasAsked s request o (has_refused new b) was st) (sym takes.answer_is) (asked, takes.refused_is ∙ is) in
        (was, ap (slice_get olds) same ∙ was_there, subst (λ (j : ℕ). WasAsked s request (answer_of new j) (has_refused new j) was st) (sym same) here)
    | inr other ↦
        let at_k : slice_get mids k ≡ Some st = sym (got_set-other mids b k at.now other) ∙ ap (λ l. slice_get l k) (sym at.is_now) ∙ there_k in
        let (was, was_there, was_asked) = were k st at_k in (
          was,
          was_there,
          subst (λ (r : Bool). WasAsked s request (answer_of new k) r was st) (sym (takes.refusals k other))
              (subst (λ (o : Option Answer). WasAsked s request o (has_refused old k) was st) (sym (takes.others k other)) was_asked),
        )
  ]

module _ (old new : Chain Answer) (attached b : ℕ) (answer : Answer) (refused : Bool) where
  -- and no place below is open
  pub closed_more : (at : ℕ) → IsNext old attached b → ((k : ℕ) → k < at → is_waited_for old attached k ≡ false) → Takes old b answer refused new → (k : ℕ) → k < at + 1 → is_waited_for new attached k ≡ false
  closed_more at next closed takes k below = elim (same_or_other k b) [
    | inl same ↦ ap (is_waited_for new attached) same ∙ taken_closed new attached b answer takes.answer_is
    | inr other ↦ same_open old new attached k (takes.others k other) (elim (leb_tells at k) [
      | inl le ↦ elim (leb_tells at b) [
        | inl before ↦ next.1 k (omega (arith, le.1, before.1, other))
        | inr behind ↦ let t : true ≡ false = sym next.0 ∙ closed b behind.1 in absurd (cc)
      ]
      | inr lt ↦ closed k lt.1
    ])
  ]

-- at first nobody was asked
pub unasked : (s : ℕ) (request : Request) (answers : ℕ → Option Answer) (refusals : ℕ → Bool) (stores : List Store) → ((b : ℕ) → answers b ≡ None) → WereAsked s request answers refusals stores stores
unasked s request answers refusals stores none b st there_b = (st, there_b, subst (λ (o : Option Answer). WasAsked s request o (refusals b) st st) (sym (none b)) refl)

-- a store that was not asked may be asked
pub may_next : (s : ℕ) (request : Request) (answers : ℕ → Option Answer) (refusals : ℕ → Bool) (olds mids : List Store) (b : ℕ) → MayAllPost s request olds → WereAsked s request answers refusals olds mids → answers b ≡ None
    → (st : Store) → slice_get mids b ≡ Some st → IsAlone s st × MayPost st s request
may_next s request answers refusals olds mids b may were none st there_b =
    let (was, was_there, was_asked) = were b st there_b in
    let same : st ≡ was = subst (λ (o : Option Answer). WasAsked s request o (refusals b) was st) none was_asked in
    subst (λ (x : Store). IsAlone s x × MayPost x s request) (sym same) (may b was was_there)

-- all below the count are closed, and no other is attached
pub all_answered : {A : Type 0} (chain : Chain A) (attached count at : ℕ) → AreFirst attached count → count ≤ at → ((k : ℕ) → k < at → is_waited_for chain attached k ≡ false) → HaveAllAnswered chain attached
all_answered chain attached count at first past closed b below = go (has attached b) refl
  where
    go : (h : Bool) → has attached b ≡ h → is_waited_for chain attached b ≡ false
    go true h = closed b (omega (arith, (first b below).0 h))
    go false h = rw h refl

pub may_get : {X : Type 0} (v : X → Store) (xs : List X) (P : Store → Type 0) (at b : ℕ) (x : X) → at ≡ b → b < length xs → x ≡ get_or xs at x
    → ((st : Store) → slice_get (map v xs) b ≡ Some st → P st) → P (v (get_or xs at x))
may_get v xs P at b x same below is may =
    subst (λ y. P (v y)) is (may_at v xs P b x below (is ∙ ap (λ j. get_or xs j x) same) may)

pub asked_get : {X : Type 0} (v : X → Store) (xs : List X) (s : ℕ) (request : Request) (at b : ℕ) (answer : Answer) (x new : X) → at ≡ b → b < length xs → x ≡ get_or xs at x
    → IsAsked (v (get_or xs at x)) s request answer (v new) → AskedAt s request b answer (map v xs) (map v (slice_set xs at new))
asked_get v xs s request at b answer x new same below is asked =
    subst (λ (j : ℕ). AskedAt s request b answer (map v xs) (map v (slice_set xs j new))) (sym same)
    (asked_at v xs s request b answer x new below (is ∙ ap (λ j. get_or xs j x) same) (subst (λ y. IsAsked (v y) s request answer (v new)) (sym is) asked))
