-- A store on which one session alone works answers at once.
use Rattle.std.proofs.Common.{◌≡◌, ◌≢◌, ℕ, Bool, true, false, List, refl, sym, ap, ◌∙◌, subst, inl, inr}
use Rattle.std.specs.Prelude.{Option, Some, None}
use Rattle.std.proofs.lemmas.Bool.Decides.{eqb_tells}
use Rattle.backend_trait.specs.declared.request.Request.{Request}
use Rattle.backend_trait.specs.declared.request.Request.TheVariants as requests
use Rattle.backend_trait.specs.declared.answer.Answer.{Answer}
use Rattle.backend_trait.specs.declared.answer.Polled.{Polled}
use Rattle.backend_trait.specs.declared.answer.Polled.TheVariants as polls
use Rattle.backend_trait.specs.Rows.{with_at}
use Rattle.backend_trait.specs.Effect.{Wants, nothing, these_places, Conflicts, same_place, same_table, table_left, table_right, Given, Fails, Gives}
use Rattle.backend_trait.specs.Store.{Store, Transaction, Absent, Alive, Dead, Pending, WhereLive, Live, MayPost, posted, held_by, table_lock, acted}
use Rattle.backend_trait.specs.Acts.{MayAnswer, given_of, Answers, Acts, IsTaken, MustWait, MustWaitRun, WhereSome, IsPromptly, IsPromptAnswer, IsCrossed, IsOf, InForm, InFormAnswer}
use Rattle.session_core.specs.Standing.{IsAlone, IsAsked}

pub with_at-same : {A : Type 0} (f : ℕ → A) (i : ℕ) (x : A) → with_at f i x i ≡ x
with_at-same f i x = elim (eqb_tells i i) [
  | inl p ↦ rw p.0 refl
  | inr p ↦ absurd (p.1 refl)
]

pub with_at-other : {A : Type 0} (f : ℕ → A) (i : ℕ) (x : A) (j : ℕ) → j ≢ i → with_at f i x j ≡ f j
with_at-other f i x j other = elim (eqb_tells j i) [
  | inl p ↦ absurd (other p.1)
  | inr p ↦ rw p.0 refl
]

no_conflict : (wants : Wants) → Conflicts wants nothing → ⊥
no_conflict wants (same_place p a b) = cc
no_conflict wants (same_table t a b) = cc
no_conflict wants (table_left p a b) = cc
no_conflict wants (table_right p a b) = cc

not_taken : (s : ℕ) (st : Store) (request : Request) (wants : Wants) → IsAlone s st → IsTaken (posted st s request) s wants → ⊥
not_taken s st request wants alone (o, other, conflict) =
    no_conflict wants (subst (λ (x : Transaction). Conflicts wants (held_by x)) (alone.others o other) conflict)

not_taken_run : (s : ℕ) (st : Store) (request : Request) (t : Live) (given : Given) → IsAlone s st → MustWaitRun (posted st s request) s t given → ⊥
not_taken_run s st request t (Fails code) alone h = h
not_taken_run s st request t (Gives result changes places) alone h = not_taken s st request (these_places places) alone h.1

not_must : (s : ℕ) (st : Store) (request of : Request) → IsAlone s st → MustWait (posted st s request) s of → ⊥
not_must s st request requests.TakeSnapshot alone h = h
not_must s st request (requests.Run checked) alone h = go (st.transaction s) h
  where
    go : (x : Transaction) → WhereLive x (λ t. MustWaitRun (posted st s request) s t (given_of (posted st s request) checked t)) → ⊥
    go Absent h = h
    go (Alive t) h = not_taken_run s st request t _ alone h
    go Dead h = h
not_must s st request (requests.Lock table) alone h = go (st.transaction s) h
  where
    go : (x : Transaction) → WhereLive x (λ t. IsTaken (posted st s request) s (table_lock table)) → ⊥
    go Absent h = h
    go (Alive t) h = not_taken s st request (table_lock table) alone h
    go Dead h = h
not_must s st request requests.Commit alone h = h
not_must s st request requests.Rollback alone h = h
not_must s st request (requests.ReadSerial table) alone h = h
not_must s st request (requests.SetSerial table n) alone h = h

waiting : Request → Option Pending
waiting request = Some (record { request = request; crossed = false })

-- nobody crosses it
pub not_crossed : (s : ℕ) (st : Store) (request : Request) → IsAlone s st → IsCrossed (posted st s request) s (record { request = request; crossed = false }) → ⊥
not_crossed s st request alone (inl marked) = let f : false ≡ true = marked in cc
not_crossed s st request alone (inr c) =
    let t : None ≡ Some c.its = sym (alone.idle c.other) ∙ sym (with_at-other st.pending s (Some (record { request = request; crossed = false })) c.other c.another) ∙ c.waits in
    cc

-- it does not wait
pub not_yet : (s : ℕ) (st mid : Store) (request : Request) → mid ≡ posted st s request → IsAlone s st → IsPromptly mid s polls.NotYet → ⊥
not_yet s st mid request is alone h =
    let h' : IsPromptly (posted st s request) s polls.NotYet = subst (λ (m : Store). IsPromptly m s polls.NotYet) is h in
    not_must s st request request alone (subst (λ (p : Option Pending). WhereSome p (λ q. MustWait (posted st s request) s q.request)) (with_at-same st.pending s (Some (record { request = request; crossed = false }))) h'.1)

-- it is not lost
pub not_lost : (s : ℕ) (st mid new : Store) (request : Request) (before after : ℕ) → mid ≡ posted st s request → IsAlone s st → InForm mid s polls.Lost before after new → new.lost ≡ mid.lost → ⊥
not_lost s st mid new request before after is alone form stays =
    let t : true ≡ false = sym form.1 ∙ stays ∙ ap (λ m. m.lost) is ∙ alone.not_lost in cc

-- its answer is one that it may give, in its form
pub asked : (s : ℕ) (st mid new : Store) (request : Request) (answer : Answer) → mid ≡ posted st s request → Acts mid s (polls.Answered answer) new → IsPromptly mid s (polls.Answered answer) → InFormAnswer mid s answer new → IsAsked st s request answer new
asked s st mid new request answer is acts promptly in_form =
    let p : Pending = record { request = request; crossed = false } in
    let a : Answers (posted st s request) s answer new = subst (λ (m : Store). Answers m s answer new) is acts in
    let f : InFormAnswer (posted st s request) s answer new = subst (λ (m : Store). InFormAnswer m s answer new) is in_form in
    let t : Some a.pending ≡ Some p = sym a.was ∙ with_at-same st.pending s (Some p) in
    let u : Some f.pending ≡ Some p = sym f.was ∙ with_at-same st.pending s (Some p) in
    let same : a.pending ≡ p = cc in
    let formed : f.pending ≡ p = cc in
    record {
      may = subst (λ q. MayAnswer (posted st s request) s q answer) same a.may;
      promptly = promptly.0;
      form = subst (λ (q : Pending). IsOf q.request answer) formed f.form;
      leaves = a.leaves ∙ ap (λ q. acted (posted st s request) s q.request answer) same;
    }
