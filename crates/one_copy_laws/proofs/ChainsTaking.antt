-- An answer that a session takes.
use Rattle.std.proofs.Common.{◌≡◌, ◌≢◌, ℕ, ◌<◌, Bool, true, false, List, [], ◌∷◌, refl, sym, ap, ◌∙◌, subst, arith, inl, inr}
use Rattle.std.specs.Prelude.{Option, Some, None, if◌then◌else◌, is_some}
use Rattle.pool_base.specs.declared.session_id.SessionId.{SessionId}
use Rattle.pool_base.specs.declared.gate_call.GateCall.TheVariants as calls
use Rattle.backend_trait.specs.declared.answer.Answer.{Answer}
use Rattle.backend_trait.specs.Rows.{with_at}
use Rattle.session_machine.specs.declared.action.Action.TheVariants as actions
use Rattle.session_machine.specs.declared.machine.Machine.{Machine}
use Rattle.session_machine.specs.declared.machine.Stage.{Stage}
use Rattle.session_machine.specs.declared.machine.Point.TheVariants.{LookDue, Waiting, SplitDue}
use Rattle.session_machine.specs.Rules.{after_at, due}
use Rattle.one_copy_model.specs.declared.deed.Entry.{Entry}
use Rattle.one_copy_model.specs.declared.event.Event.TheVariants.{Of}
use Rattle.one_copy_model.specs.World.{after, MayHappen}
use Rattle.one_copy_model.specs.Deaths.{fallen, stage_at}
use Rattle.one_copy_model.specs.Tracking.{Tracked, tracked_after}
use Rattle.one_copy_model.specs.Invariant.{Invariant}
use Rattle.one_copy_model.specs.Own.{told_by, Own}
use Rattle.one_copy_model.proofs.Counts.{still}
use Rattle.one_copy_model.proofs.Turning.{FactsOf, facts_of, live_there}
use Rattle.one_copy_model.proofs.Landing.{lands, places_none}
use Rattle.one_copy_model.proofs.Quiet.{real, below_65}
use Rattle.pool_base.specs.declared.backend_id.BackendId.{BackendId}
use Rattle.one_copy_model.specs.Chains.{IsInOrder, HasOne, asked_in}
use Rattle.one_copy_model.specs.Invariant.{inserted_in}
use Rattle.one_copy_model.proofs.Quiet.{stands_silent}
use Rattle.session_machine.specs.declared.machine.Heard.{Heard}
use Rattle.session_machine.specs.declared.action.SessionEvent.TheVariants.{Taken}
use Rattle.session_machine.specs.Rules.{taken, heard_more}
use Rattle.one_copy_model.specs.Chains.{IsRising, AreBelow, AreAbove, has_told}
use Rattle.one_copy_model.specs.Deaths.{heard_from, mail_or}
use Rattle.one_copy_model.proofs.Places.{same_or_other, with_at-same, with_at-other}
use Rattle.one_copy_model.proofs.Silent.{silent}
use Rattle.one_copy_model.proofs.Counts.{counted}
use Rattle.one_copy_model.proofs.Landing.{moved, moved_holds}
use Rattle.one_copy_laws.proofs.ChainsChaining.{chain_own, stand_same, inserts_same}
use Rattle.std.specs.Prelude.{◌++◌, ◌==◌}
use Rattle.std.proofs.lemmas.Bool.Decides.{eqb_tells}
use Rattle.one_copy_laws.proofs.ChainsFaulting.{waits_for, one_line}

-- lists of answers that go up
same_number : (b c : ℕ) → b ≡ c → (b == c) ≡ true
same_number b c e = elim (eqb_tells b c) [ inl p ↦ p.0 | inr p ↦ absurd (p.1 e) ]

other_number : (b c : ℕ) → b ≢ c → (b == c) ≡ false
other_number b c e = elim (eqb_tells b c) [ inl p ↦ absurd (e p.1) | inr p ↦ p.0 ]

pub none_below : (b : ℕ) (hs : List Heard) → AreBelow b hs → heard_from hs b ≡ None
none_below b [] below = refl
none_below b (x ∷ hs) below =
    let less : x.b.number < b = below.0 in
    ap (λ v. if v then Some x.answer else heard_from hs b) (other_number x.b.number b (λ e. omega (arith, e, less))) ∙ none_below b hs below.1

pub heard_more_at : (hs : List Heard) (b : BackendId) (answer : Answer) → heard_from hs b.number ≡ None → heard_from (hs ++ record { b = b; answer = answer } ∷ []) b.number ≡ Some answer
heard_more_at [] b answer e = ap (λ v. if v then Some answer else None) (same_number b.number b.number refl)
heard_more_at (x ∷ hs) b answer e = by (x.b.number == b.number) e (heard_more_at hs b answer)
  where
    by : (v : Bool) → (if v then Some x.answer else heard_from hs b.number) ≡ None → (heard_from hs b.number ≡ None → heard_from (hs ++ record { b = b; answer = answer } ∷ []) b.number ≡ Some answer)
        → (if v then Some x.answer else heard_from (hs ++ record { b = b; answer = answer } ∷ []) b.number) ≡ Some answer
    by true e rest = absurd (let z : Some x.answer ≡ None = e in cc)
    by false e rest = rest e

pub heard_more_other : (hs : List Heard) (b : BackendId) (answer : Answer) (c : ℕ) → c ≢ b.number → heard_from (hs ++ record { b = b; answer = answer } ∷ []) c ≡ heard_from hs c
heard_more_other [] b answer c other = ap (λ v. if v then Some answer else None) (other_number b.number c (λ e. other (sym e)))
heard_more_other (x ∷ hs) b answer c other = ap (λ v. if x.b.number == c then Some x.answer else v) (heard_more_other hs b answer c other)

above_more : (k : ℕ) (hs : List Heard) (b : BackendId) (answer : Answer) → AreAbove k hs → k < b.number → AreAbove k (hs ++ record { b = b; answer = answer } ∷ [])
above_more k [] b answer above less = (less, tt)
above_more k (x ∷ hs) b answer above less = (above.0, above_more k hs b answer above.1 less)

pub rising_more : (hs : List Heard) (b : BackendId) (answer : Answer) → IsRising hs → AreBelow b.number hs → IsRising (hs ++ record { b = b; answer = answer } ∷ [])
rising_more [] b answer rising below = (tt, tt)
rising_more (x ∷ hs) b answer rising below = (above_more x.b.number hs b answer rising.0 below.0, rising_more hs b answer rising.1 below.1)

module _ (t : Tracked) (h : Invariant t) (s : SessionId) (b : BackendId) (answer : Answer) (stage : Stage)
    (at : (t.world.machine s.number).point ≡ Waiting stage b) (mailed : t.world.mail s.number b.number ≡ Some answer) where
  abbrev m : Machine
  m = t.world.machine s.number

  abbrev n : Machine
  n = due (heard_more m.session b answer) (LookDue stage)

  abbrev attached : ℕ
  attached = t.world.gate.attached.bits

  abbrev mail : ℕ → Option Answer
  mail = t.world.mail s.number

  abbrev post : ℕ → Option Answer
  post = with_at mail b.number None

  old : Own t.world.tables attached t.history t.world.store m mail (t.orders s.number) (t.done s.number) (live_there t s.number) s.number
  old = (facts_of t h).own s.number

  order : IsInOrder attached m stage
  order = old.in_order stage (ap stage_at at)

  asked_b : asked_in m.point ≡ Some b.number
  asked_b = ap asked_in at

  below_b : AreBelow b.number m.session.heard
  below_b = order.above b.number asked_b

  post_other : (c : ℕ) → c ≢ b.number → post c ≡ mail c
  post_other c other = with_at-other mail b.number None c other

  post_b : (c : ℕ) → c ≡ b.number → post c ≡ None
  post_b c e = ap post e ∙ with_at-same mail b.number None

  told_same : (c : ℕ) → told_by n post c ≡ told_by m mail c
  told_same c = elim (same_or_other c b.number) [
    | inl e ↦ ap (told_by n post) e
        ∙ ap (λ x. mail_or x (heard_from n.session.heard b.number)) (post_b b.number refl)
        ∙ heard_more_at m.session.heard b answer (none_below b.number m.session.heard below_b)
        ∙ sym (ap (told_by m mail) e ∙ ap (λ x. mail_or x (heard_from m.session.heard b.number)) mailed)
    | inr other ↦ ap (λ x. mail_or x (heard_from n.session.heard c)) (post_other c other) ∙ ap (mail_or (mail c)) (heard_more_other m.session.heard b answer c other)
  ]

  told_more : (c : ℕ) → has_told m c ≡ true → has_told n c ≡ true
  told_more c e = elim (same_or_other c b.number) [
    | inl is ↦ ap (has_told n) is ∙ ap is_some (heard_more_at m.session.heard b answer (none_below b.number m.session.heard below_b))
    | inr other ↦ ap is_some (heard_more_other m.session.heard b answer c other) ∙ e
  ]

  taken_order : IsInOrder attached n stage
  taken_order = record {
    rising = rising_more m.session.heard b answer order.rising below_b;
    above = λ c e. absurd (let z : None ≡ Some c = e in cc);
    below = λ c d up here under_it told. told_more c (elim (same_or_other d b.number) [
      | inl is ↦ order.below c d up here under_it (inl (asked_b ∙ ap Some (sym is)))
      | inr other ↦ order.below c d up here under_it (inr (sym (ap is_some (heard_more_other m.session.heard b answer d other)) ∙ elim told [ inl e ↦ absurd (let z : None ≡ Some d = e in cc) | inr e ↦ e ]))
    ]);
    one = λ reads.
        let none : m.session.heard ≡ [] = subst (λ (x : Option ℕ). HasOne x m.session.heard) asked_b (order.one reads) in
        subst (λ (hs : List Heard). HasOne None (hs ++ record { b = b; answer = answer } ∷ [])) (sym none) refl;
  }

  taken_own : Own t.world.tables attached t.history t.world.store n post (t.orders s.number) (t.done s.number) (live_there t s.number) s.number
  taken_own =
      chain_own t.world.tables attached t.history t.world.store m mail post (t.orders s.number) (t.done s.number) (live_there t s.number) s.number (real s) old n stage (ap stage_at at) refl refl refl told_same
      (λ c p sound e. absurd (let z : None ≡ Some answer = sym (old.untold c p e) ∙ ap mail (one_line m stage b c p.request at (old.asked c p sound e)) ∙ mailed in cc))
      (λ c p e. elim (same_or_other c b.number) [ inl is ↦ post_b c is | inr other ↦ post_other c other ∙ old.untold c p e ])
      (λ c other e. absurd (elim (same_or_other c b.number) [
        | inl is ↦ (let z : None ≡ Some other = sym (post_b c is) ∙ e in cc)
        | inr differs ↦ (let line = old.answer c other (sym (post_other c differs) ∙ e) in differs (one_line m stage b c line.0 at line.1))
      ]))
      taken_order
      (λ x best own among more e. absurd (let z : LookDue stage ≡ SplitDue x best own among more = e in cc))
      (λ c cause e. absurd (let z : actions.Gate calls.Look ≡ actions.Detach c cause = e in cc))
      (λ other kept any. absurd kept)

  pub taken_holds : Invariant (moved t s.number n t.world.gate post t.history (t.orders s.number) (t.done s.number))
  taken_holds =
      let f : FactsOf t = facts_of t h in
      moved_holds t s.number n t.world.gate post t.history (t.orders s.number) (t.done s.number) refl taken_own (λ o other. f.own o)
      (silent t.world.tables attached attached t.history t.world.store t.world.machine t.world.mail s.number n post (λ c here. here)
      (stands_silent t.world.tables attached t.history m n mail post
      (λ c here. stand_same t.world.tables attached t.history t.world.store m mail post (t.orders s.number) (t.done s.number) (live_there t s.number) s.number (real s) old n stage (ap stage_at at) refl refl refl told_same c)
      (λ c here. ap (λ x. inserted_in x (told_by m mail c)) (ap stage_at at) ∙ ap (inserted_in (Some stage)) (sym (told_same c))) (inserts_same m n stage (ap stage_at at) refl) (λ e. e))
      f.shared)
      (counted t.world.machine s.number n (below_65 s) t.world.gate t.world.gate (still t.world.gate t.world.machine m.session.gate m.session.gate refl f.counts) f.counts)
      h.alive

pub take_kept : (t : Tracked) (s : SessionId) (b : BackendId) (answer : Answer) → Invariant t → MayHappen t.world (Of s (Taken b answer)) → Invariant (tracked_after t (Of s (Taken b answer)))
unfolding after_at
take_kept t s b answer h may =
    let m : Machine = t.world.machine s.number in
    let w = waits_for m.session m.point b may.0.0 in
    lands t (Of s (Taken b answer)) t.history
    (ap (λ (x : List Entry). fallen (after t.world (Of s (Taken b answer))) x 65)
    (places_none (live_there t s.number) t.world s.number m (Taken b answer) t.history refl refl refl))
    (subst (λ (x : Machine). Invariant (moved t s.number x t.world.gate (with_at (t.world.mail s.number) b.number None) t.history (t.orders s.number) (t.done s.number)))
    (sym (ap (taken m.session b answer) w.1))
    (taken_holds t h s b answer w.0 w.1 may.1))
