-- What is added to the single run, by what it asks for one order.
use Rattle.std.proofs.Common.{◌≡◌, ◌==◌, ℕ, ℤ, zero, suc, ◌-◌, ◌≤◌, Bool, true, false, List, [], ◌∷◌, length, take, refl, sym, ap, ◌∙◌, subst, inl, inr, arith}
use Rattle.std.specs.Prelude.{◌&&◌, Some}
use Rattle.std.proofs.lemmas.Bool.Decides.{eqb_tells}
use Rattle.pool_base.specs.declared.code.Code.{Code}
use Rattle.session_machine.specs.declared.status.Status.{Status}
use Rattle.session_orders.specs.declared.order.OrderBody.{OrderBody}
use Rattle.one_copy_model.specs.declared.deed.Deed.{Deed}
use Rattle.one_copy_model.specs.declared.deed.Deed.TheVariants.{Falls}
use Rattle.one_copy_model.specs.declared.deed.Entry.{Entry}
use Rattle.one_copy_model.specs.SingleRun.{of_session, deeds_of, deeds_since, is_fall, amended, amended_at}
use Rattle.one_copy_model.specs.Deaths.{recorded}
use Rattle.play_laws.specs.Asked.{IsFor, AreFor}

abbrev entry : ℕ → Deed → Entry
entry s deed = record { session = s; deed = deed }

pub take_none : (xs : List Entry) → take 0 xs ≡ []
take_none [] = refl
take_none (x ∷ xs) = refl

module _ (body : OrderBody) (status : Status) (moment : ℤ) where
  abbrev For : List Deed → Type 0
  For deeds = AreFor body status moment deeds

  -- one of the session, or of another
  put_for : (b : Bool) (deed : Deed) (deeds : List Deed) → (b ≡ true → IsFor body status moment deed) → For deeds → For (of_session b deed deeds)
  put_for true deed deeds is all = (is refl, all)
  put_for false deed deeds is all = all

  rest_for : (b : Bool) (deed : Deed) (deeds : List Deed) → For (of_session b deed deeds) → For deeds
  rest_for true deed deeds all = all.1
  rest_for false deed deeds all = all

  same_for : (b : Bool) (deed : Deed) (deeds more : List Deed) → (For deeds → For more) → For (of_session b deed deeds) → For (of_session b deed more)
  same_for true deed deeds more keeps all = (all.0, keeps all.1)
  same_for false deed deeds more keeps all = keeps all

  module _ (o n : ℕ) where
    -- a history is led to another, which asks no more of session o since it had so many entries than is for the order
    pub record Grows (old new : List Entry) : Type 0 where
      pub longer : length old ≤ length new
      pub keeps : n ≤ length old → For (deeds_since o n old) → For (deeds_since o n new)

    pub itself : (h : List Entry) → Grows h h
    itself h = record { longer = (let z : length h ≤ length h = omega arith in z); keeps = λ most all. all }

    pub behind : (a b c : List Entry) → Grows a b → Grows b c → Grows a c
    behind a b c first second = record {
      longer = (let x = first.longer in let y = second.longer in let z : length a ≤ length c = omega (arith, x, y) in z);
      keeps = λ most all. second.keeps (let x = first.longer in let z : n ≤ length b = omega (arith, most, x) in z) (first.keeps most all);
    }

    one_more : (s : ℕ) (deed : Deed) (h : List Entry) → (s ≡ o → IsFor body status moment deed) → Grows h (entry s deed ∷ h)
    one_more s deed h is = record {
      longer = (let z : length h ≤ suc (length h) = omega arith in z);
      keeps = λ most all.
          let more : suc (length h) - n ≡ suc (length h - n) = omega (arith, most) in
          let told : (s == o) ≡ true → s ≡ o = λ e. elim (eqb_tells s o) [ inl p ↦ p.1 | inr p ↦ absurd (let z : true ≡ false = sym e ∙ p.0 in cc) ] in
          subst (λ (k : ℕ). For (deeds_of o (take k (entry s deed ∷ h)))) (sym more)
          (put_for (s == o) deed (deeds_of o (take (length h - n) h)) (λ e. is (told e)) all);
    }

    abbrev pub Fits : ℕ → List Deed → Type 0
    Fits s deeds = s ≡ o → For deeds

    pub more : (s : ℕ) (deeds : List Deed) (h : List Entry) → Fits s deeds → Grows h (recorded s deeds h)
    more s [] h fits = itself h
    more s (deed ∷ deeds) h fits = behind h (entry s deed ∷ h) (recorded s deeds (entry s deed ∷ h)) (one_more s deed h (λ e. (fits e).0)) (more s deeds (entry s deed ∷ h) (λ e. (fits e).1))

    amended_length_if : (b : Bool) (s : ℕ) (code : Code) (e : Entry) (es rest : List Entry) → length rest ≡ length es → length (amended_at b s code e es rest) ≡ suc (length es)
    amended_length_if true s code e es rest same = refl
    amended_length_if false s code e es rest same = ap suc same

    amended_length : (s : ℕ) (code : Code) (h : List Entry) → length (amended s code h) ≡ length h
    amended_length s code [] = refl
    amended_length s code (e ∷ es) = amended_length_if ((e.session == s) && is_fall e.deed) s code e es (amended s code es) (amended_length s code es)

    amended_if : (b : Bool) (s : ℕ) (code : Code) (e : Entry) (es rest : List Entry) (k : ℕ) → (For (deeds_of o (take k es)) → For (deeds_of o (take k rest)))
        → For (deeds_of o (take (suc k) (e ∷ es))) → For (deeds_of o (take (suc k) (amended_at b s code e es rest)))
    amended_if true s code e es rest k keeps all = put_for (s == o) (Falls (Some code)) (deeds_of o (take k es)) (λ is. tt) (rest_for (e.session == o) e.deed (deeds_of o (take k es)) all)
    amended_if false s code e es rest k keeps all = same_for (e.session == o) e.deed (deeds_of o (take k es)) (deeds_of o (take k rest)) keeps all

    amended_keeps : (s : ℕ) (code : Code) (k : ℕ) (h : List Entry) → For (deeds_of o (take k h)) → For (deeds_of o (take k (amended s code h)))
    amended_keeps s code k [] all = all
    amended_keeps s code zero (e ∷ es) all = subst (λ (xs : List Entry). For (deeds_of o xs)) (sym (take_none (amended s code (e ∷ es)))) tt
    amended_keeps s code (suc k) (e ∷ es) all = amended_if ((e.session == s) && is_fall e.deed) s code e es (amended s code es) k (amended_keeps s code k es) all

    pub amends : (s : ℕ) (code : Code) (h : List Entry) → Grows h (amended s code h)
    amends s code h = record {
      longer = (let same = amended_length s code h in let z : length h ≤ length (amended s code h) = omega (arith, same) in z);
      keeps = λ most all. subst (λ (k : ℕ). For (deeds_of o (take (k - n) (amended s code h)))) (sym (amended_length s code h)) (amended_keeps s code (length h - n) h all);
    }
