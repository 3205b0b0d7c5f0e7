-- Steps one after the other, and walks along lists.
use Rattle.std.proofs.Common.{◌≡◌, ℕ, suc, ◌+◌, ◌<◌, ◌≤◌, get_or, take, drop, length, List, [], ◌∷◌, ◌++◌, refl, ap, sym, ◌∙◌, subst, drop-cons, arith}
use Rattle.std.proofs.lemmas.List.{take_more, take_all, take-append-drop}
use Rattle.std.specs.Prelude.{Option, Some, None, Result, Ok, Err}
use Rattle.typed_sql.specs.declared.fault.CheckFault.{CheckFault}
use Rattle.typed_sql.specs.declared.fault.CheckFault.TheVariants.{Refused, NoMemory}
use Rattle.typed_sql.specs.Steps.{Known, Fault, fault, Answer, Step, Gives, Fails, Behind, Then, Made, Walk, reached, Each, Maybe, Told, Answers}

-- a look-up that found something, and one that did not
pub told_gives : {A : Type 0} (told : Result A Fault) (a : A) (known : Known) → told ≡ Ok a → Told told known (Ok (a, known))
told_gives told a known is = subst (λ t. Told t known (Ok (a, known))) (sym is) refl

pub told_fails : {A : Type 0} (told : Result A Fault) (e : Fault) (known : Known) → told ≡ Err e → Told told known (Err e)
told_fails told e known is = subst (λ t. Told t known (Err e)) (sym is) refl

module _ {A B : Type 0} (step : Step A) (next : A → Step B) (known : Known) where
  -- a step that gives, and what comes behind it
  pub then_goes : (a : A) (mid : Known) (answer : Answer B) → step known (Ok (a, mid)) → next a mid answer → Then step next known answer
  then_goes a mid answer gives goes = (Ok (a, mid), gives, goes)

  -- a step that fails
  pub then_fails : (e : Fault) → step known (Err e) → Then step next known (Err e)
  then_fails e fails = (Err e, fails, refl)

  -- what a function answers behind a step that gives
  pub then_answers : {C : Type 0} (view : C → B) (a : A) (mid new : Known) (result : Result C CheckFault)
      → step known (Ok (a, mid)) → Answers view result new (next a mid) → Answers view result new (Then step next known)
  then_answers view a mid new (Ok c) gives goes = (Ok (a, mid), gives, goes)
  then_answers view a mid new (Err (Refused code name)) gives goes = (Ok (a, mid), gives, goes)
  then_answers view a mid new (Err NoMemory) gives goes = tt

  -- and behind one that fails
  pub then_stops : {C D : Type 0} (view : C → A) (shown : D → B) (e : CheckFault) (mid new : Known)
      → Answers view (Err e) mid (step known) → Answers shown (Err e) new (Then step next known)
  then_stops view shown (Refused code name) mid new fails = (Err (fault code.bytes name), fails, refl)
  then_stops view shown NoMemory mid new fails = tt

module _ {A B : Type 0} (make : A → B) (step : Step A) (known : Known) where
  pub made_gives : (a : A) (mid : Known) → step known (Ok (a, mid)) → Made make step known (Ok (make a, mid))
  made_gives a mid gives = (Ok (a, mid), gives, refl)

  pub made_fails : (e : Fault) → step known (Err e) → Made make step known (Err e)
  made_fails e fails = (Err e, fails, refl)

  pub made_stops : {C D : Type 0} (view : C → A) (shown : D → B) (e : CheckFault) (mid new : Known)
      → Answers view (Err e) mid (step known) → Answers shown (Err e) new (Made make step known)
  made_stops view shown (Refused code name) mid new fails = (Err (fault code.bytes name), fails, refl)
  made_stops view shown NoMemory mid new fails = tt

module _ {S A B : Type 0} (step : S → A → Step B) (next : S → B → S) where
  -- one item more
  pub reached_more : (s : S) (ys : List B) (y : B) → reached next s (ys ++ y ∷ []) ≡ next (reached next s ys) y
  reached_more s [] y = refl
  reached_more s (z ∷ ys) y = reached_more (next s z) ys y

  -- what a walk has come to, and then one step more
  abbrev Goes : S → List A → A → Known → Answer (List B) → Type 0
  Goes s xs x known (Ok went) = (y : B) (new : Known) → step (reached next s went.0) x went.1 (Ok (y, new))
      → Walk step next s (xs ++ x ∷ []) known (Ok (went.0 ++ y ∷ [], new))
  Goes s xs x known (Err e) = Unit {0}

  walk_goes : (s : S) (xs : List A) (x : A) (known : Known) (answer : Answer (List B)) → Walk step next s xs known answer → Goes s xs x known answer
  walk_goes s [] x known answer walked =
      subst (Goes s [] x known) (sym walked) (λ y new goes. (Ok (y, new), goes, (Ok ([], new), refl, refl)))
  walk_goes s (z ∷ zs) x known answer (Err e, fails, is) = subst (Goes s (z ∷ zs) x known) (sym is) tt
  walk_goes s (z ∷ zs) x known answer (Ok (b, k1), gave, (Err e, fails, is)) = subst (Goes s (z ∷ zs) x known) (sym is) tt
  walk_goes s (z ∷ zs) x known answer (Ok (b, k1), gave, (Ok (bs, k2), walked, is)) =
      subst (Goes s (z ∷ zs) x known) (sym is) (λ y new goes.
      (Ok (b, k1), gave, (Ok (bs ++ y ∷ [], new), walk_goes (next s b) zs x k1 (Ok (bs, k2)) walked y new goes, refl)))

  abbrev Stops : S → List A → A → List A → Known → Answer (List B) → Type 0
  Stops s xs x more known (Ok went) = (e : Fault) → step (reached next s went.0) x went.1 (Err e) → Walk step next s (xs ++ x ∷ more) known (Err e)
  Stops s xs x more known (Err e) = Unit {0}

  walk_halts : (s : S) (xs : List A) (x : A) (more : List A) (known : Known) (answer : Answer (List B)) → Walk step next s xs known answer → Stops s xs x more known answer
  walk_halts s [] x more known answer walked = subst (Stops s [] x more known) (sym walked) (λ e fails. (Err e, fails, refl))
  walk_halts s (z ∷ zs) x more known answer (Err e, fails, is) = subst (Stops s (z ∷ zs) x more known) (sym is) tt
  walk_halts s (z ∷ zs) x more known answer (Ok (b, k1), gave, (Err e, fails, is)) = subst (Stops s (z ∷ zs) x more known) (sym is) tt
  walk_halts s (z ∷ zs) x more known answer (Ok (b, k1), gave, (Ok (bs, k2), walked, is)) =
      subst (Stops s (z ∷ zs) x more known) (sym is) (λ e fails.
      (Ok (b, k1), gave, (Err e, walk_halts (next s b) zs x more k1 (Ok (bs, k2)) walked e fails, refl)))

  -- a walk, and then one step more, by how far the walk is along a list
  pub walk_next : (s : S) (xs : List A) (i : ℕ) (x : A) (ys : List B) (y : B) (known mid new : Known) → i < length xs → x ≡ get_or xs i x
      → Walk step next s (take i xs) known (Ok (ys, mid)) → step (reached next s ys) x mid (Ok (y, new))
      → Walk step next s (take (i + 1) xs) known (Ok (ys ++ y ∷ [], new))
  walk_next s xs i x ys y known mid new below is walked goes =
      subst (λ zs. Walk step next s zs known (Ok (ys ++ y ∷ [], new))) (sym (take_more xs i x below))
      (walk_goes s (take i xs) (get_or xs i x) known (Ok (ys, mid)) walked y new
      (subst (λ z. step (reached next s ys) z mid (Ok (y, new))) is goes))

  -- and then a step that fails
  pub walk_ends : (s : S) (xs : List A) (i : ℕ) (x : A) (ys : List B) (known mid : Known) (e : Fault) → i < length xs → x ≡ get_or xs i x
      → Walk step next s (take i xs) known (Ok (ys, mid)) → step (reached next s ys) x mid (Err e)
      → Walk step next s xs known (Err e)
  walk_ends s xs i x ys known mid e below is walked fails =
      subst (λ zs. Walk step next s zs known (Err e)) (ap (λ zs. take i xs ++ zs) (sym (drop-cons xs i x below)) ∙ take-append-drop i xs)
      (walk_halts s (take i xs) (get_or xs i x) (drop (suc i) xs) known (Ok (ys, mid)) walked e
      (subst (λ z. step (reached next s ys) z mid (Err e)) is fails))

  pub walk_stops : {C D : Type 0} (view : C → B) (shown : D → List B) (s : S) (xs : List A) (i : ℕ) (x : A) (ys : List B) (known mid m n : Known) (e : CheckFault)
      → i < length xs → x ≡ get_or xs i x → Walk step next s (take i xs) known (Ok (ys, mid))
      → Answers view (Err e) m (step (reached next s ys) x mid) → Answers shown (Err e) n (Walk step next s xs known)
  walk_stops view shown s xs i x ys known mid m n (Refused code name) below is walked fails =
      walk_ends s xs i x ys known mid (fault code.bytes name) below is walked fails
  walk_stops view shown s xs i x ys known mid m n NoMemory below is walked fails = tt

  -- a walk along the whole list
  pub walk_whole : (s : S) (xs : List A) (i : ℕ) (known : Known) (answer : Answer (List B)) → length xs ≤ i
      → Walk step next s (take i xs) known answer → Walk step next s xs known answer
  walk_whole s xs i known answer all walked = subst (λ zs. Walk step next s zs known answer) (take_all i xs all) walked
