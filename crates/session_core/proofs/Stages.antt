-- The stages of a statement over the backends: begun, run, ended.
use Rattle.std.proofs.Common.{◌≡◌, ◌≢◌, ◌⊎◌, ℕ, zero, suc, ◌<◌, ◌≤◌, Bool, true, false, ◌&&◌, nat_lt, if◌then◌else◌, List, [], ◌∷◌, ◌++◌, length, map, refl, sym, ap, ◌∙◌, subst, inl, inr, arith}
use Rattle.std.specs.Prelude.{ℤ, Option, Some, None, Ok, Err, slice_get}
use Rattle.std.proofs.lemmas.List.{length-map}
use Rattle.pool_base.specs.Sets.{has}
use Rattle.schema.specs.declared.catalogue.TableDef.{TableDef}
use Rattle.catalogue.specs.declared.checked.Checked.{Checked}
use Rattle.catalogue.specs.declared.checked.CheckedBody.{CheckedBody}
use Rattle.catalogue.specs.declared.checked.CheckedBody.TheVariants as body
use Rattle.classifier.specs.declared.class.Class.TheVariants as class
use Rattle.classifier.specs.Classes.{has_serial, class_of, lock_of}
use Rattle.sql_eval.specs.declared.effect.ReadEffect.{ReadEffect}
use Rattle.sql_eval.specs.Walks.{Coded, made}
use Rattle.sql_eval.specs.Reads.{alone, read_in}
use Rattle.sql_eval.specs.Effects.{Reads, given_by}
use Rattle.backend_trait.specs.declared.request.Request.{Request}
use Rattle.backend_trait.specs.declared.request.Request.TheVariants as requests
use Rattle.backend_trait.specs.declared.answer.Answer.{Answer}
use Rattle.backend_trait.specs.Keys.{Place}
use Rattle.backend_trait.specs.Rows.{Rows, Changes, no_rows, laid_over}
use Rattle.backend_trait.specs.Effect.{Given, Fails, Gives, effect_of, given_as, number_from, table_in}
use Rattle.backend_trait.specs.Runnable.{IsRunnable, is_of_run}
use Rattle.backend_trait.specs.Alone.{given_on, IsEffect, rows_left}
use Rattle.backend_trait.proofs.RowLaws.{laid_over-none}
use Rattle.backend_trait.specs.Store.{Store, prepared, Transaction, Absent, Alive, Dead, WhereLive, MayRunIn, IsLocked, MayPost, begun, given_to, is_refusal}
use Rattle.write_path.specs.declared.chain.Chain.{Chain}
use Rattle.write_path.specs.declared.slots.Taken.{Taken}
use Rattle.write_path.specs.declared.kind.ChainKind.{ChainKind}
use Rattle.write_path.specs.declared.kind.ChainKind.TheVariants as kinds
use Rattle.write_path.specs.Slots.{slot_at, answer_in, is_taken, has_answer, is_refusal as is_refused, HasRefused}
use Rattle.write_path.specs.Chains.{answers_among, answer_of, has_refused, kind_of, is_waited_for, HaveAllAnswered, IsStopped}
use Rattle.session_core.specs.declared.ask.Step.{Step}
use Rattle.session_core.specs.declared.ask.Step.TheVariants as steps
use Rattle.session_core.specs.Steps.{request_of, last_step, reach_of_class, reach_of}
use Rattle.session_core.specs.Standing.{IsAlone, Stands, IsAsked}
use Rattle.session_core.specs.Chains.{AreFirst, MayAllPost, WasAsked, WereAsked}
use Rattle.session_core.specs.Statements.{IsReady, AreReady, primary_tables, primary_rows}
use Rattle.session_core.proofs.Going.{within, there}
use Rattle.session_core.proofs.Transitions.{begins, runs, ran_to, commits, rolls_back, rests, stands_ready, no_refusal, left_by}

-- every attached backend has an answer
closed_answer : {A : Type 0} (chain : Chain A) (attached b : ℕ) → has attached b ≡ true → is_waited_for chain attached b ≡ false → (a : A) × (answer_of chain b ≡ Some a)
closed_answer {A = A} chain attached b is closed = go (has attached b) is (slot_at chain.slots.items b) refl closed
  where
    go : (h : Bool) → h ≡ true → (o : Option (Taken A)) → slot_at chain.slots.items b ≡ o → (if h then (if is_taken o then false else true) else false) ≡ false → (a : A) × (answer_of chain b ≡ Some a)
    go true e None o c = absurd (cc)
    go true e (Some taken) o c = (taken.answer, ap answer_in o)
    go false e o p c = absurd (cc)

pub all_have : {A : Type 0} (chain : Chain A) (attached count : ℕ) → AreFirst attached count → count ≤ 8 → HaveAllAnswered chain attached → (b : ℕ) → b < count → (a : A) × (answer_of chain b ≡ Some a)
all_have chain attached count first few all b below = closed_answer chain attached b ((first b (omega arith)).1 below) (all b (omega arith))

-- a chain of all kinds ends where all have answered
pub not_stopped : {A : Type 0} (chain : Chain A) (attached : ℕ) → kind_of chain ≡ kinds.All → HaveAllAnswered chain attached ⊎ IsStopped chain attached → HaveAllAnswered chain attached
not_stopped chain attached kind (inl all) = all
not_stopped chain attached kind (inr stopped) = absurd (let e : kinds.All ≡ kinds.StopAtRefusal = sym kind ∙ stopped.0 in cc)

refused_has : {A : Type 0} (chain : Chain A) (b : ℕ) → has_refused chain b ≡ true → answer_of chain b ≡ None → ⊥
refused_has {A = A} chain b refused none = go (slot_at chain.slots.items b) refused none
  where
    go : (o : Option (Taken A)) → is_refused o ≡ true → answer_in o ≡ None → ⊥
    go None r n = cc
    go (Some taken) r n = cc

module _ (s : ℕ) (tables : List TableDef) (rows : Rows) where
  abbrev pub AllStand : Transaction → List Store → Type 0
  AllStand x stores = (b : ℕ) (st : Store) → slice_get stores b ≡ Some st → Stands s tables rows x st

  -- stores at rest may be asked for a snapshot
  pub may_begin : (stores : List Store) → AreReady tables rows stores → MayAllPost s requests.TakeSnapshot stores
  may_begin stores ready b st is = let r = stands_ready s tables rows st (ready b st is) in (r.alone, r.own)

  -- a statement of the tables that takes no lock may run
  runs_in : (c : Checked) (st : Store) → st.tables ≡ tables → IsRunnable tables c → lock_of c.body ≡ None → MayRunIn st c (begun rows)
  runs_in c st is runnable none = (
    subst (λ (ts : List TableDef). IsRunnable ts c) (sym is) runnable,
    subst (λ (o : Option ℕ). IsLocked (begun rows).held o) (sym none) tt,
  )

  pub may_run : (c : Checked) (stores : List Store) → IsRunnable tables c → lock_of c.body ≡ None → AllStand (Alive (begun rows)) stores → MayAllPost s (requests.Run c) stores
  may_run c stores runnable none stand b st is =
      let r = stand b st is in
      (r.alone, subst (λ (x : Transaction). WhereLive x (MayRunIn st c)) (sym r.own) (runs_in c st r.tables_are runnable none))

  asked_there : (request : Request) (o : Option Answer) (refused : Bool) (was st : Store) (a : Answer) → o ≡ Some a → WasAsked s request o refused was st → IsAsked was s request a st × (refused ≡ is_refusal a)
  asked_there request o refused was st a is asked = subst (λ (x : Option Answer). WasAsked s request x refused was st) is asked

  pub have_begun : (answers : ℕ → Option Answer) (refusals : ℕ → Bool) (olds news : List Store) → AreReady tables rows olds → WereAsked s requests.TakeSnapshot answers refusals olds news
      → ((b : ℕ) → b < length news → (a : Answer) × (answers b ≡ Some a)) → AllStand (Alive (begun rows)) news
  have_begun answers refusals olds news ready were all b st is =
      let (was, was_there, was_asked) = were b st is in
      let (a, a_is) = all b (within news b st is) in
      let asked = asked_there requests.TakeSnapshot (answers b) (refusals b) was st a a_is was_asked in
      begins s tables rows was st a (stands_ready s tables rows was (ready b was was_there)) asked.0

  -- where a statement has run: with its effect, in its form, or not at all
  abbrev pub Ran : Checked → (ℕ → Option Answer) → (ℕ → Bool) → ℕ → Store → Type 0
  Ran c answers refusals b st =
      ((a : Answer) × (answers b ≡ Some a) × (refusals b ≡ is_refusal a) × IsEffect (given_on tables rows c) a × (is_of_run c a ≡ true) × Stands s tables rows (ran_to (is_refusal a) (given_on tables rows c) rows) st)
      ⊎ ((answers b ≡ None) × Stands s tables rows (Alive (begun rows)) st)

  abbrev pub AllRan : Checked → (ℕ → Option Answer) → (ℕ → Bool) → List Store → Type 0
  AllRan c answers refusals stores = (b : ℕ) (st : Store) → slice_get stores b ≡ Some st → Ran c answers refusals b st

  pub have_run : (c : Checked) (answers : ℕ → Option Answer) (refusals : ℕ → Bool) (olds news : List Store) → lock_of c.body ≡ None → AllStand (Alive (begun rows)) olds → WereAsked s (requests.Run c) answers refusals olds news → AllRan c answers refusals news
  have_run c answers refusals olds news none stand were b st is =
      let (was, was_there, was_asked) = were b st is in go (answers b) refl was (stand b was was_there) was_asked
    where
      go : (o : Option Answer) → answers b ≡ o → (was : Store) → Stands s tables rows (Alive (begun rows)) was → WasAsked s (requests.Run c) o (refusals b) was st → Ran c answers refusals b st
      go None e was stands asked = inr (e, subst (λ (x : Store). Stands s tables rows (Alive (begun rows)) x) (sym asked) stands)
      go (Some a) e was stands asked = let r = runs s tables rows was st c a none stands asked.0 in inl (a, e, asked.1, r.0, r.1, r.2)

  -- the kept answer is the effect, in its form
  pub kept_effect : (c : Checked) (answers : ℕ → Option Answer) (refusals : ℕ → Bool) (stores : List Store) → AllRan c answers refusals stores → (b : ℕ) → b < length stores → (answer : Answer) → answers b ≡ Some answer
      → IsEffect (given_on tables rows c) answer × (is_of_run c answer ≡ true)
  kept_effect c answers refusals stores ran b below answer is = let (st, st_is) = there stores b below in go (ran b st st_is)
    where
      go : {st : Store} → Ran c answers refusals b st → IsEffect (given_on tables rows c) answer × (is_of_run c answer ≡ true)
      go (inl (a, a_is, r, effect, form, stands)) =
          let same : Some a ≡ Some answer = sym a_is ∙ is in
          let e : a ≡ answer = cc in
          (subst (λ (x : Answer). IsEffect (given_on tables rows c) x) e effect, subst (λ (x : Answer). is_of_run c x ≡ true) e form)
      go (inr (none, stands)) = absurd (let e : None ≡ Some answer = sym none ∙ is in cc)

  step_of_refusal : (answer : Answer) → is_refusal answer ≡ true → last_step answer ≡ steps.Rollback
  step_of_refusal answer is = ap (λ b. if b then steps.Rollback else steps.Commit) is

  step_of_result : (answer : Answer) → is_refusal answer ≡ false → last_step answer ≡ steps.Commit
  step_of_result answer is = ap (λ b. if b then steps.Rollback else steps.Commit) is

  -- the session's transaction, whatever it is, and where it is live
  stands_some : (c : Checked) (answers : ℕ → Option Answer) (refusals : ℕ → Bool) (b : ℕ) (st : Store) → Ran c answers refusals b st → (x : Transaction) × Stands s tables rows x st
  stands_some c answers refusals b st (inl (a, a_is, r, effect, form, stands)) = (_, stands)
  stands_some c answers refusals b st (inr (none, stands)) = (_, stands)

  live_to : (g : Given) (refused : Bool) → refused ≡ false → WhereLive (ran_to refused g rows) (λ t. Unit {0})
  live_to g true e = absurd (cc)
  live_to g false e = tt

  module _ (c : Checked) (answer : Answer) where
    -- a result of the statement is no refusal, of whichever backend
    result_is : (result a : Answer) (changes : Changes) (places : List Place) → given_on tables rows c ≡ Gives result changes places → IsEffect (given_on tables rows c) a → is_refusal a ≡ false
    result_is result a changes places is effect =
        ap is_refusal (subst (λ (g : Given). IsEffect g a) is effect) ∙ no_refusal tables rows c result changes places is

    refusal_is : (code : List ℕ) (a : Answer) → given_on tables rows c ≡ Fails code → IsEffect (given_on tables rows c) a → is_refusal a ≡ true
    refusal_is code a is effect = let (refusal, a_is, bytes) = subst (λ (g : Given). IsEffect g a) is effect in ap is_refusal a_is

    pub may_end : (answers : ℕ → Option Answer) (refusals : ℕ → Bool) (stores : List Store) → AllRan c answers refusals stores → IsEffect (given_on tables rows c) answer → MayAllPost s (request_of (last_step answer)) stores
    may_end answers refusals stores ran effect = go (given_on tables rows c) refl
      where
        go : (g : Given) → given_on tables rows c ≡ g → MayAllPost s (request_of (last_step answer)) stores
        go (Fails code) is = λ b st st_is.
            let (x, stands) = stands_some c answers refusals b st (ran b st st_is) in
            (stands.alone, subst (λ (step : Step). MayPost st s (request_of step)) (sym (step_of_refusal answer (refusal_is code answer is effect))) tt)
        go (Gives result changes places) is = λ b st st_is.
            let live : IsAlone s st × WhereLive (st.transaction s) (λ t. Unit {0}) = elim (ran b st st_is) [
              | inl r ↦ (r.5.alone, subst (λ (x : Transaction). WhereLive x (λ t. Unit {0})) (sym r.5.own) (live_to (given_on tables rows c) (is_refusal r.0) (result_is result r.0 changes places is r.3)))
              | inr r ↦ (r.1.alone, subst (λ (x : Transaction). WhereLive x (λ t. Unit {0})) (sym r.1.own) tt)
            ] in
            (live.0, subst (λ (step : Step). MayPost st s (request_of step)) (sym (step_of_result answer (result_is result answer changes places is effect))) live.1)

    -- where the statement has a result, no backend stops the chain
    all_ran : (chain : Chain Answer) (attached count : ℕ) (stores : List Store) → AreFirst attached count → count ≤ 8 → count ≤ length stores → AllRan c (answer_of chain) (has_refused chain) stores
        → (result : Answer) (changes : Changes) (places : List Place) → given_on tables rows c ≡ Gives result changes places → HaveAllAnswered chain attached ⊎ IsStopped chain attached → HaveAllAnswered chain attached
    all_ran chain attached count stores first few len ran result changes places is (inl all) = all
    all_ran chain attached count stores first few len ran result changes places is (inr (kind, (b, lowest, refused))) =
        let below : b < length stores = omega (arith, (first b lowest.0).0 lowest.1) in
        let (st, st_is) = there stores b below in
        absurd (elim (ran b st st_is) [
          | inl r ↦ let e : true ≡ false = sym refused ∙ r.2 ∙ result_is result r.0 changes places is r.3 in cc
          | inr r ↦ refused_has chain b refused r.0
        ])

    -- each store is at rest again, with the rows that the statement leaves
    pub ended : (chain : Chain Answer) (attached count : ℕ) (answers : ℕ → Option Answer) (refusals : ℕ → Bool) (olds news : List Store) → AreFirst attached count → count ≤ 8 → count ≤ length olds
        → (count ≡ length olds) ⊎ (rows_left (given_on tables rows c) rows ≡ rows) → AllRan c (answer_of chain) (has_refused chain) olds → HaveAllAnswered chain attached ⊎ IsStopped chain attached → IsEffect (given_on tables rows c) answer
        → WereAsked s (request_of (last_step answer)) answers refusals olds news → ((b : ℕ) → b < length news → (a : Answer) × (answers b ≡ Some a)) → AreReady tables (rows_left (given_on tables rows c) rows) news
    ended chain attached count answers refusals olds news first few len whole ran end effect were all b st st_is =
        let (was, was_there, was_asked) = were b st st_is in
        let (a, a_is) = all b (within news b st st_is) in
        let asked = (asked_there (request_of (last_step answer)) (answers b) (refusals b) was st a a_is was_asked).0 in
        go (given_on tables rows c) refl was was_there a asked
      where
        go : (g : Given) → given_on tables rows c ≡ g → (was : Store) → slice_get olds b ≡ Some was → (a : Answer) → IsAsked was s (request_of (last_step answer)) a st → IsReady tables (rows_left (given_on tables rows c) rows) st
        go (Fails code) is was was_there a asked =
            let (x, stands) = stands_some c (answer_of chain) (has_refused chain) b was (ran b was was_there) in
            let asked' = subst (λ (step : Step). IsAsked was s (request_of step) a st) (step_of_refusal answer (refusal_is code answer is effect)) asked in
            subst (λ (g : Given). IsReady tables (rows_left g rows) st) (sym is) (rests s tables rows st (rolls_back s tables rows x was st a stands asked'))
        go (Gives result changes places) is was was_there a asked =
            let asked' = subst (λ (step : Step). IsAsked was s (request_of step) a st) (step_of_result answer (result_is result answer changes places is effect)) asked in
            let all_there = all_have chain attached count first few (all_ran chain attached count olds first few len ran result changes places is end) in
            elim (ran b was was_there) [
              | inl r ↦
                  let alive = subst (λ (refused : Bool). Stands s tables rows (ran_to refused (given_on tables rows c) rows) was) (result_is result r.0 changes places is r.3) r.5 in
                  subst (λ (left : Rows). IsReady tables left st) (left_by (given_on tables rows c) rows result changes places is)
                  (rests s tables _ st (commits s tables rows (given_to (given_on tables rows c) (begun rows)) was st a alive asked'))
              | inr r ↦ elim whole [
                | inl every ↦
                    let own = all_there b (omega (arith, every, within olds b was was_there)) in
                    absurd (let e : None ≡ Some own.0 = sym r.0 ∙ own.1 in cc)
                | inr same ↦
                    subst (λ (left : Rows). IsReady tables left st) (laid_over-none rows ∙ sym same) (rests s tables _ st (commits s tables rows (begun rows) was st a r.1 asked'))
              ]
            ]

module _ (s : ℕ) (tables : List TableDef) (rows : Rows) (c : Checked) (attached count : ℕ) (first second : Chain Answer) (olds begun_ones news : List Store) where
  -- after the run
  pub ran_all : AreFirst attached count → count ≤ 8 → length begun_ones ≡ count → lock_of c.body ≡ None → AreReady tables rows olds
      → WereAsked s requests.TakeSnapshot (answer_of first) (has_refused first) olds begun_ones → kind_of first ≡ kinds.All → HaveAllAnswered first attached ⊎ IsStopped first attached
      → WereAsked s (requests.Run c) (answer_of second) (has_refused second) begun_ones news → AllRan s tables rows c (answer_of second) (has_refused second) news
  ran_all firsts few len none ready asked kind end ran =
      have_run s tables rows c (answer_of second) (has_refused second) begun_ones news none
      (have_begun s tables rows (answer_of first) (has_refused first) olds begun_ones ready asked (λ b below. all_have first attached count firsts few (not_stopped first attached kind end) b (omega (arith, below, len))))
      ran

-- the kept answer is the effect, in its form
pub effect_kept : (s : ℕ) (tables : List TableDef) (rows : Rows) (c : Checked) (attached count : ℕ) (chain : Chain Answer) (stores : List Store) (answer : Answer) → AreFirst attached count → count ≤ length stores
    → AllRan s tables rows c (answer_of chain) (has_refused chain) stores → (b : ℕ) × (b < 8) × (has attached b ≡ true) × (answer_of chain b ≡ Some answer) → IsEffect (given_on tables rows c) answer × (is_of_run c answer ≡ true)
effect_kept s tables rows c attached count chain stores answer first len ran (b, below, there_b, is) =
    kept_effect s tables rows c (answer_of chain) (has_refused chain) stores ran b (omega (arith, (first b below).0 there_b, len)) answer is

-- a read leaves the rows
read_leaves : (table : Option ℕ) (given : Coded ReadEffect) (rows : Rows) → rows_left (given_as table (made Reads given)) rows ≡ rows
read_leaves table (Ok read) rows = laid_over-none rows
read_leaves table (Err code) rows = refl

insert_reaches : (t : Bool) (count : ℕ) → reach_of_class (if t then class.SerialInsert else class.Write) count ≡ count
insert_reaches true count = refl
insert_reaches false count = refl

reaches_at : (tables : List TableDef) (table : Option ℕ) (b : CheckedBody) (rows : Rows) (next : ℤ) (count reached : ℕ) → reached ≡ reach_of_class (class_of b) count
    → (reached ≡ count) ⊎ (rows_left (given_as table (given_by alone tables b rows next)) rows ≡ rows)
reaches_at tables table (body.Read read) rows next count reached is = inr (read_leaves table (read_in alone rows read) rows)
reaches_at tables table (body.Insert insert) rows next count reached is = inl (is ∙ insert_reaches (has_serial insert.rows) count)
reaches_at tables table (body.Change change) rows next count reached is = inl is
reaches_at tables table (body.Remove remove) rows next count reached is = inl is

-- every backend is asked, or the statement changes no rows
pub reaches : (tables : List TableDef) (c : Checked) (rows : Rows) (count reached : ℕ) → reached ≡ reach_of c count → (reached ≡ count) ⊎ (rows_left (given_on tables rows c) rows ≡ rows)
unfolding effect_of
reaches tables c rows count reached is = reaches_at tables (table_in c) c.body rows (number_from None) count reached is

-- the primary of stores at rest has their tables
first_tables : (tables : List TableDef) (rows : Rows) (stores : List Store) → 0 < length stores → AreReady tables rows stores → primary_tables stores ≡ tables
first_tables tables rows [] some ready = absurd (omega arith)
first_tables tables rows (st ∷ stores) some ready = (ready 0 st refl).tables_are

-- stores at rest with the same rows have those of the primary
pub at_rest : (tables : List TableDef) (rows : Rows) (stores : List Store) → 0 < length stores → AreReady tables rows stores → AreReady tables (primary_rows stores) stores
at_rest tables rows [] some ready = absurd (omega arith)
at_rest tables rows (st ∷ stores) some ready = subst (λ (r : Rows). AreReady tables r (st ∷ stores)) (sym ((ready 0 st refl).rows_are)) ready

pub ready_push : (tables : List TableDef) (rows : Rows) (stores : List Store) (st : Store) → AreReady tables rows stores → IsReady tables rows st → AreReady tables rows (stores ++ st ∷ [])
ready_push tables rows [] st ready one zero x is = let e : st ≡ x = cc in subst (λ (y : Store). IsReady tables rows y) e one
ready_push tables rows [] st ready one (suc b) x is = absurd (cc)
ready_push tables rows (z ∷ stores) st ready one zero x is = ready zero x is
ready_push tables rows (z ∷ stores) st ready one (suc b) x is = ready_push tables rows stores st (λ k y e. ready (suc k) y e) one b x is

-- a prepared store is at rest, without rows
pub prepared_ready : (tables : List TableDef) (st : Store) → st ≡ prepared tables → IsReady tables no_rows st
prepared_ready tables st is =
    subst (λ (x : Store). IsReady tables no_rows x) (sym is) (record { tables_are = refl; rows_are = refl; no_transaction = λ o. refl; idle = λ o. refl; not_lost = refl })

pub rest_of : {X : Type 0} (v : X → Store) (tables : List TableDef) (xs ys : List X) → ys ≡ xs → 0 < length xs → AreReady tables no_rows (map v xs) → AreReady tables (primary_rows (map v ys)) (map v ys)
rest_of v tables xs ys is some ready =
    let len : length (map v ys) ≡ length xs = length-map ys v ∙ ap length is in
    at_rest tables no_rows (map v ys) (omega (arith, len, some)) (subst (λ l. AreReady tables no_rows (map v l)) (sym is) ready)

-- the primary of backends at rest has their tables
pub tables_of : {X : Type 0} (v : X → Store) (tables : List TableDef) (rows : Rows) (xs : List X) → 0 < length xs → AreReady tables rows (map v xs) → primary_tables (map v xs) ≡ tables
tables_of v tables rows xs some ready = first_tables tables rows (map v xs) (omega (arith, length-map xs v, some)) ready
