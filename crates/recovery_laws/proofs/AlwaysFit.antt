-- Every list of steps that is played is fit.
use Rattle.std.proofs.Common.{◌≡◌, ◌<◌, ℕ, Bool, true, false, List, [], ◌∷◌, ◌++◌, refl, sym, ap, subst, ◌∙◌}
use Rattle.std.specs.Prelude.{Option, Some, None}
use Rattle.pool_base.specs.declared.backend_set.BackendSet.{BackendSet}
use Rattle.schema.specs.declared.catalogue.TableDef.{TableDef}
use Rattle.schema.specs.Allowed.{AreAllowed}
use Rattle.backend_trait.specs.declared.request.Request.{Request}
use Rattle.backend_trait.specs.declared.answer.Answer.{Answer}
use Rattle.session_machine.specs.declared.machine.ReadPolicy.{ReadPolicy}
use Rattle.snapshot_gate.specs.Runs.{AreApart}
use Rattle.online_recovery.specs.declared.layout.Layout.{Layout}
use Rattle.online_recovery.specs.Rules.{after as recovery_after}
use Rattle.online_recovery.specs.Runs.{Phase}
use Rattle.one_copy_model.specs.declared.event.Event.{Event}
use Rattle.one_copy_model.proofs.Places.{each_at}
use Rattle.recovery_laws.specs.declared.step.Step.{Step}
use Rattle.recovery_laws.specs.declared.step.Step.TheVariants.{Serve, Recover, Answer as Answers}
use Rattle.recovery_laws.specs.Pool.{Pool, first_pool, world_of, answered, after, MayStep, IsPlayed, pool_all}
use Rattle.recovery_laws.specs.Phases.{phases_after, all_outside, MeetsAt, AreMet}
use Rattle.recovery_laws.proofs.Apart.{together_never}
use Rattle.recovery_laws.proofs.Meeting.{always_met}
use Rattle.recovery_laws.specs.Steps.{AreFit}
use Rattle.recovery_laws.proofs.Masks.{first_masked, step_masked}
use Rattle.recovery_laws.proofs.Stepping.{Holds, step_holds, first_holds, step_tables}
use Rattle.recovery_laws.proofs.Owing.{IsUp, stays_up}
use Rattle.recovery_laws.proofs.Leading.{seen_by}
use Rattle.recovery_laws.proofs.Scenes.{course_of}
use Rattle.recovery_laws.proofs.Following.{IsAlone, scene_of, StandsIn, AllStand, is_within, without_facts, with_facts, within_free, within_busy, served_past, past_stands}
use Rattle.recovery_laws.proofs.Fitness.{AllUp, Copied, step_fit}
use Rattle.recovery_laws.proofs.Going.{recovered_stand}
use Rattle.recovery_laws.proofs.Answering.{answered_stand}

-- A step of a session.

served_stand : (p : Pool) (phases : ℕ → Phase) (h : Copied p phases) (event : Event) → MayStep p (Serve event) → AllStand (after p (Serve event))
served_stand p phases h event may s = by (is_within (p.recovery s).due) refl
  where
    by : (v : Bool) → is_within (p.recovery s).due ≡ v → StandsIn (after p (Serve event)) s (p.told s) (p.recovery s).held (p.recovery s).due
    by false off =
        without_facts (IsAlone (world_of (after p (Serve event))) (p.recovery s).held.target.number)
        (seen_by (p.transaction s) (scene_of (after p (Serve event)) (p.recovery s).held.target.number) (course_of (p.recovery s).held)) (p.told s) (course_of (p.recovery s).held) (p.recovery s).due off
    by true there =
        let alone : IsAlone (world_of p) (p.recovery s).held.target.number =
        with_facts (IsAlone (world_of p) (p.recovery s).held.target.number) (seen_by (p.transaction s) (scene_of p (p.recovery s).held.target.number) (course_of (p.recovery s).held)) (p.told s)
        (course_of (p.recovery s).held) (p.recovery s).due there (h.stand s) in
        past_stands p phases h.holds h.masked (Serve event) may s (p.recovery s).held (within_busy (p.recovery s).due (phases s) there (h.holds.fits s).fits) (h.holds.fits s).agrees.1 (p.told s)
        (p.recovery s).due
        (served_past p phases h.holds (p.recovery s).held.target.number (within_free p.gate.attached.bits (p.recovery s).held.target (p.recovery s).due there (h.holds.free s)) alone event may s)
        (h.stand s)

-- Every step.

step_stands : (p : Pool) (phases : ℕ → Phase) → Copied p phases → AreApart p.gate → (e : Step) → MayStep p e → MeetsAt phases e → Holds (after p e) (phases_after phases e) → AllStand (after p e)
step_stands p phases h apart (Serve event) may meets holds = served_stand p phases h event may
step_stands p phases h apart (Recover s event) may meets holds = recovered_stand p phases h s (phases_after phases (Recover s event)) event (may, meets, holds)
step_stands p phases h apart (Answers s b answer) may meets holds = answered_stand p phases h apart s b answer may

answered_ups : (p : Pool) (s b : ℕ) (answer : Answer) (request : Option Request) → AllUp p → (o : ℕ) → IsUp (world_of p).tables ((answered p s b answer request).recovery o)
answered_ups p s b answer None h = h
answered_ups p s b answer (Some request) h = h

ups_in : (p : Pool) (phases : ℕ → Phase) → Holds p phases → (e : Step) → AllUp p → (o : ℕ) → IsUp (world_of p).tables ((after p e).recovery o)
ups_in p phases h (Serve event) ups = ups
ups_in p phases h (Recover s event) ups =
    each_at (λ o r. IsUp (world_of p).tables r) p.recovery s.number (recovery_after (p.recovery s.number) event)
    (stays_up (world_of p).tables (p.recovery s.number) (phases s.number) event (h.fits s.number).agrees (h.fits s.number).fits (ups s.number)) (λ o other. ups o)
ups_in p phases h (Answers s b answer) ups = answered_ups p s.number b.number answer (p.asked s.number b.number) ups

step_copied : (p : Pool) (phases : ℕ → Phase) → Copied p phases → AreApart p.gate → (e : Step) → MayStep p e → MeetsAt phases e → Copied (after p e) (phases_after phases e)
step_copied p phases h apart e may meets =
    let holds : Holds (after p e) (phases_after phases e) = step_holds p phases h.holds e may meets (step_fit p phases h e may) in
    record {
      holds = holds;
      masked = step_masked p phases h.holds e may h.masked;
      ups = λ o. subst (λ (ts : List TableDef). IsUp ts ((after p e).recovery o)) (sym (step_tables p e)) (ups_in p phases h.holds e h.ups o);
      stand = step_stands p phases h apart e may meets holds;
    }

first_copied : (layout : Layout) (policy : ReadPolicy) (attached : BackendSet) → AreAllowed layout.tables → attached.bits < 256 → Copied (first_pool layout policy attached) all_outside
first_copied layout policy attached allowed few = record {
  holds = first_holds layout policy attached allowed few;
  masked = first_masked layout policy attached;
  ups = λ s. record { laid = refl; none = λ opened. (refl, refl); has = tt };
  stand = λ s. tt;
}

-- Lists of steps: snapshots and commits are apart behind each of their beginnings.

more_played : (p : Pool) (es : List Step) (e : Step) → IsPlayed p es → MayStep (pool_all p es) e → IsPlayed p (es ++ e ∷ [])
more_played p [] e played may = (may, tt)
more_played p (x ∷ xs) e played may = (played.0, more_played (after p x) xs e played.1 may)

more_all : (p : Pool) (es : List Step) (e : Step) → pool_all p (es ++ e ∷ []) ≡ after (pool_all p es) e
more_all p [] e = refl
more_all p (x ∷ xs) e = more_all (after p x) xs e

module _ (layout : Layout) (policy : ReadPolicy) (attached : BackendSet) where
  abbrev start : Pool
  start = first_pool layout policy attached

  fit_behind : (before : List Step) (p : Pool) (phases : ℕ → Phase) (es : List Step) → IsPlayed start before → pool_all start before ≡ p → IsPlayed p es → AreMet phases es → Copied p phases → AreFit p es
  fit_behind before p phases [] first is played met h = tt
  fit_behind before p phases (e ∷ es) first is played met h =
      let apart : AreApart p.gate = subst (λ (q : Pool). AreApart q.gate) is (together_never layout policy attached before first) in (
        step_fit p phases h e played.0,
        fit_behind (before ++ e ∷ []) (after p e) (phases_after phases e) es
            (more_played start before e first (subst (λ (q : Pool). MayStep q e) (sym is) played.0)) (more_all start before e ∙ ap (λ (q : Pool). after q e) is)
            played.1 met.1 (step_copied p phases h apart e played.0 met.0),
      )

pub always_fit : (layout : Layout) (policy : ReadPolicy) (attached : BackendSet) (es : List Step) → AreAllowed layout.tables → attached.bits < 256
    → IsPlayed (first_pool layout policy attached) es → AreFit (first_pool layout policy attached) es
always_fit layout policy attached es allowed few played =
    fit_behind layout policy attached [] (first_pool layout policy attached) all_outside es tt refl played (always_met layout policy attached es played) (first_copied layout policy attached allowed few)
