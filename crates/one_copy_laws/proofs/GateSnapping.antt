-- A snapshot is entered, and left by who has no transaction.
use Rattle.std.proofs.Common.{◌≡◌, ℕ, ◌+◌, ◌<◌, Bool, true, false, refl, sym, subst, arith, inr}
use Rattle.std.specs.Prelude.{None, if◌then◌else◌}
use Rattle.pool_base.specs.declared.gate_call.View.{View}
use Rattle.pool_base.specs.declared.gate_call.GateCall.TheVariants as calls
use Rattle.pool_base.specs.declared.gate_call.GateAnswer.TheVariants.{Granted, Held, Spent}
use Rattle.snapshot_gate.specs.declared.state.GateState.{GateState}
use Rattle.snapshot_gate.specs.Function.{granted as gate_granted, step, view_of}
use Rattle.session_machine.specs.declared.action.Action.TheVariants as actions
use Rattle.session_machine.specs.declared.work.Work.{Work}
use Rattle.session_machine.specs.declared.machine.GatePhase.{GatePhase}
use Rattle.session_machine.specs.declared.machine.GatePhase.TheVariants as phases
use Rattle.session_machine.specs.declared.machine.Machine.{Machine}
use Rattle.session_machine.specs.declared.machine.Session.{Session}
use Rattle.session_machine.specs.declared.machine.Point.{Point}
use Rattle.session_machine.specs.declared.machine.Point.TheVariants.{EnterDue}
use Rattle.session_machine.specs.Rules.{action_at}
use Rattle.one_copy_model.specs.Deaths.{stage_at}
use Rattle.one_copy_model.specs.Invariant.{FitsPoint}
use Rattle.one_copy_model.proofs.Counts.{Moves}
use Rattle.one_copy_model.specs.Facts.{CountedBy}
use Rattle.std.specs.Prelude.{nat_lt, nat_le, ◌==◌, ◌||◌, ◌^◌}
use Rattle.std.proofs.lemmas.Bool.Decides.{nat_tests}
use Rattle.snapshot_gate.specs.Function.{grant, refuse}

-- what the gate's answer to an EnterSnapshot says
pub record Enters (gate : GateState) (view : View) : Type 0 where
  pub next : (step gate calls.EnterSnapshot).0 ≡ gate_granted gate calls.EnterSnapshot
  pub view_is : view ≡ view_of (gate_granted gate calls.EnterSnapshot)
  pub alone : gate.commits ≡ 0
  pub unquiet : gate.quiet < 2

granted_by : (gate : GateState) (view : View) (a b c : Bool) → nat_lt 0 gate.commits ≡ a → nat_le 2 gate.quiet ≡ b
    → (if a then refuse gate (Held gate.commits) else if b then refuse gate (Held gate.quiet) else if c then refuse gate Spent else grant gate calls.EnterSnapshot).1 ≡ Granted view
    → ((if a then refuse gate (Held gate.commits) else if b then refuse gate (Held gate.quiet) else if c then refuse gate Spent else grant gate calls.EnterSnapshot).0 ≡ gate_granted gate calls.EnterSnapshot)
    × (view ≡ view_of (gate_granted gate calls.EnterSnapshot)) × (gate.commits ≡ 0) × (gate.quiet < 2)
granted_by gate view true b c p q e = absurd (let z : Held gate.commits ≡ Granted view = e in cc)
granted_by gate view false true c p q e = absurd (let z : Held gate.quiet ≡ Granted view = e in cc)
granted_by gate view false false true p q e = absurd (let z : Spent ≡ Granted view = e in cc)
granted_by gate view false false false p q e = (refl, (let z : view_of (gate_granted gate calls.EnterSnapshot) ≡ view = (let w : Granted (view_of (gate_granted gate calls.EnterSnapshot)) ≡ Granted view = e in cc) in sym z), none_in gate.commits p, less gate.quiet q)
  where
    none_in : (k : ℕ) → nat_lt 0 k ≡ false → k ≡ 0
    none_in k e = grind (arith, nat_tests)

    less : (k : ℕ) → nat_le 2 k ≡ false → k < 2
    less k e = grind (arith, nat_tests)

pub enters : (gate : GateState) (view : View) → (step gate calls.EnterSnapshot).1 ≡ Granted view → Enters gate view
enters gate view e =
    let h = granted_by gate view (nat_lt 0 gate.commits) (nat_le 2 gate.quiet) ((gate.snaps + gate.live == 65535) || (gate.done + gate.snaps + gate.live == 2 ^ 63)) refl refl e in
    record { next = h.0; view_is = h.1; alone = h.2; unquiet = h.3 }

spent_by : (gate : GateState) (a b c : Bool)
    → (if a then refuse gate (Held gate.commits) else if b then refuse gate (Held gate.quiet) else if c then refuse gate Spent else grant gate calls.EnterSnapshot).1 ≡ Spent
    → (if a then refuse gate (Held gate.commits) else if b then refuse gate (Held gate.quiet) else if c then refuse gate Spent else grant gate calls.EnterSnapshot).0 ≡ gate
spent_by gate true b c e = refl
spent_by gate false true c e = refl
spent_by gate false false true e = refl
spent_by gate false false false e = absurd (let z : Granted (view_of (gate_granted gate calls.EnterSnapshot)) ≡ Spent = e in cc)

pub spent_stays : (gate : GateState) → (step gate calls.EnterSnapshot).1 ≡ Spent → (step gate calls.EnterSnapshot).0 ≡ gate
spent_stays gate e = spent_by gate (nat_lt 0 gate.commits) (nat_le 2 gate.quiet) ((gate.snaps + gate.live == 65535) || (gate.done + gate.snaps + gate.live == 2 ^ 63)) e

pub enter_moves : (gate : GateState) (machine : ℕ → Machine) → CountedBy gate machine → gate.commits ≡ 0 → gate.quiet < 2 → Moves gate (gate_granted gate calls.EnterSnapshot) phases.Out phases.InSnapshot
enter_moves gate machine h alone unquiet = record {
  snaps = (let z : gate.snaps + 1 + 0 ≡ gate.snaps + 1 = omega arith in z);
  commits = refl;
  live = refl;
  apart = inr alone;
  quiet = λ q. let three : gate.quiet ≡ 3 = q in omega (arith, three, unquiet);
  few = h.few;
}

pub enter_due : (session : Session) (point : Point) → action_at session point ≡ actions.Gate calls.EnterSnapshot → (work : Work) × (point ≡ EnterDue work)
enter_due session (EnterDue work) e = (work, refl)
enter_due session point e = absurd (cc)

pub enter_phase : (point : Point) (phase : GatePhase) (work : Work) → point ≡ EnterDue work → FitsPoint (stage_at point) point phase → phase ≡ phases.Out
enter_phase point phase work is fits = by phase (subst (λ (p : Point). FitsPoint (stage_at p) p phase) is fits)
  where
    by : (phase : GatePhase) → FitsPoint None (EnterDue work) phase → phase ≡ phases.Out
    by phases.Out e = refl
    by phases.InSnapshot e = absurd (cc)
    by (phases.Live changed written) e = absurd (cc)
    by phases.InCommit e = absurd (cc)
