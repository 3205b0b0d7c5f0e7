-- The laws of what a serial insert draws.
use Rattle.std.proofs.Common.{◌≡◌, ◌≢◌, ℕ, Bool, true, List, refl}
use Rattle.std.specs.Prelude.{Option}
use Rattle.schema.specs.declared.catalogue.TableDef.{TableDef}
use Rattle.backend_trait.specs.declared.answer.Answer.{Answer}
use Rattle.backend_trait.specs.Store.{Store}
use Rattle.session_machine.specs.declared.work.Work.{Work}
use Rattle.session_machine.specs.declared.machine.Machine.{Machine}
use Rattle.one_copy_model.specs.declared.deed.Entry.{Entry}
use Rattle.one_copy_model.specs.SingleRun.{store_after, IsRun}
use Rattle.one_copy_model.specs.Deaths.{is_live}
use Rattle.one_copy_model.specs.Tracking.{Told}
use Rattle.one_copy_model.specs.Invariant.{Inserts}
use Rattle.one_copy_model.specs.Own.{Own}
use Rattle.one_copy_laws.proofs.DrawsDrawing.{own_draws}
use Rattle.one_copy_laws.proofs.DrawsInserting.{Drawn}

module _ (tables : List TableDef) (s o table attached : ℕ) (h mid : List Entry) (work : Work) (here : ℕ → Store) (m : Machine) (mail : ℕ → Option Answer)
    (told : Option Told) (done : ℕ → Bool) (live : Bool) (d : Drawn tables s table work h mid) where
  pub drawn_keeps : o ≢ s → (is_live ((store_after tables h).transaction o) ≡ true → Inserts m table → ⊥)
      → Own tables attached h here m mail told done live o → IsRun tables mid × Own tables attached mid here m mail told done live o
  drawn_keeps other apart own = (d.run, own_draws tables table o h mid (d.draws o other) attached here m mail told done live live refl apart own)
