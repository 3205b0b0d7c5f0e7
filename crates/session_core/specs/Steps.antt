-- The request of a step, and the last step of a transaction.
use Rattle.std.specs.Prelude.{ℕ, if◌then◌else◌}
use Rattle.catalogue.specs.declared.checked.Checked.{Checked}
use Rattle.classifier.specs.declared.class.Class.{Class}
use Rattle.classifier.specs.declared.class.Class.TheVariants as class
use Rattle.classifier.specs.Classes.{class_of}
use Rattle.backend_trait.specs.declared.answer.Answer.{Answer}
use Rattle.backend_trait.specs.Store.{is_refusal}
use Rattle.backend_trait.specs.declared.request.Request.{Request}
use Rattle.backend_trait.specs.declared.request.Request.TheVariants as requests
use Rattle.session_core.specs.declared.ask.Step.{Step}
use Rattle.session_core.specs.declared.ask.Step.TheVariants as steps

abbrev pub request_of : Step → Request
request_of steps.Begin = requests.TakeSnapshot
request_of (steps.Run statement) = requests.Run statement.now
request_of steps.Commit = requests.Commit
request_of steps.Rollback = requests.Rollback

-- a refusal is rolled back
abbrev pub last_step : Answer → Step
last_step answer = if is_refusal answer then steps.Rollback else steps.Commit

-- how many backends run a statement, of so many: a read runs at the primary alone, another statement at each
abbrev pub reach_of_class : Class → ℕ → ℕ
reach_of_class class.Read count = 1
reach_of_class class.LockingRead count = count
reach_of_class class.Write count = count
reach_of_class class.SerialInsert count = count

abbrev pub reach_of : Checked → ℕ → ℕ
reach_of statement count = reach_of_class (class_of statement.body) count
