-- Files whose text ends in a journal of a schedule of the replicated world.
use Rattle.std.specs.Prelude.{◌≡◌, ℕ, List, ◌++◌}
use Rattle.pool_base.specs.Outside.{Told, IsTold}
use Rattle.play_laws.specs.Journals.{IsRun}

-- such a run stands at the end of the text, behind whatever bytes
pub record IsJournal (text : List ℕ) (n : ℕ) : Type 0 where
  pub before : List ℕ
  pub run : List ℕ
  pub parts : text ≡ before ++ run
  pub holds : IsRun run n

-- what is told of a file is a journal of that kind
pub record IsFileOfSchedule (told : Told) (n : ℕ) : Type 0 where
  pub text : List ℕ
  pub is_told : IsTold told text
  pub holds : IsJournal text n
