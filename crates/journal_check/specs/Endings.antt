-- How a check of a journal ends: what each status says, and the line that was written with it.
use Rattle.std.specs.Prelude.{◌≡◌, ◌⊎◌, ℕ, List, [], ◌∷◌, ◌++◌, Option, codes}
use Rattle.std.specs.Fmt.{decimal}
use Rattle.pool_base.specs.Outside.{Told, IsLonger, Appends, Rose}
use Rattle.journal_check.specs.declared.status.Status.{Status}
use Rattle.journal_check.specs.declared.status.Status.TheVariants.{Done, NoCommand, BadLine, EventFails, FilesFailed, SinkFailed, NoMemory}
use Rattle.journal_check.specs.Journals.{IsFileOfSchedule}

-- the counts of faults and the bytes written, before the check and behind it
pub record Outside : Type 0 where
  pub files_before : ℕ
  pub files_later : ℕ
  pub sink_before : ℕ
  pub sink_later : ℕ
  pub had : Option (List ℕ)
  pub has : Option (List ℕ)

abbrev pub outside : ℕ → ℕ → ℕ → ℕ → Option (List ℕ) → Option (List ℕ) → Outside
outside files_before files_later sink_before sink_later had has =
    record { files_before = files_before; files_later = files_later; sink_before = sink_before; sink_later = sink_later; had = had; has = has }

-- The lines.

abbrev pub schedule_line : ℕ → List ℕ
schedule_line n = codes "journal: a schedule, " ++ (decimal n ++ (codes " events" ++ 10 ∷ []))

abbrev pub bad_line : ℕ → List ℕ
bad_line n = codes "journal: line " ++ (decimal n ++ (codes ": bad line" ++ 10 ∷ []))

abbrev pub event_line : ℕ → List ℕ
event_line n = codes "journal: event " ++ (decimal n ++ (codes " fails" ++ 10 ∷ []))

abbrev pub too_long_line : List ℕ
too_long_line = codes "journal: too long" ++ 10 ∷ []

abbrev pub no_command_line : List ℕ
no_command_line = codes "journal: the words are no command" ++ 10 ∷ []

-- Of the file that a word names.

-- how the check of a file ends of which this is told: with Done its journal has as many events as the line says; BadLine names a line, or
-- the file is too long; FilesFailed and SinkFailed come only where the count of faults of the files, or of the output, rose
abbrev pub FileEnds : Told → Status → Outside → Type 0
FileEnds told Done o = (n : ℕ) × IsFileOfSchedule told n × Appends o.had o.has (schedule_line n)
FileEnds told NoCommand o = ⊥
FileEnds told BadLine o = ((n : ℕ) × Appends o.had o.has (bad_line n)) ⊎ (IsLonger told 268435456 × Appends o.had o.has too_long_line)
FileEnds told EventFails o = (n : ℕ) × Appends o.had o.has (event_line n)
FileEnds told FilesFailed o = Rose o.files_before o.files_later × (o.has ≡ o.had)
FileEnds told SinkFailed o = Rose o.sink_before o.sink_later
FileEnds told NoMemory o = ⊥

-- where the words are no command
abbrev pub NoWordEnds : Status → Outside → Type 0
NoWordEnds Done o = ⊥
NoWordEnds NoCommand o = Appends o.had o.has no_command_line
NoWordEnds BadLine o = ⊥
NoWordEnds EventFails o = ⊥
NoWordEnds FilesFailed o = ⊥
NoWordEnds SinkFailed o = Rose o.sink_before o.sink_later
NoWordEnds NoMemory o = ⊥

-- All of it: one word names a file; other words are no command.
abbrev pub Ends : List (List ℕ) → (List ℕ → Told) → Status → Outside → Type 0
Ends (name ∷ []) contents status o = FileEnds (contents name) status o
Ends words contents status o = NoWordEnds status o
