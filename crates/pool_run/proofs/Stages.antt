-- What each stage before a script is played says of the end of the run.
use Rattle.std.proofs.Common.{◌≡◌, ℕ, List, sym, subst}
use Rattle.std.specs.Prelude.{Option, Some, None, Err}
use Rattle.pool_base.specs.Outside.{Told}
use Rattle.pool_command.specs.declared.command.Command.{Command}
use Rattle.pool_config.specs.declared.config.Config.{Config}
use Rattle.pool_run.specs.declared.scripts.ScriptStop.{ScriptStop}
use Rattle.pool_run.specs.declared.scripts.ScriptStop.TheVariants as scripts
use Rattle.pool_run.specs.declared.status.Status.{Status}
use Rattle.pool_run.specs.declared.status.Status.TheVariants.{Done, NoCommand, Refused, ScriptRefused, FilesFailed, SinkFailed, NoMemory, NotBuilt, Stopped, NoneLeft}
use Rattle.pool_run.specs.Ends.{Outside, Untouched, NoCommandEnds, UnreadEnds, WordsEnd, TextsEnds, refused, unchecked, unread}
use Rattle.pool_run.specs.Plan.{IsScriptRefusal}
use Rattle.pool_run.specs.Reading.{IsFault}
use Rattle.pool_run.specs.Scripts.{IsAnswer, script_too_long, bad_line}
use Rattle.schema.specs.declared.catalogue.TableDef.{TableDef}

-- a text was not read, and nothing was written
unread_as : (wanted : Status) (before after : ℕ) (o : Outside) → o.has ≡ o.had → IsFault before after wanted → UnreadEnds before after wanted o
unread_as Done before after o same p = p
unread_as NoCommand before after o same p = p
unread_as Refused before after o same p = p
unread_as ScriptRefused before after o same p = p
unread_as FilesFailed before after o same p = (p, same)
unread_as SinkFailed before after o same p = p
unread_as NoMemory before after o same p = same
unread_as NotBuilt before after o same p = p
unread_as Stopped before after o same p = p
unread_as NoneLeft before after o same p = p

pub unread_stops : (wanted s : Status) (before after : ℕ) (o : Outside) → IsFault before after wanted → (s ≡ wanted) × (o.has ≡ o.had) → UnreadEnds before after s o
unread_stops wanted s before after o fault (is, same) = subst (λ (t : Status). UnreadEnds before after t o) (sym is) (unread_as wanted before after o same fault)

-- memory was refused while the words were read
pub memory_stops : (command : Option Command) (contents : List ℕ → Told) (before : ℕ) (s : Status) (o : Outside) → Untouched o × ((s ≡ NoMemory) × (o.has ≡ o.had)) → WordsEnd command contents before before s o
memory_stops None contents before s o (kept, (is, same)) = (kept, subst (λ (t : Status). NoCommandEnds t o) (sym is) same)
memory_stops (Some command) contents before s o (kept, (is, same)) = unread kept (subst (λ (t : Status). UnreadEnds before before t o) (sym is) same)

-- the script is refused, or memory was refused while it was read
pub script_stop : (stop : ScriptStop) (command : Command) (config : Config) (tables : List TableDef) (script : Option (List ℕ)) (s : Status) (o : Outside) → IsAnswer command script (Err stop) → Untouched o
    → IsScriptRefusal stop s o → TextsEnds command config tables script s o
script_stop scripts.TooLong command config tables script s o why kept e = refused script_too_long why kept e
script_stop (scripts.BadLine n) command config tables script s o why kept e = refused (bad_line n) why kept e
script_stop scripts.NoMemory command config tables script s o why kept (memory, same) = unchecked memory same kept
