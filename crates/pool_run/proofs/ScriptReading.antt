-- What is read of a script, and whether that asks for what is built.
use Rattle.std.proofs.Common.{◌≡◌, ℕ, ◌<◌, ◌≤◌, Bool, true, false, List, length, map, sym, ◌∙◌, subst}
use Rattle.std.specs.Prelude.{Option, Some, None, Ok, Err}
use Rattle.std.proofs.lemmas.Bool.{false≢true}
use Rattle.pgproto.specs.Line.{Line, line_of}
use Rattle.pgproto.specs.declared.line.ScriptLine.{ScriptLine}
use Rattle.pgproto.specs.Script.{IsScript, IsBadAt, IfBadLine, IsScriptOr}
use Rattle.pgproto.specs.declared.script.ScriptFault.{ScriptFault}
use Rattle.pgproto.specs.declared.script.ScriptFault.TheVariants as scripts
use Rattle.pool_command.specs.declared.command.Command.{Command}
use Rattle.pool_command.specs.declared.command.Command.TheVariants.{Play, Generate, Serve}
use Rattle.pool_config.specs.declared.config.Config.{Config}
use Rattle.pool_run.specs.declared.scripts.ScriptStop.{ScriptStop}
use Rattle.pool_run.specs.declared.scripts.ScriptStop.TheVariants.{TooLong, BadLine}
use Rattle.pool_run.specs.Scripts.{IsAnswer, IsReading, with, ScriptCause, SaysNoScript, bad_line, script_too_long, has_script, lines_in}
use Rattle.pool_run.specs.Texts.{IsBuilt, IsSeveral}
use Rattle.pool_run.specs.declared.plan.Way.{Way}
use Rattle.pool_run.specs.declared.plan.Way.TheVariants.{OneClient, Sessions}
use Rattle.pool_run.specs.declared.status.Status.{Status}
use Rattle.pool_run.specs.Ends.{Outside, Untouched, UnbuiltEnds, SeveralEnds, TextsEnds, built, several, unbuilt}
use Rattle.pool_run.specs.Plan.{FitsOneClient, FitsSessions, FitsWay, IsFew, IsWay, WayEnds}
use Rattle.schema.specs.declared.catalogue.TableDef.{TableDef}

-- one text has one reading
pub reading : (script : Option (List ℕ)) (text : List ℕ) (lines : List Line) → script ≡ Some text → lines_in text ≤ 20000 → IsScript text lines → ((found : List Line) → IsScript text found → lines ≡ found) → IsReading script lines
reading script text lines some few says only = record {
  reads = record { text = text; is = some; few = few; says = says };
  only = λ found r. let same : r.text ≡ text = (let e : Some r.text ≡ Some text = sym r.is ∙ some in cc) in only found (subst (λ t. IsScript t found) same r.says);
}

-- a command without a script asks for what is not built
pub none_without : (command : Command) (config : Config) (tables : List TableDef) (script : Option (List ℕ)) → has_script command ≡ false → (lines : List Line) → IsBuilt command config tables script lines → ⊥
none_without (Play x y z journal) config tables script none lines b = absurd (false≢true (sym none))
none_without (Generate x y number size) config tables script none lines b = false≢true b.plain
none_without (Serve x y) config tables script none lines b = false≢true b.plain

-- no script of sessions without a script
pub no_sessions_without : (command : Command) (config : Config) (script : Option (List ℕ)) → has_script command ≡ false → (lines : List Line) → IsSeveral command config script lines → ⊥
no_sessions_without (Play x y z journal) config script none lines b = absurd (false≢true (sym none))
no_sessions_without (Generate x y number size) config script none lines b = false≢true b.plays
no_sessions_without (Serve x y) config script none lines b = false≢true b.plays

-- what fits other lines that were read fits these
pub fits_one : (command : Command) (config : Config) (tables : List TableDef) (script : Option (List ℕ)) (lines found : List Line) → IsReading script lines → IsBuilt command config tables script found → FitsOneClient command config tables lines
fits_one command config tables script lines found r b =
    subst (λ (ls : List Line). FitsOneClient command config tables ls) (sym (r.only found b.reads)) (((b.plain, (b.some_backend, b.few_backends)), (b.session, b.single)), b.takes_none)

pub fits_sessions : (command : Command) (config : Config) (script : Option (List ℕ)) (found : List Line) → IsSeveral command config script found → FitsSessions command config
fits_sessions command config script found b = (b.plays, (b.some_backend, b.few_backends))

-- how lines end that are played so, and that may be played so
pub way_ends : (command : Command) (config : Config) (tables : List TableDef) (script : Option (List ℕ)) (lines : List Line) (way : Way) (s : Status) (o : Outside) → IsReading script lines
    → IsWay command config tables lines (Some way) → WayEnds way config tables lines s o → TextsEnds command config tables script s o
way_ends command config tables script lines OneClient s o r fits e =
    built lines (record {
      plain = fits.0.0.0;
      some_backend = fits.0.0.1.0;
      few_backends = fits.0.0.1.1;
      reads = r.reads;
      session = fits.0.1.0;
      single = fits.0.1.1;
      takes_none = fits.1;
    }) e
way_ends command config tables script lines (Sessions journal) s o r fits e =
    several lines (record { plays = fits.1.0.0; some_backend = fits.1.0.1.0; few_backends = fits.1.0.1.1; reads = r.reads })
    (λ found b. fits.0 (fits_one command config tables script lines found r b)) (subst (λ (j : Bool). SeveralEnds j config tables lines s o) fits.1.1 e)

pub way_fits : (command : Command) (config : Config) (tables : List TableDef) (lines : List Line) (way : Way) → IsWay command config tables lines (Some way) → FitsWay way lines
way_fits command config tables lines OneClient fits = fits.0.1.0
way_fits command config tables lines (Sessions journal) fits = tt

pub way_few : (command : Command) (config : Config) (tables : List TableDef) (lines : List Line) (way : Way) → IsWay command config tables lines (Some way) → IsFew (length config.nodes)
way_few command config tables lines OneClient fits = record { some = fits.0.0.1.0; few = fits.0.0.1.1 }
way_few command config tables lines (Sessions journal) fits = record { some = fits.1.0.1.0; few = fits.1.0.1.1 }

-- lines that are played in no way
pub no_way : (command : Command) (config : Config) (tables : List TableDef) (script : Option (List ℕ)) (lines : List Line) (s : Status) (o : Outside) → IsReading script lines
    → IsWay command config tables lines None → Untouched o → UnbuiltEnds s o → TextsEnds command config tables script s o
no_way command config tables script lines s o r fits kept e =
    unbuilt (with lines r.reads) (λ found b. fits.0 (fits_one command config tables script lines found r b))
    (λ found b. fits.1 (fits_sessions command config script found b)) kept e

-- the reader's answer, at each of its forms
pub too_long_at : (command : Command) (script : Option (List ℕ)) (stop : ScriptStop) → stop ≡ TooLong → IsAnswer command script (Err stop) → ScriptCause command script script_too_long
too_long_at command script stop is h = subst (λ (e : ScriptStop). IsAnswer command script (Err e)) is h

pub bad_line_at : (command : Command) (script : Option (List ℕ)) (stop : ScriptStop) (n : ℕ) → stop ≡ BadLine n → IsAnswer command script (Err stop) → ScriptCause command script (bad_line n)
bad_line_at command script stop n is h = subst (λ (e : ScriptStop). IsAnswer command script (Err e)) is h

pub none_at : (command : Command) (script : Option (List ℕ)) (found : Option (List ScriptLine)) → found ≡ None → IsAnswer command script (Ok found) → has_script command ≡ false
none_at command script found is h = subst (λ (f : Option (List ScriptLine)). IsAnswer command script (Ok f)) is h

pub lines_at : (command : Command) (script : Option (List ℕ)) (found : Option (List ScriptLine)) (lines : List ScriptLine) → found ≡ Some lines → IsAnswer command script (Ok found) → IsReading script (map line_of lines)
lines_at command script found lines is h = subst (λ (f : Option (List ScriptLine)). IsAnswer command script (Ok f)) is h

-- the fault of a script, where it is a bad line
pub bad_at : (fault : ScriptFault) (n : ℕ) (text : List ℕ) → fault ≡ scripts.BadLine n → IfBadLine {X = List ScriptLine} (Err fault) (IsBadAt text) → IsBadAt text n
bad_at fault n text is h = subst (λ (f : ScriptFault). IfBadLine {X = List ScriptLine} (Err f) (IsBadAt text)) is h

pub none_of_bad : (fault : ScriptFault) (n : ℕ) (text : List ℕ) → fault ≡ scripts.BadLine n → ((found : List Line) → IsScript text found → IsScriptOr (Err fault) found) → SaysNoScript text
none_of_bad fault n text is h = λ found says. subst (λ (f : ScriptFault). IsScriptOr (Err f) found) is (h found says)
