-- A script that was played to its end with its journal: down from the words to the journal.
use Rattle.std.proofs.Common.{◌≡◌, ◌⊎◌, ℕ, true, List, refl, subst, inl, inr}
use Rattle.std.specs.Prelude.{Option, Some}
use Rattle.std.proofs.lemmas.Bool.{false≢true}
use Rattle.pool_base.specs.Outside.{Told, IsTold}
use Rattle.pgproto.specs.Line.{Line}
use Rattle.pgproto.specs.Script.{IsScript}
use Rattle.pool_command.specs.Command.{command_of}
use Rattle.pool_command.specs.declared.command.Command.TheVariants.{Play}
use Rattle.pool_config.specs.declared.config.Config.{Config}
use Rattle.pool_config.specs.Configuration.{IsConfiguration}
use Rattle.schema.specs.declared.catalogue.TableDef.{TableDef}
use Rattle.schema.specs.Reading.{Says}
use Rattle.pool_run.specs.Status.{code_of}
use Rattle.pool_run.specs.declared.status.Status.{Status}
use Rattle.pool_run.specs.declared.status.Status.TheVariants.{Done, NoCommand, Refused, ScriptRefused, FilesFailed, SinkFailed, NoMemory, NotBuilt, Stopped, NoneLeft}
use Rattle.pool_run.specs.Texts.{IsRead}
use Rattle.pool_run.specs.Journals.{HasJournal, PlayedAsOneStore}
use Rattle.pool_run.specs.Ends.{Outside, RefusedEnds, UnreadEnds, UnbuiltEnds, SeveralEnds, TextsEnds, refused, built, several, unbuilt, unchecked, ScriptStageEnds, script_unread, script_read, SchemaEnds, schema_stands, schema_refused, schema_unparsed}
use Rattle.pool_run.specs.Ends.{RestEnds, schema_unread, schema_read, ConfigEnds, configured, faulty, unparsed, CommandEnds, unread, long, read, WordsEnd, Returns, config_too_long, fault_line}

-- the statuses of a script that was played to its end
abbrev pub IsPlayed : Status → Type 0
IsPlayed Done = Unit {0}
IsPlayed NoneLeft = Unit {0}
IsPlayed NoCommand = ⊥
IsPlayed Refused = ⊥
IsPlayed ScriptRefused = ⊥
IsPlayed FilesFailed = ⊥
IsPlayed SinkFailed = ⊥
IsPlayed NoMemory = ⊥
IsPlayed NotBuilt = ⊥
IsPlayed Stopped = ⊥

pub is_played : (s : Status) → (code_of s ≡ 0) ⊎ (code_of s ≡ 6) → IsPlayed s
is_played Done h = tt
is_played NoneLeft h = tt
is_played NoCommand (inl h) = cc
is_played NoCommand (inr h) = cc
is_played Refused (inl h) = cc
is_played Refused (inr h) = cc
is_played ScriptRefused (inl h) = cc
is_played ScriptRefused (inr h) = cc
is_played FilesFailed (inl h) = cc
is_played FilesFailed (inr h) = cc
is_played SinkFailed (inl h) = cc
is_played SinkFailed (inr h) = cc
is_played NoMemory (inl h) = cc
is_played NoMemory (inr h) = cc
is_played NotBuilt (inl h) = cc
is_played NotBuilt (inr h) = cc
is_played Stopped (inl h) = cc
is_played Stopped (inr h) = cc

pub no_memory : (s : Status) → IsPlayed s → s ≡ NoMemory → ⊥
no_memory s played is = subst IsPlayed is played

pub not_refused : (wanted : Status) (bytes : List ℕ) (s : Status) (o : Outside) → IsPlayed s → RefusedEnds wanted bytes s o → ⊥
not_refused wanted bytes Done o played e = e
not_refused wanted bytes NoneLeft o played e = e
not_refused wanted bytes NoCommand o played e = e
not_refused wanted bytes Refused o played e = played
not_refused wanted bytes ScriptRefused o played e = played
not_refused wanted bytes FilesFailed o played e = e
not_refused wanted bytes SinkFailed o played e = played
not_refused wanted bytes NoMemory o played e = played
not_refused wanted bytes NotBuilt o played e = e
not_refused wanted bytes Stopped o played e = e

pub not_unread : (x y : ℕ) (s : Status) (o : Outside) → IsPlayed s → UnreadEnds x y s o → ⊥
not_unread x y Done o played e = e
not_unread x y NoneLeft o played e = e
not_unread x y NoCommand o played e = e
not_unread x y Refused o played e = e
not_unread x y ScriptRefused o played e = e
not_unread x y FilesFailed o played e = played
not_unread x y SinkFailed o played e = e
not_unread x y NoMemory o played e = played
not_unread x y NotBuilt o played e = e
not_unread x y Stopped o played e = e

pub not_unbuilt : (s : Status) (o : Outside) → IsPlayed s → UnbuiltEnds s o → ⊥
not_unbuilt Done o played e = e
not_unbuilt NoneLeft o played e = e
not_unbuilt NoCommand o played e = e
not_unbuilt Refused o played e = e
not_unbuilt ScriptRefused o played e = e
not_unbuilt FilesFailed o played e = e
not_unbuilt SinkFailed o played e = played
not_unbuilt NoMemory o played e = e
not_unbuilt NotBuilt o played e = played
not_unbuilt Stopped o played e = e

journal_of : (config : Config) (tables : List TableDef) (lines : List Line) (s : Status) (o : Outside) → IsPlayed s → SeveralEnds true config tables lines s o → HasJournal config tables lines o.had o.has
journal_of config tables lines Done o played e = e.1 refl
journal_of config tables lines NoneLeft o played e = e.1 refl
journal_of config tables lines NoCommand o played e = absurd e
journal_of config tables lines Refused o played e = absurd e
journal_of config tables lines ScriptRefused o played e = absurd e
journal_of config tables lines FilesFailed o played e = absurd e
journal_of config tables lines SinkFailed o played e = absurd played
journal_of config tables lines NoMemory o played e = absurd played
journal_of config tables lines NotBuilt o played e = absurd e
journal_of config tables lines Stopped o played e = absurd played

-- of a script's file, over this configuration and these tables
record OfScript (config : Config) (tables : List TableDef) (told : Told) (o : Outside) : Type 0 where
  text : List ℕ
  tells : IsTold told text
  lines : List Line
  says : IsScript text lines
  has : HasJournal config tables lines o.had o.has

of_texts : (a b c : List ℕ) (told : Told) (config : Config) (tables : List TableDef) (script : Option (List ℕ)) (s : Status) (o : Outside) → IsPlayed s → IsRead told 4194304 script → TextsEnds (Play a b c true) config tables script s o → OfScript config tables told o
of_texts a b c told config tables script s o played was (refused bytes why kept e) = absurd (not_refused ScriptRefused bytes s o played e)
of_texts a b c told config tables script s o played was (built lines is e) = absurd (false≢true is.plain)
of_texts a b c told config tables script s o played was (several lines is none e) = record {
  text = is.reads.text;
  tells = (subst (IsRead told 4194304) is.reads.is was).0;
  lines = lines;
  says = is.reads.says;
  has = journal_of config tables lines s o played e;
}
of_texts a b c told config tables script s o played was (unbuilt stands none others kept e) = absurd (not_unbuilt s o played e)
of_texts a b c told config tables script s o played was (unchecked memory same kept) = absurd (no_memory s played memory)

of_script : (contents : List ℕ → Told) (x y : ℕ) (a b c : List ℕ) (config : Config) (tables : List TableDef) (s : Status) (o : Outside) → IsPlayed s → ScriptStageEnds contents x y (Play a b c true) config tables s o → OfScript config tables (contents c) o
of_script contents x y a b c config tables s o played (script_unread kept e) = absurd (not_unread x y s o played e)
of_script contents x y a b c config tables s o played (script_read script was e) = of_texts a b c (contents c) config tables script s o played was e

-- and of the schema's
record OfSchema (config : Config) (schema_told script_told : Told) (o : Outside) : Type 0 where
  text : List ℕ
  tells : IsTold schema_told text
  tables : List TableDef
  says : Says text tables
  below : OfScript config tables script_told o

of_schema : (contents : List ℕ → Told) (x y : ℕ) (a b c : List ℕ) (config : Config) (schema : Option (List ℕ)) (s : Status) (o : Outside) → IsPlayed s → IsRead (contents b) 262144 schema → SchemaEnds contents x y (Play a b c true) config schema s o
    → OfSchema config (contents b) (contents c) o
of_schema contents x y a b c config schema s o played was (schema_stands tables says e) = record {
  text = says.text;
  tells = (subst (IsRead (contents b) 262144) says.is was).0;
  tables = tables;
  says = says.says;
  below = of_script contents x y a b c config tables s o played e;
}
of_schema contents x y a b c config schema s o played was (schema_refused bytes why kept e) = absurd (not_refused Refused bytes s o played e)
of_schema contents x y a b c config schema s o played was (schema_unparsed memory same kept) = absurd (no_memory s played memory)

of_rest : (contents : List ℕ → Told) (x y : ℕ) (a b c : List ℕ) (config : Config) (s : Status) (o : Outside) → IsPlayed s → RestEnds contents x y (Play a b c true) config s o → OfSchema config (contents b) (contents c) o
of_rest contents x y a b c config s o played (schema_unread kept e) = absurd (not_unread x y s o played e)
of_rest contents x y a b c config s o played (schema_read schema was e) = of_schema contents x y a b c config schema s o played was e

-- and of the configuration's
of_all : (config_told schema_told script_told : Told) (text : List ℕ) (config : Config) (o : Outside) → IsTold config_told text → IsConfiguration text config → OfSchema config schema_told script_told o
    → PlayedAsOneStore config_told schema_told script_told o.had o.has
of_all config_told schema_told script_told text config o tells said rest = record {
  config_text = text;
  tells = tells;
  config = config;
  configured = said;
  schema_text = rest.text;
  tells_schema = rest.tells;
  tables = rest.tables;
  says_tables = rest.says;
  script_text = rest.below.text;
  tells_script = rest.below.tells;
  lines = rest.below.lines;
  says = rest.below.says;
  has = rest.below.has;
}

of_config : (contents : List ℕ → Told) (x y : ℕ) (a b c text : List ℕ) (s : Status) (o : Outside) → IsPlayed s → IsTold (contents a) text → ConfigEnds contents x y (Play a b c true) text s o
    → PlayedAsOneStore (contents a) (contents b) (contents c) o.had o.has
of_config contents x y a b c text s o played tells (configured config said e) = of_all (contents a) (contents b) (contents c) text config o tells said (of_rest contents x y a b c config s o played e)
of_config contents x y a b c text s o played tells (faulty fault first none kept e) = absurd (not_refused Refused (fault_line fault) s o played e)
of_config contents x y a b c text s o played tells (unparsed memory same kept) = absurd (no_memory s played memory)

of_command : (contents : List ℕ → Told) (x y : ℕ) (a b c : List ℕ) (s : Status) (o : Outside) → IsPlayed s → CommandEnds contents x y (Play a b c true) s o → PlayedAsOneStore (contents a) (contents b) (contents c) o.had o.has
of_command contents x y a b c s o played (unread kept e) = absurd (not_unread x y s o played e)
of_command contents x y a b c s o played (long was kept e) = absurd (not_refused Refused config_too_long s o played e)
of_command contents x y a b c s o played (read text was e) = of_config contents x y a b c text s o played was.0 e

pub one_store : (words : List (List ℕ)) (contents : List ℕ → Told) (x y number : ℕ) (o : Outside) → Returns words contents x y number o → (number ≡ 0) ⊎ (number ≡ 6)
    → (config schema script : List ℕ) → command_of words ≡ Some (Play config schema script true) → PlayedAsOneStore (contents config) (contents schema) (contents script) o.had o.has
one_store words contents x y number o r ended config schema script is =
    of_command contents x y config schema script r.status o (is_played r.status (subst (λ (n : ℕ). (n ≡ 0) ⊎ (n ≡ 6)) r.is ended)) (subst (λ c. WordsEnd c contents x y r.status o) is r.ends)
