-- A script that was played to its end, its journal kept or not: down from the words to what was written.
use Rattle.std.proofs.Common.{◌≡◌, ◌⊎◌, ℕ, Bool, true, false, List, refl, sym, subst, inl, inr}
use Rattle.std.specs.Prelude.{Option, Some, not}
use Rattle.std.proofs.lemmas.Bool.{false≢true}
use Rattle.pool_base.specs.Outside.{Told, IsTold}
use Rattle.pgproto.specs.Line.{Line}
use Rattle.pgproto.specs.Script.{IsScript}
use Rattle.pool_command.specs.Command.{command_of}
use Rattle.pool_command.specs.declared.command.Command.TheVariants.{Play}
use Rattle.pool_config.specs.declared.config.Config.{Config}
use Rattle.pool_config.specs.Configuration.{IsConfiguration}
use Rattle.schema.specs.declared.catalogue.TableDef.{TableDef}
use Rattle.schema.specs.Reading.{Says}
use Rattle.pool_run.specs.declared.status.Status.{Status}
use Rattle.pool_run.specs.declared.status.Status.TheVariants.{Done, NoCommand, Refused, ScriptRefused, FilesFailed, SinkFailed, NoMemory, NotBuilt, Stopped, NoneLeft}
use Rattle.pool_run.specs.Status.{code_of}
use Rattle.pool_run.specs.Texts.{IsRead}
use Rattle.pool_run.specs.Replies.{IsOfOneClient, IsReplied, RepliesAsOneStore}
use Rattle.pool_run.specs.Ends.{Outside, SeveralEnds, TextsEnds, refused, built, several, unbuilt, unchecked, ScriptStageEnds, script_unread, script_read, SchemaEnds, schema_stands, schema_refused, schema_unparsed}
use Rattle.pool_run.specs.Ends.{RestEnds, schema_unread, schema_read, ConfigEnds, configured, faulty, unparsed, CommandEnds, unread, long, read, WordsEnd, Returns, config_too_long, fault_line}
use Rattle.pool_run.proofs.OneStore.{IsPlayed, is_played, no_memory, not_refused, not_unread, not_unbuilt}

replied_of : (journal : Bool) (config : Config) (tables : List TableDef) (lines : List Line) (s : Status) (o : Outside) → IsPlayed s → SeveralEnds journal config tables lines s o → IsReplied config tables lines journal (code_of s) o.stores_after o.had o.has
replied_of journal config tables lines Done o played e = e.2
replied_of journal config tables lines NoneLeft o played e = e.2
replied_of journal config tables lines NoCommand o played e = absurd e
replied_of journal config tables lines Refused o played e = absurd e
replied_of journal config tables lines ScriptRefused o played e = absurd e
replied_of journal config tables lines FilesFailed o played e = absurd e
replied_of journal config tables lines SinkFailed o played e = absurd played
replied_of journal config tables lines NoMemory o played e = absurd played
replied_of journal config tables lines NotBuilt o played e = absurd e
replied_of journal config tables lines Stopped o played e = absurd played

is_off : (journal : Bool) → not journal ≡ true → journal ≡ false
is_off true off = absurd (false≢true off)
is_off false off = refl

-- of a script's file, over this configuration and these tables
record OfScript (config : Config) (tables : List TableDef) (told : Told) (journal : Bool) (number : ℕ) (o : Outside) : Type 0 where
  text : List ℕ
  tells : IsTold told text
  script : List Line
  says : IsScript text script
  has : IsReplied config tables script journal number o.stores_after o.had o.has ⊎ IsOfOneClient tables script journal

of_texts : (a b c : List ℕ) (journal : Bool) (told : Told) (config : Config) (tables : List TableDef) (script : Option (List ℕ)) (s : Status) (o : Outside) → IsPlayed s → IsRead told 4194304 script
    → TextsEnds (Play a b c journal) config tables script s o → OfScript config tables told journal (code_of s) o
of_texts a b c journal told config tables script s o played was (refused bytes why kept e) = absurd (not_refused ScriptRefused bytes s o played e)
of_texts a b c journal told config tables script s o played was (built lines is e) = record {
  text = is.reads.text;
  tells = (subst (IsRead told 4194304) is.reads.is was).0;
  script = lines;
  says = is.reads.says;
  has = inr (record { plain = is_off journal is.plain; session = is.session; single = is.single; takes_none = is.takes_none });
}
of_texts a b c journal told config tables script s o played was (several lines is none e) = record {
  text = is.reads.text;
  tells = (subst (IsRead told 4194304) is.reads.is was).0;
  script = lines;
  says = is.reads.says;
  has = inl (replied_of journal config tables lines s o played e);
}
of_texts a b c journal told config tables script s o played was (unbuilt stands none others kept e) = absurd (not_unbuilt s o played e)
of_texts a b c journal told config tables script s o played was (unchecked memory same kept) = absurd (no_memory s played memory)

of_script : (contents : List ℕ → Told) (x y : ℕ) (a b c : List ℕ) (journal : Bool) (config : Config) (tables : List TableDef) (s : Status) (o : Outside) → IsPlayed s → ScriptStageEnds contents x y (Play a b c journal) config tables s o
    → OfScript config tables (contents c) journal (code_of s) o
of_script contents x y a b c journal config tables s o played (script_unread kept e) = absurd (not_unread x y s o played e)
of_script contents x y a b c journal config tables s o played (script_read script was e) = of_texts a b c journal (contents c) config tables script s o played was e

-- and of the schema's
record OfSchema (config : Config) (schema_told script_told : Told) (journal : Bool) (number : ℕ) (o : Outside) : Type 0 where
  text : List ℕ
  tells : IsTold schema_told text
  tables : List TableDef
  says : Says text tables
  below : OfScript config tables script_told journal number o

of_schema : (contents : List ℕ → Told) (x y : ℕ) (a b c : List ℕ) (journal : Bool) (config : Config) (schema : Option (List ℕ)) (s : Status) (o : Outside) → IsPlayed s → IsRead (contents b) 262144 schema
    → SchemaEnds contents x y (Play a b c journal) config schema s o → OfSchema config (contents b) (contents c) journal (code_of s) o
of_schema contents x y a b c journal config schema s o played was (schema_stands tables says e) = record {
  text = says.text;
  tells = (subst (IsRead (contents b) 262144) says.is was).0;
  tables = tables;
  says = says.says;
  below = of_script contents x y a b c journal config tables s o played e;
}
of_schema contents x y a b c journal config schema s o played was (schema_refused bytes why kept e) = absurd (not_refused Refused bytes s o played e)
of_schema contents x y a b c journal config schema s o played was (schema_unparsed memory same kept) = absurd (no_memory s played memory)

of_rest : (contents : List ℕ → Told) (x y : ℕ) (a b c : List ℕ) (journal : Bool) (config : Config) (s : Status) (o : Outside) → IsPlayed s → RestEnds contents x y (Play a b c journal) config s o
    → OfSchema config (contents b) (contents c) journal (code_of s) o
of_rest contents x y a b c journal config s o played (schema_unread kept e) = absurd (not_unread x y s o played e)
of_rest contents x y a b c journal config s o played (schema_read schema was e) = of_schema contents x y a b c journal config schema s o played was e

-- and of the configuration's
of_all : (config_told schema_told script_told : Told) (text : List ℕ) (journal : Bool) (number : ℕ) (config : Config) (o : Outside) → IsTold config_told text → IsConfiguration text config → OfSchema config schema_told script_told journal number o
    → RepliesAsOneStore config_told schema_told script_told journal number o.stores_after o.had o.has
of_all config_told schema_told script_told text journal number config o tells said rest = record {
  config_text = text;
  tells = tells;
  config = config;
  configured = said;
  schema_text = rest.text;
  tells_schema = rest.tells;
  tables = rest.tables;
  says_tables = rest.says;
  script_text = rest.below.text;
  tells_script = rest.below.tells;
  script = rest.below.script;
  says = rest.below.says;
  has = rest.below.has;
}

of_config : (contents : List ℕ → Told) (x y : ℕ) (a b c text : List ℕ) (journal : Bool) (s : Status) (o : Outside) → IsPlayed s → IsTold (contents a) text → ConfigEnds contents x y (Play a b c journal) text s o
    → RepliesAsOneStore (contents a) (contents b) (contents c) journal (code_of s) o.stores_after o.had o.has
of_config contents x y a b c text journal s o played tells (configured config said e) =
    of_all (contents a) (contents b) (contents c) text journal (code_of s) config o tells said (of_rest contents x y a b c journal config s o played e)
of_config contents x y a b c text journal s o played tells (faulty fault first none kept e) = absurd (not_refused Refused (fault_line fault) s o played e)
of_config contents x y a b c text journal s o played tells (unparsed memory same kept) = absurd (no_memory s played memory)

of_command : (contents : List ℕ → Told) (x y : ℕ) (a b c : List ℕ) (journal : Bool) (s : Status) (o : Outside) → IsPlayed s → CommandEnds contents x y (Play a b c journal) s o
    → RepliesAsOneStore (contents a) (contents b) (contents c) journal (code_of s) o.stores_after o.had o.has
of_command contents x y a b c journal s o played (unread kept e) = absurd (not_unread x y s o played e)
of_command contents x y a b c journal s o played (long was kept e) = absurd (not_refused Refused config_too_long s o played e)
of_command contents x y a b c journal s o played (read text was e) = of_config contents x y a b c text journal s o played was.0 e

pub replies : (words : List (List ℕ)) (contents : List ℕ → Told) (x y number : ℕ) (o : Outside) → Returns words contents x y number o → (number ≡ 0) ⊎ (number ≡ 6)
    → (config schema script : List ℕ) (journal : Bool) → command_of words ≡ Some (Play config schema script journal) → RepliesAsOneStore (contents config) (contents schema) (contents script) journal number o.stores_after o.had o.has
replies words contents x y number o r ended config schema script journal is =
    subst (λ (n : ℕ). RepliesAsOneStore (contents config) (contents schema) (contents script) journal n o.stores_after o.had o.has) (sym r.is)
    (of_command contents x y config schema script journal r.status o (is_played r.status (subst (λ (n : ℕ). (n ≡ 0) ⊎ (n ≡ 6)) r.is ended)) (subst (λ c. WordsEnd c contents x y r.status o) is r.ends))
