-- What each number says.
use Rattle.std.proofs.Common.{◌≡◌, ◌⊎◌, ◌≤◌, ℕ, Bool, true, false, List, length, refl, sym, subst, ap, ◌∙◌, inl, inr, arith}
use Rattle.std.specs.Prelude.{Option, Some, None}
use Rattle.pool_base.specs.Outside.{Rose, Told, content, IsTold, IsLonger}
use Rattle.pgproto.specs.Line.{Line}
use Rattle.pgproto.specs.Script.{IsScript}
use Rattle.pool_command.specs.Command.{command_of}
use Rattle.pool_command.specs.declared.command.Command.{Command}
use Rattle.pool_command.specs.declared.command.Command.TheVariants.{Play}
use Rattle.pool_config.specs.declared.config.Config.{Config}
use Rattle.pool_config.specs.Configuration.{IsConfiguration}
use Rattle.pool_run.specs.Status.{code_of}
use Rattle.pool_run.specs.declared.status.Status.{Status}
use Rattle.pool_run.specs.declared.status.Status.TheVariants.{Done, NoCommand, Refused, ScriptRefused, FilesFailed, SinkFailed, NoMemory, NotBuilt, Stopped, NoneLeft}
use Rattle.pool_run.specs.Scripts.{lines_in}
use Rattle.pool_run.specs.Texts.{IsRead, IsBuilt, IsSeveral, config_name, schema_name, is_plain, keeps_journal}
use Rattle.pool_run.specs.Drawing.{TakesNone}
use Rattle.pool_run.specs.Ways.{SaysOneClient}
use Rattle.schema.specs.declared.catalogue.TableDef.{TableDef}
use Rattle.schema.specs.Reading.{Says}
use Rattle.pool_run.specs.Schemas.{IsSchemaRead, SaysNoTables, SchemaCause, long_schema, has_faulty_line, IsRefusedSchema}
use Rattle.pool_run.specs.Ends.{Outside, NoCommandEnds, RefusedEnds, UnreadEnds, UnbuiltEnds, ScriptEnds, SeveralEnds, TextsEnds, refused, built, several, unbuilt, unchecked, ScriptStageEnds, script_unread, script_read, SchemaEnds, schema_stands, schema_refused, schema_unparsed, RestEnds, schema_unread, schema_read, SaysNone}
use Rattle.pool_run.specs.Ends.{ConfigEnds, configured, faulty, unparsed, CommandEnds, unread, long, read, WordsEnd, Returns, Played}
use Rattle.pool_run.specs.Ends.{IsRefusedText, Cause, too_long, has_fault, PlayedOver, RefusedCause, by_config, by_schema, TextIsRefused, config_too_long, fault_line}

-- the numbers are different
pub is_script_refused : (s : Status) → code_of s ≡ 3 → s ≡ ScriptRefused
is_script_refused ScriptRefused h = refl
is_script_refused Done h = cc
is_script_refused NoCommand h = cc
is_script_refused Refused h = cc
is_script_refused FilesFailed h = cc
is_script_refused SinkFailed h = cc
is_script_refused NoMemory h = cc
is_script_refused NotBuilt h = cc
is_script_refused Stopped h = cc
is_script_refused NoneLeft h = cc

pub is_done : (s : Status) → code_of s ≡ 0 → s ≡ Done
is_done Done h = refl
is_done NoCommand h = cc
is_done Refused h = cc
is_done ScriptRefused h = cc
is_done FilesFailed h = cc
is_done SinkFailed h = cc
is_done NoMemory h = cc
is_done NotBuilt h = cc
is_done Stopped h = cc
is_done NoneLeft h = cc

pub is_no_command : (s : Status) → code_of s ≡ 1 → s ≡ NoCommand
is_no_command NoCommand h = refl
is_no_command Done h = cc
is_no_command Refused h = cc
is_no_command ScriptRefused h = cc
is_no_command FilesFailed h = cc
is_no_command SinkFailed h = cc
is_no_command NoMemory h = cc
is_no_command NotBuilt h = cc
is_no_command Stopped h = cc
is_no_command NoneLeft h = cc

pub is_refused : (s : Status) → code_of s ≡ 2 → s ≡ Refused
is_refused Refused h = refl
is_refused ScriptRefused h = cc
is_refused Done h = cc
is_refused NoCommand h = cc
is_refused FilesFailed h = cc
is_refused SinkFailed h = cc
is_refused NoMemory h = cc
is_refused NotBuilt h = cc
is_refused Stopped h = cc
is_refused NoneLeft h = cc

pub is_files : (s : Status) → code_of s ≡ 4 → s ≡ FilesFailed
is_files FilesFailed h = refl
is_files Done h = cc
is_files NoCommand h = cc
is_files Refused h = cc
is_files ScriptRefused h = cc
is_files SinkFailed h = cc
is_files NoMemory h = cc
is_files NotBuilt h = cc
is_files Stopped h = cc
is_files NoneLeft h = cc

pub is_sink : (s : Status) → code_of s ≡ 5 → s ≡ SinkFailed
is_sink SinkFailed h = refl
is_sink Done h = cc
is_sink NoCommand h = cc
is_sink Refused h = cc
is_sink ScriptRefused h = cc
is_sink FilesFailed h = cc
is_sink NoMemory h = cc
is_sink NotBuilt h = cc
is_sink Stopped h = cc
is_sink NoneLeft h = cc

-- status 4
files_texts : (command : Command) (config : Config) (tables : List TableDef) (script : Option (List ℕ)) (s : Status) (o : Outside) → s ≡ FilesFailed → TextsEnds command config tables script s o → ⊥
files_texts command config tables script s o is (refused bytes why rows f) = subst (λ s. RefusedEnds ScriptRefused bytes s o) is f
files_texts command config tables script s o is (built lines b f) = subst (λ s. ScriptEnds (length config.nodes) tables lines s o) is f
files_texts command config tables script s o is (several lines b none f) = subst (λ s. SeveralEnds (keeps_journal command) config tables lines s o) is f
files_texts command config tables script s o is (unbuilt stands none others kept f) = subst (λ s. UnbuiltEnds s o) is f
files_texts command config tables script s o is (unchecked memory same kept) = let never : FilesFailed ≡ NoMemory = sym is ∙ memory in absurd (cc)

files_script : (contents : List ℕ → Told) (x y : ℕ) (command : Command) (config : Config) (tables : List TableDef) (s : Status) (o : Outside) → s ≡ FilesFailed → ScriptStageEnds contents x y command config tables s o → Rose x y
files_script contents x y command config tables s o is (script_unread kept e) = (subst (λ s. UnreadEnds x y s o) is e).0
files_script contents x y command config tables s o is (script_read script e f) = absurd (files_texts command config tables script s o is f)

files_schema : (contents : List ℕ → Told) (x y : ℕ) (command : Command) (config : Config) (schema : Option (List ℕ)) (s : Status) (o : Outside) → s ≡ FilesFailed → SchemaEnds contents x y command config schema s o → Rose x y
files_schema contents x y command config schema s o is (schema_stands tables says e) = files_script contents x y command config tables s o is e
files_schema contents x y command config schema s o is (schema_refused bytes why rows e) = absurd (subst (λ s. RefusedEnds Refused bytes s o) is e)
files_schema contents x y command config schema s o is (schema_unparsed memory same kept) = let never : FilesFailed ≡ NoMemory = sym is ∙ memory in absurd (cc)

files_rest : (contents : List ℕ → Told) (x y : ℕ) (command : Command) (config : Config) (s : Status) (o : Outside) → s ≡ FilesFailed → RestEnds contents x y command config s o → Rose x y
files_rest contents x y command config s o is (schema_unread kept e) = (subst (λ s. UnreadEnds x y s o) is e).0
files_rest contents x y command config s o is (schema_read schema c e) = files_schema contents x y command config schema s o is e

files_config : (contents : List ℕ → Told) (x y : ℕ) (command : Command) (text : List ℕ) (s : Status) (o : Outside) → s ≡ FilesFailed → ConfigEnds contents x y command text s o → Rose x y
files_config contents x y command text s o is (configured config c e) = files_rest contents x y command config s o is e
files_config contents x y command text s o is (faulty fault c none rows e) = absurd (subst (λ s. RefusedEnds Refused (fault_line fault) s o) is e)
files_config contents x y command text s o is (unparsed memory same kept) = let never : FilesFailed ≡ NoMemory = sym is ∙ memory in absurd (cc)

files_command : (contents : List ℕ → Told) (x y : ℕ) (command : Command) (s : Status) (o : Outside) → s ≡ FilesFailed → CommandEnds contents x y command s o → Rose x y
files_command contents x y command s o is (unread kept e) = (subst (λ s. UnreadEnds x y s o) is e).0
files_command contents x y command s o is (long c rows e) = absurd (subst (λ s. RefusedEnds Refused config_too_long s o) is e)
files_command contents x y command s o is (read text c e) = files_config contents x y command text s o is e

files_words : (command : Option Command) (contents : List ℕ → Told) (x y : ℕ) (s : Status) (o : Outside) → s ≡ FilesFailed → WordsEnd command contents x y s o → Rose x y
files_words None contents x y s o is e = absurd (subst (λ s. NoCommandEnds s o) is e.1)
files_words (Some command) contents x y s o is e = files_command contents x y command s o is e

pub files_rose : (words : List (List ℕ)) (contents : List ℕ → Told) (x y number : ℕ) (o : Outside) → Returns words contents x y number o → number ≡ 4 → Rose x y
files_rose words contents x y number o r four = files_words (command_of words) contents x y r.status o (is_files r.status (sym r.is ∙ four)) r.ends

-- status 5
sink_texts : (command : Command) (config : Config) (tables : List TableDef) (script : Option (List ℕ)) (s : Status) (o : Outside) → s ≡ SinkFailed → TextsEnds command config tables script s o → Rose o.faults_before o.faults_after
sink_texts command config tables script s o is (refused bytes why rows f) = (subst (λ s. RefusedEnds ScriptRefused bytes s o) is f).0
sink_texts command config tables script s o is (built lines b f) = (subst (λ s. ScriptEnds (length config.nodes) tables lines s o) is f).0
sink_texts command config tables script s o is (several lines b none f) = (subst (λ s. SeveralEnds (keeps_journal command) config tables lines s o) is f).0
sink_texts command config tables script s o is (unbuilt stands none others kept f) = (subst (λ s. UnbuiltEnds s o) is f).0
sink_texts command config tables script s o is (unchecked memory same kept) = let never : SinkFailed ≡ NoMemory = sym is ∙ memory in absurd (cc)

sink_script : (contents : List ℕ → Told) (x y : ℕ) (command : Command) (config : Config) (tables : List TableDef) (s : Status) (o : Outside) → s ≡ SinkFailed → ScriptStageEnds contents x y command config tables s o → Rose o.faults_before o.faults_after
sink_script contents x y command config tables s o is (script_unread kept e) = absurd (subst (λ s. UnreadEnds x y s o) is e)
sink_script contents x y command config tables s o is (script_read script e f) = sink_texts command config tables script s o is f

sink_schema : (contents : List ℕ → Told) (x y : ℕ) (command : Command) (config : Config) (schema : Option (List ℕ)) (s : Status) (o : Outside) → s ≡ SinkFailed → SchemaEnds contents x y command config schema s o → Rose o.faults_before o.faults_after
sink_schema contents x y command config schema s o is (schema_stands tables says e) = sink_script contents x y command config tables s o is e
sink_schema contents x y command config schema s o is (schema_refused bytes why rows e) = (subst (λ s. RefusedEnds Refused bytes s o) is e).0
sink_schema contents x y command config schema s o is (schema_unparsed memory same kept) = let never : SinkFailed ≡ NoMemory = sym is ∙ memory in absurd (cc)

sink_rest : (contents : List ℕ → Told) (x y : ℕ) (command : Command) (config : Config) (s : Status) (o : Outside) → s ≡ SinkFailed → RestEnds contents x y command config s o → Rose o.faults_before o.faults_after
sink_rest contents x y command config s o is (schema_unread kept e) = absurd (subst (λ s. UnreadEnds x y s o) is e)
sink_rest contents x y command config s o is (schema_read schema c e) = sink_schema contents x y command config schema s o is e

sink_config : (contents : List ℕ → Told) (x y : ℕ) (command : Command) (text : List ℕ) (s : Status) (o : Outside) → s ≡ SinkFailed → ConfigEnds contents x y command text s o → Rose o.faults_before o.faults_after
sink_config contents x y command text s o is (configured config c e) = sink_rest contents x y command config s o is e
sink_config contents x y command text s o is (faulty fault c none rows e) = (subst (λ s. RefusedEnds Refused (fault_line fault) s o) is e).0
sink_config contents x y command text s o is (unparsed memory same kept) = let never : SinkFailed ≡ NoMemory = sym is ∙ memory in absurd (cc)

sink_command : (contents : List ℕ → Told) (x y : ℕ) (command : Command) (s : Status) (o : Outside) → s ≡ SinkFailed → CommandEnds contents x y command s o → Rose o.faults_before o.faults_after
sink_command contents x y command s o is (unread kept e) = absurd (subst (λ s. UnreadEnds x y s o) is e)
sink_command contents x y command s o is (long c rows e) = (subst (λ s. RefusedEnds Refused config_too_long s o) is e).0
sink_command contents x y command s o is (read text c e) = sink_config contents x y command text s o is e

sink_words : (command : Option Command) (contents : List ℕ → Told) (x y : ℕ) (s : Status) (o : Outside) → s ≡ SinkFailed → WordsEnd command contents x y s o → Rose o.faults_before o.faults_after
sink_words None contents x y s o is e = (subst (λ s. NoCommandEnds s o) is e.1).0
sink_words (Some command) contents x y s o is e = sink_command contents x y command s o is e

pub sink_rose : (words : List (List ℕ)) (contents : List ℕ → Told) (x y number : ℕ) (o : Outside) → Returns words contents x y number o → number ≡ 5 → Rose o.faults_before o.faults_after
sink_rose words contents x y number o r five = sink_words (command_of words) contents x y r.status o (is_sink r.status (sym r.is ∙ five)) r.ends

-- status 1
none_texts : (command : Command) (config : Config) (tables : List TableDef) (script : Option (List ℕ)) (s : Status) (o : Outside) → s ≡ NoCommand → TextsEnds command config tables script s o → ⊥
none_texts command config tables script s o is (refused bytes why rows f) = subst (λ s. RefusedEnds ScriptRefused bytes s o) is f
none_texts command config tables script s o is (built lines b f) = subst (λ s. ScriptEnds (length config.nodes) tables lines s o) is f
none_texts command config tables script s o is (several lines b none f) = subst (λ s. SeveralEnds (keeps_journal command) config tables lines s o) is f
none_texts command config tables script s o is (unbuilt stands none others kept f) = subst (λ s. UnbuiltEnds s o) is f
none_texts command config tables script s o is (unchecked memory same kept) = let never : NoCommand ≡ NoMemory = sym is ∙ memory in absurd (cc)

none_script : (contents : List ℕ → Told) (x y : ℕ) (command : Command) (config : Config) (tables : List TableDef) (s : Status) (o : Outside) → s ≡ NoCommand → ScriptStageEnds contents x y command config tables s o → ⊥
none_script contents x y command config tables s o is (script_unread kept e) = subst (λ s. UnreadEnds x y s o) is e
none_script contents x y command config tables s o is (script_read script e f) = none_texts command config tables script s o is f

none_schema : (contents : List ℕ → Told) (x y : ℕ) (command : Command) (config : Config) (schema : Option (List ℕ)) (s : Status) (o : Outside) → s ≡ NoCommand → SchemaEnds contents x y command config schema s o → ⊥
none_schema contents x y command config schema s o is (schema_stands tables says e) = none_script contents x y command config tables s o is e
none_schema contents x y command config schema s o is (schema_refused bytes why rows e) = subst (λ s. RefusedEnds Refused bytes s o) is e
none_schema contents x y command config schema s o is (schema_unparsed memory same kept) = let never : NoCommand ≡ NoMemory = sym is ∙ memory in absurd (cc)

none_rest : (contents : List ℕ → Told) (x y : ℕ) (command : Command) (config : Config) (s : Status) (o : Outside) → s ≡ NoCommand → RestEnds contents x y command config s o → ⊥
none_rest contents x y command config s o is (schema_unread kept e) = subst (λ s. UnreadEnds x y s o) is e
none_rest contents x y command config s o is (schema_read schema c e) = none_schema contents x y command config schema s o is e

none_config : (contents : List ℕ → Told) (x y : ℕ) (command : Command) (text : List ℕ) (s : Status) (o : Outside) → s ≡ NoCommand → ConfigEnds contents x y command text s o → ⊥
none_config contents x y command text s o is (configured config c e) = none_rest contents x y command config s o is e
none_config contents x y command text s o is (faulty fault c none rows e) = subst (λ s. RefusedEnds Refused (fault_line fault) s o) is e
none_config contents x y command text s o is (unparsed memory same kept) = let never : NoCommand ≡ NoMemory = sym is ∙ memory in absurd (cc)

none_command : (contents : List ℕ → Told) (x y : ℕ) (command : Command) (s : Status) (o : Outside) → s ≡ NoCommand → CommandEnds contents x y command s o → ⊥
none_command contents x y command s o is (unread kept e) = subst (λ s. UnreadEnds x y s o) is e
none_command contents x y command s o is (long c rows e) = subst (λ s. RefusedEnds Refused config_too_long s o) is e
none_command contents x y command s o is (read text c e) = none_config contents x y command text s o is e

none_words : (command : Option Command) (contents : List ℕ → Told) (x y : ℕ) (s : Status) (o : Outside) → s ≡ NoCommand → WordsEnd command contents x y s o → command ≡ None
none_words None contents x y s o is e = refl
none_words (Some command) contents x y s o is e = absurd (none_command contents x y command s o is e)

pub no_command_is : (words : List (List ℕ)) (contents : List ℕ → Told) (x y number : ℕ) (o : Outside) → Returns words contents x y number o → number ≡ 1 → command_of words ≡ None
no_command_is words contents x y number o r one = none_words (command_of words) contents x y r.status o (is_no_command r.status (sym r.is ∙ one)) r.ends

no_command_ends : (s : Status) (o : Outside) → NoCommandEnds s o → (code_of s ≡ 1) ⊎ (((code_of s ≡ 5) × Rose o.faults_before o.faults_after) ⊎ (code_of s ≡ 7))
no_command_ends NoCommand o e = inl refl
no_command_ends SinkFailed o e = inr (inl (refl, e.0))
no_command_ends NoMemory o e = inr (inr refl)
no_command_ends Done o e = absurd e
no_command_ends Refused o e = absurd e
no_command_ends ScriptRefused o e = absurd e
no_command_ends FilesFailed o e = absurd e
no_command_ends NotBuilt o e = absurd e
no_command_ends Stopped o e = absurd e
no_command_ends NoneLeft o e = absurd e

pub no_command_always : (words : List (List ℕ)) (contents : List ℕ → Told) (x y number : ℕ) (o : Outside) → Returns words contents x y number o → command_of words ≡ None
    → (number ≡ 1) ⊎ (((number ≡ 5) × Rose o.faults_before o.faults_after) ⊎ (number ≡ 7))
no_command_always words contents x y number o r is =
    let all : ℕ → Type 0 = λ n. (n ≡ 1) ⊎ (((n ≡ 5) × Rose o.faults_before o.faults_after) ⊎ (n ≡ 7)) in
    subst all (sym r.is) (no_command_ends r.status o (subst (λ c. WordsEnd c contents x y r.status o) is r.ends).1)

-- status 2: the configuration or the schema is refused
refused_texts : (command : Command) (config : Config) (tables : List TableDef) (script : Option (List ℕ)) (s : Status) (o : Outside) → s ≡ Refused → TextsEnds command config tables script s o → ⊥
refused_texts command config tables script s o is (refused bytes why rows f) = let e : RefusedEnds ScriptRefused bytes Refused o = subst (λ s. RefusedEnds ScriptRefused bytes s o) is f in let never : ScriptRefused ≡ Refused = e.0 in absurd (cc)
refused_texts command config tables script s o is (built lines b f) = subst (λ s. ScriptEnds (length config.nodes) tables lines s o) is f
refused_texts command config tables script s o is (several lines b none f) = subst (λ s. SeveralEnds (keeps_journal command) config tables lines s o) is f
refused_texts command config tables script s o is (unbuilt stands none others kept f) = subst (λ s. UnbuiltEnds s o) is f
refused_texts command config tables script s o is (unchecked memory same kept) = let never : Refused ≡ NoMemory = sym is ∙ memory in absurd (cc)

refused_script : (contents : List ℕ → Told) (x y : ℕ) (command : Command) (config : Config) (tables : List TableDef) (s : Status) (o : Outside) → s ≡ Refused → ScriptStageEnds contents x y command config tables s o → ⊥
refused_script contents x y command config tables s o is (script_unread kept e) = subst (λ s. UnreadEnds x y s o) is e
refused_script contents x y command config tables s o is (script_read script e f) = refused_texts command config tables script s o is f

-- the schema is refused, where the configuration stands
refused_schema : (words : List (List ℕ)) (contents : List ℕ → Told) (x y : ℕ) (command : Command) (text : List ℕ) (config : Config) (schema : Option (List ℕ)) (s : Status) (o : Outside) → command_of words ≡ Some command → s ≡ Refused
    → IsRead (contents (config_name command)) 65536 (Some text) → IsConfiguration text config → IsRead (contents (schema_name command)) 262144 schema → SchemaEnds contents x y command config schema s o → TextIsRefused words contents o
refused_schema words contents x y command text config schema s o named is c said d (schema_stands tables says e) = absurd (refused_script contents x y command config tables s o is e)
refused_schema words contents x y command text config schema s o named is c said d (schema_refused bytes why rows e) =
    record { command = command; is = named; bytes = bytes; cause = by_schema text config schema c said d why; wrote = (subst (λ s. RefusedEnds Refused bytes s o) is e).1; rows = rows }
refused_schema words contents x y command text config schema s o named is c said d (schema_unparsed memory same kept) = let never : Refused ≡ NoMemory = sym is ∙ memory in absurd (cc)

refused_rest : (words : List (List ℕ)) (contents : List ℕ → Told) (x y : ℕ) (command : Command) (text : List ℕ) (config : Config) (s : Status) (o : Outside) → command_of words ≡ Some command → s ≡ Refused
    → IsRead (contents (config_name command)) 65536 (Some text) → IsConfiguration text config → RestEnds contents x y command config s o → TextIsRefused words contents o
refused_rest words contents x y command text config s o named is c said (schema_unread kept e) = absurd (subst (λ s. UnreadEnds x y s o) is e)
refused_rest words contents x y command text config s o named is c said (schema_read schema d e) = refused_schema words contents x y command text config schema s o named is c said d e

refused_config : (words : List (List ℕ)) (contents : List ℕ → Told) (x y : ℕ) (command : Command) (text : List ℕ) (s : Status) (o : Outside) → command_of words ≡ Some command → s ≡ Refused
    → IsRead (contents (config_name command)) 65536 (Some text) → ConfigEnds contents x y command text s o → TextIsRefused words contents o
refused_config words contents x y command text s o named is c (configured config said e) = refused_rest words contents x y command text config s o named is c said e
refused_config words contents x y command text s o named is c (faulty fault first none rows e) =
    record { command = command; is = named; bytes = fault_line fault; cause = by_config (has_fault text fault c.0 first none refl); wrote = (subst (λ s. RefusedEnds Refused (fault_line fault) s o) is e).1; rows = rows }
refused_config words contents x y command text s o named is c (unparsed memory same kept) = let never : Refused ≡ NoMemory = sym is ∙ memory in absurd (cc)

refused_command : (words : List (List ℕ)) (contents : List ℕ → Told) (x y : ℕ) (command : Command) (s : Status) (o : Outside) → command_of words ≡ Some command → s ≡ Refused
    → CommandEnds contents x y command s o → TextIsRefused words contents o
refused_command words contents x y command s o named is (unread kept e) = absurd (subst (λ s. UnreadEnds x y s o) is e)
refused_command words contents x y command s o named is (long c rows e) =
    record { command = command; is = named; bytes = config_too_long; cause = by_config (too_long c refl); wrote = (subst (λ s. RefusedEnds Refused config_too_long s o) is e).1; rows = rows }
refused_command words contents x y command s o named is (read text c e) = refused_config words contents x y command text s o named is c e

refused_words : (words : List (List ℕ)) (command : Option Command) (contents : List ℕ → Told) (x y : ℕ) (s : Status) (o : Outside) → command_of words ≡ command → s ≡ Refused
    → WordsEnd command contents x y s o → TextIsRefused words contents o
refused_words words None contents x y s o named is e = absurd (subst (λ s. NoCommandEnds s o) is e.1)
refused_words words (Some command) contents x y s o named is e = refused_command words contents x y command s o named is e

pub refused_is : (words : List (List ℕ)) (contents : List ℕ → Told) (x y number : ℕ) (o : Outside) → Returns words contents x y number o → number ≡ 2 → TextIsRefused words contents o
refused_is words contents x y number o r two = refused_words words (command_of words) contents x y r.status o refl (is_refused r.status (sym r.is ∙ two)) r.ends

cause_refuses : (told : Told) (bytes text : List ℕ) → told ≡ content text → Cause told bytes → IsRefusedText text
cause_refuses told bytes text is (too_long longer line) = inl (subst (λ t. IsLonger t 65536) is longer)
cause_refuses told bytes text is (has_fault read_text fault tells first none line) =
    inr (subst SaysNone (subst (λ t. IsTold t read_text) is tells) none)

-- a schema that is refused, of a text that its file tells
schema_cause_refuses : (told : Told) (schema : Option (List ℕ)) (bytes text : List ℕ) → told ≡ content text → IsRead told 262144 schema → SchemaCause schema bytes → IsRefusedSchema text
schema_cause_refuses told schema bytes text is r (long_schema none line) = inl (subst (λ t. IsLonger t 262144) is (subst (IsRead told 262144) none r))
schema_cause_refuses told schema bytes text is r (has_faulty_line got n some first none line) =
    inr (subst SaysNoTables (subst (λ t. IsTold t got) is (subst (IsRead told 262144) some r).0) none)

either_refuses : (contents : List ℕ → Told) (command : Command) (bytes text schema : List ℕ) → contents (config_name command) ≡ content text → contents (schema_name command) ≡ content schema
    → RefusedCause contents command bytes → IsRefusedText text ⊎ IsRefusedSchema schema
either_refuses contents command bytes text schema tells tells_schema (by_config why) = inl (cause_refuses (contents (config_name command)) bytes text tells why)
either_refuses contents command bytes text schema tells tells_schema (by_schema config_text config got c said d why) = inr (schema_cause_refuses (contents (schema_name command)) got bytes schema tells_schema d why)

pub refused_text : (words : List (List ℕ)) (contents : List ℕ → Told) (x y number : ℕ) (o : Outside) → Returns words contents x y number o → number ≡ 2
    → (command : Command) (text schema : List ℕ) → command_of words ≡ Some command → contents (config_name command) ≡ content text → contents (schema_name command) ≡ content schema → IsRefusedText text ⊎ IsRefusedSchema schema
refused_text words contents x y number o r two command text schema named tells tells_schema =
    let why = refused_is words contents x y number o r two in
    let same : why.command ≡ command = (let e : Some why.command ≡ Some command = sym why.is ∙ named in cc) in
    either_refuses contents why.command why.bytes text schema (subst (λ c. contents (config_name c) ≡ content text) (sym same) tells)
    (subst (λ c. contents (schema_name c) ≡ content schema) (sym same) tells_schema) why.cause

-- what a refused configuration comes to
abbrev pub Refuses : ℕ → ℕ → ℕ → Outside → Type 0
Refuses x y number o = (number ≡ 2) ⊎ (((number ≡ 4) × Rose x y) ⊎ (((number ≡ 5) × Rose o.faults_before o.faults_after) ⊎ (number ≡ 7)))

unread_refuses : (x y : ℕ) (s : Status) (o : Outside) → UnreadEnds x y s o → Refuses x y (code_of s) o
unread_refuses x y Done o e = absurd e
unread_refuses x y NoCommand o e = absurd e
unread_refuses x y Refused o e = absurd e
unread_refuses x y ScriptRefused o e = absurd e
unread_refuses x y FilesFailed o e = inr (inl (refl, e.0))
unread_refuses x y SinkFailed o e = absurd e
unread_refuses x y NoMemory o e = inr (inr (inr refl))
unread_refuses x y NotBuilt o e = absurd e
unread_refuses x y Stopped o e = absurd e
unread_refuses x y NoneLeft o e = absurd e

line_refuses : (x y : ℕ) (bytes : List ℕ) (s : Status) (o : Outside) → RefusedEnds Refused bytes s o → Refuses x y (code_of s) o
line_refuses x y bytes Done o e = absurd e
line_refuses x y bytes NoCommand o e = absurd e
line_refuses x y bytes Refused o e = inl refl
line_refuses x y bytes ScriptRefused o e = let never : Refused ≡ ScriptRefused = e.0 in absurd (cc)
line_refuses x y bytes FilesFailed o e = absurd e
line_refuses x y bytes SinkFailed o e = inr (inr (inl (refl, e.0)))
line_refuses x y bytes NoMemory o e = inr (inr (inr refl))
line_refuses x y bytes NotBuilt o e = absurd e
line_refuses x y bytes Stopped o e = absurd e
line_refuses x y bytes NoneLeft o e = absurd e

-- a text that is refused says no configuration that was read
none_said : (text : List ℕ) (config : Config) → length text ≤ 65536 → IsConfiguration text config → IsRefusedText text → ⊥
none_said text config short said (inl longer) = omega (arith, longer, short)
none_said text config short said (inr none) = none config said

config_refuses : (contents : List ℕ → Told) (x y : ℕ) (command : Command) (text : List ℕ) (s : Status) (o : Outside) → length text ≤ 65536 → IsRefusedText text
    → ConfigEnds contents x y command text s o → Refuses x y (code_of s) o
config_refuses contents x y command text s o short refuses (configured config said e) = absurd (none_said text config short said refuses)
config_refuses contents x y command text s o short refuses (faulty fault first none rows e) = line_refuses x y (fault_line fault) s o e
config_refuses contents x y command text s o short refuses (unparsed memory same kept) = inr (inr (inr (ap code_of memory)))

command_refuses : (contents : List ℕ → Told) (x y : ℕ) (command : Command) (text : List ℕ) (s : Status) (o : Outside) → contents (config_name command) ≡ content text → IsRefusedText text
    → CommandEnds contents x y command s o → Refuses x y (code_of s) o
command_refuses contents x y command text s o tells refuses (unread kept e) = unread_refuses x y s o e
command_refuses contents x y command text s o tells refuses (long c rows e) = line_refuses x y config_too_long s o e
command_refuses contents x y command text s o tells refuses (read got c e) =
    config_refuses contents x y command got s o c.1 (subst IsRefusedText (sym (subst (λ t. IsTold t got) tells c.0)) refuses) e

pub refuses : (words : List (List ℕ)) (contents : List ℕ → Told) (x y number : ℕ) (o : Outside) → Returns words contents x y number o
    → (command : Command) (text : List ℕ) → command_of words ≡ Some command → contents (config_name command) ≡ content text → IsRefusedText text → Refuses x y number o
refuses words contents x y number o r command text named tells is =
    subst (λ n. Refuses x y n o) (sym r.is) (command_refuses contents x y command text r.status o tells is (subst (λ c. WordsEnd c contents x y r.status o) named r.ends))

-- what a refused schema comes to
tables_none : (told : Told) (schema : Option (List ℕ)) (text : List ℕ) (tables : List TableDef) → told ≡ content text → IsRefusedSchema text → IsRead told 262144 schema → IsSchemaRead schema tables → ⊥
tables_none told schema text tables is why r reads =
    let got : IsRead told 262144 (Some reads.text) = subst (IsRead told 262144) reads.is r in
    let same : reads.text ≡ text = subst (λ t. IsTold t reads.text) is got.0 in
    elim why as (λ w. ⊥) [
      | inl longer ↦ (let short : length text ≤ 262144 = subst (λ t. length t ≤ 262144) same got.1 in omega (arith, longer, short))
      | inr none ↦ none tables (subst (λ t. Says t tables) same reads.says)
    ]

schema_comes : (contents : List ℕ → Told) (x y : ℕ) (command : Command) (config : Config) (schema : Option (List ℕ)) (text : List ℕ) (s : Status) (o : Outside) → contents (schema_name command) ≡ content text → IsRefusedSchema text
    → IsRead (contents (schema_name command)) 262144 schema → SchemaEnds contents x y command config schema s o → Refuses x y (code_of s) o
schema_comes contents x y command config schema text s o tells why r (schema_stands tables says e) = absurd (tables_none (contents (schema_name command)) schema text tables tells why r says)
schema_comes contents x y command config schema text s o tells why r (schema_refused bytes cause rows e) = line_refuses x y bytes s o e
schema_comes contents x y command config schema text s o tells why r (schema_unparsed memory same kept) = inr (inr (inr (ap code_of memory)))

rest_schema_comes : (contents : List ℕ → Told) (x y : ℕ) (command : Command) (config : Config) (text : List ℕ) (s : Status) (o : Outside) → contents (schema_name command) ≡ content text → IsRefusedSchema text
    → RestEnds contents x y command config s o → Refuses x y (code_of s) o
rest_schema_comes contents x y command config text s o tells why (schema_unread kept e) = unread_refuses x y s o e
rest_schema_comes contents x y command config text s o tells why (schema_read schema r e) = schema_comes contents x y command config schema text s o tells why r e

config_schema_comes : (contents : List ℕ → Told) (x y : ℕ) (command : Command) (got text : List ℕ) (s : Status) (o : Outside) → contents (schema_name command) ≡ content text → IsRefusedSchema text
    → ConfigEnds contents x y command got s o → Refuses x y (code_of s) o
config_schema_comes contents x y command got text s o tells why (configured config said e) = rest_schema_comes contents x y command config text s o tells why e
config_schema_comes contents x y command got text s o tells why (faulty fault first none rows e) = line_refuses x y (fault_line fault) s o e
config_schema_comes contents x y command got text s o tells why (unparsed memory same kept) = inr (inr (inr (ap code_of memory)))

command_schema_comes : (contents : List ℕ → Told) (x y : ℕ) (command : Command) (text : List ℕ) (s : Status) (o : Outside) → contents (schema_name command) ≡ content text → IsRefusedSchema text
    → CommandEnds contents x y command s o → Refuses x y (code_of s) o
command_schema_comes contents x y command text s o tells why (unread kept e) = unread_refuses x y s o e
command_schema_comes contents x y command text s o tells why (long c rows e) = line_refuses x y config_too_long s o e
command_schema_comes contents x y command text s o tells why (read got c e) = config_schema_comes contents x y command got text s o tells why e

pub schema_refuses : (words : List (List ℕ)) (contents : List ℕ → Told) (x y number : ℕ) (o : Outside) → Returns words contents x y number o
    → (command : Command) (text : List ℕ) → command_of words ≡ Some command → contents (schema_name command) ≡ content text → IsRefusedSchema text → Refuses x y number o
schema_refuses words contents x y number o r command text named tells is =
    subst (λ n. Refuses x y n o) (sym r.is) (command_schema_comes contents x y command text r.status o tells is (subst (λ c. WordsEnd c contents x y r.status o) named r.ends))

-- status 0
-- a text of one client's single statements is not played as sessions
no_sessions : (told : Told) (command : Command) (config : Config) (tables : List TableDef) (script : Option (List ℕ)) (lines : List Line) (text : List ℕ) → is_plain command ≡ true → (one : SaysOneClient told text) → TakesNone tables one.lines → script ≡ Some text → IsSeveral command config script lines
    → ((found : List Line) → IsBuilt command config tables script found → ⊥) → ⊥
no_sessions told command config tables script lines text plain one takes tells b none =
    let same : b.reads.text ≡ text = (let e : Some b.reads.text ≡ Some text = sym b.reads.is ∙ tells in cc) in
    none one.lines (record {
      plain = plain;
      some_backend = b.some_backend;
      few_backends = b.few_backends;
      reads = record { text = text; is = tells; few = subst (λ t. lines_in t ≤ 20000) same b.reads.few; says = one.says };
      session = one.session;
      single = one.single;
      takes_none = takes;
    })

done_texts : (told : Told) (command : Command) (config : Config) (tables : List TableDef) (script : Option (List ℕ)) (text : List ℕ) (s : Status) (o : Outside) → is_plain command ≡ true → (one : SaysOneClient told text) → TakesNone tables one.lines → s ≡ Done → script ≡ Some text → TextsEnds command config tables script s o → PlayedOver config tables text o
done_texts told command config tables script text s o plain one takes is tells (refused bytes why rows f) = absurd (subst (λ s. RefusedEnds ScriptRefused bytes s o) is f)
done_texts told command config tables script text s o plain one takes is tells (built lines b f) =
    let ends : ScriptEnds (length config.nodes) tables lines Done o = subst (λ s. ScriptEnds (length config.nodes) tables lines s o) is f in
    let same : b.reads.text ≡ text = (let e : Some b.reads.text ≡ Some text = sym b.reads.is ∙ tells in cc) in
    record { lines = lines; says = subst (λ t. IsScript t lines) same b.reads.says; one = b.session; some = b.some_backend; left = ends.0; wrote = ends.1; rows = ends.2 }
done_texts told command config tables script text s o plain one takes is tells (several lines b none f) = absurd (no_sessions told command config tables script lines text plain one takes tells b none)
done_texts told command config tables script text s o plain one takes is tells (unbuilt stands none others kept f) = absurd (subst (λ s. UnbuiltEnds s o) is f)
done_texts told command config tables script text s o plain one takes is tells (unchecked memory same kept) = let never : Done ≡ NoMemory = sym is ∙ memory in absurd (cc)

read_some : (told : Told) (limit : ℕ) (got : Option (List ℕ)) (text : List ℕ) → told ≡ content text → (got ≡ None → ⊥) → IsRead told limit got → got ≡ Some text
read_some told limit None text is some r = absurd (some refl)
read_some told limit (Some bytes) text is some r = ap Some (subst (λ t. IsTold t bytes) is r.0)

some_script : (command : Command) (config : Config) (tables : List TableDef) (script : Option (List ℕ)) (s : Status) (o : Outside) → s ≡ Done → TextsEnds command config tables script s o → script ≡ None → ⊥
some_script command config tables script s o is (refused bytes why rows f) none = subst (λ s. RefusedEnds ScriptRefused bytes s o) is f
some_script command config tables script s o is (built lines b f) none = let never : None ≡ Some b.reads.text = sym none ∙ b.reads.is in absurd (cc)
some_script command config tables script s o is (several lines b nothing f) none = let never : None ≡ Some b.reads.text = sym none ∙ b.reads.is in absurd (cc)
some_script command config tables script s o is (unbuilt stands nothing others kept f) none = subst (λ s. UnbuiltEnds s o) is f
some_script command config tables script s o is (unchecked memory same kept) none = let never : Done ≡ NoMemory = sym is ∙ memory in absurd (cc)

-- the command plays a script of that name
done_script : (contents : List ℕ → Told) (x y : ℕ) (a b c : List ℕ) (config : Config) (tables : List TableDef) (text : List ℕ) (s : Status) (o : Outside) → (one : SaysOneClient (contents b) text) → TakesNone tables one.lines → s ≡ Done → contents c ≡ content text
    → ScriptStageEnds contents x y (Play a b c false) config tables s o → PlayedOver config tables text o
done_script contents x y a b c config tables text s o one takes is tells (script_unread kept e) = absurd (subst (λ s. UnreadEnds x y s o) is e)
done_script contents x y a b c config tables text s o one takes is tells (script_read script e f) =
    done_texts (contents b) (Play a b c false) config tables script text s o refl one takes is (read_some (contents c) 4194304 script text tells (some_script (Play a b c false) config tables script s o is f) e) f

-- over the tables of the schema
record Tabled (schema_told : Told) (config : Config) (text : List ℕ) (o : Outside) : Type 0 where
  schema_text : List ℕ
  tells_schema : IsTold schema_told schema_text
  tables : List TableDef
  says_tables : Says schema_text tables
  over : PlayedOver config tables text o

done_schema : (contents : List ℕ → Told) (x y : ℕ) (a b c : List ℕ) (config : Config) (schema : Option (List ℕ)) (text : List ℕ) (s : Status) (o : Outside) → SaysOneClient (contents b) text → s ≡ Done → contents c ≡ content text
    → IsRead (contents b) 262144 schema → SchemaEnds contents x y (Play a b c false) config schema s o → Tabled (contents b) config text o
done_schema contents x y a b c config schema text s o one is tells was (schema_stands tables says e) = record {
  schema_text = says.text;
  tells_schema = (subst (IsRead (contents b) 262144) says.is was).0;
  tables = tables;
  says_tables = says.says;
  over = done_script contents x y a b c config tables text s o one (one.takes_none says.text tables (subst (IsRead (contents b) 262144) says.is was).0 says.says) is tells e;
}
done_schema contents x y a b c config schema text s o one is tells was (schema_refused bytes why rows e) = absurd (subst (λ s. RefusedEnds Refused bytes s o) is e)
done_schema contents x y a b c config schema text s o one is tells was (schema_unparsed memory same kept) = let never : Done ≡ NoMemory = sym is ∙ memory in absurd (cc)

done_rest : (contents : List ℕ → Told) (x y : ℕ) (a b c : List ℕ) (config : Config) (text : List ℕ) (s : Status) (o : Outside) → SaysOneClient (contents b) text → s ≡ Done → contents c ≡ content text
    → RestEnds contents x y (Play a b c false) config s o → Tabled (contents b) config text o
done_rest contents x y a b c config text s o one is tells (schema_unread kept e) = absurd (subst (λ s. UnreadEnds x y s o) is e)
done_rest contents x y a b c config text s o one is tells (schema_read schema d e) = done_schema contents x y a b c config schema text s o one is tells d e

played_so : (config_told schema_told : Told) (got : List ℕ) (config : Config) (text : List ℕ) (o : Outside) → IsTold config_told got → IsConfiguration got config → Tabled schema_told config text o → Played config_told schema_told text o
played_so config_told schema_told got config text o told said t = record {
  config_text = got;
  tells = told;
  config = config;
  configured = said;
  schema_text = t.schema_text;
  tells_schema = t.tells_schema;
  tables = t.tables;
  says_tables = t.says_tables;
  over = t.over;
}

done_config : (contents : List ℕ → Told) (x y : ℕ) (a b c : List ℕ) (got text : List ℕ) (s : Status) (o : Outside) → SaysOneClient (contents b) text → s ≡ Done → contents c ≡ content text → IsTold (contents a) got
    → ConfigEnds contents x y (Play a b c false) got s o → Played (contents a) (contents b) text o
done_config contents x y a b c got text s o one is tells read_so (configured config said e) =
    played_so (contents a) (contents b) got config text o read_so said (done_rest contents x y a b c config text s o one is tells e)
done_config contents x y a b c got text s o one is tells read_so (faulty fault first none rows e) = absurd (subst (λ s. RefusedEnds Refused (fault_line fault) s o) is e)
done_config contents x y a b c got text s o one is tells read_so (unparsed memory same kept) = let never : Done ≡ NoMemory = sym is ∙ memory in absurd (cc)

done_command : (contents : List ℕ → Told) (x y : ℕ) (a b c : List ℕ) (text : List ℕ) (s : Status) (o : Outside) → SaysOneClient (contents b) text → s ≡ Done → contents c ≡ content text
    → CommandEnds contents x y (Play a b c false) s o → Played (contents a) (contents b) text o
done_command contents x y a b c text s o one is tells (unread kept e) = absurd (subst (λ s. UnreadEnds x y s o) is e)
done_command contents x y a b c text s o one is tells (long d rows e) = absurd (subst (λ s. RefusedEnds Refused config_too_long s o) is e)
done_command contents x y a b c text s o one is tells (read got d e) = done_config contents x y a b c got text s o one is tells d.0 e

pub played : (words : List (List ℕ)) (contents : List ℕ → Told) (x y number : ℕ) (o : Outside) → Returns words contents x y number o → number ≡ 0
    → (config schema script text : List ℕ) → command_of words ≡ Some (Play config schema script false) → contents script ≡ content text → SaysOneClient (contents schema) text → Played (contents config) (contents schema) text o
played words contents x y number o r zero_is config schema script text is tells one =
    done_command contents x y config schema script text r.status o one (is_done r.status (sym r.is ∙ zero_is)) tells (subst (λ c. WordsEnd c contents x y r.status o) is r.ends)
