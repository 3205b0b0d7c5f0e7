-- What each stage says of the end of the run.
use Rattle.std.proofs.Common.{◌≡◌, ◌≢◌, ℕ, ◌<◌, ◌≤◌, length, true, List, [], refl, sym, subst, inl}
use Rattle.std.specs.Prelude.{◌⊎◌, Option, Some, Err}
use Rattle.pool_base.specs.Outside.{Appends}
use Rattle.pool_base.proofs.Sinking.{rose_after, front_nothing}
use Rattle.backend_trait.specs.Rows.{Rows}
use Rattle.backend_trait.specs.Store.{Store}
use Rattle.pgproto.specs.Line.{Line}
use Rattle.play.specs.Script.{IsSession, first_scene}
use Rattle.play.specs.Transcript.{ArePlayedInPart, none_beyond}
use Rattle.pool_run.specs.declared.status.Status.{Status}
use Rattle.pool_run.specs.declared.status.Status.TheVariants.{Done, NoCommand, Refused, ScriptRefused, FilesFailed, SinkFailed, NoMemory, NotBuilt, Stopped, NoneLeft}
use Rattle.pool_base.specs.Outside.{Told}
use Rattle.pool_command.specs.declared.command.Command.{Command}
use Rattle.pool_config.specs.declared.config.Config.{Config}
use Rattle.pool_config.specs.declared.fault.ConfigFault.{ConfigFault}
use Rattle.pool_config.specs.declared.fault.ConfigFault.TheVariants as faults
use Rattle.pool_config.specs.Configuration.{IsConfiguration, IsAnswer}
use Rattle.pool_config.specs.Configuration as configuration
use Rattle.pool_run.specs.Scripts.{IsReadAs}
use Rattle.schema.specs.declared.catalogue.TableDef.{TableDef}
use Rattle.pool_run.specs.declared.schemas.SchemaStop.{SchemaStop}
use Rattle.pool_run.specs.declared.schemas.SchemaStop.TheVariants as schemas
use Rattle.pool_run.specs.Schemas.{IsSchemaAnswer, schema_too_long, bad_schema_line}
use Rattle.pool_run.specs.Texts.{IsBuilt, IsSeveral, IsRead, config_name, schema_name, is_plain, is_play}
use Rattle.pool_run.specs.Ways.{AreSingle}
use Rattle.pool_run.specs.Reading.{IsFault}
use Rattle.pool_run.specs.Ends.{Outside, outside, Says, IsSchemaRefusal, NoCommandEnds, RefusedEnds, UnbuiltEnds, UnreadEnds, ScriptEnds, no_command, not_built, fault_line}
use Rattle.pool_run.specs.Ends.{ScriptStageEnds, script_unread, script_read, SchemaEnds, schema_stands, schema_refused, schema_unparsed, RestEnds, schema_unread, schema_read, ConfigEnds, configured, faulty, unparsed, CommandEnds, read}

pub said : (s : Status) (bytes : List ℕ) (a b : Option (List ℕ)) (n m : ℕ) → s ≢ SinkFailed → Appends a b bytes → Says s s bytes a b n m
said Done bytes a b n m other p = (refl, p)
said NoCommand bytes a b n m other p = (refl, p)
said Refused bytes a b n m other p = (refl, p)
said ScriptRefused bytes a b n m other p = (refl, p)
said FilesFailed bytes a b n m other p = (refl, p)
said SinkFailed bytes a b n m other p = absurd (other refl)
said NoMemory bytes a b n m other p = (refl, p)
said NotBuilt bytes a b n m other p = (refl, p)
said Stopped bytes a b n m other p = (refl, p)
said NoneLeft bytes a b n m other p = (refl, p)

pub said_no_command : (s : Status) (a b : Option (List ℕ)) (n m : ℕ) (x y : List Store) → Says NoCommand s no_command a b n m → NoCommandEnds s (outside n m a b x y)
said_no_command Done a b n m x y p = let e : NoCommand ≡ Done = p.0 in absurd (cc)
said_no_command NoCommand a b n m x y p = p.1
said_no_command Refused a b n m x y p = let e : NoCommand ≡ Refused = p.0 in absurd (cc)
said_no_command ScriptRefused a b n m x y p = let e : NoCommand ≡ ScriptRefused = p.0 in absurd (cc)
said_no_command FilesFailed a b n m x y p = let e : NoCommand ≡ FilesFailed = p.0 in absurd (cc)
said_no_command SinkFailed a b n m x y p = p
said_no_command NoMemory a b n m x y p = let e : NoCommand ≡ NoMemory = p.0 in absurd (cc)
said_no_command NotBuilt a b n m x y p = let e : NoCommand ≡ NotBuilt = p.0 in absurd (cc)
said_no_command Stopped a b n m x y p = let e : NoCommand ≡ Stopped = p.0 in absurd (cc)
said_no_command NoneLeft a b n m x y p = let e : NoCommand ≡ NoneLeft = p.0 in absurd (cc)

pub said_unbuilt : (s : Status) (a b : Option (List ℕ)) (n m : ℕ) (x y : List Store) → Says NotBuilt s not_built a b n m → UnbuiltEnds s (outside n m a b x y)
said_unbuilt Done a b n m x y p = let e : NotBuilt ≡ Done = p.0 in absurd (cc)
said_unbuilt NoCommand a b n m x y p = let e : NotBuilt ≡ NoCommand = p.0 in absurd (cc)
said_unbuilt Refused a b n m x y p = let e : NotBuilt ≡ Refused = p.0 in absurd (cc)
said_unbuilt ScriptRefused a b n m x y p = let e : NotBuilt ≡ ScriptRefused = p.0 in absurd (cc)
said_unbuilt FilesFailed a b n m x y p = let e : NotBuilt ≡ FilesFailed = p.0 in absurd (cc)
said_unbuilt SinkFailed a b n m x y p = p
said_unbuilt NoMemory a b n m x y p = let e : NotBuilt ≡ NoMemory = p.0 in absurd (cc)
said_unbuilt NotBuilt a b n m x y p = p.1
said_unbuilt Stopped a b n m x y p = let e : NotBuilt ≡ Stopped = p.0 in absurd (cc)
said_unbuilt NoneLeft a b n m x y p = let e : NotBuilt ≡ NoneLeft = p.0 in absurd (cc)

pub said_refused : (s : Status) (bytes : List ℕ) (a b : Option (List ℕ)) (n m : ℕ) (x y : List Store) → Says Refused s bytes a b n m → RefusedEnds Refused bytes s (outside n m a b x y)
said_refused Done bytes a b n m x y p = let e : Refused ≡ Done = p.0 in absurd (cc)
said_refused NoCommand bytes a b n m x y p = let e : Refused ≡ NoCommand = p.0 in absurd (cc)
said_refused Refused bytes a b n m x y p = p
said_refused ScriptRefused bytes a b n m x y p = let e : Refused ≡ ScriptRefused = p.0 in absurd (cc)
said_refused FilesFailed bytes a b n m x y p = let e : Refused ≡ FilesFailed = p.0 in absurd (cc)
said_refused SinkFailed bytes a b n m x y p = p
said_refused NoMemory bytes a b n m x y p = let e : Refused ≡ NoMemory = p.0 in absurd (cc)
said_refused NotBuilt bytes a b n m x y p = let e : Refused ≡ NotBuilt = p.0 in absurd (cc)
said_refused Stopped bytes a b n m x y p = let e : Refused ≡ Stopped = p.0 in absurd (cc)
said_refused NoneLeft bytes a b n m x y p = let e : Refused ≡ NoneLeft = p.0 in absurd (cc)

pub said_script_refused : (s : Status) (bytes : List ℕ) (a b : Option (List ℕ)) (n m : ℕ) (x y : List Store) → Says ScriptRefused s bytes a b n m → RefusedEnds ScriptRefused bytes s (outside n m a b x y)
said_script_refused Done bytes a b n m x y p = let e : ScriptRefused ≡ Done = p.0 in absurd (cc)
said_script_refused NoCommand bytes a b n m x y p = let e : ScriptRefused ≡ NoCommand = p.0 in absurd (cc)
said_script_refused Refused bytes a b n m x y p = let e : ScriptRefused ≡ Refused = p.0 in absurd (cc)
said_script_refused ScriptRefused bytes a b n m x y p = p
said_script_refused FilesFailed bytes a b n m x y p = let e : ScriptRefused ≡ FilesFailed = p.0 in absurd (cc)
said_script_refused SinkFailed bytes a b n m x y p = p
said_script_refused NoMemory bytes a b n m x y p = let e : ScriptRefused ≡ NoMemory = p.0 in absurd (cc)
said_script_refused NotBuilt bytes a b n m x y p = let e : ScriptRefused ≡ NotBuilt = p.0 in absurd (cc)
said_script_refused Stopped bytes a b n m x y p = let e : ScriptRefused ≡ Stopped = p.0 in absurd (cc)
said_script_refused NoneLeft bytes a b n m x y p = let e : ScriptRefused ≡ NoneLeft = p.0 in absurd (cc)

pub fault_after : (s : Status) (a b c : ℕ) → a ≤ b → IsFault b c s → IsFault a c s
fault_after Done a b c h p = p
fault_after NoCommand a b c h p = p
fault_after Refused a b c h p = p
fault_after ScriptRefused a b c h p = p
fault_after FilesFailed a b c h p = rose_after a b c h p
fault_after SinkFailed a b c h p = p
fault_after NoMemory a b c h p = tt
fault_after NotBuilt a b c h p = p
fault_after Stopped a b c h p = p
fault_after NoneLeft a b c h p = p

unread_after : (s : Status) (a b c : ℕ) (o : Outside) → a ≤ b → UnreadEnds b c s o → UnreadEnds a c s o
unread_after Done a b c o h p = p
unread_after NoCommand a b c o h p = p
unread_after Refused a b c o h p = p
unread_after ScriptRefused a b c o h p = p
unread_after FilesFailed a b c o h p = (rose_after a b c h p.0, p.1)
unread_after SinkFailed a b c o h p = p
unread_after NoMemory a b c o h p = p
unread_after NotBuilt a b c o h p = p
unread_after Stopped a b c o h p = p
unread_after NoneLeft a b c o h p = p

-- the same of an earlier count
script_after : (contents : List ℕ → Told) (a b c : ℕ) (command : Command) (config : Config) (tables : List TableDef) (s : Status) (o : Outside) → a ≤ b
    → ScriptStageEnds contents b c command config tables s o → ScriptStageEnds contents a c command config tables s o
script_after contents a b c command config tables s o h (script_unread kept e) = script_unread kept (unread_after s a b c o h e)
script_after contents a b c command config tables s o h (script_read script e f) = script_read script e f

schema_after : (contents : List ℕ → Told) (a b c : ℕ) (command : Command) (config : Config) (schema : Option (List ℕ)) (s : Status) (o : Outside) → a ≤ b
    → SchemaEnds contents b c command config schema s o → SchemaEnds contents a c command config schema s o
schema_after contents a b c command config schema s o h (schema_stands tables says e) = schema_stands tables says (script_after contents a b c command config tables s o h e)
schema_after contents a b c command config schema s o h (schema_refused bytes why rows e) = schema_refused bytes why rows e
schema_after contents a b c command config schema s o h (schema_unparsed memory same kept) = schema_unparsed memory same kept

rest_after : (contents : List ℕ → Told) (a b c : ℕ) (command : Command) (config : Config) (s : Status) (o : Outside) → a ≤ b
    → RestEnds contents b c command config s o → RestEnds contents a c command config s o
rest_after contents a b c command config s o h (schema_unread kept e) = schema_unread kept (unread_after s a b c o h e)
rest_after contents a b c command config s o h (schema_read schema d e) = schema_read schema d (schema_after contents a b c command config schema s o h e)

config_after : (contents : List ℕ → Told) (a b c : ℕ) (command : Command) (text : List ℕ) (s : Status) (o : Outside) → a ≤ b
    → ConfigEnds contents b c command text s o → ConfigEnds contents a c command text s o
config_after contents a b c command text s o h (configured config is e) = configured config is (rest_after contents a b c command config s o h e)
config_after contents a b c command text s o h (faulty fault is none rows e) = faulty fault is none rows e
config_after contents a b c command text s o h (unparsed memory same kept) = unparsed memory same kept

-- the files tell the same after the configuration was read
pub config_read : (contents later : List ℕ → Told) (a b c : ℕ) (command : Command) (text : List ℕ) (s : Status) (o : Outside) → later ≡ contents → a ≤ b
    → IsRead (contents (config_name command)) 65536 (Some text) → ConfigEnds later b c command text s o → CommandEnds contents a c command s o
config_read contents later a b c command text s o same h is e =
    read text is (config_after contents a b c command text s o h (subst (λ k. ConfigEnds k b c command text s o) same e))

-- the files tell the same after the schema was read
pub rest_read : (contents later : List ℕ → Told) (a b c : ℕ) (command : Command) (config : Config) (schema : Option (List ℕ)) (s : Status) (o : Outside) → later ≡ contents → a ≤ b
    → IsRead (contents (schema_name command)) 262144 schema → SchemaEnds later b c command config schema s o → RestEnds contents a c command config s o
rest_read contents later a b c command config schema s o same h is e =
    schema_read schema is (schema_after contents a b c command config schema s o h (subst (λ k. SchemaEnds k b c command config schema s o) same e))

-- the configuration's text has a fault, or memory was refused while it was read
pub config_fault : (fault : ConfigFault) (contents : List ℕ → Told) (before : ℕ) (command : Command) (text : List ℕ) (s : Status) (o : Outside) → configuration.Says text (Err fault)
    → ((config : Config) → IsConfiguration text config → IsAnswer config (Err fault)) → o.stores_after ≡ o.stores_before
    → (fault ≡ faults.NoMemory → (s ≡ NoMemory) × (o.has ≡ o.had)) → (fault ≢ faults.NoMemory → RefusedEnds Refused (fault_line fault) s o) → ConfigEnds contents before before command text s o
config_fault faults.NoMemory contents before command text s o says found rows memory refuses = let m = memory refl in unparsed m.0 m.1 rows
config_fault (faults.BadLine n) contents before command text s o says found rows memory refuses =
    faulty (faults.BadLine n) says (λ config is. let e : faults.BadLine n ≡ faults.NoMemory = found config is in absurd (cc)) rows (refuses (λ e. absurd (cc)))
config_fault (faults.UnknownName n) contents before command text s o says found rows memory refuses =
    faulty (faults.UnknownName n) says (λ config is. let e : faults.UnknownName n ≡ faults.NoMemory = found config is in absurd (cc)) rows (refuses (λ e. absurd (cc)))
config_fault (faults.WrongMode n) contents before command text s o says found rows memory refuses =
    faulty (faults.WrongMode n) says (λ config is. let e : faults.WrongMode n ≡ faults.NoMemory = found config is in absurd (cc)) rows (refuses (λ e. absurd (cc)))
config_fault (faults.Missing name) contents before command text s o says found rows memory refuses =
    faulty (faults.Missing name) says (λ config is. let e : faults.Missing name ≡ faults.NoMemory = found config is in absurd (cc)) rows (refuses (λ e. absurd (cc)))

-- the schema is refused, or memory was refused while it was read
pub schema_stop : (stop : SchemaStop) (contents : List ℕ → Told) (before : ℕ) (command : Command) (config : Config) (schema : Option (List ℕ)) (s : Status) (o : Outside) → IsSchemaAnswer schema (Err stop) → o.stores_after ≡ o.stores_before
    → IsSchemaRefusal stop s o → SchemaEnds contents before before command config schema s o
schema_stop schemas.TooLong contents before command config schema s o why rows e = schema_refused schema_too_long why rows e
schema_stop (schemas.BadLine n) contents before command config schema s o why rows e = schema_refused (bad_schema_line n) why rows e
schema_stop schemas.NoMemory contents before command config schema s o why rows (memory, same) = schema_unparsed memory same rows

-- nothing was played
pub none_played : (tables : List TableDef) (lines : List Line) (rows : Rows) (a : Option (List ℕ)) → ArePlayedInPart tables lines rows a a
none_played tables lines rows a = record {
  front = [];
  rest = lines;
  all = refl;
  deeds = [];
  done = tt;
  bytes = [];
  last = first_scene rows;
  parts = (refl, refl);
  beyond = [];
  is_beyond = none_beyond refl;
  wrote = front_nothing a [];
}

-- how a script ends says nothing of the stores before
pub ends_from : (count : ℕ) (tables : List TableDef) (lines : List Line) (s : Status) (n m : ℕ) (a b : Option (List ℕ)) (x y z : List Store) → ScriptEnds count tables lines s (outside n m a b x z)
    → ScriptEnds count tables lines s (outside n m a b y z)
ends_from count tables lines Done n m a b x y z p = p
ends_from count tables lines NoCommand n m a b x y z p = p
ends_from count tables lines Refused n m a b x y z p = p
ends_from count tables lines ScriptRefused n m a b x y z p = p
ends_from count tables lines FilesFailed n m a b x y z p = p
ends_from count tables lines SinkFailed n m a b x y z p = p
ends_from count tables lines NoMemory n m a b x y z p = p
ends_from count tables lines NotBuilt n m a b x y z p = p
ends_from count tables lines Stopped n m a b x y z p = p
ends_from count tables lines NoneLeft n m a b x y z p = p

-- nothing was written
pub unwritten : (o : Outside) (P : Type 0) → o.has ≡ o.had → (o.has ≡ o.had) ⊎ P
unwritten o P same = inl same
