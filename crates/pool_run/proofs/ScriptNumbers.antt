-- What the number 3 says, and what a refused script comes to.
use Rattle.std.proofs.Common.{◌≡◌, ◌⊎◌, ◌≤◌, ◌<◌, ℕ, Bool, List, length, refl, sym, subst, ap, ◌∙◌, inl, inr, arith}
use Rattle.std.specs.Prelude.{Option, Some, None}
use Rattle.pool_base.specs.Outside.{Rose, Told, content, IsTold, IsLonger}
use Rattle.pgproto.specs.Line.{Line}
use Rattle.pgproto.specs.Script.{IsScript}
use Rattle.pool_command.specs.Command.{command_of}
use Rattle.pool_command.specs.declared.command.Command.{Command}
use Rattle.pool_command.specs.declared.command.Command.TheVariants.{Play}
use Rattle.pool_config.specs.declared.config.Config.{Config}
use Rattle.schema.specs.declared.catalogue.TableDef.{TableDef}
use Rattle.pool_run.specs.Status.{code_of}
use Rattle.pool_run.specs.declared.status.Status.{Status}
use Rattle.pool_run.specs.declared.status.Status.TheVariants.{Done, NoCommand, Refused, ScriptRefused, FilesFailed, SinkFailed, NoMemory, NotBuilt, Stopped, NoneLeft}
use Rattle.pool_run.specs.Scripts.{ScriptCause, long_text, many_lines, has_bad_line, without, with, IsReadAs, IsRefusedScript, SaysNoScript, lines_in}
use Rattle.pool_run.specs.Texts.{IsRead, IsScriptRead, keeps_journal}
use Rattle.pool_run.specs.Ends.{Outside, NoCommandEnds, RefusedEnds, UnreadEnds, UnbuiltEnds, ScriptEnds, SeveralEnds, TextsEnds, refused, built, several, unbuilt, unchecked, ScriptStageEnds, script_unread, script_read, SchemaEnds, schema_stands, schema_refused, schema_unparsed, RestEnds, schema_unread, schema_read}
use Rattle.pool_run.specs.Ends.{ConfigEnds, configured, faulty, unparsed, CommandEnds, unread, long, read, WordsEnd, Returns, ScriptIsRefused, config_too_long, fault_line}
use Rattle.pool_run.proofs.Numbers.{is_script_refused}

-- ---- status 3 comes with its cause
texts_refused : (words : List (List ℕ)) (contents : List ℕ → Told) (command : Command) (config : Config) (tables : List TableDef) (script : Option (List ℕ)) (s : Status) (o : Outside) → command_of words ≡ Some command → s ≡ ScriptRefused
    → IsScriptRead contents command script → TextsEnds command config tables script s o → ScriptIsRefused words contents o
texts_refused words contents command config tables script s o named is r (refused bytes why rows f) =
    record { command = command; is = named; script = script; read = r; bytes = bytes; cause = why; wrote = (subst (λ s. RefusedEnds ScriptRefused bytes s o) is f).1; rows = rows }
texts_refused words contents command config tables script s o named is r (built lines b f) = absurd (subst (λ s. ScriptEnds (length config.nodes) tables lines s o) is f)
texts_refused words contents command config tables script s o named is r (several lines b none f) = absurd (subst (λ s. SeveralEnds (keeps_journal command) config tables lines s o) is f)
texts_refused words contents command config tables script s o named is r (unbuilt stands none others kept f) = absurd (subst (λ s. UnbuiltEnds s o) is f)
texts_refused words contents command config tables script s o named is r (unchecked memory same kept) = let never : ScriptRefused ≡ NoMemory = sym is ∙ memory in absurd (cc)

-- a configuration or a schema that is refused has another number
not_config : (bytes : List ℕ) (s : Status) (o : Outside) → s ≡ ScriptRefused → RefusedEnds Refused bytes s o → ⊥
not_config bytes s o is e = let never : Refused ≡ ScriptRefused = (subst (λ s. RefusedEnds Refused bytes s o) is e).0 in absurd (cc)

script_refused : (words : List (List ℕ)) (contents : List ℕ → Told) (x y : ℕ) (command : Command) (config : Config) (tables : List TableDef) (s : Status) (o : Outside) → command_of words ≡ Some command → s ≡ ScriptRefused
    → ScriptStageEnds contents x y command config tables s o → ScriptIsRefused words contents o
script_refused words contents x y command config tables s o named is (script_unread kept e) = absurd (subst (λ s. UnreadEnds x y s o) is e)
script_refused words contents x y command config tables s o named is (script_read script r f) = texts_refused words contents command config tables script s o named is r f

schema_stage_refused : (words : List (List ℕ)) (contents : List ℕ → Told) (x y : ℕ) (command : Command) (config : Config) (schema : Option (List ℕ)) (s : Status) (o : Outside) → command_of words ≡ Some command → s ≡ ScriptRefused
    → SchemaEnds contents x y command config schema s o → ScriptIsRefused words contents o
schema_stage_refused words contents x y command config schema s o named is (schema_stands tables says e) = script_refused words contents x y command config tables s o named is e
schema_stage_refused words contents x y command config schema s o named is (schema_refused bytes why rows e) = absurd (not_config bytes s o is e)
schema_stage_refused words contents x y command config schema s o named is (schema_unparsed memory same kept) = let never : ScriptRefused ≡ NoMemory = sym is ∙ memory in absurd (cc)

rest_refused : (words : List (List ℕ)) (contents : List ℕ → Told) (x y : ℕ) (command : Command) (config : Config) (s : Status) (o : Outside) → command_of words ≡ Some command → s ≡ ScriptRefused
    → RestEnds contents x y command config s o → ScriptIsRefused words contents o
rest_refused words contents x y command config s o named is (schema_unread kept e) = absurd (subst (λ s. UnreadEnds x y s o) is e)
rest_refused words contents x y command config s o named is (schema_read schema d e) = schema_stage_refused words contents x y command config schema s o named is e

config_refused : (words : List (List ℕ)) (contents : List ℕ → Told) (x y : ℕ) (command : Command) (text : List ℕ) (s : Status) (o : Outside) → command_of words ≡ Some command → s ≡ ScriptRefused
    → ConfigEnds contents x y command text s o → ScriptIsRefused words contents o
config_refused words contents x y command text s o named is (configured config said e) = rest_refused words contents x y command config s o named is e
config_refused words contents x y command text s o named is (faulty fault first none rows e) = absurd (not_config (fault_line fault) s o is e)
config_refused words contents x y command text s o named is (unparsed memory same kept) = let never : ScriptRefused ≡ NoMemory = sym is ∙ memory in absurd (cc)

command_refused : (words : List (List ℕ)) (contents : List ℕ → Told) (x y : ℕ) (command : Command) (s : Status) (o : Outside) → command_of words ≡ Some command → s ≡ ScriptRefused
    → CommandEnds contents x y command s o → ScriptIsRefused words contents o
command_refused words contents x y command s o named is (unread kept e) = absurd (subst (λ s. UnreadEnds x y s o) is e)
command_refused words contents x y command s o named is (long c rows e) = absurd (not_config config_too_long s o is e)
command_refused words contents x y command s o named is (read text c e) = config_refused words contents x y command text s o named is e

words_refused : (words : List (List ℕ)) (command : Option Command) (contents : List ℕ → Told) (x y : ℕ) (s : Status) (o : Outside) → command_of words ≡ command → s ≡ ScriptRefused
    → WordsEnd command contents x y s o → ScriptIsRefused words contents o
words_refused words None contents x y s o named is e = absurd (subst (λ s. NoCommandEnds s o) is e.1)
words_refused words (Some command) contents x y s o named is e = command_refused words contents x y command s o named is e

pub script_refused_is : (words : List (List ℕ)) (contents : List ℕ → Told) (x y number : ℕ) (o : Outside) → Returns words contents x y number o → number ≡ 3 → ScriptIsRefused words contents o
script_refused_is words contents x y number o r three = words_refused words (command_of words) contents x y r.status o refl (is_script_refused r.status (sym r.is ∙ three)) r.ends

-- ---- and only of a text that is refused
told_text : (told : Told) (limit : ℕ) (text got : List ℕ) → told ≡ content text → IsRead told limit (Some got) → got ≡ text
told_text told limit text got is r = subst (λ t. IsTold t got) is r.0

cause_text : (command : Command) (told : Told) (script : Option (List ℕ)) (bytes text : List ℕ) → told ≡ content text → IsRead told 4194304 script → ScriptCause command script bytes → IsRefusedScript text
cause_text command told script bytes text is r (long_text has none line) = inl (subst (λ t. IsLonger t 4194304) is (subst (IsRead told 4194304) none r))
cause_text command told script bytes text is r (many_lines got some many line) = inr (inl (subst (λ t. 20000 < lines_in t) (told_text told 4194304 text got is (subst (IsRead told 4194304) some r)) many))
cause_text command told script bytes text is r (has_bad_line got n some few first none line) = inr (inr (subst SaysNoScript (told_text told 4194304 text got is (subst (IsRead told 4194304) some r)) none))

pub script_refused_text : (words : List (List ℕ)) (contents : List ℕ → Told) (x y number : ℕ) (o : Outside) → Returns words contents x y number o → number ≡ 3
    → (config schema script text : List ℕ) (journal : Bool) → command_of words ≡ Some (Play config schema script journal) → contents script ≡ content text → IsRefusedScript text
script_refused_text words contents x y number o r three config schema script text journal named tells =
    let why = script_refused_is words contents x y number o r three in
    let same : why.command ≡ Play config schema script journal = (let e : Some why.command ≡ Some (Play config schema script journal) = sym why.is ∙ named in cc) in
    let got : IsScriptRead contents (Play config schema script journal) why.script = subst (λ c. IsScriptRead contents c why.script) same why.read in
    cause_text why.command (contents script) why.script why.bytes text tells got why.cause

-- ---- what a refused script comes to
abbrev pub RefusesScript : ℕ → ℕ → ℕ → Outside → Type 0
RefusesScript x y number o = (number ≡ 3) ⊎ ((number ≡ 2) ⊎ (((number ≡ 4) × Rose x y) ⊎ (((number ≡ 5) × Rose o.faults_before o.faults_after) ⊎ (number ≡ 7))))

unread_comes : (x y : ℕ) (s : Status) (o : Outside) → UnreadEnds x y s o → RefusesScript x y (code_of s) o
unread_comes x y Done o e = absurd e
unread_comes x y NoCommand o e = absurd e
unread_comes x y Refused o e = absurd e
unread_comes x y ScriptRefused o e = absurd e
unread_comes x y FilesFailed o e = inr (inr (inl (refl, e.0)))
unread_comes x y SinkFailed o e = absurd e
unread_comes x y NoMemory o e = inr (inr (inr (inr refl)))
unread_comes x y NotBuilt o e = absurd e
unread_comes x y Stopped o e = absurd e
unread_comes x y NoneLeft o e = absurd e

line_comes : (x y : ℕ) (wanted : Status) (bytes : List ℕ) (s : Status) (o : Outside) → RefusedEnds wanted bytes s o → RefusesScript x y (code_of s) o
line_comes x y wanted bytes Done o e = absurd e
line_comes x y wanted bytes NoCommand o e = absurd e
line_comes x y wanted bytes Refused o e = inr (inl refl)
line_comes x y wanted bytes ScriptRefused o e = inl refl
line_comes x y wanted bytes FilesFailed o e = absurd e
line_comes x y wanted bytes SinkFailed o e = inr (inr (inr (inl (refl, e.0))))
line_comes x y wanted bytes NoMemory o e = inr (inr (inr (inr refl)))
line_comes x y wanted bytes NotBuilt o e = absurd e
line_comes x y wanted bytes Stopped o e = absurd e
line_comes x y wanted bytes NoneLeft o e = absurd e

-- a text that is refused is read as no lines
none_read : (told : Told) (script : Option (List ℕ)) (text : List ℕ) (lines : List Line) → told ≡ content text → IsRefusedScript text → IsRead told 4194304 script → IsReadAs script lines → ⊥
none_read told script text lines is why r reads =
    let got : IsRead told 4194304 (Some reads.text) = subst (IsRead told 4194304) reads.is r in
    let same : reads.text ≡ text = told_text told 4194304 text reads.text is got in
    elim why as (λ w. ⊥) [
      | inl longer ↦ (let short : length text ≤ 4194304 = subst (λ t. length t ≤ 4194304) same got.1 in omega (arith, longer, short))
      | inr (inl many) ↦ (let few : lines_in text ≤ 20000 = subst (λ t. lines_in t ≤ 20000) same reads.few in omega (arith, many, few))
      | inr (inr none) ↦ none lines (subst (λ t. IsScript t lines) same reads.says)
    ]

texts_come : (x y : ℕ) (a b : List ℕ) (name : List ℕ) (journal : Bool) (told : Told) (config : Config) (tables : List TableDef) (script : Option (List ℕ)) (text : List ℕ) (s : Status) (o : Outside) → told ≡ content text → IsRefusedScript text → IsRead told 4194304 script
    → TextsEnds (Play a b name journal) config tables script s o → RefusesScript x y (code_of s) o
texts_come x y a b name journal told config tables script text s o is why r (refused bytes cause rows f) = line_comes x y ScriptRefused bytes s o f
texts_come x y a b name journal told config tables script text s o is why r (built lines t f) = absurd (none_read told script text lines is why r t.reads)
texts_come x y a b name journal told config tables script text s o is why r (several lines t none f) = absurd (none_read told script text lines is why r t.reads)
texts_come x y a b name journal told config tables script text s o is why r (unbuilt (without never) none others kept f) = absurd (cc)
texts_come x y a b name journal told config tables script text s o is why r (unbuilt (with lines reads) none others kept f) = absurd (none_read told script text lines is why r reads)
texts_come x y a b name journal told config tables script text s o is why r (unchecked memory same kept) = inr (inr (inr (inr (ap code_of memory))))

script_comes : (contents : List ℕ → Told) (x y : ℕ) (a b name : List ℕ) (journal : Bool) (config : Config) (tables : List TableDef) (text : List ℕ) (s : Status) (o : Outside) → contents name ≡ content text → IsRefusedScript text
    → ScriptStageEnds contents x y (Play a b name journal) config tables s o → RefusesScript x y (code_of s) o
script_comes contents x y a b name journal config tables text s o is why (script_unread kept e) = unread_comes x y s o e
script_comes contents x y a b name journal config tables text s o is why (script_read script r f) = texts_come x y a b name journal (contents name) config tables script text s o is why r f

schema_comes : (contents : List ℕ → Told) (x y : ℕ) (a b name : List ℕ) (journal : Bool) (config : Config) (schema : Option (List ℕ)) (text : List ℕ) (s : Status) (o : Outside) → contents name ≡ content text → IsRefusedScript text
    → SchemaEnds contents x y (Play a b name journal) config schema s o → RefusesScript x y (code_of s) o
schema_comes contents x y a b name journal config schema text s o is why (schema_stands tables says e) = script_comes contents x y a b name journal config tables text s o is why e
schema_comes contents x y a b name journal config schema text s o is why (schema_refused bytes cause rows e) = line_comes x y Refused bytes s o e
schema_comes contents x y a b name journal config schema text s o is why (schema_unparsed memory same kept) = inr (inr (inr (inr (ap code_of memory))))

rest_comes : (contents : List ℕ → Told) (x y : ℕ) (a b name : List ℕ) (journal : Bool) (config : Config) (text : List ℕ) (s : Status) (o : Outside) → contents name ≡ content text → IsRefusedScript text
    → RestEnds contents x y (Play a b name journal) config s o → RefusesScript x y (code_of s) o
rest_comes contents x y a b name journal config text s o is why (schema_unread kept e) = unread_comes x y s o e
rest_comes contents x y a b name journal config text s o is why (schema_read schema r e) = schema_comes contents x y a b name journal config schema text s o is why e

config_comes : (contents : List ℕ → Told) (x y : ℕ) (a b name : List ℕ) (journal : Bool) (got text : List ℕ) (s : Status) (o : Outside) → contents name ≡ content text → IsRefusedScript text
    → ConfigEnds contents x y (Play a b name journal) got s o → RefusesScript x y (code_of s) o
config_comes contents x y a b name journal got text s o is why (configured config said e) = rest_comes contents x y a b name journal config text s o is why e
config_comes contents x y a b name journal got text s o is why (faulty fault first none rows e) = line_comes x y Refused (fault_line fault) s o e
config_comes contents x y a b name journal got text s o is why (unparsed memory same kept) = inr (inr (inr (inr (ap code_of memory))))

command_comes : (contents : List ℕ → Told) (x y : ℕ) (a b name : List ℕ) (journal : Bool) (text : List ℕ) (s : Status) (o : Outside) → contents name ≡ content text → IsRefusedScript text
    → CommandEnds contents x y (Play a b name journal) s o → RefusesScript x y (code_of s) o
command_comes contents x y a b name journal text s o is why (unread kept e) = unread_comes x y s o e
command_comes contents x y a b name journal text s o is why (long c rows e) = line_comes x y Refused config_too_long s o e
command_comes contents x y a b name journal text s o is why (read got c e) = config_comes contents x y a b name journal got text s o is why e

pub script_refuses : (words : List (List ℕ)) (contents : List ℕ → Told) (x y number : ℕ) (o : Outside) → Returns words contents x y number o
    → (config schema script text : List ℕ) (journal : Bool) → command_of words ≡ Some (Play config schema script journal) → contents script ≡ content text → IsRefusedScript text → RefusesScript x y number o
script_refuses words contents x y number o r config schema script text journal named tells is =
    subst (λ n. RefusesScript x y n o) (sym r.is) (command_comes contents x y config schema script journal text r.status o tells is (subst (λ c. WordsEnd c contents x y r.status o) named r.ends))
