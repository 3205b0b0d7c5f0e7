-- Which statuses may come once a store was touched.
use Rattle.std.proofs.Common.{◌≡◌, ◌≢◌, ◌⊎◌, ℕ, Bool, List, length, refl, subst, ◌∙◌, inl, inr}
use Rattle.std.specs.Prelude.{Option, Some, None}
use Rattle.pgproto.specs.Line.{Line}
use Rattle.pool_base.specs.Outside.{Told}
use Rattle.pool_command.specs.declared.command.Command.{Command}
use Rattle.pool_command.specs.Command.{command_of}
use Rattle.pool_config.specs.declared.config.Config.{Config}
use Rattle.schema.specs.declared.catalogue.TableDef.{TableDef}
use Rattle.backend_trait.specs.Store.{Store}
use Rattle.pool_run.specs.Texts.{keeps_journal}
use Rattle.pool_run.specs.Status.{code_of}
use Rattle.pool_run.specs.declared.status.Status.{Status}
use Rattle.pool_run.specs.declared.status.Status.TheVariants.{Done, NoCommand, Refused, ScriptRefused, FilesFailed, SinkFailed, NoMemory, NotBuilt, Stopped, NoneLeft}
use Rattle.pool_run.specs.Ends.{Outside, outside, Untouched, ScriptEnds, SeveralEnds, TextsEnds, refused, built, several, unbuilt, unchecked, ScriptStageEnds, script_unread, script_read, SchemaEnds, schema_stands, schema_refused, schema_unparsed}
use Rattle.pool_run.specs.Ends.{RestEnds, schema_unread, schema_read, ConfigEnds, configured, faulty, unparsed, CommandEnds, unread, long, read, WordsEnd, Returns}

-- a script was played, to its end or in part
abbrev Touches : Status → Type 0
Touches s = (code_of s ≡ 0) ⊎ ((code_of s ≡ 5) ⊎ ((code_of s ≡ 7) ⊎ ((code_of s ≡ 10) ⊎ (code_of s ≡ 6))))

script_touches : (count : ℕ) (tables : List TableDef) (lines : List Line) (s : Status) (o : Outside) → ScriptEnds count tables lines s o → Touches s
script_touches count tables lines Done o e = inl refl
script_touches count tables lines SinkFailed o e = inr (inl refl)
script_touches count tables lines NoMemory o e = inr (inr (inl refl))
script_touches count tables lines NoCommand o e = absurd e
script_touches count tables lines Refused o e = absurd e
script_touches count tables lines ScriptRefused o e = absurd e
script_touches count tables lines FilesFailed o e = absurd e
script_touches count tables lines NotBuilt o e = absurd e
script_touches count tables lines Stopped o e = absurd e
script_touches count tables lines NoneLeft o e = absurd e

several_touches : (journal : Bool) (config : Config) (tables : List TableDef) (lines : List Line) (s : Status) (o : Outside) → SeveralEnds journal config tables lines s o → Touches s
several_touches journal config tables lines Done o e = inl refl
several_touches journal config tables lines SinkFailed o e = inr (inl refl)
several_touches journal config tables lines NoMemory o e = inr (inr (inl refl))
several_touches journal config tables lines Stopped o e = inr (inr (inr (inl refl)))
several_touches journal config tables lines NoneLeft o e = inr (inr (inr (inr refl)))
several_touches journal config tables lines NoCommand o e = absurd e
several_touches journal config tables lines Refused o e = absurd e
several_touches journal config tables lines ScriptRefused o e = absurd e
several_touches journal config tables lines FilesFailed o e = absurd e
several_touches journal config tables lines NotBuilt o e = absurd e

texts_touch : (command : Command) (config : Config) (tables : List TableDef) (script : Option (List ℕ)) (s : Status) (o : Outside) → TextsEnds command config tables script s o → Touches s ⊎ Untouched o
texts_touch command config tables script s o (refused bytes why kept f) = inr kept
texts_touch command config tables script s o (built lines b f) = inl (script_touches (length config.nodes) tables lines s o f)
texts_touch command config tables script s o (several lines b none f) = inl (several_touches (keeps_journal command) config tables lines s o f)
texts_touch command config tables script s o (unbuilt stands none others kept f) = inr kept
texts_touch command config tables script s o (unchecked memory same kept) = inr kept

script_stage_touches : (contents : List ℕ → Told) (x y : ℕ) (command : Command) (config : Config) (tables : List TableDef) (s : Status) (o : Outside) → ScriptStageEnds contents x y command config tables s o → Touches s ⊎ Untouched o
script_stage_touches contents x y command config tables s o (script_unread kept e) = inr kept
script_stage_touches contents x y command config tables s o (script_read script r e) = texts_touch command config tables script s o e

schema_touches : (contents : List ℕ → Told) (x y : ℕ) (command : Command) (config : Config) (schema : Option (List ℕ)) (s : Status) (o : Outside) → SchemaEnds contents x y command config schema s o → Touches s ⊎ Untouched o
schema_touches contents x y command config schema s o (schema_stands tables says e) = script_stage_touches contents x y command config tables s o e
schema_touches contents x y command config schema s o (schema_refused bytes why kept e) = inr kept
schema_touches contents x y command config schema s o (schema_unparsed memory same kept) = inr kept

rest_touches : (contents : List ℕ → Told) (x y : ℕ) (command : Command) (config : Config) (s : Status) (o : Outside) → RestEnds contents x y command config s o → Touches s ⊎ Untouched o
rest_touches contents x y command config s o (schema_unread kept e) = inr kept
rest_touches contents x y command config s o (schema_read schema r e) = schema_touches contents x y command config schema s o e

config_touches : (contents : List ℕ → Told) (x y : ℕ) (command : Command) (text : List ℕ) (s : Status) (o : Outside) → ConfigEnds contents x y command text s o → Touches s ⊎ Untouched o
config_touches contents x y command text s o (configured config said e) = rest_touches contents x y command config s o e
config_touches contents x y command text s o (faulty fault first none kept e) = inr kept
config_touches contents x y command text s o (unparsed memory same kept) = inr kept

command_touches : (contents : List ℕ → Told) (x y : ℕ) (command : Command) (s : Status) (o : Outside) → CommandEnds contents x y command s o → Touches s ⊎ Untouched o
command_touches contents x y command s o (unread kept e) = inr kept
command_touches contents x y command s o (long r kept e) = inr kept
command_touches contents x y command s o (read text r e) = config_touches contents x y command text s o e

words_touch : (command : Option Command) (contents : List ℕ → Told) (x y : ℕ) (s : Status) (o : Outside) → WordsEnd command contents x y s o → Touches s ⊎ Untouched o
words_touch None contents x y s o e = inr e.0
words_touch (Some command) contents x y s o e = command_touches contents x y command s o e

-- another number than 0, 5, 6, 7 and 10 tells that no store was touched
pub untouched : (words : List (List ℕ)) (contents : List ℕ → Told) (x y number : ℕ) (o : Outside) → Returns words contents x y number o → number ≢ 0 → number ≢ 5 → number ≢ 6 → number ≢ 7 → number ≢ 10 → Untouched o
untouched words contents x y number o r not_done not_sink not_none not_memory not_stopped =
    let why : Touches r.status ⊎ Untouched o = words_touch (command_of words) contents x y r.status o r.ends in
    elim why as (λ w. Untouched o) [
      | inl (inl done) ↦ absurd (not_done (r.is ∙ done))
      | inl (inr (inl sink)) ↦ absurd (not_sink (r.is ∙ sink))
      | inl (inr (inr (inl memory))) ↦ absurd (not_memory (r.is ∙ memory))
      | inl (inr (inr (inr (inl stopped)))) ↦ absurd (not_stopped (r.is ∙ stopped))
      | inl (inr (inr (inr (inr none)))) ↦ absurd (not_none (r.is ∙ none))
      | inr kept ↦ kept
    ]

-- a run over stores that are these
pub returns_over : (words : List (List ℕ)) (contents : List ℕ → Told) (x y number n m : ℕ) (a b : Option (List ℕ)) (stores these left : List Store) → stores ≡ these
    → Returns words contents x y number (outside n m a b stores left) → Returns words contents x y number (outside n m a b these left)
returns_over words contents x y number n m a b stores these left are r = subst (λ s. Returns words contents x y number (outside n m a b s left)) are r
