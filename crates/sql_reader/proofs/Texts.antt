-- The laws of texts by the lines of the grammar alone.
use Rattle.std.proofs.Common.{ℕ, List, Option, refl}
use Rattle.sql_tokens.specs.Reading.{Parse}
use Rattle.sql_tokens.proofs.Good.{Stops}
use Rattle.sql_tokens.specs.declared.token.Token.{Token}
use Rattle.sql_tree.specs.declared.statement.Statement.{Statement}
use Rattle.sql_reader.specs.Parts.{Listed}
use Rattle.sql_reader.specs.Steps.{made, maybe, listed}
use Rattle.sql_reader.specs.Words.{after_semicolon, semicolon_mark, after_verb}
use Rattle.sql_reader.specs.Grammar.{verb_token, BehindVerb, Bound}
use Rattle.sql_reader.specs.Reading.{verb_at}
use Rattle.sql_reader.proofs.Stage.{Stage, stage_made, stage_maybe, stage_listed}
use Rattle.sql_reader.proofs.Keyed.{semicolon_keyed}
use Rattle.sql_reader.proofs.Verbs.{verb_keyed, verb_stage}
use Rattle.sql_reader.specs.TextGrammar.{PartOf, written, TextOf}

abbrev pub part_at : ℕ → Parse Token (Option Statement)
part_at d = maybe after_verb (verb_at d)

abbrev pub texts_at : ℕ → Parse Token (List Statement)
texts_at d = made written (listed after_semicolon (part_at d))

abbrev pub EndsText : List Token → Type 0
EndsText = Stops (Stops Bound after_verb) after_semicolon

pub part_stage : Stage PartOf part_at (Stops Bound after_verb)
part_stage = stage_maybe after_verb verb_token (λ v d. BehindVerb d v) (λ v d. verb_at d v) Bound verb_keyed verb_stage

pub text_stage : Stage TextOf texts_at EndsText
text_stage = stage_made written (λ d. Listed semicolon_mark (PartOf d)) (λ d. listed after_semicolon (part_at d)) EndsText
    (stage_listed after_semicolon semicolon_mark PartOf part_at (Stops Bound after_verb) semicolon_keyed refl part_stage (λ m after. (tt, refl)))
