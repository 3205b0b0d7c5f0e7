-- What a statement gives, as it is told.
use Rattle.std.proofs.Common.{◌≡◌, List, ◌∷◌, [], ap, ◌∙◌, subst}
use Rattle.std.specs.Prelude.{Bool, true, Result, Ok, Err, IfOk, OnOk}
use Rattle.pool_base.specs.declared.no_memory.NoMemory.{NoMemory}
use Rattle.catalogue.specs.declared.checked.Checked.{Checked}
use Rattle.backend_trait.specs.declared.answer.Answer.{Answer}
use Rattle.backend_trait.specs.Alone.{IsEffect}
use Rattle.backend_trait.specs.Effect.{Given, Fails, Gives}
use Rattle.pg_messages.specs.declared.server.ServerMessage.{ServerMessage}
use Rattle.play.specs.Codes.{text_of_code}
use Rattle.play.specs.Replies.{AreAnswers, AreGiven, error_message}

pub given_told : (checked : Checked) (given : Given) (answer : Answer) (messages : List ServerMessage) → IsEffect given answer → AreAnswers checked answer messages → AreGiven checked given messages
given_told checked (Fails code) answer messages (refusal, is, spelled) are = subst (λ (a : Answer). AreAnswers checked a messages) is are ∙ ap (λ (b : List _). error_message b (text_of_code b) ∷ []) spelled
given_told checked (Gives result changes places) answer messages is are = subst (λ (a : Answer). AreAnswers checked a messages) is are

-- what holds of an answer without want of memory
pub answered : {P : Type 0} {Q : Bool → Type 0} (result : Result Bool NoMemory) → IfOk result (λ online. online ≡ true) → OnOk result P → (P → (online : Bool) → online ≡ true → Q online) → IfOk result Q
answered (Ok online) on is makes = makes is online on
answered (Err e) on is makes = tt
