-- How a journal spells what becomes of orders.
use Rattle.std.specs.Prelude.{ℕ, List, [], ◌∷◌, ◌++◌, Option, Some, None, codes}
use Rattle.std.specs.Fmt.{decimal}
use Rattle.pool_base.specs.Sets.{size}
use Rattle.pool_base.specs.declared.code.Code.{Code}
use Rattle.session_orders.specs.declared.outcome.Outcome.{Outcome}
use Rattle.session_orders.specs.declared.outcome.Outcome.TheVariants as outcomes
use Rattle.session_orders.specs.declared.outcome.Tag.{Tag}
use Rattle.session_machine.specs.declared.status.Status.{Status}
use Rattle.session_machine.specs.Rules.{status_byte}
use Rattle.wire_reply.specs.Tags.{tag_text}
use Rattle.pgproto.specs.Rendering.{in_quotes, shown}
use Rattle.journal.specs.Parts.{spelled_set}
use Rattle.journal.specs.Answers.{spelled_rows}

-- a status is its letter
abbrev pub spelled_status : Status → List ℕ
spelled_status status = status_byte status ∷ []

-- a tag as a client gets it, in quotes
abbrev pub spelled_tag : Tag → List ℕ
spelled_tag tag = in_quotes (tag_text tag)

-- a warning behind a tag, where there is one
abbrev pub spelled_warning : Option Code → List ℕ
spelled_warning None = []
spelled_warning (Some code) = codes " warning " ++ shown code.bytes

-- what becomes of an order; nodes are told by how many are attached, and each
abbrev pub spelled_outcome : Outcome → List ℕ
spelled_outcome (outcomes.Rows rows tag) = spelled_rows rows ++ (32 ∷ spelled_tag tag)
spelled_outcome (outcomes.Done tag warning) = codes "done " ++ (spelled_tag tag ++ spelled_warning warning)
spelled_outcome outcomes.Settled = codes "settled"
spelled_outcome (outcomes.Nodes attached) = codes "nodes " ++ (decimal (size attached.bits) ++ spelled_set attached)
spelled_outcome (outcomes.Error code name) = codes "error " ++ (shown code.bytes ++ (32 ∷ in_quotes name))
