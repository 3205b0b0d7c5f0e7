-- Why a backend is not attached at the start.
use Rattle.std.specs.Prelude.{◌==◌, ℕ, Bool, not, if◌then◌else◌, Option, Some, None, option_map, find, List}
use Rattle.pool_base.specs.declared.backend_id.BackendId.{BackendId}
use Rattle.pool_base.specs.Sets.{has}
use Rattle.server_check.specs.declared.answer.Answer.{Answer}
use Rattle.server_check.specs.declared.question.Question.{Question}
use Rattle.server_check.specs.declared.server.Identity.{Identity}
use Rattle.server_check.specs.declared.server.Server.{Server}
use Rattle.server_check.specs.declared.start.Findings.{Findings}
use Rattle.server_check.specs.declared.start.Out.{Out}
use Rattle.server_check.specs.declared.start.Out.TheVariants as out
use Rattle.server_check.specs.Servers.{differs_from, kept, twin_of, unfit_from}

abbrev pub has_number : ℕ → Server → Bool
has_number b server = server.number.number == b

abbrev pub is_at : ℕ → Identity → Bool
is_at b identity = identity.number.number == b

abbrev pub twin_by : List Identity → Option Identity → Option Identity
twin_by identities None = None
twin_by identities (Some one) = twin_of identities one

-- the first lower number that is the same server
abbrev pub lower_twin : List Identity → ℕ → Option BackendId
lower_twin identities b = option_map (λ i. i.number) (twin_by identities (find (is_at b) identities))

-- it does not answer as the kept server does
abbrev pub unlike : List Question → Server → Option Server → Option Out
unlike questions server None = None
unlike questions server (Some one) = option_map (λ n. out.Differs n) (differs_from one.answers server.answers 0 questions)

-- its answer is not what is wanted, or it does not answer as the kept server does
abbrev pub fault_by : Findings → Server → Option ℕ → Option Out
fault_by f server (Some n) = Some (out.Unfit n)
fault_by f server None = unlike f.questions server (kept f.questions f.servers)

abbrev pub fault_of : Findings → Server → Option Out
fault_of f server = fault_by f server (unfit_from server.answers 0 f.questions)

abbrev pub unset_by : Findings → ℕ → Option Out → Option Out
unset_by f b (Some fault) = Some fault
unset_by f b None = if has f.unset.bits b then Some out.Unset else None

abbrev pub silent_by : Findings → ℕ → Option Server → Option Out
silent_by f b None = Some out.Silent
silent_by f b (Some server) = unset_by f b (fault_of f server)

abbrev pub found_by : Findings → ℕ → Option BackendId → Option Out
found_by f b (Some lower) = Some (out.Twin lower)
found_by f b None = silent_by f b (find (has_number b) f.servers)

-- it is the server of a lower number, or has not answered to the end, or has a fault, or its next numbers are not set
abbrev pub found_of : Findings → ℕ → Option Out
found_of f b = found_by f b (lower_twin f.identities b)

-- it is not of the configuration or down in the status file, or its server is not there, or that is found of it
abbrev pub out_of : Findings → ℕ → Option Out
out_of f b = if not (has f.up.bits b) then Some out.Down else (if has f.absent.bits b then Some out.Absent else found_of f b)
