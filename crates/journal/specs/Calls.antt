-- How a journal spells the calls of the gate and their answers.
use Rattle.std.specs.Prelude.{ℕ, List, ◌++◌, codes}
use Rattle.std.specs.Fmt.{decimal}
use Rattle.pool_base.specs.declared.gate_call.GateCall.{GateCall}
use Rattle.pool_base.specs.declared.gate_call.GateCall.TheVariants as calls
use Rattle.pool_base.specs.declared.gate_call.GateAnswer.{GateAnswer}
use Rattle.pool_base.specs.declared.gate_call.GateAnswer.TheVariants.{Seen, Granted, Held, Spent}
use Rattle.journal.specs.Parts.{spelled_set}

-- a call: its name, with the tables of a commit as one number, or with its backend
abbrev pub spelled_call : GateCall → List ℕ
spelled_call calls.Look = codes "look"
spelled_call calls.EnterSnapshot = codes "enter-snapshot"
spelled_call calls.LeaveSnapshot = codes "leave-snapshot"
spelled_call (calls.EnterCommit tables) = codes "enter-commit " ++ decimal tables
spelled_call calls.LeaveCommit = codes "leave-commit"
spelled_call calls.Finish = codes "finish"
spelled_call (calls.Detach b) = codes "detach " ++ decimal b.number
spelled_call calls.StartCopy = codes "start-copy"
spelled_call calls.AskQuiet = codes "ask-quiet"
spelled_call calls.EnterQuiet = codes "enter-quiet"
spelled_call (calls.Attach b) = codes "attach " ++ decimal b.number
spelled_call calls.LeaveQuiet = codes "leave-quiet"

-- an answer: the attached backends that it shows, or that the call is held or spent
abbrev pub spelled_gate_answer : GateAnswer → List ℕ
spelled_gate_answer (Seen view) = codes "seen" ++ spelled_set view.attached
spelled_gate_answer (Granted view) = codes "granted" ++ spelled_set view.attached
spelled_gate_answer (Held by) = codes "held " ++ decimal by
spelled_gate_answer Spent = codes "spent"
