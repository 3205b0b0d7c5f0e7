-- Why a play ends early, by why a step did.
use Rattle.session_seat.specs.declared.fault.StepFault.{StepFault}
use Rattle.session_seat.specs.declared.fault.StepFault.TheVariants as step
use Rattle.session_player.specs.declared.fault.PlayFault.{PlayFault}
use Rattle.session_player.specs.declared.fault.PlayFault.TheVariants as play

abbrev pub fault_of : StepFault → PlayFault
fault_of step.NoMemory = play.NoMemory
fault_of step.Stopped = play.Stopped
