use Rattle.play_laws.proofs.AsksSteps.{run_asks}
use Rattle.play_laws.proofs.asked.runs_ask_for_orders.Goals as goal

pub returns : goal.returns
returns c = run_asks
