use Rattle.outcomes.proofs.Shaped.{rows_shaped}
use Rattle.outcomes.proofs.laws.rows_stay_in_their_tables.Goals as goal

pub returns : goal.returns
returns c = λ tables checked view next answer changes places allowed runnable stored gives.
    rows_shaped tables checked view runnable stored allowed next answer changes places gives
