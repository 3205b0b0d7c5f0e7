-- A store without its marks: no request that waits there is told to have been crossed.
use Rattle.std.specs.Prelude.{false, Option, Some, None}
use Rattle.backend_trait.specs.Store.{Store, Pending}

abbrev pub unmark : Option Pending → Option Pending
unmark None = None
unmark (Some p) = Some (record { request = p.request; crossed = false })

abbrev pub unmarked : Store → Store
unmarked st = record st { pending = λ s. unmark (st.pending s) }
