-- What a transaction sees.
use Rattle.backend_trait.specs.Rows.{Rows}
use Rattle.outcomes.specs.Sights.{rows_at}
use Rattle.outcomes.specs.declared.sight.Sight.{Sight}

abbrev pub rows_seen : Sight → Rows
rows_seen sight = rows_at sight.rows.items
