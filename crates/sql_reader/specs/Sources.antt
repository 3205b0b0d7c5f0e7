-- What stands behind FROM, as the code holds it.
use Rattle.sql_reader.specs.declared.select.Source.{Source}
use Rattle.sql_reader.specs.Grammar.{Source as Parts}

abbrev pub source_of : Source → Parts
source_of s = (s.table, (s.filter, (s.order, (s.limit, s.for_update))))
