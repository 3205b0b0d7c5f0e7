-- Which requests leave nothing at a server that an end could lose, and which are an end.
use Rattle.std.specs.Prelude.{Bool, false, not}
use Rattle.catalogue.specs.declared.checked.CheckedBody.{CheckedBody}
use Rattle.catalogue.specs.declared.checked.CheckedBody.TheVariants as body
use Rattle.backend_trait.specs.declared.request.Request.{Request}
use Rattle.backend_trait.specs.declared.request.Request.TheVariants as request
use Rattle.postgres_talk.specs.declared.spelled.Ending.{Ending}
use Rattle.postgres_talk.specs.declared.spelled.Ending.TheVariants as ending

-- the statement reads, and takes no lock of a row
abbrev pub is_plain : CheckedBody → Bool
is_plain (body.Read read) = not read.for_update
is_plain (body.Insert insert) = false
is_plain (body.Change change) = false
is_plain (body.Remove remove) = false

abbrev pub is_reading : Request → Bool
is_reading request.TakeSnapshot = false
is_reading (request.Run checked) = is_plain checked.body
is_reading (request.Lock table) = false
is_reading request.Commit = false
is_reading request.Rollback = false
is_reading (request.ReadSerial table) = false
is_reading (request.SetSerial table next) = false

-- the request that ends a block so
abbrev pub ends_by : Ending → Request
ends_by ending.Commit = request.Commit
ends_by ending.Rollback = request.Rollback
