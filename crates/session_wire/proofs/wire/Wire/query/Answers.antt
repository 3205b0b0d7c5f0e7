use Rattle.std.proofs.Common.{subst}
use Rattle.wire_query.specs.Texts.{IsReading}
use Rattle.session_wire.specs.Shown.{shown}
use Rattle.session_wire.proofs.wire.Wire.query.Goals as goal

pub returns-clause-queries : goal.returns-clause-queries
returns-clause-queries c = record {
  read = c.in_ok-reading.reading;
  is_read = subst (λ text. IsReading text c.in_ok-reading.reading) c.as_slice.ensures c.in_ok-reading.ensures.reading;
  several = c.in_ok-several.several;
  is_several = c.in_ok-several.ensures;
  empty = c.in_ok-empty.empty;
  is_empty = c.in_ok-empty.ensures;
  mid = shown c.drop_unnamed.new.self;
  names = c.drop_unnamed.ensures.names;
  drops = c.drop_unnamed.ensures.drops;
  done = c.in_ok-body.ensures.queries;
}
