use Rattle.std.proofs.Common.{arith}
use Rattle.postgres_link.specs.Hearing.{floods, never_so_many}
use Rattle.postgres_link.proofs.hearing.has_room.Goals as goal

pub returns-then-not-exceed-clause-none : goal.returns-then-not-exceed-clause-none
returns-then-not-exceed-clause-none g c = λ _ m bytes front. never_so_many m c.args.more front (omega arith) c.if-not-exceed.ensures

pub returns-clause-leads : goal.returns-clause-leads
returns-clause-leads g c = λ _ m bytes front o h. floods m c.args.more c.exceed.new.self o front (omega arith) c.if-not-exceed.ensures h
