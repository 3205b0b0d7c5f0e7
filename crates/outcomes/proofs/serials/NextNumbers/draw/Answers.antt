use Rattle.outcomes.specs.Next.{next_of}
use Rattle.outcomes.proofs.NextLaws.{drawn_is, undrawn_is}
use Rattle.outcomes.proofs.serials.NextNumbers.draw.Goals as goal

pub returns-in-Some : goal.returns-in-Some
returns-in-Some c =
    drawn_is c.args.catalogue.now c.args.statement.now (next_of c.args.self.now) (next_of c.set.new.self) c.table_in.result c.in-Some.table c.at.result c.next_behind-next.result c.table_in.ensures c.in-Some.is c.at.ensures.next
    c.next_behind-next.ensures.behind c.set.ensures

pub returns-in-None : goal.returns-in-None
returns-in-None c = undrawn_is c.args.catalogue.now c.args.statement.now (next_of c.args.self.now) c.table_in.result c.table_in.ensures c.in-None.is
