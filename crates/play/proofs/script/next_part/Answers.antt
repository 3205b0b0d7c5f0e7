use Rattle.std.proofs.Common.{sym, subst}
use Rattle.pgproto.specs.Line.{Line, line_of}
use Rattle.play.specs.Parts.{IsNextOr, part_of}
use Rattle.play.proofs.Sessions.{none_other}
use Rattle.play.proofs.script.next_part.Goals as goal

pub returns-in-Ask : goal.returns-in-Ask
returns-in-Ask c = subst (λ (line : Line). IsNextOr (part_of c.args.part) line c.behind_query.result) (sym c.in-Ask.ensures) (c.behind_query.ensures _)

pub returns-in-Other : goal.returns-in-Other
returns-in-Other c = none_other (part_of c.args.part) (line_of c.args.line.now) c.in-Other.ensures
