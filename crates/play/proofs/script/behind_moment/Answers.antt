use Rattle.std.proofs.Common.{refl}
use Rattle.pgproto.specs.Line.{moment}
use Rattle.play.specs.Parts.{part_of}
use Rattle.play.specs.Script.{moment_set}
use Rattle.play.proofs.Sessions.{none_set}
use Rattle.play.proofs.script.behind_moment.Goals as goal

pub returns-in-Some : goal.returns-in-Some
returns-in-Some c = moment_set c.args.text.now _ refl c.in-Some.ensures refl

pub returns-in-None : goal.returns-in-None
returns-in-None c = none_set (part_of c.args.part) (moment c.args.text.now) c.args.text.now refl c.in-None.ensures
