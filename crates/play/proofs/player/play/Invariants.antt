use Rattle.std.proofs.Common.{◌≡◌, ◌≤◌, take, drop, map}
use Rattle.std.specs.List.{AllByRecursion}
use Rattle.pgproto.specs.Line.{line_of}
use Rattle.pgproto.specs.Spelling.{IsOfGrammar}
use Rattle.play.specs.Showing.{scene_of}
use Rattle.play.proofs.Playing.{Going, IsTail}
use Rattle.play.proofs.player.play.Given as goal

abbrev pub invariant-loop-line : goal.invariant-loop-line
invariant-loop-line g l = record {
  going : Going l.catalogue (map line_of (take l.line-index l.script)) (g.D.Database.rows l.fn.database) (g.O.Sink.taken l.fn.out) (g.O.Sink.taken l.out) (scene_of (g.D.Database.rows l.database) l.scene);
  grammar : AllByRecursion IsOfGrammar (map line_of (drop l.line-index l.script));
  played : IsTail (map line_of (drop l.line-index l.script));
  tables : g.D.Database.tables l.database ≡ g.D.Database.tables l.fn.database;
  copies : g.D.Database.copies l.database ≡ g.D.Database.copies l.fn.database;
  ready : g.D.Database.is_ready l.database;
  later : g.O.Sink.fault_count l.fn.out ≤ g.O.Sink.fault_count l.out;
}
