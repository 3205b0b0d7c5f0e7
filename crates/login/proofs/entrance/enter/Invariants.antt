use Rattle.std.proofs.Common.{◌≤◌}
use Rattle.login.specs.Entrances.{Course}
use Rattle.login.proofs.entrance.enter.Given as goal

abbrev pub invariant-steps : goal.invariant-steps
invariant-steps g l = record {
  course : Course l.guard.users.now l.initial.reception (g.I.Source.left l.initial.source) (g.O.Sink.taken l.initial.sink) l.made l.reception l.inbox (g.I.Source.left l.source)
      (g.O.Sink.taken l.sink);
  reads : g.I.Source.fault_count l.initial.source ≤ g.I.Source.fault_count l.source;
  writes : g.O.Sink.fault_count l.initial.sink ≤ g.O.Sink.fault_count l.sink;
  paced : g.P.Pace.passes l.initial.pace ≤ g.P.Pace.passes l.pace;
}
