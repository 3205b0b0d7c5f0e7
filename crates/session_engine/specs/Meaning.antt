-- What the state of a core means: a state of the session machine.
use Rattle.std.specs.Prelude.{List}
use Rattle.session_machine.specs.declared.machine.Heard.{Heard}
use Rattle.session_machine.specs.declared.machine.Session.{Session}
use Rattle.session_machine.specs.declared.machine.Machine.{Machine}
use Rattle.session_machine.specs.Rules.{due}
use Rattle.session_engine.specs.declared.standing.Standing.{Standing}
use Rattle.session_engine.specs.Dues.{point_of}

abbrev pub heard_in : Standing → List Heard
heard_in s = s.answers.items.items

abbrev pub session_of : Standing → Session
session_of s =
    record {
      id = s.id;
      policy = s.policy;
      status = s.status;
      moment = s.moment;
      gate = s.gate;
      view = s.view;
      heard = heard_in s;
      reads = s.reads;
    }

abbrev pub machine_of : Standing → Machine
machine_of s = due (session_of s) (point_of (heard_in s) s.due)
