-- Where a core stands.
use Rattle.session_machine.specs.declared.machine.Machine.{Machine}
use Rattle.session_engine.specs.declared.session.Core.{Core}
use Rattle.session_engine.specs.Meaning.{machine_of}

abbrev pub machine_in : Core → Machine
machine_in core = machine_of core.standing
