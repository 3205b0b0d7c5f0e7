use Rattle.std.proofs.Common.{refl}
use Rattle.plain_store.specs.declared.sessions.Sessions.{Sessions}
use Rattle.plain_store.proofs.SessionLaws.{states_same, all_there}
use Rattle.plain_store.proofs.sessions.Sessions.of.Goals as goal

pub returns-clause-all : goal.returns-clause-all
returns-clause-all c =
    let all : Sessions = record { phases = c.as_slice-phases.result; requests = c.as_slice-requests.result; given = c.args.given; numbers = _ } in
    all_there c.args.store.now all c.as_slice-phases.ensures.value c.as_slice-requests.ensures.value c.requires

pub returns-clause-states : goal.returns-clause-states
returns-clause-states c =
    let all : Sessions = record { phases = c.as_slice-phases.result; requests = c.as_slice-requests.result; given = c.args.given; numbers = record { ref_ptr = c.args.store.ref_ptr; now = c.args.store.now.numbers } } in
    states_same c.args.store.now all c.as_slice-phases.ensures.value c.as_slice-requests.ensures.value c.requires refl
