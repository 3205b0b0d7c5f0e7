use Rattle.pg_messages.proofs.CallLemmas.{client_stays, server_stays, start_stays}
use Rattle.pg_messages.proofs.laws.fronts_stay.Goals as goal

pub returns-clause-client : goal.returns-clause-client
returns-clause-client c = client_stays

pub returns-clause-server : goal.returns-clause-server
returns-clause-server c = server_stays

pub returns-clause-start : goal.returns-clause-start
returns-clause-start c = start_stays
