use Rattle.pg_messages.proofs.CallLemmas.{client_beginning, server_beginning, start_beginning}
use Rattle.pg_messages.proofs.laws.beginnings_need_more.Goals as goal

pub returns-clause-client : goal.returns-clause-client
returns-clause-client c = client_beginning

pub returns-clause-server : goal.returns-clause-server
returns-clause-server c = server_beginning

pub returns-clause-start : goal.returns-clause-start
returns-clause-start c = start_beginning
