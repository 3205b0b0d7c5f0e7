use Rattle.pg_messages.proofs.CallLemmas.{server_written}
use Rattle.pg_messages.proofs.server_writing.write_server.Goals as goal

pub returns-else-is_err-clause-again : goal.returns-else-is_err-clause-again
returns-else-is_err-clause-again c = server_written c.args.message.now c.put_message-written.result c.requires c.put_message-written.ensures.in_range
