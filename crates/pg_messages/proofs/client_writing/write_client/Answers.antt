use Rattle.pg_messages.proofs.CallLemmas.{client_written}
use Rattle.pg_messages.proofs.client_writing.write_client.Goals as goal

pub returns-else-is_err-clause-again : goal.returns-else-is_err-clause-again
returns-else-is_err-clause-again c = client_written c.args.message.now c.put_message-written.result c.requires c.put_message-written.ensures.in_range
