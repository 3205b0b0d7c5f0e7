use Rattle.std.proofs.Common.{inr}
use Rattle.session_player.proofs.round.is_to_go.Goals as goal

pub returns-then-client-clause-others : goal.returns-then-client-clause-others
returns-then-client-clause-others c = λ none. inr (c.args.client.now.known c.if-client.true)
