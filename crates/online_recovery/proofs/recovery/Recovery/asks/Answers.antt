use Rattle.std.proofs.Common.{◌∙◌, sym}
use Rattle.online_recovery.specs.Rules.{next_action}
use Rattle.online_recovery.proofs.Calls.{swaps, posts, detaches, replies, ends, starts}
use Rattle.online_recovery.proofs.recovery.Recovery.asks.Goals as goal

pub returns-clause-swap : goal.returns-clause-swap
returns-clause-swap c = λ b is. swaps (next_action c.args.self.now.standing) b (sym c.asks.ensures ∙ is)

pub returns-clause-post : goal.returns-clause-post
returns-clause-post c = λ b is. posts (next_action c.args.self.now.standing) b (sym c.asks.ensures ∙ is)

pub returns-clause-detach : goal.returns-clause-detach
returns-clause-detach c = λ b is. detaches (next_action c.args.self.now.standing) b (sym c.asks.ensures ∙ is)

pub returns-clause-reply : goal.returns-clause-reply
returns-clause-reply c = λ is. replies (next_action c.args.self.now.standing) (sym c.asks.ensures ∙ is)

pub returns-clause-end : goal.returns-clause-end
returns-clause-end c = λ is. ends (next_action c.args.self.now.standing) (sym c.asks.ensures ∙ is)

pub returns-clause-start : goal.returns-clause-start
returns-clause-start c = λ is. starts (next_action c.args.self.now.standing) (sym c.asks.ensures ∙ is)
