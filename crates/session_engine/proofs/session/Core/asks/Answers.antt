use Rattle.std.proofs.Common.{sym, ◌∙◌}
use Rattle.session_machine.specs.Rules.{next_action}
use Rattle.session_engine.specs.Meaning.{machine_of}
use Rattle.session_engine.proofs.Asking.{is_post, is_detach, is_reply, is_end}
use Rattle.session_engine.proofs.session.Core.asks.Goals as goal

pub returns-clause-post : goal.returns-clause-post
returns-clause-post c = λ b is. is_post (next_action (machine_of c.args.self.now.standing)) b (sym c.asks.ensures ∙ is)

pub returns-clause-detach : goal.returns-clause-detach
returns-clause-detach c = λ b is. is_detach (next_action (machine_of c.args.self.now.standing)) b (sym c.asks.ensures ∙ is)

pub returns-clause-reply : goal.returns-clause-reply
returns-clause-reply c = λ is. is_reply (next_action (machine_of c.args.self.now.standing)) (sym c.asks.ensures ∙ is)

pub returns-clause-end : goal.returns-clause-end
returns-clause-end c = λ is. is_end (next_action (machine_of c.args.self.now.standing)) (sym c.asks.ensures ∙ is)
