use Rattle.std.proofs.Common.{refl, sym, ◌∙◌}
use Rattle.session_engine.specs.Cores.{machine_in}
use Rattle.session_wire.specs.Shown.{shown}
use Rattle.serve_steps.specs.Places.{setting}
use Rattle.serve_steps.specs.Servings.{standing}
use Rattle.pool_server.proofs.Stepping.{there, unserved}
use Rattle.pool_server.proofs.session.Session.reply.Goals as goal

pub returns-then-is_gone-clause-went : goal.returns-then-is_gone-clause-went
returns-then-is_gone-clause-went g c = λ tables s.
    unserved (setting tables c.args.config.now.nodes) s (machine_in c.args.self.now.work.core) (shown c.args.self.now.talk.wire) c.args.self.now.parting (sym c.is_gone.ensures ∙ c.if-is_gone.true)

pub returns-clause-went : goal.returns-clause-went
returns-clause-went g c = λ tables s.
    there (setting tables c.args.config.now.nodes) (machine_in c.args.self.now.work.core) (machine_in c.reply.new.core) (shown c.args.self.now.talk.wire) (shown c.reply.new.self.wire) c.args.self.now.parting c.reply.result s s
    (sym c.is_gone.ensures ∙ c.if-is_gone.false) (c.reply.ensures.went tables (standing (machine_in c.args.self.now.work.core) (shown c.args.self.now.talk.wire) c.args.self.now.parting) s)
