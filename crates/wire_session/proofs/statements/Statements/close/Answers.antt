use Rattle.std.proofs.Common.{rules}
use Rattle.std.proofs.lemmas.Fn.{filter_same}
use Rattle.wire_session.proofs.Entries.{closed_so}
use Rattle.wire_session.proofs.statements.Statements.close.Goals as goal

pub returns : goal.returns
returns c = closed_so c.args.name.now c.args.self.now (record { entries = c.retain.new.self }) (filter_same _ _ _ (λ x b f' k. search rules) _ _ c.retain.ensures.filtered)
