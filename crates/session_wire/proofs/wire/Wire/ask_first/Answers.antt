use Rattle.std.proofs.Common.{◌≡◌, ◌+◌, List, drop, get_or, subst}
use Rattle.sql_tree.specs.declared.statement.Statement.{Statement}
use Rattle.session_wire.specs.Shown.{shown}
use Rattle.session_wire.proofs.Asked.{asks_so, drop_at}
use Rattle.session_wire.proofs.wire.Wire.ask_first.Goals as goal

pub returns : goal.returns
returns c =
    let first : c.index-statements-self.result ≡ get_or c.args.self.now.text c.args.self.now.at c.index-statements-self.result =
    subst (λ (ss : List Statement). c.index-statements-self.result ≡ get_or ss c.args.self.now.at c.index-statements-self.result) c.as_slice-statements.ensures c.index-statements-self.is in
    asks_so c.args.tables.now c.args.self.now.session.status c.args.self.now.session.implicit (shown c.args.self.now).left (drop (c.args.self.now.at + 1) c.args.self.now.text)
    c.index-statements-self.result c.in_ok-asked.asked (drop_at c.args.self.now.text c.args.self.now.at c.index-statements-self.result c.requires.some first) c.in_ok-asked.ensures
