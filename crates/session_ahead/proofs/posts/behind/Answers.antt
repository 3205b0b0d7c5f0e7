use Rattle.std.proofs.Common.{◌≡◌, None}
use Rattle.std.specs.Prelude.{Option}
use Rattle.std.specs.List.{slice_get}
use Rattle.session_machine.specs.Rules.{request_of}
use Rattle.session_engine.specs.Meaning.{session_of}
use Rattle.session_ahead.specs.Coming.{post_of, fixed, statement_behind}
use Rattle.session_ahead.proofs.Places.{behind_answer}
use Rattle.session_ahead.proofs.posts.behind.Goals as goal

none_there : {X : Type 0} (found there : Option X) → found ≡ None → found ≡ there → None ≡ there
none_there found there is same = cc

pub returns-in-None : goal.returns-in-None
returns-in-None c =
    behind_answer (post_of (request_of c.args.stage.now)) (fixed (session_of c.args.standing.now) c.args.stage.now c.args.b)
    (statement_behind (session_of c.args.standing.now) c.args.stage.now) c.args.at c.fixed_count-count.result c.behind_all.result
    (none_there c.fixed_at.result (slice_get (fixed (session_of c.args.standing.now) c.args.stage.now c.args.b) c.args.at) c.in-None.is c.fixed_at.ensures)
    c.fixed_count-count.ensures c.behind_all.ensures
