use Rattle.std.proofs.lemmas.Result.{IfOk-weaker}
use Rattle.backend_trait.specs.Store.{MayPost}
use Rattle.session_core.specs.Standing.{IsAlone}
use Rattle.session_core.proofs.Going.{may_get, asked_get}
use Rattle.session_core.proofs.ask.ask_at.Goals as goal

pub ask-requires-clause-alone : goal.ask-requires-clause-alone
ask-requires-clause-alone g c =
    (may_get g.B.Backend.meaning c.args.shelf.now (λ st. IsAlone c.args.s.number st × MayPost st c.args.s.number c.args.request) c.from-at.result c.args.b.number c.index-shelf-at.result c.from-at.ensures c.requires.below c.index-shelf-at.is c.requires.may).0

pub ask-requires-clause-may : goal.ask-requires-clause-may
ask-requires-clause-may g c =
    (may_get g.B.Backend.meaning c.args.shelf.now (λ st. IsAlone c.args.s.number st × MayPost st c.args.s.number c.args.request) c.from-at.result c.args.b.number c.index-shelf-at.result c.from-at.ensures c.requires.below c.index-shelf-at.is c.requires.may).1

pub returns-clause-asked : goal.returns-clause-asked
returns-clause-asked g c =
    IfOk-weaker c.ask.result _ _
    (λ answer asked. asked_get g.B.Backend.meaning c.args.shelf.now c.args.s.number c.args.request c.from-at.result c.args.b.number answer c.index-shelf-at.result _ c.from-at.ensures c.requires.below c.index-shelf-at.is asked)
    c.ask.ensures.asked
