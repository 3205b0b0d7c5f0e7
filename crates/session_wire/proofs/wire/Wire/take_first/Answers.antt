use Rattle.std.proofs.Common.{ap, ◌∙◌, drop}
use Rattle.session_wire.specs.Shown.{shown}
use Rattle.session_wire.specs.Waiting.{open_one}
use Rattle.session_wire.proofs.Taking.{takes_first, falls_by}
use Rattle.session_wire.proofs.wire.Wire.take_first.Goals as goal

pub returns-clause-takes : goal.returns-clause-takes
returns-clause-takes c = takes_first (shown c.args.self.now) (shown c.drop_input.new.self) c.args.ssl c.args.gss c.args.message c.args.count
    c.requires.starting c.requires.fits c.requires.front
    (ap (λ v. v.rest) c.drop_input.ensures.shown ∙ ap (λ r. drop c.args.count r) c.greet.ensures.rest)

pub returns-clause-falls : goal.returns-clause-falls
returns-clause-falls c = falls_by (shown c.args.self.now) (shown c.drop_input.new.self) c.args.count
    (ap open_one c.requires.starting) c.requires.some c.requires.fits
    (ap (λ v. v.rest) c.drop_input.ensures.shown ∙ ap (λ r. drop c.args.count r) c.greet.ensures.rest)
