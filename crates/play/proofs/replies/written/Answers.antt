use Rattle.std.proofs.Common.{List, ℕ, ◌∙◌, sym, subst}
use Rattle.pg_messages.specs.declared.server.ServerMessage.TheVariants.{Complete}
use Rattle.pg_messages.specs.Server.{Fits}
use Rattle.play.proofs.SendingLemmas.{done_fits}
use Rattle.play.proofs.replies.written.Goals as goal

pub returns-clause-fits : goal.returns-clause-fits
returns-clause-fits c =
    subst (λ (text : List ℕ). Fits (Complete text)) (sym (c.bytes_of-tag.ensures ∙ c.in_ok-text.ensures))
    (done_fits c.args.body.now c.args.count c.ranges.count.fits)
