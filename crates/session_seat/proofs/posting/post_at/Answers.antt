use Rattle.std.proofs.Common.{sym, subst}
use Rattle.backend_trait.specs.Store.{line_of}
use Rattle.backend_rolls.specs.declared.known.Known.{Known}
use Rattle.backend_rolls.specs.Known.{Tells}
use Rattle.backend_rolls.specs.Rolls.{known_in}
use Rattle.backend_rolls.proofs.KnownLemmas.{may_post, posted_as}
use Rattle.session_seat.proofs.posting.post_at.Goals as goal

pub post-requires-clause-may : goal.post-requires-clause-may
post-requires-clause-may g c =
    let store = g.B.Backend.meaning c.args.store.now in
    may_post store c.args.tables.now c.at-known.result c.args.s.number c.args.request c.requires.tables c.requires.counts
    (subst (λ (k : Known). Tells k (line_of store c.args.s.number)) (sym c.at-known.ensures) (c.requires.known c.args.s.number))
    (c.may_post.ensures.0 search).1

pub returns-in-Accepted-clause-known : goal.returns-in-Accepted-clause-known
returns-in-Accepted-clause-known g c =
    posted_as (g.B.Backend.meaning c.args.store.now) (g.B.Backend.meaning c.post.new.self) (known_in c.args.roll.now) (known_in c.put.new.self) c.args.s.number c.at-known.result c.after_post-after.result c.args.request
    c.requires.known c.at-known.ensures c.after_post-after.ensures c.put.ensures c.in-Accepted.ensures.posted
