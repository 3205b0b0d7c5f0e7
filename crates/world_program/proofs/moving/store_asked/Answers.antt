use Rattle.std.proofs.Common.{◌∙◌, ap, sym, subst, Some}
use Rattle.backend_trait.specs.declared.request.Request.{Request}
use Rattle.backend_trait.specs.Store.{posted}
use Rattle.plain_store.specs.Kept.{IsKept}
use Rattle.plain_store.specs.Meaning.{store_of}
use Rattle.world_program.proofs.ProgramMarks.{asked_is}
use Rattle.world_program.proofs.moving.store_asked.Goals as goal

pub put-requires : goal.put-requires
put-requires c = subst (λ (request : Request). IsKept c.args.store.now.catalogue (Some request)) (sym c.in_ok-copy.ensures) c.requires

pub returns : goal.returns
returns c =
    asked_is (store_of c.args.store.now) c.args.s.number c.args.request.now c.put.new.store (store_of c.mark.new.self)
    (c.put.ensures ∙ ap (posted (store_of c.args.store.now) c.args.s.number) c.in_ok-copy.ensures) c.in_ok-mark.ensures.marked
