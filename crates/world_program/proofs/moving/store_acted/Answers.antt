use Rattle.plain_store.specs.Meaning.{store_of}
use Rattle.world_program.proofs.ProgramMarks.{acted_is}
use Rattle.world_program.proofs.moving.store_acted.Goals as goal

pub returns : goal.returns
returns c =
    acted_is (store_of c.args.store.now) c.args.s.number c.args.answer.now c.act.new.self (store_of c.mark.new.self) c.in_ok-act.ensures
    c.in_ok-mark.ensures.marked
