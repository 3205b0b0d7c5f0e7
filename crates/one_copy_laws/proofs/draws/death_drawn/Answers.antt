use Rattle.std.specs.Prelude.{Some}
use Rattle.one_copy_model.specs.Deaths.{death_of, recorded}
use Rattle.one_copy_laws.proofs.DrawsInserting.{insert_falls}
use Rattle.one_copy_laws.proofs.DrawsKeeping.{drawn_keeps}
use Rattle.one_copy_laws.proofs.draws.death_drawn.Goals as goal

pub returns : goal.returns
returns c = λ tables s o table attached history work k code here m mail told done live classed at is asks free run may other apart own.
    drawn_keeps tables s o table attached history (recorded s (death_of work (Some code)) history) work here m mail told done live
    (insert_falls tables s table history work k classed at is asks free run code may) other apart own
