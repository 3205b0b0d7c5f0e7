use Rattle.session_machine.specs.declared.machine.Stage.TheVariants.{Inserting}
use Rattle.one_copy_model.specs.Places.{decided_by}
use Rattle.one_copy_model.specs.Deaths.{recorded}
use Rattle.one_copy_laws.proofs.DrawsInserting.{insert_gives}
use Rattle.one_copy_laws.proofs.DrawsKeeping.{drawn_keeps}
use Rattle.one_copy_laws.proofs.draws.result_drawn.Goals as goal

pub returns : goal.returns
returns c = λ tables s o table attached history work k answer changes places posted here m mail told done live classed at is asks free run form plain gives fresh wants other apart own.
    drawn_keeps tables s o table attached history (recorded s (decided_by (Inserting work posted) answer) history) work here m mail told done live
    (insert_gives tables s table history work k classed at is asks free run answer changes places posted form plain gives fresh wants) other apart own
