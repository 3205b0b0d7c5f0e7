use Rattle.world_program.specs.Meaning.{world_of}
use Rattle.world_program.specs.Starting.{start_of}
use Rattle.world_program.proofs.Playing.{IsFront}
use Rattle.world_program.proofs.replaying.replay.Given as goal

abbrev pub invariant-loop-n : goal.invariant-loop-n
invariant-loop-n l = IsFront (start_of l.start) l.events l.n (world_of l.w)
