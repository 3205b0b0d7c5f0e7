use Rattle.wire_extended.proofs.parsing.parse.Goals as goal

pub returns-clause-tells : goal.returns-clause-tells
returns-clause-tells c = record { made = c.in_ok-made.made; prepares = c.in_ok-made.ensures; told = c.in_ok-reply.ensures.tells }

pub returns-clause-leaves : goal.returns-clause-leaves
returns-clause-leaves c = record { made = c.in_ok-made.made; prepares = c.in_ok-made.ensures; leaves = c.in_ok-reply.ensures.leaves }
