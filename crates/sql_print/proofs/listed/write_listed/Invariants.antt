use Rattle.std.proofs.Common.{◌≡◌, take}
use Rattle.sql_print.specs.declared.between.Between.TheVariants.{Comma}
use Rattle.sql_print.specs.Between.{between_token}
use Rattle.sql_print.specs.Printed.{joined}
use Rattle.sql_print.specs.Writing.{state, after}
use Rattle.sql_print.proofs.Steps.{standing}
use Rattle.sql_print.proofs.listed.write_listed.Given as goal

abbrev pub invariant-loop-item : goal.invariant-loop-item
invariant-loop-item g l = (state l.onto ≡ after (state l.initial.onto)
    (joined (between_token Comma) g.T.Written.tokens (take l.item-index l.items)))
    × (l.before ≡ standing Comma (take l.item-index l.items))
