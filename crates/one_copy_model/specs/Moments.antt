-- The facts of a moment, by their parts.
use Rattle.one_copy_model.specs.Deaths.{is_live}
use Rattle.one_copy_model.specs.Tracking.{Tracked, single}
use Rattle.one_copy_model.specs.Facts.{Facts}

-- those of a world with the single run beside it
abbrev pub FactsAt : Tracked → Type 0
FactsAt t = Facts t.world.tables t.world.gate t.world.machine t.world.store t.world.mail t.history t.orders t.done (λ s. is_live ((single t).transaction s))
