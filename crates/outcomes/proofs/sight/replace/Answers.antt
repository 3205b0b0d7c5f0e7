use Rattle.std.proofs.Common.{refl}
use Rattle.backend_trait.specs.Effect.{place_changed}
use Rattle.outcomes.proofs.Laid.{removed_laid_at, removed_sorted_at, set_laid_at, set_sorted_at}
use Rattle.outcomes.proofs.sight.replace.Goals as goal

pub returns-in-Some-clause-sorted : goal.returns-in-Some-clause-sorted
returns-in-Some-clause-sorted c =
    set_sorted_at c.args.rows.now.items c.args.number _ (place_changed c.args.change.now) refl c.requires.sorted c.requires.at

pub returns-in-Some-clause-laid : goal.returns-in-Some-clause-laid
returns-in-Some-clause-laid c =
    set_laid_at c.args.rows.now.items c.args.number _ (place_changed c.args.change.now) c.args.change.now.row refl c.in-Some.is c.requires.sorted c.requires.at

pub returns-in-None-clause-sorted : goal.returns-in-None-clause-sorted
returns-in-None-clause-sorted c =
    removed_sorted_at c.args.rows.now.items c.remove-gone.new.self.items c.args.number (place_changed c.args.change.now) c.remove-gone.ensures.items
    c.requires.sorted c.requires.at

pub returns-in-None-clause-laid : goal.returns-in-None-clause-laid
returns-in-None-clause-laid c =
    removed_laid_at c.args.rows.now.items c.remove-gone.new.self.items c.args.number (place_changed c.args.change.now) c.args.change.now.row
    c.remove-gone.ensures.items c.in-None.is c.requires.sorted c.requires.at
