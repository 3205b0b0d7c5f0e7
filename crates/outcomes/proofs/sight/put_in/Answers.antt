use Rattle.std.proofs.Common.{refl}
use Rattle.backend_trait.specs.Effect.{place_changed}
use Rattle.outcomes.proofs.Laid.{none_laid_at, put_laid_at, put_sorted_at}
use Rattle.outcomes.proofs.sight.put_in.Goals as goal

pub returns-in_ok-insert-in-Some-clause-sorted : goal.returns-in_ok-insert-in-Some-clause-sorted
returns-in_ok-insert-in-Some-clause-sorted c =
    put_sorted_at c.args.rows.now.items c.insert.new.self.items c.args.number _ (place_changed c.args.change.now) c.in_ok-insert-in-Some.ensures.items refl
    c.requires.sorted c.requires.between

pub returns-in_ok-insert-in-Some-clause-laid : goal.returns-in_ok-insert-in-Some-clause-laid
returns-in_ok-insert-in-Some-clause-laid c =
    put_laid_at c.args.rows.now.items c.insert.new.self.items c.args.number _ (place_changed c.args.change.now) c.args.change.now.row
    c.in_ok-insert-in-Some.ensures.items refl c.in-Some.is c.requires.sorted c.requires.between

pub returns-in-None-clause-laid : goal.returns-in-None-clause-laid
returns-in-None-clause-laid c =
    none_laid_at c.args.rows.now.items c.args.number (place_changed c.args.change.now) c.args.change.now.row c.in-None.is c.requires.sorted c.requires.between
