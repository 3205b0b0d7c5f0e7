use Rattle.std.proofs.Common.{◌≡◌, ℕ, [], map, sym, ◌∙◌, arith}
use Rattle.std.proofs.lemmas.List.{nil_from_length}
use Rattle.std.specs.Vec.Iter.{into_iter_items}
use Rattle.catalogue.proofs.TargetLemmas.{put_next, put_out, put_whole}
use Rattle.catalogue.proofs.insert.put_cells.Goals as goal

pub loop-target-preserved : goal.loop-target-preserved
loop-target-preserved c = (
  grind (arith, c.next.ensures.items, c.next.ensures.len),
  c.loop-target.invariant.1 ∙ put_next c.args.given.now c.loop-target.target-index c.target-item.result (omega arith) c.target-item.is
      (into_iter_items c.loop-target.left) c.loop-target.row.items c.in-Some.cell (into_iter_items c.next.new.self) c.put_cell.new.row.items
      c.in-Some.ensures.items c.put_cell.ensures,
)

pub returns-in-None : goal.returns-in-None
returns-in-None c =
    sym (c.loop-target.invariant.1 ∙ put_out _ (into_iter_items c.loop-target.left) c.loop-target.row.items
    (nil_from_length (into_iter_items c.loop-target.left) (omega (arith, c.loop-target.invariant.0, c.in-None.ensures.len, c.in-None.ensures.cases))))

pub returns : goal.returns
returns c =
    sym (c.loop-target.invariant.1 ∙ put_whole c.args.given.now c.loop-target.target-index (into_iter_items c.loop-target.left) c.loop-target.row.items (omega arith))
