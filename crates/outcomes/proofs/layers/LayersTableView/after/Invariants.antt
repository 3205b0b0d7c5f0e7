use Rattle.std.proofs.Common.{Bor}
use Rattle.std.specs.Option.{option_map}
use Rattle.pg_values.specs.declared.value.Value.{Value}
use Rattle.outcomes.specs.Chains.{all_chained}
use Rattle.outcomes.specs.Layered.{seen_rows}
use Rattle.outcomes.specs.Sights.{is_passed}
use Rattle.outcomes.specs.Spread.{IsParted}
use Rattle.outcomes.proofs.Layered.{IsReached}
use Rattle.outcomes.proofs.layers.LayersTableView.after.Given as goal

abbrev pub invariant-loop-number : goal.invariant-loop-number
invariant-loop-number l = record {
  parted : IsParted (is_passed l.table (option_map (λ (k : Bor Value). k.now) l.after)) (all_chained l.self.own.items) l.number;
  reached : IsReached (seen_rows l.self.changes.now l.self.index.now l.self.mark) l.table (option_map (λ (k : Bor Value). k.now) l.key) (option_map (λ (k : Bor Value). k.now) l.after);
}
