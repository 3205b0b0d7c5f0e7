use Rattle.std.proofs.Common.{◌≡◌, take}
use Rattle.std.specs.Prelude.{true}
use Rattle.std.specs.List.{list_all}
use Rattle.typed_sql.specs.declared.asks.Takes.TheVariants.{Whole}
use Rattle.checked_sql.specs.Sound.{names_of, stands}
use Rattle.checked_sql.proofs.nodes.+nodes.Given as goal

abbrev pub invariant-all_stand-loop-part : goal.invariant-all_stand-loop-part
invariant-all_stand-loop-part l = list_all (stands (names_of l.names) l.which) (take l.part-index l.parts) ≡ true

abbrev pub invariant-summands_stand-loop-part : goal.invariant-summands_stand-loop-part
invariant-summands_stand-loop-part l = list_all (λ s. stands (names_of l.names) Whole s.part) (take l.part-index l.parts) ≡ true

abbrev pub invariant-factors_stand-loop-part : goal.invariant-factors_stand-loop-part
invariant-factors_stand-loop-part l = list_all (λ f. stands (names_of l.names) Whole f.part) (take l.part-index l.parts) ≡ true
