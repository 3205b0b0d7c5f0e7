-- The codes of a recovery's own refusals.
use Rattle.std.specs.Prelude.{codes}
use Rattle.std.proofs.Common.{inl, lit≤}
use Rattle.std.proofs.lemmas.List.Elements.{All-from_recursion}
use Rattle.pool_base.specs.Codes.{IsCodeByte}
use Rattle.pool_base.specs.declared.code.Code.{Code}

-- the backend cannot be recovered
abbrev pub cannot_recover : Code
cannot_recover = record {
  bytes = codes "55000";
  spelled = ∣ All-from_recursion IsCodeByte (codes "55000") (inl (lit≤ tt, lit≤ tt), (inl (lit≤ tt, lit≤ tt), (inl (lit≤ tt, lit≤ tt), (inl (lit≤ tt, lit≤ tt), (inl (lit≤ tt, lit≤ tt), tt))))) ∣₁;
}

-- another recovery is under way
abbrev pub under_way : Code
under_way = record {
  bytes = codes "55006";
  spelled = ∣ All-from_recursion IsCodeByte (codes "55006") (inl (lit≤ tt, lit≤ tt), (inl (lit≤ tt, lit≤ tt), (inl (lit≤ tt, lit≤ tt), (inl (lit≤ tt, lit≤ tt), (inl (lit≤ tt, lit≤ tt), tt))))) ∣₁;
}

-- the source or the target was lost
abbrev pub lost_on_the_way : Code
lost_on_the_way = record {
  bytes = codes "08006";
  spelled = ∣ All-from_recursion IsCodeByte (codes "08006") (inl (lit≤ tt, lit≤ tt), (inl (lit≤ tt, lit≤ tt), (inl (lit≤ tt, lit≤ tt), (inl (lit≤ tt, lit≤ tt), (inl (lit≤ tt, lit≤ tt), tt))))) ∣₁;
}
