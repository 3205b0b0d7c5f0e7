-- The codes of the pool's own refusals and warnings.
use Rattle.std.specs.Prelude.{codes}
use Rattle.std.proofs.Common.{inl, inr, lit≤}
use Rattle.std.proofs.lemmas.List.Elements.{All-from_recursion}
use Rattle.pool_base.specs.Codes.{IsCodeByte}
use Rattle.pool_base.specs.declared.code.Code.{Code}

-- a warning: BEGIN in a block
abbrev pub in_a_block : Code
in_a_block = record {
  bytes = codes "25001";
  spelled = ∣ All-from_recursion IsCodeByte (codes "25001") (inl (lit≤ tt, lit≤ tt), (inl (lit≤ tt, lit≤ tt), (inl (lit≤ tt, lit≤ tt), (inl (lit≤ tt, lit≤ tt), (inl (lit≤ tt, lit≤ tt), tt))))) ∣₁;
}

-- a warning: COMMIT or ROLLBACK outside a block
abbrev pub outside_a_block : Code
outside_a_block = record {
  bytes = codes "25P01";
  spelled = ∣ All-from_recursion IsCodeByte (codes "25P01") (inl (lit≤ tt, lit≤ tt), (inl (lit≤ tt, lit≤ tt), (inr (lit≤ tt, lit≤ tt), (inl (lit≤ tt, lit≤ tt), (inl (lit≤ tt, lit≤ tt), tt))))) ∣₁;
}

-- the transaction's moment cannot be written
abbrev pub moment_out_of_range : Code
moment_out_of_range = record {
  bytes = codes "22008";
  spelled = ∣ All-from_recursion IsCodeByte (codes "22008") (inl (lit≤ tt, lit≤ tt), (inl (lit≤ tt, lit≤ tt), (inl (lit≤ tt, lit≤ tt), (inl (lit≤ tt, lit≤ tt), (inl (lit≤ tt, lit≤ tt), tt))))) ∣₁;
}

-- the gate's counts are spent
abbrev pub counts_spent : Code
counts_spent = record {
  bytes = codes "54000";
  spelled = ∣ All-from_recursion IsCodeByte (codes "54000") (inl (lit≤ tt, lit≤ tt), (inl (lit≤ tt, lit≤ tt), (inl (lit≤ tt, lit≤ tt), (inl (lit≤ tt, lit≤ tt), (inl (lit≤ tt, lit≤ tt), tt))))) ∣₁;
}

-- no backend is attached
abbrev pub no_backend : Code
no_backend = record {
  bytes = codes "57P03";
  spelled = ∣ All-from_recursion IsCodeByte (codes "57P03") (inl (lit≤ tt, lit≤ tt), (inl (lit≤ tt, lit≤ tt), (inr (lit≤ tt, lit≤ tt), (inl (lit≤ tt, lit≤ tt), (inl (lit≤ tt, lit≤ tt), tt))))) ∣₁;
}
