-- The test of a count that rose says what the word says.
use Rattle.std.proofs.Common.{◌≡◌, ℕ, true, inl, inr, arith}
use Rattle.std.proofs.lemmas.Bool.Decides.{nat_tests}
use Rattle.pool_base.specs.Outside.{Rose}
use Rattle.session_links.specs.Rising.{has_risen}

pub risen : (before after : ℕ) → Rose before after → has_risen before after ≡ true
risen before after (inl less) = grind (arith, nat_tests)
risen before after (inr top) = grind (arith, nat_tests)
