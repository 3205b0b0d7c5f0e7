-- A number of 64 bits has at most twenty digits.
use Rattle.std.proofs.Common.{ℕ, ◌<◌, ◌≤◌, ◌^◌, length, arith}
use Rattle.std.specs.Fmt.{decimal}
use Rattle.std.proofs.lemmas.Fmt.{length-decimal-le}

pub short_decimal : (n : ℕ) → n < 18446744073709551616 → length (decimal n) ≤ 20
short_decimal n below = length-decimal-le 20 n (omega arith) (omega arith) below
