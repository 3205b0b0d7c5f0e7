-- How a moment stands in the log.
use Rattle.std.specs.Prelude.{ℤ}
use Rattle.pg_values.specs.Moments.{IsPrintedMoment}
use Rattle.serve_base.specs.declared.stamp.Stamp.{Stamp}

-- what stands in front of the milliseconds is what is printed of a moment
abbrev pub IsStamp : Stamp → Type 0
IsStamp stamp = (second : ℤ) × IsPrintedMoment second stamp.second
