-- Reading the count of a tag.
use Rattle.std.proofs.Common.{◌≡◌, ℕ, pos, List, Option, Some, None, length, take, drop, sym}
use Rattle.pg_values.specs.declared.col_type.ColType.TheVariants as kind
use Rattle.pg_values.specs.declared.value.Value.{Value}
use Rattle.pg_values.specs.declared.value.Value.TheVariants as value
use Rattle.pg_values.specs.Answers.{ReadsText}
use Rattle.postgres_link.specs.Asked.{IsCount, Counts}
use Rattle.postgres_link.specs.Readings.{IsReading}

pub count_reading : (text : List ℕ) (v : Value) (r : Option ℕ) → ReadsText kind.Int8 text v → ((other : Value) → ReadsText kind.Int8 text other → v ≡ other)
    → IsReading (λ n. v ≡ value.Int8 (pos n)) r → IsReading (IsCount text) r
count_reading text v (Some n) reads only (same, one) = (rw same at reads, λ other is. one other (only (value.Int8 (pos other)) is))
count_reading text v None reads only none = λ other is. none other (only (value.Int8 (pos other)) is)

pub counts_reading : (front tag text : List ℕ) (r : Option ℕ) → take (length front) tag ≡ front → text ≡ drop (length front) tag
    → IsReading (IsCount text) r → IsReading (Counts front tag) r
counts_reading front tag text (Some n) head left (is, one) = ((head, rw left at is), λ other done. one other (rw (sym left) at done.1))
counts_reading front tag text None head left none = λ other done. none other (rw (sym left) at done.1)
