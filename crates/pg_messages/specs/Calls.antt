-- Words for the clauses of the functions that read a frame.
use Rattle.std.specs.Prelude.{◌≡◌, ℕ, ◌+◌, List, Result, Ok, Err}
use Rattle.std.specs.Borrow.{Bor}
use Rattle.pool_base.specs.declared.no_memory.NoMemory.{NoMemory}
use Rattle.pg_messages.specs.declared.field_fault.FieldFault.{FieldFault}
use Rattle.pg_messages.specs.declared.field_fault.FieldFault.TheVariants as faults
use Rattle.pg_messages.specs.declared.frame.Layout.{Layout}
use Rattle.pg_messages.specs.declared.read.Read.{Read}
use Rattle.pg_messages.specs.declared.read.Read.TheVariants.{Whole, More, Bad, TooLong}

-- a body without where it lies
abbrev pub seen : Read (Bor (List ℕ)) → Read (List ℕ)
seen (Whole body n) = Whole body.now n
seen More = More
seen (Bad place) = Bad place
seen (TooLong n) = TooLong n

-- what a read body makes of a message of that length
abbrev pub IsJudged : {M : Type 0} → Layout → ℕ → Result M FieldFault → Result (Read M) NoMemory → Type 0
IsJudged l n (Ok message) answer = answer ≡ Ok (Whole message n)
IsJudged l n (Err faults.NoMemory) answer = answer ≡ Err (record {})
IsJudged l n (Err faults.Malformed) answer = answer ≡ Ok (Bad (l.place + 4))
