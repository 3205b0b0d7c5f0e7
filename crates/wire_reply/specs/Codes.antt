-- Which text a code has.
use Rattle.std.specs.Prelude.{ℕ, List, [], ◌∷◌, Bool, Option, Some, None, codes, bytes_eq, if◌then◌else◌}
use Rattle.wire_reply.specs.declared.saying.Saying.{Saying}
use Rattle.wire_reply.specs.declared.saying.Saying.TheVariants.{Aborted, ByBackends, Concurrent, Deadlock, DivisionByZero, DuplicateKey, InTransaction, IntegerOutOfRange, InvalidBinary, InvalidMoment, InvalidText, InvalidUtf8, LimitPassed, LostInRecovery, MomentOutOfRange, NamedTwice, NegativeLimit, NoBackend, NoColumn, NoParameter, NoPortal, NoStatement, NoTable, NoTransaction, NotInProfile, NullValue, OutOfMemory, PortalExists, ProtocolViolation, RecoveryUnderWay, SerialsSpent, SetTwice, StatementExists, TooManyClients, TooManyColumns, TypesDoNotFit, WrongNumber}

-- the first row with that code
abbrev pub saying_in : List ℕ → List (Saying × List ℕ) → Option Saying
saying_in code [] = None
saying_in code (row ∷ rows) = if bytes_eq row.1 code then Some row.0 else saying_in code rows

-- the codes whose text is one, and has no place for a name
abbrev pub of_backends : List (Saying × List ℕ)
of_backends =
    (LostInRecovery, codes "08006") ∷ (ProtocolViolation, codes "08P01") ∷ (IntegerOutOfRange, codes "22003") ∷ (DivisionByZero, codes "22012") ∷ (InvalidMoment, codes "22007") ∷ (MomentOutOfRange, codes "22008") ∷ (SerialsSpent, codes "2200H") ∷ (NegativeLimit, codes "2201W") ∷ (InvalidUtf8, codes "22021") ∷ (InvalidText, codes "22P02") ∷ (InvalidBinary, codes "22P03") ∷ (NullValue, codes "23502") ∷ (DuplicateKey, codes "23505") ∷ (InTransaction, codes "25001") ∷ (NoTransaction, codes "25P01") ∷ (Aborted, codes "25P02") ∷ (NoStatement, codes "26000") ∷ (NoPortal, codes "34000") ∷ (Concurrent, codes "40001") ∷ (Deadlock, codes "40P01") ∷ (TypesDoNotFit, codes "42804") ∷ (NoParameter, codes "42P02") ∷ (PortalExists, codes "42P03") ∷ (StatementExists, codes "42P05") ∷ (OutOfMemory, codes "53200") ∷ (TooManyClients, codes "53300") ∷ (LimitPassed, codes "54000") ∷ (TooManyColumns, codes "54011") ∷ (RecoveryUnderWay, codes "55006") ∷ (NoBackend, codes "57P03") ∷ []

-- the codes of checks of statements and values, but for 42601
abbrev pub of_checks : List (Saying × List ℕ)
of_checks =
    (NoTable, codes "42P01") ∷ (NoColumn, codes "42703") ∷ (NamedTwice, codes "42701") ∷ (TypesDoNotFit, codes "42804") ∷ (NoParameter, codes "42P02") ∷ (NotInProfile, codes "0A000") ∷ (TooManyColumns, codes "54011") ∷ (InvalidText, codes "22P02") ∷ (IntegerOutOfRange, codes "22003") ∷ (InvalidMoment, codes "22007") ∷ (MomentOutOfRange, codes "22008") ∷ []

abbrev pub or : Saying → Option Saying → Saying
or other None = other
or other (Some saying) = saying

-- what is said of a code that came from a backend
abbrev pub of_backend : List ℕ → Saying
of_backend code = or ByBackends (saying_in code of_backends)

-- what is said of a code of a check, of an UPDATE or not
abbrev pub of_check : List ℕ → Bool → Saying
of_check code updates = or (if updates then SetTwice else WrongNumber) (saying_in code of_checks)
