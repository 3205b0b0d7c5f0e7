-- What errors and notices say.
use Rattle.std.specs.Prelude.{ℕ, List, Bool, true, false, codes}
use Rattle.wire_reply.specs.declared.saying.Saying.{Saying}
use Rattle.wire_reply.specs.declared.saying.Saying.TheVariants.{LostInRecovery, ProtocolViolation, NotInProfile, IntegerOutOfRange, DivisionByZero, InvalidMoment, MomentOutOfRange, SerialsSpent, NegativeLimit, InvalidUtf8, InvalidText, InvalidBinary, NotUtf8, InvalidFormat, NullValue, DuplicateKey, InTransaction, NoTransaction, Aborted, NoStatement, NoPortal, Concurrent, Deadlock, SyntaxAt, WrongNumber, SetTwice, NamedTwice, NoColumn, NoTable, TypesDoNotFit, NoParameter, PortalExists, StatementExists, OutOfMemory, TooManyClients, LimitPassed, TooManyColumns, NotRecoverable, CannotRun, RecoveryUnderWay, NoBackend, ByBackends}

-- the text, up to the name
abbrev pub words_of : Saying → List ℕ
words_of LostInRecovery = codes "a backend was lost during recovery"
words_of ProtocolViolation = codes "protocol violation"
words_of NotInProfile = codes "not in the profile: "
words_of IntegerOutOfRange = codes "integer out of range"
words_of DivisionByZero = codes "division by zero"
words_of InvalidMoment = codes "invalid moment"
words_of MomentOutOfRange = codes "moment out of range"
words_of SerialsSpent = codes "serial numbers are spent"
words_of NegativeLimit = codes "LIMIT must not be negative"
words_of InvalidUtf8 = codes "invalid UTF-8"
words_of InvalidText = codes "invalid input text"
words_of InvalidBinary = codes "invalid binary form"
words_of NotUtf8 = codes "client encoding is not UTF8"
words_of InvalidFormat = codes "invalid format code"
words_of NullValue = codes "null value in a NOT NULL column"
words_of DuplicateKey = codes "duplicate key"
words_of InTransaction = codes "a transaction is in progress"
words_of NoTransaction = codes "there is no transaction in progress"
words_of Aborted = codes "current transaction is aborted"
words_of NoStatement = codes "no such prepared statement"
words_of NoPortal = codes "no such portal"
words_of Concurrent = codes "could not serialize access due to concurrent update"
words_of Deadlock = codes "deadlock detected"
words_of SyntaxAt = codes "syntax error at byte "
words_of WrongNumber = codes "wrong number of values"
words_of SetTwice = codes "column set twice: "
words_of NamedTwice = codes "column named twice: "
words_of NoColumn = codes "no such column: "
words_of NoTable = codes "no such table: "
words_of TypesDoNotFit = codes "types do not fit"
words_of NoParameter = codes "there is no parameter"
words_of PortalExists = codes "portal exists"
words_of StatementExists = codes "prepared statement exists"
words_of OutOfMemory = codes "out of memory"
words_of TooManyClients = codes "too many clients"
words_of LimitPassed = codes "a limit was passed"
words_of TooManyColumns = codes "too many columns"
words_of NotRecoverable = codes "the backend cannot be recovered"
words_of CannotRun = codes "portal cannot be run"
words_of RecoveryUnderWay = codes "a recovery is under way"
words_of NoBackend = codes "no backend is attached"
words_of ByBackends = codes "refused by the backends"

-- whether a name stands behind it
abbrev pub is_named : Saying → Bool
is_named NotInProfile = true
is_named SyntaxAt = true
is_named SetTwice = true
is_named NamedTwice = true
is_named NoColumn = true
is_named NoTable = true
is_named _ = false
