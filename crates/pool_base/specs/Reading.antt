-- What a fault of reading a whole file says.
use Rattle.std.specs.Prelude.{Result, Ok, Err}
use Rattle.pool_base.specs.declared.read.ReadFault.{ReadFault}
use Rattle.pool_base.specs.declared.read.ReadFault.TheVariants.{TooLong, Failed, NoMemory}

-- it holds where the fault is that the file is too long
abbrev pub IfTooLong : {X : Type 0} → Result X ReadFault → Type 0 → Type 0
IfTooLong (Ok value) P = Unit {0}
IfTooLong (Err TooLong) P = P
IfTooLong (Err Failed) P = Unit {0}
IfTooLong (Err NoMemory) P = Unit {0}

-- it holds where the fault is that the files have failed
abbrev pub IfFailed : {X : Type 0} → Result X ReadFault → Type 0 → Type 0
IfFailed (Ok value) P = Unit {0}
IfFailed (Err TooLong) P = Unit {0}
IfFailed (Err Failed) P = P
IfFailed (Err NoMemory) P = Unit {0}
