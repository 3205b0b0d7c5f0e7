-- The messages of a server as bytes.
use Rattle.std.specs.Prelude.{◌≡◌, ℕ, ◌+◌, ◌<◌, ◌≤◌, ◌^◌, ◌⊎◌, List, [], ◌∷◌, ◌++◌, length, All, codes}
use Rattle.std.specs.Int.{w32}
use Rattle.std.specs.Int.RustNames.{FitsSigned}
use Rattle.pg_messages.specs.declared.server.ServerMessage.{ServerMessage}
use Rattle.pg_messages.specs.declared.server.ServerMessage.TheVariants.{AuthOk, AuthSasl, AuthContinue, AuthFinal, ParameterStatus, BackendKey, Ready, RowDescription, DataRow, Complete, Error, Notice, ParameterDescription, Empty, ParseComplete, BindComplete, CloseComplete, NoData, Suspended}
use Rattle.pg_messages.specs.Fields.{int32, signed32, string, counted, zero_ended, value, field, part, IsString, IsCountable, FieldFits, PartFits, AreBytes, ValueInRange, FieldInRange, PartInRange}
use Rattle.pg_messages.specs.Frame.{framed}

-- the type: R, S, K, Z, T, D, C, E, N, t, I, 1, 2, 3, n or s
abbrev pub tag_of : ServerMessage → ℕ
tag_of AuthOk = 82
tag_of AuthSasl = 82
tag_of (AuthContinue body) = 82
tag_of (AuthFinal body) = 82
tag_of (ParameterStatus name value) = 83
tag_of (BackendKey process secret) = 75
tag_of (Ready status) = 90
tag_of (RowDescription fields) = 84
tag_of (DataRow values) = 68
tag_of (Complete tag) = 67
tag_of (Error parts) = 69
tag_of (Notice parts) = 78
tag_of (ParameterDescription kinds) = 116
tag_of Empty = 73
tag_of ParseComplete = 49
tag_of BindComplete = 50
tag_of CloseComplete = 51
tag_of NoData = 110
tag_of Suspended = 115

-- the names of the ways in which a password may be shown: one, and the zero byte that ends the list
abbrev pub sasl_names : List ℕ
sasl_names = codes "SCRAM-SHA-256" ++ 0 ∷ 0 ∷ []

abbrev pub body_of : ServerMessage → List ℕ
body_of AuthOk = int32 0
body_of AuthSasl = int32 10 ++ sasl_names
body_of (AuthContinue body) = int32 11 ++ body
body_of (AuthFinal body) = int32 12 ++ body
body_of (ParameterStatus name setting) = string name ++ string setting
body_of (BackendKey process secret) = signed32 process ++ signed32 secret
body_of (Ready status) = status ∷ []
body_of (RowDescription fields) = counted field fields
body_of (DataRow values) = counted value values
body_of (Complete tag) = string tag
body_of (Error parts) = zero_ended part parts
body_of (Notice parts) = zero_ended part parts
body_of (ParameterDescription kinds) = counted int32 kinds
body_of Empty = []
body_of ParseComplete = []
body_of BindComplete = []
body_of CloseComplete = []
body_of NoData = []
body_of Suspended = []

-- the one spelling
abbrev pub spelling : ServerMessage → List ℕ
spelling m = framed (tag_of m) (body_of m)

-- I, T or E: idle, in a block, in a failed block
abbrev pub IsStatus : ℕ → Type 0
IsStatus status = (status ≡ 73) ⊎ ((status ≡ 84) ⊎ (status ≡ 69))

-- strings hold no zero byte, each list behind a count can be counted, a status is one, and no part has the tag 0
abbrev pub IsClean : ServerMessage → Type 0
IsClean AuthOk = Unit {0}
IsClean AuthSasl = Unit {0}
IsClean (AuthContinue body) = Unit {0}
IsClean (AuthFinal body) = Unit {0}
IsClean (ParameterStatus name setting) = IsString name × IsString setting
IsClean (BackendKey process secret) = Unit {0}
IsClean (Ready status) = IsStatus status
IsClean (RowDescription fields) = IsCountable fields × All FieldFits fields
IsClean (DataRow values) = IsCountable values
IsClean (Complete tag) = IsString tag
IsClean (Error parts) = All PartFits parts
IsClean (Notice parts) = All PartFits parts
IsClean (ParameterDescription kinds) = IsCountable kinds
IsClean Empty = Unit {0}
IsClean ParseComplete = Unit {0}
IsClean BindComplete = Unit {0}
IsClean CloseComplete = Unit {0}
IsClean NoData = Unit {0}
IsClean Suspended = Unit {0}

-- an error or a notice has no more parts than a list behind a count may have entries
abbrev pub HasFewParts : ServerMessage → Type 0
HasFewParts (Error parts) = IsCountable parts
HasFewParts (Notice parts) = IsCountable parts
HasFewParts m = Unit {0}

-- what a writer can write: its length may be stated
abbrev pub Fits : ServerMessage → Type 0
Fits m = IsClean m × HasFewParts m × (length (body_of m) + 4 ≤ 1048576)

-- the numbers are of their types
abbrev pub InRange : ServerMessage → Type 0
InRange AuthOk = Unit {0}
InRange AuthSasl = Unit {0}
InRange (AuthContinue body) = AreBytes body
InRange (AuthFinal body) = AreBytes body
InRange (ParameterStatus name setting) = AreBytes name × AreBytes setting
InRange (BackendKey process secret) = FitsSigned w32 process × FitsSigned w32 secret
InRange (Ready status) = Unit {0}
InRange (RowDescription fields) = All FieldInRange fields
InRange (DataRow values) = All ValueInRange values
InRange (Complete tag) = AreBytes tag
InRange (Error parts) = All PartInRange parts
InRange (Notice parts) = All PartInRange parts
InRange (ParameterDescription kinds) = All (λ k. k < 2 ^ 32) kinds
InRange Empty = Unit {0}
InRange ParseComplete = Unit {0}
InRange BindComplete = Unit {0}
InRange CloseComplete = Unit {0}
InRange NoData = Unit {0}
InRange Suspended = Unit {0}

-- the bytes are that message, all of them
abbrev pub IsServerForm : ServerMessage → List ℕ → Type 0
IsServerForm m bytes = IsClean m × InRange m × (length (body_of m) + 4 ≤ 1048576) × (bytes ≡ spelling m)

-- a type of a server's message
abbrev pub IsServerType : ℕ → Type 0
IsServerType tag = (tag ≡ 82) ⊎ ((tag ≡ 83) ⊎ ((tag ≡ 75) ⊎ ((tag ≡ 90) ⊎ ((tag ≡ 84) ⊎ ((tag ≡ 68) ⊎ ((tag ≡ 67) ⊎ ((tag ≡ 69) ⊎ ((tag ≡ 78) ⊎ ((tag ≡ 116) ⊎ ((tag ≡ 73) ⊎ ((tag ≡ 49) ⊎ ((tag ≡ 50) ⊎ ((tag ≡ 51) ⊎ ((tag ≡ 110) ⊎ (tag ≡ 115)))))))))))))))
