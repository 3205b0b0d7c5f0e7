-- The messages of a server as lines of a transcript.
use Rattle.std.specs.Prelude.{ℕ, ◌+◌, ◌/◌, ◌%◌, Bool, true, false, ◌||◌, ◌==◌, nat_lt, if◌then◌else◌, List, [], ◌∷◌, ◌++◌, Option, Some, None, codes}
use Rattle.std.specs.List.{flat_map}
use Rattle.std.specs.Fmt.{decimal, signed_decimal}
use Rattle.pg_messages.specs.declared.server.Field.{Field}
use Rattle.pg_messages.specs.declared.server.Part.{Part}
use Rattle.pg_messages.specs.declared.server.ServerMessage.{ServerMessage}
use Rattle.pg_messages.specs.declared.server.ServerMessage.TheVariants.{AuthOk, AuthSasl, AuthContinue, AuthFinal, ParameterStatus, BackendKey, Ready, RowDescription, DataRow, Complete, Error, Notice, ParameterDescription, Empty, ParseComplete, BindComplete, CloseComplete, NoData, Suspended}
use Rattle.pgproto.specs.Spelling.{two_digits}

-- a byte as it is shown: `\x` and two digits where it is no printed ASCII, behind a `\` where it is `"` or `\`
abbrev pub shown_byte : ℕ → List ℕ
shown_byte b =
    if nat_lt b 32 || nat_lt 126 b then 92 ∷ 120 ∷ two_digits b
    else if (b == 34) || (b == 92) then 92 ∷ b ∷ []
    else b ∷ []

-- bytes as they are shown
abbrev pub shown : List ℕ → List ℕ
shown text = flat_map shown_byte text

-- in double quotes
abbrev pub in_quotes : List ℕ → List ℕ
in_quotes text = 34 ∷ (shown text ++ 34 ∷ [])

-- entries with a mark between them
abbrev pub listed : {A : Type 0} → List ℕ → (A → List ℕ) → List A → List ℕ
listed mark entry [] = []
listed mark entry (x ∷ xs) = entry x ++ flat_map (λ y. mark ++ entry y) xs

-- a column: its name, the OID of its type, its format
abbrev pub column_form : Field → List ℕ
column_form f = in_quotes f.name ++ (32 ∷ (decimal f.kind ++ (32 ∷ decimal f.format)))

abbrev pub value_form : Option (List ℕ) → List ℕ
value_form None = codes "null"
value_form (Some bytes) = in_quotes bytes

-- the text of the first part with that tag; nothing where there is none
abbrev pub part_text : ℕ → List Part → List ℕ
part_text tag [] = []
part_text tag (p ∷ parts) = if p.tag == tag then p.text else part_text tag parts

-- an error or a notice: its severity (S), its code (C), its text (M)
abbrev pub fault_form : List Part → List ℕ
fault_form parts = shown (part_text 83 parts) ++ (32 ∷ (shown (part_text 67 parts) ++ (32 ∷ in_quotes (part_text 77 parts))))

abbrev pub name_of : ServerMessage → List ℕ
name_of AuthOk = codes "AuthenticationOk"
name_of AuthSasl = codes "AuthenticationSASL"
name_of (AuthContinue body) = codes "AuthenticationSASLContinue"
name_of (AuthFinal body) = codes "AuthenticationSASLFinal"
name_of (ParameterStatus name setting) = codes "ParameterStatus"
name_of (BackendKey process secret) = codes "BackendKeyData"
name_of (Ready status) = codes "ReadyForQuery"
name_of (RowDescription fields) = codes "RowDescription"
name_of (DataRow values) = codes "DataRow"
name_of (Complete tag) = codes "CommandComplete"
name_of (Error parts) = codes "ErrorResponse"
name_of (Notice parts) = codes "NoticeResponse"
name_of (ParameterDescription kinds) = codes "ParameterDescription"
name_of Empty = codes "EmptyQueryResponse"
name_of ParseComplete = codes "ParseComplete"
name_of BindComplete = codes "BindComplete"
name_of CloseComplete = codes "CloseComplete"
name_of NoData = codes "NoData"
name_of Suspended = codes "PortalSuspended"

-- these have nothing but a name; what is said of a password is not shown
abbrev pub has_fields : ServerMessage → Bool
has_fields AuthOk = false
has_fields AuthSasl = false
has_fields (AuthContinue body) = false
has_fields (AuthFinal body) = false
has_fields (ParameterStatus name setting) = true
has_fields (BackendKey process secret) = true
has_fields (Ready status) = true
has_fields (RowDescription fields) = true
has_fields (DataRow values) = true
has_fields (Complete tag) = true
has_fields (Error parts) = true
has_fields (Notice parts) = true
has_fields (ParameterDescription kinds) = true
has_fields Empty = false
has_fields ParseComplete = false
has_fields BindComplete = false
has_fields CloseComplete = false
has_fields NoData = false
has_fields Suspended = false

-- what stands in the parentheses
abbrev pub fields_of : ServerMessage → List ℕ
fields_of AuthOk = []
fields_of AuthSasl = []
fields_of (AuthContinue body) = []
fields_of (AuthFinal body) = []
fields_of (ParameterStatus name setting) = in_quotes name ++ (32 ∷ in_quotes setting)
fields_of (BackendKey process secret) = signed_decimal process ++ (32 ∷ signed_decimal secret)
fields_of (Ready status) = shown_byte status
fields_of (RowDescription fields) = listed (codes ", ") column_form fields
fields_of (DataRow values) = listed (codes ", ") value_form values
fields_of (Complete tag) = in_quotes tag
fields_of (Error parts) = fault_form parts
fields_of (Notice parts) = fault_form parts
fields_of (ParameterDescription kinds) = listed (codes " ") decimal kinds
fields_of Empty = []
fields_of ParseComplete = []
fields_of BindComplete = []
fields_of CloseComplete = []
fields_of NoData = []
fields_of Suspended = []

-- a name, and the fields in parentheses where there are any
unfoldable pub form_of : ServerMessage → List ℕ
form_of message =
    if has_fields message then name_of message ++ (codes " (" ++ (fields_of message ++ codes ")")) else name_of message

-- the line of a message to the session of that number, without its end
abbrev pub rendered : ℕ → ServerMessage → List ℕ
rendered s message = decimal s ++ (codes " <= BE " ++ form_of message)
