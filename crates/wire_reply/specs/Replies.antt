-- The replies of the pool as messages.
use Rattle.std.specs.Prelude.{ℕ, ℤ, pos, neg_ℤ, List, [], ◌∷◌, ◌++◌, Bool, true, false, codes, if◌then◌else◌}
use Rattle.pg_messages.specs.declared.server.ServerMessage.{ServerMessage}
use Rattle.pg_messages.specs.declared.server.ServerMessage.TheVariants.{Error, Notice, Complete, Ready}
use Rattle.pg_messages.specs.declared.server.Part.{Part}
use Rattle.pg_messages.specs.Frame.{framed}
use Rattle.pg_messages.specs.Server.{spelling}
use Rattle.wire_reply.specs.declared.saying.Saying.{Saying}
use Rattle.wire_reply.specs.declared.report.Severity.{Severity}
use Rattle.wire_reply.specs.declared.report.Severity.TheVariants as severity
use Rattle.wire_reply.specs.Sayings.{words_of, is_named}

abbrev pub severity_word : Severity → List ℕ
severity_word severity.Error = codes "ERROR"
severity_word severity.Fatal = codes "FATAL"
severity_word severity.Warning = codes "WARNING"

abbrev pub part : ℕ → List ℕ → Part
part tag text = record { tag = tag; text = text }

-- S and V: the severity; C: the code; M: the text
abbrev pub parts : Severity → List ℕ → List ℕ → List Part
parts s code text = part 83 (severity_word s) ∷ part 86 (severity_word s) ∷ part 67 code ∷ part 77 text ∷ []

-- the text with the name behind it, where it has a place for one
abbrev pub text_with : Saying → List ℕ → List ℕ
text_with saying name = if is_named saying then words_of saying ++ name else words_of saying

-- an ErrorResponse, or a NoticeResponse where it is a warning
abbrev pub report : Severity → List ℕ → List ℕ → ServerMessage
report severity.Error code text = Error (parts severity.Error code text)
report severity.Fatal code text = Error (parts severity.Fatal code text)
report severity.Warning code text = Notice (parts severity.Warning code text)

-- the part M of a report, and its end
abbrev pub text_bytes : List ℕ → List ℕ
text_bytes text = 77 ∷ text ++ 0 ∷ 0 ∷ []

-- the parts of a report with a severity of this word
abbrev pub body_bytes : List ℕ → List ℕ → List ℕ → List ℕ
body_bytes word code text = 83 ∷ word ++ 0 ∷ 86 ∷ word ++ 0 ∷ 67 ∷ code ++ 0 ∷ text_bytes text

-- E or N
abbrev pub report_tag : Severity → ℕ
report_tag severity.Error = 69
report_tag severity.Fatal = 69
report_tag severity.Warning = 78

-- the bytes of the report: those of its message, as the law of reports says
abbrev pub report_bytes : Severity → List ℕ → List ℕ → List ℕ
report_bytes s code text = framed (report_tag s) (body_bytes (severity_word s) code text)

abbrev pub complete_bytes : List ℕ → List ℕ
complete_bytes tag = spelling (Complete tag)

abbrev pub ready_bytes : ℕ → List ℕ
ready_bytes status = spelling (Ready status)
