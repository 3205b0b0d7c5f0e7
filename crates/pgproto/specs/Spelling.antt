-- The one spelling of a line, and its echo in a transcript.
use Rattle.std.specs.Prelude.{ℕ, ◌+◌, ◌/◌, ◌%◌, ◌++◌, List, [], ◌∷◌, length, flat_map, Bool, true, false, nat_lt, if◌then◌else◌, Option, Some, None, codes}
use Rattle.std.specs.Fmt.{decimal, signed_decimal}
use Rattle.pgproto.specs.Words.{quoted}
use Rattle.pgproto.specs.declared.line.ScriptValue.{ScriptValue}
use Rattle.pgproto.specs.declared.line.ScriptValue.TheVariants.{Null, Str, Hex}
use Rattle.pgproto.specs.Line.{Line, Place, session, lose, cut, moment, hold, go, until, raw, query, parse, describe, bind, execute, close, flush, sync, terminate, order, snapshot, commit, post, answer, reply}
use Rattle.pgproto.specs.Script.{IsScriptLine}

-- some bytes are this line
pub record IsOfGrammar (l : Line) : Type 0 where
  pub bytes : List ℕ
  pub is : IsScriptLine l bytes

-- a hexadecimal digit in lower case
abbrev pub digit : ℕ → ℕ
digit n = if nat_lt n 10 then 48 + n else 87 + n

-- a byte as two digits
abbrev pub two_digits : ℕ → List ℕ
two_digits b = digit (b / 16) ∷ digit (b % 16) ∷ []

-- bytes as digits in double quotes
abbrev pub hexed : List ℕ → List ℕ
hexed bytes = 34 ∷ (flat_map two_digits bytes ++ 34 ∷ [])

abbrev pub value_spelled : ScriptValue → List ℕ
value_spelled Null = codes "null"
value_spelled (Str text) = quoted text
value_spelled (Hex bytes) = 120 ∷ hexed bytes

-- values one after another, each behind a space
abbrev pub each_spelled : {A : Type 0} → (A → List ℕ) → List A → List ℕ
each_spelled entry xs = flat_map (λ x. 32 ∷ entry x) xs

-- their count, and then the values
abbrev pub counted_spelled : {A : Type 0} → (A → List ℕ) → List A → List ℕ
counted_spelled entry xs = 32 ∷ (decimal (length xs) ++ each_spelled entry xs)

abbrev pub place_spelled : Place → List ℕ
place_spelled order = codes "order"
place_spelled snapshot = codes "snapshot"
place_spelled commit = codes "commit"
place_spelled (post b) = codes "post " ++ decimal b
place_spelled (answer b) = codes "answer " ++ decimal b
place_spelled reply = codes "reply"

-- 'P' of a portal, 'S' of a statement
abbrev pub target_spelled : Bool → List ℕ
target_spelled portal = if portal then codes "'P'" else codes "'S'"

-- the session whose client sends what the line says, if one does
abbrev pub sender : Line → Option ℕ
sender (session s) = None
sender (lose b) = None
sender (cut size) = None
sender (moment text) = None
sender (hold s) = None
sender (go s) = None
sender (until s place) = None
sender (raw s bytes) = Some s
sender (query s text) = Some s
sender (parse s name text kinds) = Some s
sender (describe s portal name) = Some s
sender (bind s portal name formats values results) = Some s
sender (execute s portal limit) = Some s
sender (close s portal name) = Some s
sender (flush s) = Some s
sender (sync s) = Some s
sender (terminate s) = Some s

-- the line, without the number of a client that sends
unfoldable pub words_of : Line → List ℕ
words_of (session s) = codes "session " ++ decimal s
words_of (lose b) = codes "lose " ++ decimal b
words_of (cut size) = codes "cut " ++ decimal size
words_of (moment text) = codes "moment " ++ quoted text
words_of (hold s) = decimal s ++ codes " hold"
words_of (go s) = decimal s ++ codes " go"
words_of (until s place) = decimal s ++ (codes " until " ++ place_spelled place)
words_of (raw s bytes) = codes "raw " ++ hexed bytes
words_of (query s text) = codes "'Q' " ++ quoted text
words_of (parse s name text kinds) = codes "'P' " ++ (quoted name ++ (32 ∷ (quoted text ++ counted_spelled decimal kinds)))
words_of (describe s portal name) = codes "'D' " ++ (target_spelled portal ++ (32 ∷ quoted name))
words_of (bind s portal name formats values results) =
    codes "'B' " ++ (quoted portal ++ (32 ∷ (quoted name
    ++ (counted_spelled decimal formats ++ (counted_spelled value_spelled values ++ counted_spelled decimal results)))))
words_of (execute s portal limit) = codes "'E' " ++ (quoted portal ++ (32 ∷ signed_decimal limit))
words_of (close s portal name) = codes "'C' " ++ (target_spelled portal ++ (32 ∷ quoted name))
words_of (flush s) = codes "'H'"
words_of (sync s) = codes "'S'"
words_of (terminate s) = codes "'X'"

abbrev pub script_front : Option ℕ → List ℕ
script_front None = []
script_front (Some s) = decimal s ++ codes " "

abbrev pub echo_front : Option ℕ → List ℕ
echo_front None = codes "== "
echo_front (Some s) = decimal s ++ codes " FE=> "

-- the line, without its end
abbrev pub spelled : Line → List ℕ
spelled l = script_front (sender l) ++ words_of l

-- its echo, without its end
abbrev pub echoed : Line → List ℕ
echoed l = echo_front (sender l) ++ words_of l
