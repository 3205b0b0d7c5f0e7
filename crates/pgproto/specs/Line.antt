-- A line of a script as plain data, and which bytes are such a line.
use Rattle.std.specs.Prelude.{◌≡◌, ◌≤◌, ◌<◌, ℕ, ℤ, pos, neg_ℤ, ◌+◌, ◌++◌, ◌⊎◌, List, [], ◌∷◌, length, map, Bool, true, false, codes}
use Rattle.std.specs.List.{AllByRecursion}
use Rattle.pgproto.specs.Words.{AreHexOf, IsNumber, IsString, quoted}
use Rattle.pgproto.specs.declared.line.Mark.{Mark}
use Rattle.pgproto.specs.declared.line.Mark.TheVariants as mark
use Rattle.pgproto.specs.declared.line.ScriptValue.{ScriptValue}
use Rattle.pgproto.specs.declared.line.ScriptValue.TheVariants.{Null, Str, Hex}
use Rattle.pgproto.specs.declared.line.ScriptLine.{ScriptLine}
use Rattle.pgproto.specs.declared.line.ScriptLine.TheVariants as script

-- where a session stops, with numbers for backends
pub data Place : Type 0 where
  order : Place
  snapshot : Place
  commit : Place
  post : ℕ → Place
  answer : ℕ → Place
  reply : Place

-- a line, with numbers for sessions and backends
pub data Line : Type 0 where
  session : (s : ℕ) → Line
  lose : (b : ℕ) → Line
  cut : (size : ℕ) → Line
  moment : (text : List ℕ) → Line
  hold : (s : ℕ) → Line
  go : (s : ℕ) → Line
  until : (s : ℕ) → (place : Place) → Line
  raw : (s : ℕ) → (bytes : List ℕ) → Line
  query : (s : ℕ) → (text : List ℕ) → Line
  parse : (s : ℕ) → (name text : List ℕ) → (kinds : List ℕ) → Line
  describe : (s : ℕ) → (portal : Bool) → (name : List ℕ) → Line
  bind : (s : ℕ) → (portal name : List ℕ) → (formats : List ℕ) → (values : List ScriptValue) → (results : List ℕ) → Line
  execute : (s : ℕ) → (portal : List ℕ) → (limit : ℤ) → Line
  close : (s : ℕ) → (portal : Bool) → (name : List ℕ) → Line
  flush : (s : ℕ) → Line
  sync : (s : ℕ) → Line
  terminate : (s : ℕ) → Line

abbrev pub place_of : Mark → Place
place_of mark.Order = order
place_of mark.Snapshot = snapshot
place_of mark.Commit = commit
place_of (mark.Post b) = post b.number
place_of (mark.Answer b) = answer b.number
place_of mark.Reply = reply

abbrev pub line_of : ScriptLine → Line
line_of (script.Session s) = session s.number
line_of (script.Lose b) = lose b.number
line_of (script.Cut size) = cut size
line_of (script.Moment text) = moment text
line_of (script.Hold s) = hold s.number
line_of (script.Go s) = go s.number
line_of (script.Until s place) = until s.number (place_of place)
line_of (script.Raw s bytes) = raw s.number bytes
line_of (script.Query s text) = query s.number text
line_of (script.Parse s name text kinds) = parse s.number name text kinds
line_of (script.Describe s portal name) = describe s.number portal name
line_of (script.Bind s portal name formats values results) = bind s.number portal name formats values results
line_of (script.Execute s portal limit) = execute s.number portal limit
line_of (script.Close s portal name) = close s.number portal name
line_of (script.Flush s) = flush s.number
line_of (script.Sync s) = sync s.number
line_of (script.Terminate s) = terminate s.number

-- bytes are a text of the value, and then a rest
abbrev pub Form : Type 0 → Type 1
Form A = A → List ℕ → List ℕ → Type 0

abbrev pub Word : List ℕ → List ℕ → List ℕ → Type 0
Word word bytes rest = bytes ≡ word ++ rest

abbrev pub NumberOf : Form ℕ
NumberOf n bytes rest = (digits : List ℕ) × IsNumber digits n × (bytes ≡ digits ++ rest)

-- a number of a session, 1 to 64
abbrev pub SessionOf : Form ℕ
SessionOf s bytes rest = (1 ≤ s) × (s ≤ 64) × NumberOf s bytes rest

-- a number of a backend, 0 to 7
abbrev pub BackendOf : Form ℕ
BackendOf b bytes rest = (b < 8) × NumberOf b bytes rest

abbrev pub StringOf : Form (List ℕ)
StringOf text bytes rest = IsString text × (bytes ≡ quoted text ++ rest)

abbrev pub HexOf : Form (List ℕ)
HexOf found bytes rest = (digits : List ℕ) × AreHexOf digits found × (bytes ≡ 34 ∷ digits ++ 34 ∷ rest)

-- a row limit, with a minus in front where it is negative
abbrev pub LimitOf : Form ℤ
LimitOf limit bytes rest =
    ((n : ℕ) × (n < 2147483648) × (limit ≡ pos n) × NumberOf n bytes rest)
    ⊎ ((n : ℕ) × (after : List ℕ) × (n ≤ 2147483648) × (limit ≡ neg_ℤ (pos n)) × Word (codes "-") bytes after × NumberOf n after rest)

abbrev pub ValueOf : Form ScriptValue
ValueOf Null bytes rest = Word (codes "null") bytes rest
ValueOf (Str text) bytes rest = StringOf text bytes rest
ValueOf (Hex found) bytes rest = (after : List ℕ) × Word (codes "x") bytes after × HexOf found after rest

-- a space, and then the text of a value
abbrev pub Spaced : {A : Type 0} → (A → List ℕ → List ℕ → Type 0) → A → List ℕ → List ℕ → Type 0
Spaced form x bytes rest = (after : List ℕ) × Word (codes " ") bytes after × form x after rest

-- values one after another, each behind a space
abbrev pub ListOf : {A : Type 0} → (A → List ℕ → List ℕ → Type 0) → List A → List ℕ → List ℕ → Type 0
ListOf form [] bytes rest = bytes ≡ rest
ListOf form (x ∷ xs) bytes rest = (after : List ℕ) × Spaced form x bytes after × ListOf form xs after rest

-- their count, and then the values
abbrev pub CountedOf : {A : Type 0} → (A → List ℕ → List ℕ → Type 0) → List A → List ℕ → List ℕ → Type 0
CountedOf form xs bytes rest = (after : List ℕ) × Spaced NumberOf (length xs) bytes after × ListOf form xs after rest

abbrev pub PlaceOf : Form Place
PlaceOf order bytes rest = Word (codes "order") bytes rest
PlaceOf snapshot bytes rest = Word (codes "snapshot") bytes rest
PlaceOf commit bytes rest = Word (codes "commit") bytes rest
PlaceOf (post b) bytes rest = (after : List ℕ) × Word (codes "post ") bytes after × BackendOf b after rest
PlaceOf (answer b) bytes rest = (after : List ℕ) × Word (codes "answer ") bytes after × BackendOf b after rest
PlaceOf reply bytes rest = Word (codes "reply") bytes rest

-- 'P' of a portal, 'S' of a statement
abbrev pub TargetOf : Form Bool
TargetOf true bytes rest = Word (codes "'P'") bytes rest
TargetOf false bytes rest = Word (codes "'S'") bytes rest

-- a session's number, and then a word
abbrev pub Numbered : ℕ → List ℕ → List ℕ → List ℕ → Type 0
Numbered s word bytes rest = (after : List ℕ) × SessionOf s bytes after × Word word after rest

-- the bytes are this line, without its end
abbrev pub IsLine : Line → List ℕ → Type 0
IsLine (session s) bytes = (a : List ℕ) × Word (codes "session ") bytes a × SessionOf s a []
IsLine (lose b) bytes = (a : List ℕ) × Word (codes "lose ") bytes a × BackendOf b a []
IsLine (cut size) bytes = (a : List ℕ) × Word (codes "cut ") bytes a × (1 ≤ size) × (size ≤ 65536) × NumberOf size a []
IsLine (moment text) bytes = (a : List ℕ) × Word (codes "moment ") bytes a × StringOf text a []
IsLine (hold s) bytes = Numbered s (codes " hold") bytes []
IsLine (go s) bytes = Numbered s (codes " go") bytes []
IsLine (until s place) bytes = (a : List ℕ) × Numbered s (codes " until ") bytes a × PlaceOf place a []
IsLine (raw s found) bytes = (a : List ℕ) × Numbered s (codes " raw ") bytes a × HexOf found a []
IsLine (query s text) bytes = (a : List ℕ) × Numbered s (codes " 'Q'") bytes a × Spaced StringOf text a []
IsLine (parse s name text kinds) bytes =
    (a b c : List ℕ) × Numbered s (codes " 'P'") bytes a × Spaced StringOf name a b × Spaced StringOf text b c
    × CountedOf NumberOf kinds c []
IsLine (describe s portal name) bytes =
    (a b : List ℕ) × Numbered s (codes " 'D' ") bytes a × TargetOf portal a b × Spaced StringOf name b []
IsLine (bind s portal name formats values results) bytes =
    (a b c d e : List ℕ) × Numbered s (codes " 'B'") bytes a × Spaced StringOf portal a b × Spaced StringOf name b c
    × CountedOf NumberOf formats c d × CountedOf ValueOf values d e × CountedOf NumberOf results e []
IsLine (execute s portal limit) bytes =
    (a b : List ℕ) × Numbered s (codes " 'E'") bytes a × Spaced StringOf portal a b × Spaced LimitOf limit b []
IsLine (close s portal name) bytes =
    (a b : List ℕ) × Numbered s (codes " 'C' ") bytes a × TargetOf portal a b × Spaced StringOf name b []
IsLine (flush s) bytes = Numbered s (codes " 'H'") bytes []
IsLine (sync s) bytes = Numbered s (codes " 'S'") bytes []
IsLine (terminate s) bytes = Numbered s (codes " 'X'") bytes []

-- the lists of a line can be counted, and their numbers are of their types
abbrev pub IsSmall : Line → Type 0
IsSmall (parse s name text kinds) = (length kinds ≤ 32767) × AllByRecursion (λ n. n ≤ 4294967295) kinds
IsSmall (bind s portal name formats values results) =
    ((length formats ≤ 32767) × AllByRecursion (λ n. n ≤ 65535) formats)
    × (length values ≤ 32767)
    × ((length results ≤ 32767) × AllByRecursion (λ n. n ≤ 65535) results)
IsSmall line = Unit {0}
