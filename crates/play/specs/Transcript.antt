-- The transcript of a script: for each line its echo, and the messages that the line's effect gives.
use Rattle.std.specs.Prelude.{◌≡◌, ℕ, Bool, true, false, List, [], ◌∷◌, ◌++◌, Option, codes}
use Rattle.std.specs.List.{flat_map}
use Rattle.pool_base.specs.Outside.{Appends, AppendsFront}
use Rattle.schema.specs.declared.catalogue.TableDef.{TableDef}
use Rattle.backend_trait.specs.Rows.{Rows}
use Rattle.pg_messages.specs.declared.server.ServerMessage.{ServerMessage}
use Rattle.pgproto.specs.Line.{Line}
use Rattle.pgproto.specs.Spelling.{echoed}
use Rattle.pgproto.specs.Rendering.{rendered}
use Rattle.play.specs.Asked.{Asked}
use Rattle.play.specs.Script.{Deed, sets, connects, asks, leaves, line_for, Scene, first_scene, scene_after, AreDone}
use Rattle.play.specs.Replies.{start_up, AreReplies}

-- a line of the transcript
abbrev pub ended : List ℕ → List ℕ
ended line = line ++ 10 ∷ []

-- the line of a message to session 1
abbrev pub reply_line : ServerMessage → List ℕ
reply_line message = ended (rendered 1 message)

abbrev pub lines_of : List ServerMessage → List ℕ
lines_of messages = flat_map reply_line messages

-- the script line as the transcript has it
abbrev pub echo : Deed → List ℕ
echo deed = ended (echoed (line_for deed))

-- what stands behind the echo, where the session is connected, and where it is not
abbrev pub shown_connect : Bool → List ℕ
shown_connect true = ended (codes "1 busy")
shown_connect false = lines_of (start_up 1)

abbrev pub IsShownQuery : Bool → List TableDef → Rows → Asked → List ℕ → Type 0
IsShownQuery true tables rows asked bytes = (messages : List ServerMessage) × AreReplies tables rows asked messages × (bytes ≡ lines_of messages)
IsShownQuery false tables rows asked bytes = bytes ≡ ended (codes "1 gone")

abbrev pub shown_leave : Bool → List ℕ
shown_leave true = ended (codes "1 closed")
shown_leave false = ended (codes "1 gone")

abbrev pub IsShown : List TableDef → Scene → Deed → List ℕ → Type 0
IsShown tables scene (sets text micros) bytes = bytes ≡ []
IsShown tables scene connects bytes = bytes ≡ shown_connect scene.online
IsShown tables scene (asks text asked) bytes = IsShownQuery scene.online tables scene.rows asked bytes
IsShown tables scene leaves bytes = bytes ≡ shown_leave scene.online

-- at the end of the script a session that is connected is closed
abbrev pub closing : Bool → List ℕ
closing true = ended (codes "1 closed")
closing false = []

-- the part of a line
pub record IsPart (tables : List TableDef) (scene : Scene) (deed : Deed) (bytes : List ℕ) : Type 0 where
  pub shown : List ℕ
  pub is_shown : IsShown tables scene deed shown
  pub are : bytes ≡ echo deed ++ shown

-- the parts of lines, one after another, and what stands behind them
abbrev pub AreParts : List TableDef → Scene → List Deed → List ℕ → Scene → Type 0
AreParts tables scene [] bytes last = (bytes ≡ []) × (last ≡ scene)
AreParts tables scene (deed ∷ deeds) bytes last =
    (first rest : List ℕ) × IsPart tables scene deed first × AreParts tables (scene_after tables scene deed) deeds rest last × (bytes ≡ first ++ rest)

-- lines were played: what was written is their transcript, with the closing behind it, and these rows are left
pub record ArePlayed (tables : List TableDef) (lines : List Line) (rows : Rows) (had has : Option (List ℕ)) (left : Rows) : Type 0 where
  pub deeds : List Deed
  pub done : AreDone tables (first_scene rows) lines deeds
  pub bytes : List ℕ
  pub last : Scene
  pub parts : AreParts tables (first_scene rows) deeds bytes last
  pub wrote : Appends had has (bytes ++ closing last.online)
  pub rows_left : left ≡ last.rows

-- a front of the lines were played, and a front was written of their transcript, of the next line's echo or of the closing
pub data IsBeyond (online : Bool) (lines : List Line) (bytes : List ℕ) : Type 0 where
  none_beyond : bytes ≡ [] → IsBeyond online lines bytes
  echo_beyond : (line : Line) (more : List Line) → lines ≡ line ∷ more → bytes ≡ ended (echoed line) → IsBeyond online lines bytes
  closing_beyond : lines ≡ [] → bytes ≡ closing online → IsBeyond online lines bytes

pub record ArePlayedInPart (tables : List TableDef) (lines : List Line) (rows : Rows) (had has : Option (List ℕ)) : Type 0 where
  pub front : List Line
  pub rest : List Line
  pub all : lines ≡ front ++ rest
  pub deeds : List Deed
  pub done : AreDone tables (first_scene rows) front deeds
  pub bytes : List ℕ
  pub last : Scene
  pub parts : AreParts tables (first_scene rows) deeds bytes last
  pub beyond : List ℕ
  pub is_beyond : IsBeyond last.online rest beyond
  pub wrote : AppendsFront had has (bytes ++ beyond)
