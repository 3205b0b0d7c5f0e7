-- What is written behind the echo of a line.
use Rattle.std.specs.Prelude.{◌≡◌, ℕ, ℤ, Bool, List, Option}
use Rattle.pool_base.specs.Outside.{Appends, AppendsFront}
use Rattle.schema.specs.declared.catalogue.TableDef.{TableDef}
use Rattle.backend_trait.specs.Rows.{Rows}
use Rattle.pgproto.specs.Line.{Line}
use Rattle.play.specs.declared.player.Scene.{Scene as Given}
use Rattle.play.specs.Asked.{Asked}
use Rattle.play.specs.Script.{Deed, Scene, scene_after, Does, IsHeard, rows_behind}
use Rattle.play.specs.Transcript.{IsShown, IsShownQuery}

-- what stands before a line, as the program has it, over these rows
abbrev pub scene_of : Rows → Given → Scene
scene_of rows scene = record { online = scene.online; moment = scene.moment; rows = rows }

-- the line does a deed, which shows what was written, and leads to what stands behind it
pub record IsShownOf (tables : List TableDef) (scene : Scene) (line : Line) (had has : Option (List ℕ)) (after : Scene) : Type 0 where
  pub deed : Deed
  pub does : Does tables scene line deed
  pub shown : List ℕ
  pub is_shown : IsShown tables scene deed shown
  pub wrote : Appends had has shown
  pub leads : after ≡ scene_after tables scene deed

-- nothing was written, or a front of what a deed of the line shows
pub data IsShownInPart (tables : List TableDef) (scene : Scene) (line : Line) (had has : Option (List ℕ)) : Type 0 where
  none_shown : has ≡ had → IsShownInPart tables scene line had has
  part_shown : (deed : Deed) (shown : List ℕ) → Does tables scene line deed → IsShown tables scene deed shown → AppendsFront had has shown
      → IsShownInPart tables scene line had has

-- the same of a text
pub record IsQueryShown (online : Bool) (tables : List TableDef) (rows : Rows) (moment : ℤ) (text : List ℕ) (had has : Option (List ℕ)) (left : Rows) : Type 0 where
  pub asked : Asked
  pub heard : IsHeard online tables moment text asked
  pub shown : List ℕ
  pub is_shown : IsShownQuery online tables rows asked shown
  pub wrote : Appends had has shown
  pub rows_left : left ≡ rows_behind online tables rows asked

pub data IsQueryShownInPart (online : Bool) (tables : List TableDef) (rows : Rows) (moment : ℤ) (text : List ℕ) (had has : Option (List ℕ)) : Type 0 where
  none_told : has ≡ had → IsQueryShownInPart online tables rows moment text had has
  part_told : (asked : Asked) (shown : List ℕ) → IsHeard online tables moment text asked → IsShownQuery online tables rows asked shown
      → AppendsFront had has shown → IsQueryShownInPart online tables rows moment text had has
