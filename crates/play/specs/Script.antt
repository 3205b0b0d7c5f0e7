-- The scripts that are played: what each line has session 1 do, and which lines may follow which.
use Rattle.std.specs.Prelude.{◌≡◌, ℕ, ℤ, pos, Bool, true, false, List, [], ◌∷◌}
use Rattle.pg_values.specs.declared.col_type.ColType.TheVariants as kind
use Rattle.pg_values.specs.declared.value.Value.TheVariants as value
use Rattle.pg_values.specs.Answers.{ReadsText}
use Rattle.schema.specs.declared.catalogue.TableDef.{TableDef}
use Rattle.backend_trait.specs.Rows.{Rows}
use Rattle.pgproto.specs.Line.{Line, moment, session, query, terminate}
use Rattle.play.specs.Asked.{Asked, nothing, IsAsked}
use Rattle.play.specs.Replies.{rows_left_by}
use Rattle.play.specs.declared.script.Step.{Step}
use Rattle.play.specs.declared.script.Step.TheVariants.{Set, Connect, Ask, Leave, Other}

-- what a line does: it sets the moment, session 1 connects, it sends a text that asks for something, or it leaves
pub data Deed : Type 0 where
  sets : (text : List ℕ) → (moment : ℤ) → Deed
  connects : Deed
  asks : (text : List ℕ) → (asked : Asked) → Deed
  leaves : Deed

-- the line that does so
abbrev pub line_for : Deed → Line
line_for (sets text micros) = moment text
line_for connects = session 1
line_for (asks text asked) = query 1 text
line_for leaves = terminate 1

-- what stands before a line: whether session 1 is connected, the moment, the rows
pub record Scene : Type 0 where
  pub online : Bool
  pub moment : ℤ
  pub rows : Rows

-- at first nobody is connected, and the moment is 2000-01-01 00:00 UTC
abbrev pub first_scene : Rows → Scene
first_scene rows = record { online = false; moment = pos 0; rows = rows }

-- a text is a text form of that moment
abbrev pub IsMomentOf : List ℕ → ℤ → Type 0
IsMomentOf text micros = ReadsText kind.Moment text (value.Moment micros)

-- a text is looked at where the session is connected
abbrev pub IsHeard : Bool → List TableDef → ℤ → List ℕ → Asked → Type 0
IsHeard false tables micros text asked = asked ≡ nothing
IsHeard true tables micros text asked = IsAsked tables micros text asked

abbrev pub IsMeant : List TableDef → Scene → Deed → Type 0
IsMeant tables scene (sets text micros) = IsMomentOf text micros
IsMeant tables scene connects = Unit {0}
IsMeant tables scene (asks text asked) = IsHeard scene.online tables scene.moment text asked
IsMeant tables scene leaves = Unit {0}

-- the line does this
abbrev pub Does : List TableDef → Scene → Line → Deed → Type 0
Does tables scene line deed = (line ≡ line_for deed) × IsMeant tables scene deed

-- the rows behind a text, which changes them where the session is connected
abbrev pub rows_behind : Bool → List TableDef → Rows → Asked → Rows
rows_behind true tables rows asked = rows_left_by tables rows asked
rows_behind false tables rows asked = rows

-- what stands behind a line
abbrev pub scene_after : List TableDef → Scene → Deed → Scene
scene_after tables scene (sets text micros) = record scene { moment = micros }
scene_after tables scene connects = record scene { online = true }
scene_after tables scene (asks text asked) = record scene { rows = rows_behind scene.online tables scene.rows asked }
scene_after tables scene leaves = record scene { online = false }

-- the lines do these, one after another
abbrev pub AreDone : List TableDef → Scene → List Line → List Deed → Type 0
AreDone tables scene [] [] = Unit {0}
AreDone tables scene [] (deed ∷ deeds) = ⊥
AreDone tables scene (line ∷ lines) [] = ⊥
AreDone tables scene (line ∷ lines) (deed ∷ deeds) = Does tables scene line deed × AreDone tables (scene_after tables scene deed) lines deeds

-- what a line does, in one word
abbrev pub IsStep : Line → Step → Type 0
IsStep line (Set text) = line ≡ moment text.now
IsStep line Connect = line ≡ session 1
IsStep line (Ask text) = line ≡ query 1 text.now
IsStep line Leave = line ≡ terminate 1
IsStep line Other = (deed : Deed) → line ≡ line_for deed → ⊥

-- a line that is played; the text of a moment is one
pub data IsPlayed (line : Line) : Type 0 where
  set : (text : List ℕ) (micros : ℤ) → line ≡ moment text → IsMomentOf text micros → IsPlayed line
  connect : line ≡ session 1 → IsPlayed line
  ask : (text : List ℕ) → line ≡ query 1 text → IsPlayed line
  leave : line ≡ terminate 1 → IsPlayed line

-- where the lines are: no session yet, a session, none any more
pub data Part : Type 0 where
  before : Part
  within : Part
  behind : Part

-- which line may stand where: moments anywhere; `session 1`, then texts, then at most one leave
pub data IsNext (part : Part) (line : Line) (next : Part) : Type 0 where
  moment_set : (text : List ℕ) (micros : ℤ) → line ≡ moment text → IsMomentOf text micros → next ≡ part → IsNext part line next
  connected : line ≡ session 1 → part ≡ before → next ≡ within → IsNext part line next
  asked : (text : List ℕ) → line ≡ query 1 text → part ≡ within → next ≡ within → IsNext part line next
  left : line ≡ terminate 1 → part ≡ within → next ≡ behind → IsNext part line next

abbrev pub IsSessionFrom : Part → List Line → Type 0
IsSessionFrom part [] = Unit {0}
IsSessionFrom part (line ∷ lines) = (next : Part) × IsNext part line next × IsSessionFrom next lines

-- lines of one session
abbrev pub IsSession : List Line → Type 0
IsSession lines = IsSessionFrom before lines
