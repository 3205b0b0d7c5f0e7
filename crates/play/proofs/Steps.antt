-- What one line does, and what is shown of it.
use Rattle.std.proofs.Common.{◌≡◌, ℕ, ℤ, Bool, true, false, List, [], refl, sym, ap, ◌∙◌, subst, codes}
use Rattle.std.specs.Prelude.{Option, IfSome}
use Rattle.pool_base.specs.Outside.{Appends, AppendsFront}
use Rattle.pool_base.proofs.Sinking.{appends_nothing}
use Rattle.schema.specs.declared.catalogue.TableDef.{TableDef}
use Rattle.backend_trait.specs.Rows.{Rows}
use Rattle.pg_messages.specs.declared.client.ClientMessage.TheVariants as sent
use Rattle.pg_messages.specs.Client.{Fits}
use Rattle.pg_messages.specs.declared.server.ServerMessage.{ServerMessage}
use Rattle.pgproto.specs.Line.{Line, moment, session, query, terminate}
use Rattle.pgproto.specs.Script.{message_of}
use Rattle.pgproto.specs.Spelling.{IsOfGrammar}
use Rattle.play.specs.Asked.{nothing}
use Rattle.play.specs.Replies.{AreReadAgain, spelled_all}
use Rattle.play.specs.Answering.{IsAnswered}
use Rattle.play.specs.Script.{Deed, sets, connects, asks, leaves, line_for, IsMomentOf, IsPlayed, set, connect, ask, leave, Scene}
use Rattle.play.specs.Transcript.{ended, shown_connect, shown_leave, lines_of}
use Rattle.play.specs.Showing.{IsShownOf, IsShownInPart, none_shown, part_shown, IsQueryShown, IsQueryShownInPart, none_told, part_told}
use Rattle.play.proofs.Asking.{sent_bytes}

abbrev pub IsMomentText : List ℕ → Type 0
IsMomentText text = (micros : ℤ) × IsMomentOf text micros

pub moment_played : (line : Line) (text : List ℕ) → line ≡ moment text → IsPlayed line → IsMomentText text
moment_played line text is (set other micros e m) = let same : text ≡ other = cc in (micros, subst (λ (t : List ℕ). IsMomentOf t micros) (sym same) m)
moment_played line text is (connect e) = let never : moment text ≡ session 1 = sym is ∙ e in absurd (cc)
moment_played line text is (ask other e) = let never : moment text ≡ query 1 other = sym is ∙ e in absurd (cc)
moment_played line text is (leave e) = let never : moment text ≡ terminate 1 = sym is ∙ e in absurd (cc)

pub other_played : (line : Line) → ((deed : Deed) → line ≡ line_for deed → ⊥) → IsPlayed line → ⊥
other_played line other (set text micros e m) = other (sets text micros) e
other_played line other (connect e) = other connects e
other_played line other (ask text e) = other (asks text nothing) e
other_played line other (leave e) = other leaves e

pub query_fits : (line : Line) (text : List ℕ) → line ≡ query 1 text → IsOfGrammar line → Fits (sent.Query text)
query_fits line text is g = subst (λ (l : Line). IfSome (message_of l) Fits) is (g.is).2

-- ---- what a line shows

pub set_shown : (tables : List TableDef) (scene : Scene) (line : Line) (text : List ℕ) (micros : ℤ) (a : Option (List ℕ)) → line ≡ moment text → IsMomentOf text micros → IsShownOf tables scene line a a (record scene { moment = micros })
set_shown tables scene line text micros a is m = record { deed = sets text micros; does = (is, m); shown = []; is_shown = refl; wrote = appends_nothing a; leads = refl }

pub connect_shown : (tables : List TableDef) (scene : Scene) (line : Line) (online : Bool) (a b : Option (List ℕ)) → line ≡ session 1 → online ≡ true → Appends a b (shown_connect scene.online) → IsShownOf tables scene line a b (record scene { online = online })
connect_shown tables scene line online a b is on wrote = record { deed = connects; does = (is, tt); shown = shown_connect scene.online; is_shown = refl; wrote = wrote; leads = ap (λ (o : Bool). record scene { online = o }) on }

pub connect_in_part : (tables : List TableDef) (scene : Scene) (line : Line) (a b : Option (List ℕ)) → line ≡ session 1 → AppendsFront a b (shown_connect scene.online) → IsShownInPart tables scene line a b
connect_in_part tables scene line a b is wrote = part_shown connects (shown_connect scene.online) (is, tt) refl wrote

pub ask_shown : (tables : List TableDef) (scene : Scene) (line : Line) (text : List ℕ) (online : Bool) (rows : Rows) (a b : Option (List ℕ)) → line ≡ query 1 text → online ≡ scene.online
    → IsQueryShown scene.online tables scene.rows scene.moment text a b rows → IsShownOf tables scene line a b (record { online = online; moment = scene.moment; rows = rows })
ask_shown tables scene line text online rows a b is on q = record {
  deed = asks text q.asked;
  does = (is, q.heard);
  shown = q.shown;
  is_shown = q.is_shown;
  wrote = q.wrote;
  leads = ap (λ (o : Bool). record { online = o; moment = scene.moment; rows = rows }) on ∙ ap (λ (r : Rows). record scene { rows = r }) q.rows_left;
}

pub ask_in_part : (tables : List TableDef) (scene : Scene) (line : Line) (text : List ℕ) (a b : Option (List ℕ)) → line ≡ query 1 text
    → IsQueryShownInPart scene.online tables scene.rows scene.moment text a b → IsShownInPart tables scene line a b
ask_in_part tables scene line text a b is (none_told same) = none_shown same
ask_in_part tables scene line text a b is (part_told asked shown heard is_shown wrote) = part_shown (asks text asked) shown (is, heard) is_shown wrote

pub leave_shown : (tables : List TableDef) (scene : Scene) (line : Line) (online : Bool) (rows : Rows) (a b : Option (List ℕ)) → line ≡ terminate 1 → online ≡ false → rows ≡ scene.rows
    → Appends a b (shown_leave scene.online) → IsShownOf tables scene line a b (record { online = online; moment = scene.moment; rows = rows })
leave_shown tables scene line online rows a b is off kept wrote = record {
  deed = leaves;
  does = (is, tt);
  shown = shown_leave scene.online;
  is_shown = refl;
  wrote = wrote;
  leads = ap (λ (o : Bool). record { online = o; moment = scene.moment; rows = rows }) off ∙ ap (λ (r : Rows). record { online = false; moment = scene.moment; rows = r }) kept;
}

pub leave_in_part : (tables : List TableDef) (scene : Scene) (line : Line) (a b : Option (List ℕ)) → line ≡ terminate 1 → AppendsFront a b (shown_leave scene.online) → IsShownInPart tables scene line a b
leave_in_part tables scene line a b is wrote = part_shown leaves (shown_leave scene.online) (is, tt) refl wrote

-- ---- what a text shows

pub gone_shown : (tables : List TableDef) (online : Bool) (rows : Rows) (m : ℤ) (text : List ℕ) (a b : Option (List ℕ)) → online ≡ false → Appends a b (ended (codes "1 gone")) → IsQueryShown online tables rows m text a b rows
gone_shown tables online rows m text a b off wrote =
    subst (λ (o : Bool). IsQueryShown o tables rows m text a b rows) (sym off)
    (record { asked = nothing; heard = refl; shown = ended (codes "1 gone"); is_shown = refl; wrote = wrote; rows_left = refl })

pub gone_in_part : (tables : List TableDef) (online : Bool) (rows : Rows) (m : ℤ) (text : List ℕ) (a b : Option (List ℕ)) → online ≡ false → AppendsFront a b (ended (codes "1 gone")) → IsQueryShownInPart online tables rows m text a b
gone_in_part tables online rows m text a b off wrote =
    subst (λ (o : Bool). IsQueryShownInPart o tables rows m text a b) (sym off) (part_told nothing (ended (codes "1 gone")) refl refl wrote)

-- what is written of the messages in these bytes
abbrev pub Writes : (List ℕ → Type 0) → List ℕ → Type 0
Writes Has bytes = (messages : List ServerMessage) → AreReadAgain messages → bytes ≡ spelled_all messages → Has (lines_of messages)

pub answer_shown : (tables : List TableDef) (online : Bool) (rows left : Rows) (m : ℤ) (text old new bytes : List ℕ) (a b : Option (List ℕ)) → online ≡ true → old ≡ [] → bytes ≡ new
    → IsAnswered tables rows m text old new left → Writes (Appends a b) bytes → IsQueryShown online tables rows m text a b left
answer_shown tables online rows left m text old new bytes a b on none same is writes =
    subst (λ (o : Bool). IsQueryShown o tables rows m text a b left) (sym on) (record {
      asked = is.asked;
      heard = is.is;
      shown = lines_of is.messages;
      is_shown = (is.messages, is.replies, refl);
      wrote = writes is.messages (is.sent).again (sent_bytes old new bytes is.messages none same is.sent);
      rows_left = is.rows_left;
    })

pub answer_in_part : (tables : List TableDef) (online : Bool) (rows left : Rows) (m : ℤ) (text old new bytes : List ℕ) (a b : Option (List ℕ)) → online ≡ true → old ≡ [] → bytes ≡ new
    → IsAnswered tables rows m text old new left → Writes (AppendsFront a b) bytes → IsQueryShownInPart online tables rows m text a b
answer_in_part tables online rows left m text old new bytes a b on none same is writes =
    subst (λ (o : Bool). IsQueryShownInPart o tables rows m text a b) (sym on)
    (part_told is.asked (lines_of is.messages) is.is (is.messages, is.replies, refl) (writes is.messages (is.sent).again (sent_bytes old new bytes is.messages none same is.sent)))
