use Rattle.std.proofs.Common.{◌≡◌, ℕ, map, take, refl, ◌∙◌, subst}
use Rattle.pgproto.specs.Line.{line_of}
use Rattle.backend_trait.specs.Rows.{Rows}
use Rattle.play.specs.Transcript.{ArePlayed, ArePlayedInPart}
use Rattle.session_core.specs.Statements.{primary_rows, primary_tables}
use Rattle.pool_run.specs.Shelf.{HaveRows}
use Rattle.pool_run.proofs.Shelves.{have_rows}
use Rattle.pool_run.proofs.running.play_over.Goals as goal

pub returns-in-Ok : goal.returns-in-Ok
returns-in-Ok g c =
    let taken = g.O.Sink.taken in
    let meaning = g.B.Backend.meaning in
    let after = c.play.new.database in
    let tables = c.args.catalogue.now in
    let left : Rows = primary_rows (map meaning (take after.count after.shelf.items)) in
    let Wrote : Rows → Type 0 = λ rows. ArePlayed tables (map line_of c.args.script.now) rows (taken c.args.out.now) (taken c.play.new.out) left in
    let Holds : ℕ → Type 0 = λ n. HaveRows n tables left (map meaning after.shelf.items) in
    let of : primary_tables (map meaning (take after.count after.shelf.items)) ≡ tables = c.in-Ok.ensures.tables ∙ c.requires.tables in (
      left,
      subst Wrote c.requires.none c.in-Ok.ensures.all,
      subst Holds c.in-Ok.ensures.copies (have_rows meaning g.B.Backend.is_honest g.B.Backend.is_prompt g.B.Backend.is_steady after.shelf.items after.count tables left c.in-Ok.ensures.ready of refl),
    )

pub returns-in-Err-NoMemory : goal.returns-in-Err-NoMemory
returns-in-Err-NoMemory g c =
    let taken = g.O.Sink.taken in
    let In : Rows → Type 0 = λ rows. ArePlayedInPart c.args.catalogue.now (map line_of c.args.script.now) rows (taken c.args.out.now) (taken c.play.new.out) in
    subst In c.requires.none c.in-Err-NoMemory.ensures.front

pub returns-in-Err-SinkFailed : goal.returns-in-Err-SinkFailed
returns-in-Err-SinkFailed g c =
    let taken = g.O.Sink.taken in
    let In : Rows → Type 0 = λ rows. ArePlayedInPart c.args.catalogue.now (map line_of c.args.script.now) rows (taken c.args.out.now) (taken c.play.new.out) in
    (c.in-Err-SinkFailed.ensures.cause c.in-Err-SinkFailed.field-0-is, subst In c.requires.none c.in-Err-SinkFailed.ensures.front)
