use Rattle.std.proofs.Common.{ℤ, w64, sym, subst, rules}
use Rattle.std.specs.Prelude.{FitsSigned}
use Rattle.std.proofs.lemmas.Int.{to_z-of_z}
use Rattle.pgproto.specs.Line.{line_of}
use Rattle.play.specs.Showing.{IsShownOf, scene_of}
use Rattle.play.proofs.Asking.{whatever}
use Rattle.play.proofs.Steps.{moment_played, other_played, query_fits, set_shown, connect_shown, connect_in_part, ask_shown, ask_in_part, leave_shown, leave_in_part}
use Rattle.play.proofs.player.show.Goals as goal

pub moment_set-requires : goal.moment_set-requires
moment_set-requires g c = moment_played (line_of c.args.line.now) c.in-Set.text.now c.in-Set.ensures c.requires.played

pub ask-requires-clause-query : goal.ask-requires-clause-query
ask-requires-clause-query g c = query_fits (line_of c.args.line.now) c.in-Ask.text.now c.in-Ask.ensures c.requires.grammar

pub unreachable-requires : goal.unreachable-requires
unreachable-requires g c = other_played (line_of c.args.line.now) c.in-Other.ensures c.requires.played

pub returns-in-Set-clause-all : goal.returns-in-Set-clause-all
returns-in-Set-clause-all g c =
    let before = scene_of (g.D.Database.rows c.args.database.now) c.args.scene in
    let fits : FitsSigned w64 c.moment_set.result = search rules in
    let Shown : ℤ → Type 0 = λ m. IsShownOf c.args.catalogue.now before (line_of c.args.line.now) (g.O.Sink.taken c.args.out.now) (g.O.Sink.taken c.args.out.now) (record before { moment = m }) in
    subst Shown (sym (to_z-of_z w64 c.moment_set.result fits))
    (set_shown c.args.catalogue.now before (line_of c.args.line.now) c.in-Set.text.now c.moment_set.result (g.O.Sink.taken c.args.out.now) c.in-Set.ensures c.moment_set.ensures)

pub returns-in_ok-start-in-Connect-clause-all : goal.returns-in_ok-start-in-Connect-clause-all
returns-in_ok-start-in-Connect-clause-all g c =
    let before = scene_of (g.D.Database.rows c.args.database.now) c.args.scene in
    let online = c.in_ok-start-in-Connect.field-0 in
    let fits : FitsSigned w64 c.args.scene.moment = search rules in
    let Shown : ℤ → Type 0 = λ m. IsShownOf c.args.catalogue.now before (line_of c.args.line.now) (g.O.Sink.taken c.args.out.now) (g.O.Sink.taken c.start.new.out) (record { online = online; moment = m; rows = before.rows }) in
    subst Shown (sym (to_z-of_z w64 c.args.scene.moment fits))
    (connect_shown c.args.catalogue.now before (line_of c.args.line.now) online (g.O.Sink.taken c.args.out.now) (g.O.Sink.taken c.start.new.out) c.in-Connect.ensures c.in_ok-start-in-Connect.ensures.online c.in_ok-start-in-Connect.ensures.all)

pub returns-in_err-start-in-Connect-clause-front : goal.returns-in_err-start-in-Connect-clause-front
returns-in_err-start-in-Connect-clause-front g c =
    whatever c.from_residual.result
    (connect_in_part c.args.catalogue.now (scene_of (g.D.Database.rows c.args.database.now) c.args.scene) (line_of c.args.line.now) (g.O.Sink.taken c.args.out.now) (g.O.Sink.taken c.start.new.out)
    c.in-Connect.ensures c.in_err-start-in-Connect.ensures.front)

pub returns-in_ok-ask-in-Ask-clause-all : goal.returns-in_ok-ask-in-Ask-clause-all
returns-in_ok-ask-in-Ask-clause-all g c =
    let before = scene_of (g.D.Database.rows c.args.database.now) c.args.scene in
    let online = c.in_ok-ask-in-Ask.field-0 in
    let left = g.D.Database.rows c.ask.new.database in
    let fits : FitsSigned w64 c.args.scene.moment = search rules in
    let Shown : ℤ → Type 0 = λ m. IsShownOf c.args.catalogue.now before (line_of c.args.line.now) (g.O.Sink.taken c.args.out.now) (g.O.Sink.taken c.ask.new.out) (record { online = online; moment = m; rows = left }) in
    subst Shown (sym (to_z-of_z w64 c.args.scene.moment fits))
    (ask_shown c.args.catalogue.now before (line_of c.args.line.now) c.in-Ask.text.now online left (g.O.Sink.taken c.args.out.now) (g.O.Sink.taken c.ask.new.out) c.in-Ask.ensures c.in_ok-ask-in-Ask.ensures.online c.in_ok-ask-in-Ask.ensures.all)

pub returns-in_err-ask-in-Ask-clause-front : goal.returns-in_err-ask-in-Ask-clause-front
returns-in_err-ask-in-Ask-clause-front g c =
    whatever c.from_residual-in_err-ask-in-Ask.result
    (ask_in_part c.args.catalogue.now (scene_of (g.D.Database.rows c.args.database.now) c.args.scene) (line_of c.args.line.now) c.in-Ask.text.now (g.O.Sink.taken c.args.out.now) (g.O.Sink.taken c.ask.new.out)
    c.in-Ask.ensures c.in_err-ask-in-Ask.ensures.front)

pub returns-in_ok-leave-in-Leave-clause-all : goal.returns-in_ok-leave-in-Leave-clause-all
returns-in_ok-leave-in-Leave-clause-all g c =
    let before = scene_of (g.D.Database.rows c.args.database.now) c.args.scene in
    let online = c.in_ok-leave-in-Leave.field-0 in
    let left = g.D.Database.rows c.leave.new.database in
    let fits : FitsSigned w64 c.args.scene.moment = search rules in
    let Shown : ℤ → Type 0 = λ m. IsShownOf c.args.catalogue.now before (line_of c.args.line.now) (g.O.Sink.taken c.args.out.now) (g.O.Sink.taken c.leave.new.out) (record { online = online; moment = m; rows = left }) in
    subst Shown (sym (to_z-of_z w64 c.args.scene.moment fits))
    (leave_shown c.args.catalogue.now before (line_of c.args.line.now) online left (g.O.Sink.taken c.args.out.now) (g.O.Sink.taken c.leave.new.out) c.in-Leave.ensures c.in_ok-leave-in-Leave.ensures.online c.in_ok-leave-in-Leave.ensures.rows c.in_ok-leave-in-Leave.ensures.all)

pub returns-in_err-leave-in-Leave-clause-front : goal.returns-in_err-leave-in-Leave-clause-front
returns-in_err-leave-in-Leave-clause-front g c =
    whatever c.from_residual-in_err-leave-in-Leave.result
    (leave_in_part c.args.catalogue.now (scene_of (g.D.Database.rows c.args.database.now) c.args.scene) (line_of c.args.line.now) (g.O.Sink.taken c.args.out.now) (g.O.Sink.taken c.leave.new.out)
    c.in-Leave.ensures c.in_err-leave-in-Leave.ensures.front)
