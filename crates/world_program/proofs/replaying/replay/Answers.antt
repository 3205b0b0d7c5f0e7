use Rattle.std.proofs.Common.{rules, ◌<◌, ◌∙◌, List, length, refl, sym, ap, subst}
use Rattle.std.proofs.lemmas.Option.{slice_get_read}
use Rattle.schema.specs.declared.catalogue.TableDef.{TableDef}
use Rattle.one_copy_model.specs.World.{World, first_world, FailsAt}
use Rattle.world_program.specs.Alike.{tidy}
use Rattle.world_program.specs.Meaning.{world_of}
use Rattle.world_program.specs.Starting.{start_of}
use Rattle.world_program.proofs.Playing.{fit_first, front_fit, front_next, front_fails, whole}
use Rattle.world_program.proofs.OneStore.{of_one_store}
use Rattle.world_program.proofs.replaying.replay.Goals as goal

pub loop-n-init : goal.loop-n-init
loop-n-init c =
    (tt, ap (λ (w : World). tidy w) (c.in_ok-w.ensures ∙ ap (λ (tables : List TableDef). first_world tables c.args.start.now.policy c.args.start.now.attached) c.in_ok-tables.ensures))

pub behind-requires : goal.behind-requires
behind-requires c =
    let start = c.args.start.now in
    front_fit (start_of start) (world_of c.loop-n.w) c.args.events.now c.loop-n.n (fit_first start.catalogue start.policy start.attached) c.loop-n.invariant

pub returns-in-Err-clause-fails : goal.returns-in-Err-clause-fails
returns-in-Err-clause-fails c = λ n e.
    let events = c.args.events.now in
    let there = slice_get_read events (length events) c.loop-n.n c.index-events-n.result refl c.loop-n-test.true c.index-events-n.is in
    let fails = c.in-Err.ensures.fails n e in
    subst (λ k. FailsAt (start_of c.args.start.now) events k) (sym fails.0)
    (front_fails (start_of c.args.start.now) (world_of c.loop-n.w) events c.loop-n.n c.index-events-n.result there c.loop-n.invariant fails.1)

pub loop-n-preserved : goal.loop-n-preserved
loop-n-preserved c =
    let events = c.args.events.now in
    let there = slice_get_read events (length events) c.loop-n.n c.index-events-n.result refl c.loop-n-test.true c.index-events-n.is in
    front_next (start_of c.args.start.now) (world_of c.loop-n.w) (world_of c.in-Ok.next) events c.loop-n.n c.index-events-n.result there c.loop-n.invariant
    c.in-Ok.ensures.may c.in-Ok.ensures.leads

pub returns-clause-schedule : goal.returns-clause-schedule
returns-clause-schedule c =
    (whole (start_of c.args.start.now) (world_of c.loop-n.w) c.args.events.now c.loop-n.n c.loop-n.auto.n-end c.loop-n-test.false c.loop-n.invariant).0

pub returns-clause-world : goal.returns-clause-world
returns-clause-world c =
    (whole (start_of c.args.start.now) (world_of c.loop-n.w) c.args.events.now c.loop-n.n c.loop-n.auto.n-end c.loop-n-test.false c.loop-n.invariant).1

pub returns-clause-one_store : goal.returns-clause-one_store
returns-clause-one_store c =
    let few : c.args.start.now.attached.bits < 256 = search rules in
    of_one_store c.args.start.now c.args.events.now c.requires.allowed few
    (whole (start_of c.args.start.now) (world_of c.loop-n.w) c.args.events.now c.loop-n.n c.loop-n.auto.n-end c.loop-n-test.false c.loop-n.invariant).0
