use Rattle.std.proofs.Common.{◌≡◌, ◌≤◌, ap, ◌∙◌, drop, length, sym, subst, true, w64, ℤ}
use Rattle.std.proofs.lemmas.Int.{to_z-of_z}
use Rattle.session_wire.specs.Shown.{View, shown}
use Rattle.session_wire.specs.Cuts.{Agrees}
use Rattle.session_wire.specs.Sayings.{RoomFor}
use Rattle.session_wire.specs.Steps.{step_of}
use Rattle.session_wire.specs.Waiting.{open_one}
use Rattle.session_wire.proofs.Holds.{hears_rest, hears_stage}
use Rattle.session_wire.proofs.Quiet.{step_room}
use Rattle.session_wire.proofs.Taking.{takes_later, falls_by}
use Rattle.session_wire.proofs.wire.Wire.take_later.Goals as goal

pub drop_input-requires : goal.drop_input-requires
drop_input-requires c = record {
  fits = subst (λ rest. c.args.count ≤ length rest) (sym (hears_rest c.args.tables.now c.args.message (shown c.args.self.now) (shown c.take.new.self) c.in_ok-body.body c.in_ok-body.ensures.hears))
      c.requires.fits;
}

pub returns-clause-meets : goal.returns-clause-meets
returns-clause-meets c = (
  c.in_ok-body.body,
  shown c.take.new.self,
  c.in_ok-body.ensures.hears,
  c.drop_input.ensures.shown,
  subst (λ (moment : ℤ). c.step_of.result ≡ step_of moment c.in_ok-body.body) (to_z-of_z w64 c.args.moment c.ranges.moment) c.step_of.ensures,
)

pub returns-clause-takes : goal.returns-clause-takes
returns-clause-takes c = takes_later (shown c.args.self.now) (shown c.drop_input.new.self) c.args.message c.args.count
    c.requires.open c.requires.fits c.requires.front
    (ap (λ (v : View). v.rest) c.drop_input.ensures.shown
    ∙ ap (λ r. drop c.args.count r) (hears_rest c.args.tables.now c.args.message (shown c.args.self.now) (shown c.take.new.self) c.in_ok-body.body c.in_ok-body.ensures.hears))
    (subst (λ s. Agrees s true) (sym (ap (λ (v : View). v.stage) c.drop_input.ensures.shown))
    (hears_stage c.args.tables.now c.args.message (shown c.args.self.now) (shown c.take.new.self) c.in_ok-body.body c.requires.open c.in_ok-body.ensures.hears))

pub returns-clause-falls : goal.returns-clause-falls
returns-clause-falls c = falls_by (shown c.args.self.now) (shown c.drop_input.new.self) c.args.count
    (ap open_one c.requires.open) c.requires.some c.requires.fits
    (ap (λ (v : View). v.rest) c.drop_input.ensures.shown
    ∙ ap (λ r. drop c.args.count r) (hears_rest c.args.tables.now c.args.message (shown c.args.self.now) (shown c.take.new.self) c.in_ok-body.body c.in_ok-body.ensures.hears))

pub returns-clause-room : goal.returns-clause-room
returns-clause-room c = step_room c.args.moment c.in_ok-body.body c.step_of.result c.drop_input.new.self.output
    (subst (λ (moment : ℤ). c.step_of.result ≡ step_of moment c.in_ok-body.body) (to_z-of_z w64 c.args.moment c.ranges.moment) c.step_of.ensures)
    (subst (λ out. RoomFor c.in_ok-body.body out) (sym c.drop_input.ensures.output) c.in_ok-body.ensures.room)
