use Rattle.std.proofs.Common.{◌<◌, refl, subst, arith, length, vec_len, vec_capacity}
use Rattle.std.proofs.lemmas.Option.{slice_get_read}
use Rattle.model_store.specs.Seats.{IsGivenTo}
use Rattle.model_store.proofs.StoreLaws.{marked_set, room_kept, owed_part}
use Rattle.model_store.proofs.ActLaws.{granted_not_lost, longer}
use Rattle.model_store.proofs.ApartLaws.{apart_granted}
use Rattle.model_store.proofs.FormedLaws.{formed_here, gives_here}
use Rattle.model_store.proofs.KeptLaws.{committed_granted, given_granted, stored_granted}
use Rattle.model_store.proofs.IndexLaws.{indexed_granted}
use Rattle.outcomes.specs.Next.{next_of}
use Rattle.model_store.proofs.store.MemoryStore.granted.Goals as goal

pub grant_at-requires-clause-room : goal.grant_at-requires-clause-room
grant_at-requires-clause-room c =
    let within : c.args.at < length c.args.self.now.seats.items = omega (arith, c.args.self.now.all_seated, c.requires.below) in
    omega (
      arith,
      owed_part c.args.self.now.seats.items c.args.at c.index_mut.result.now
          (slice_get_read c.args.self.now.seats.items (length c.args.self.now.seats.items) c.args.at c.index_mut.result.now refl within c.index_mut.ensures.value),
      c.args.self.now.roomy,
    )

pub grant_at-requires-clause-gives : goal.grant_at-requires-clause-gives
grant_at-requires-clause-gives c =
    let within : c.args.at < length c.args.self.now.seats.items = omega (arith, c.args.self.now.all_seated, c.requires.below) in
    gives_here (next_of c.args.self.now.numbers) c.args.self.now.catalogue c.args.self.now.log.items c.args.self.now.seats.items c.args.at c.index_mut.result.now (slice_get_read c.args.self.now.seats.items (length c.args.self.now.seats.items) c.args.at c.index_mut.result.now refl within c.index_mut.ensures.value)
    c.args.self.now.given c.requires.goes

pub invariant_of-self-clause-marked : goal.invariant_of-self-clause-marked
invariant_of-self-clause-marked c =
    let within : c.args.at < length c.args.self.now.seats.items = omega (arith, c.args.self.now.all_seated, c.requires.below) in
    let more = longer (next_of c.args.self.now.numbers) c.args.self.now.catalogue (length c.args.self.now.log.items) c.args.self.now.log.items c.grant_at.new.log.items c.args.self.now.seats.items c.args.at c.index_mut.result.now c.grant_at.result c.grant_at.new.seat.phase refl
    (slice_get_read c.args.self.now.seats.items (length c.args.self.now.seats.items) c.args.at c.index_mut.result.now refl within c.index_mut.ensures.value) c.requires.goes c.grant_at.ensures.granted in
    marked_set c.args.self.now.seats.items c.args.at c.grant_at.new.seat (length c.args.self.now.log.items) (length c.grant_at.new.log.items) within c.args.self.now.marked more (omega (arith, more, c.grant_at.ensures.marked))

pub invariant_of-self-clause-apart : goal.invariant_of-self-clause-apart
invariant_of-self-clause-apart c =
    let within : c.args.at < length c.args.self.now.seats.items = omega (arith, c.args.self.now.all_seated, c.requires.below) in
    apart_granted (next_of c.args.self.now.numbers) c.args.self.now.catalogue c.args.self.now.log.items c.grant_at.new.log.items c.args.self.now.seats.items c.args.at c.index_mut.result.now c.grant_at.new.seat c.grant_at.result within
    (slice_get_read c.args.self.now.seats.items (length c.args.self.now.seats.items) c.args.at c.index_mut.result.now refl within c.index_mut.ensures.value) c.args.self.now.apart c.args.self.now.given c.requires.goes c.grant_at.ensures.granted

pub invariant_of-self-clause-committed : goal.invariant_of-self-clause-committed
invariant_of-self-clause-committed c =
    let store = c.args.self.now in
    let within : c.args.at < length store.seats.items = omega (arith, store.all_seated, c.requires.below) in
    let there = slice_get_read store.seats.items (length store.seats.items) c.args.at c.index_mut.result.now refl within c.index_mut.ensures.value in
    committed_granted (next_of store.numbers) store.catalogue store.log.items c.grant_at.new.log.items store.seats.items c.args.at c.index_mut.result.now c.grant_at.new.seat c.grant_at.result within there c.requires.goes
    c.grant_at.ensures.granted store.committed store.stored

pub invariant_of-self-clause-stored : goal.invariant_of-self-clause-stored
invariant_of-self-clause-stored c =
    let store = c.args.self.now in
    let within : c.args.at < length store.seats.items = omega (arith, store.all_seated, c.requires.below) in
    let there = slice_get_read store.seats.items (length store.seats.items) c.args.at c.index_mut.result.now refl within c.index_mut.ensures.value in
    stored_granted (next_of store.numbers) store.catalogue store.log.items c.grant_at.new.log.items store.seats.items c.args.at c.index_mut.result.now c.grant_at.new.seat c.grant_at.result within there c.requires.goes
    c.grant_at.ensures.granted store.allowed store.committed store.stored store.given

pub invariant_of-self-clause-given : goal.invariant_of-self-clause-given
invariant_of-self-clause-given c =
    let store = c.args.self.now in
    let within : c.args.at < length store.seats.items = omega (arith, store.all_seated, c.requires.below) in
    let there = slice_get_read store.seats.items (length store.seats.items) c.args.at c.index_mut.result.now refl within c.index_mut.ensures.value in
    given_granted (next_of store.numbers) store.catalogue store.log.items c.grant_at.new.log.items store.seats.items c.args.at c.index_mut.result.now c.grant_at.new.seat c.grant_at.result within there c.requires.goes
    c.grant_at.ensures.granted (next_of c.grant_at.new.numbers) c.grant_at.ensures.numbers store.apart c.grant_at.ensures.none store.marked store.given

pub invariant_of-self-clause-roomy : goal.invariant_of-self-clause-roomy
invariant_of-self-clause-roomy c =
    let within : c.args.at < length c.args.self.now.seats.items = omega (arith, c.args.self.now.all_seated, c.requires.below) in
    room_kept (vec_len c.args.self.now.log) (vec_len c.grant_at.new.log) (vec_capacity c.args.self.now.log) (vec_capacity c.grant_at.new.log) c.args.self.now.seats.items c.args.at c.index_mut.result.now c.grant_at.new.seat
    (slice_get_read c.args.self.now.seats.items (length c.args.self.now.seats.items) c.args.at c.index_mut.result.now refl within c.index_mut.ensures.value) c.grant_at.ensures.room c.grant_at.ensures.capacity c.args.self.now.roomy

pub returns-clause-acted : goal.returns-clause-acted
returns-clause-acted c =
    let within : c.args.at < length c.args.self.now.seats.items = omega (arith, c.args.self.now.all_seated, c.requires.below) in
    granted_not_lost c.args.self.now.is_lost c.requires.not_lost (next_of c.args.self.now.numbers) c.args.self.now.catalogue c.args.self.now.log.items c.grant_at.new.log.items c.args.self.now.seats.items c.args.at c.index_mut.result.now c.grant_at.new.seat c.grant_at.result (next_of c.grant_at.new.numbers) c.args.self.now.numbers.positive c.grant_at.ensures.numbers within
    (slice_get_read c.args.self.now.seats.items (length c.args.self.now.seats.items) c.args.at c.index_mut.result.now refl within c.index_mut.ensures.value) c.args.self.now.marked c.requires.goes (formed_here (next_of c.args.self.now.numbers) c.args.self.now.catalogue c.args.self.now.log.items c.args.self.now.seats.items c.args.at c.index_mut.result.now (slice_get_read c.args.self.now.seats.items (length c.args.self.now.seats.items) c.args.at c.index_mut.result.now refl within c.index_mut.ensures.value)
    c.args.self.now.given c.args.self.now.committed c.args.self.now.stored c.requires.goes) c.grant_at.ensures.granted c.grant_at.ensures.none

pub grant_at-requires-clause-given : goal.grant_at-requires-clause-given
grant_at-requires-clause-given c =
    let store = c.args.self.now in
    let within : c.args.at < length store.seats.items = omega (arith, store.all_seated, c.requires.below) in
    subst (IsGivenTo (next_of store.numbers) store.catalogue store.log.items) (slice_get_read store.seats.items (length store.seats.items) c.args.at c.index_mut.result.now refl within c.index_mut.ensures.value) (store.given c.args.at)

pub invariant_of-self-clause-indexed : goal.invariant_of-self-clause-indexed
invariant_of-self-clause-indexed c =
    let store = c.args.self.now in
    let within : c.args.at < length store.seats.items = omega (arith, store.all_seated, c.requires.below) in
    let there = slice_get_read store.seats.items (length store.seats.items) c.args.at c.index_mut.result.now refl within c.index_mut.ensures.value in
    indexed_granted store.index (next_of store.numbers) store.catalogue store.log.items c.grant_at.new.log.items store.seats.items c.args.at c.index_mut.result.now c.grant_at.new.seat c.grant_at.result there c.requires.goes
    c.grant_at.ensures.granted store.indexed
