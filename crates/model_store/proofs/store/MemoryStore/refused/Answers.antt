use Rattle.std.proofs.Common.{◌≡◌, ◌<◌, refl, ap, arith, length, vec_len, vec_capacity}
use Rattle.std.proofs.lemmas.Option.{slice_get_read}
use Rattle.model_store.specs.declared.seat.Seat.{Seat}
use Rattle.model_store.specs.Phases.{mark_of, owed}
use Rattle.model_store.proofs.StoreLaws.{marked_set, room_kept}
use Rattle.model_store.proofs.ActLaws.{refused_not_lost}
use Rattle.model_store.proofs.ApartLaws.{apart_dead}
use Rattle.model_store.proofs.KeptLaws.{few_there, some_waits, given_refused, stored_refused}
use Rattle.outcomes.specs.Next.{next_of}
use Rattle.model_store.proofs.store.MemoryStore.refused.Goals as goal

pub invariant_of-self-clause-marked : goal.invariant_of-self-clause-marked
invariant_of-self-clause-marked c =
    let within : c.args.at < length c.args.self.now.seats.items = omega (arith, c.args.self.now.all_seated, c.requires.below) in
    let unmarked : mark_of c.replace.new.dest.phase ≡ 0 = ap (λ (s : Seat). mark_of s.phase) c.replace.ensures.after in
    marked_set c.args.self.now.seats.items c.args.at c.replace.new.dest (length c.args.self.now.log.items) (length c.args.self.now.log.items) within c.args.self.now.marked (omega arith) (omega (arith, unmarked))

pub invariant_of-self-clause-apart : goal.invariant_of-self-clause-apart
invariant_of-self-clause-apart c =
    let within : c.args.at < length c.args.self.now.seats.items = omega (arith, c.args.self.now.all_seated, c.requires.below) in
    apart_dead c.args.self.now.seats.items c.args.at c.replace.new.dest within (ap (λ (s : Seat). s.phase) c.replace.ensures.after) c.args.self.now.apart

pub invariant_of-self-clause-stored : goal.invariant_of-self-clause-stored
invariant_of-self-clause-stored c =
    let store = c.args.self.now in
    let within : c.args.at < length store.seats.items = omega (arith, store.all_seated, c.requires.below) in
    stored_refused store.catalogue store.seats.items c.args.at c.replace.new.dest within (ap (λ (s : Seat). s.phase) c.replace.ensures.after) store.stored

pub draw-requires : goal.draw-requires
draw-requires c =
    let store = c.args.self.now in
    let within : c.args.at < length store.seats.items = omega (arith, store.all_seated, c.requires.below) in
    few_there (next_of store.numbers) store.catalogue store.log.items store.seats.items c.args.at c.index.result.now
    (slice_get_read store.seats.items (length store.seats.items) c.args.at c.index.result.now refl within c.index.ensures) store.given

pub invariant_of-self-clause-given : goal.invariant_of-self-clause-given
invariant_of-self-clause-given c =
    let store = c.args.self.now in
    let within : c.args.at < length store.seats.items = omega (arith, store.all_seated, c.requires.below) in
    given_refused (next_of store.numbers) (next_of c.draw.new.numbers) store.catalogue store.log.items store.seats.items c.args.at c.index.result.now c.replace.new.dest within
    (slice_get_read store.seats.items (length store.seats.items) c.args.at c.index.result.now refl within c.index.ensures) (some_waits _ _ c.requires.refused) c.draw.ensures store.apart (ap (λ (s : Seat). s.waiting) c.replace.ensures.after) store.given

pub invariant_of-self-clause-roomy : goal.invariant_of-self-clause-roomy
invariant_of-self-clause-roomy c =
    let within : c.args.at < length c.args.self.now.seats.items = omega (arith, c.args.self.now.all_seated, c.requires.below) in
    let free : owed c.replace.new.dest.phase c.replace.new.dest.waiting ≡ 0 = ap (λ (s : Seat). owed s.phase s.waiting) c.replace.ensures.after in
    room_kept (vec_len c.args.self.now.log) (vec_len c.args.self.now.log) (vec_capacity c.args.self.now.log) (vec_capacity c.args.self.now.log) c.args.self.now.seats.items c.args.at c.index_mut.result.now c.replace.new.dest
    (slice_get_read c.args.self.now.seats.items (length c.args.self.now.seats.items) c.args.at c.index_mut.result.now refl within c.index_mut.ensures.value) (omega (arith, free)) (omega arith) c.args.self.now.roomy

pub returns-clause-acted : goal.returns-clause-acted
returns-clause-acted c =
    let within : c.args.at < length c.args.self.now.seats.items = omega (arith, c.args.self.now.all_seated, c.requires.below) in
    refused_not_lost c.args.self.now.is_lost c.requires.not_lost (next_of c.args.self.now.numbers) c.args.self.now.catalogue c.args.self.now.log.items c.args.self.now.seats.items c.args.at c.index.result.now c.replace.new.dest c.args.code (next_of c.draw.new.numbers) c.draw.ensures within
    (slice_get_read c.args.self.now.seats.items (length c.args.self.now.seats.items) c.args.at c.index.result.now refl within c.index.ensures) c.args.self.now.apart c.requires.refused
    (ap (λ (s : Seat). s.phase) c.replace.ensures.after) (ap (λ (s : Seat). s.waiting) c.replace.ensures.after)
