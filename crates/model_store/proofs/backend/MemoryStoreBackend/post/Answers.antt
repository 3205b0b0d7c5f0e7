use Rattle.std.proofs.Common.{◌≡◌, ◌<◌, List, true, refl, sym, ap, ◌∙◌, subst, arith, rules, length, vec_len, vec_capacity}
use Rattle.std.proofs.lemmas.Option.{slice_get_read}
use Rattle.model_store.proofs.StoreLaws.{marked_set, posted_room, posted_ok, mark_there, idle_seat, not_false}
use Rattle.model_store.proofs.ApartLaws.{apart_kept}
use Rattle.model_store.proofs.AskLaws.{may_admit}
use Rattle.model_store.proofs.KeptLaws.{given_posted, stored_posted, stored_there}
use Rattle.outcomes.specs.declared.change.ChangeSet.{ChangeSet}
use Rattle.outcomes.specs.Indexed.{IsIndexOf}
use Rattle.outcomes.specs.Stored.{AreAllStored}
use Rattle.model_store.specs.Seats.{AreGiven}
use Rattle.outcomes.specs.Next.{next_of}
use Rattle.model_store.proofs.backend.MemoryStoreBackend.post.Goals as goal

pub invariant_of-self-clause-committed : goal.invariant_of-self-clause-committed
invariant_of-self-clause-committed c =
    let store = c.args.self.now in
    subst (λ (sets : List ChangeSet). AreAllStored store.catalogue sets) (sym c.has_room.ensures.items) store.committed

pub invariant_of-self-clause-given : goal.invariant_of-self-clause-given
invariant_of-self-clause-given c =
    let store = c.args.self.now in
    subst (λ (sets : List ChangeSet). AreGiven (next_of store.numbers) store.catalogue sets store.seats.items) (sym c.has_room.ensures.items) store.given

pub invariant_of-self-2-clause-marked : goal.invariant_of-self-2-clause-marked
invariant_of-self-2-clause-marked c =
    let seats = c.args.self.now.seats.items in
    let at = c.args.s.number in
    let within : at < length seats = omega (arith, c.args.self.now.all_seated, c.args.s.up_to_64) in
    let there = slice_get_read seats (length seats) at c.index_mut.result.now refl within c.index_mut.ensures.value in
    let same : length c.has_room.new.log.items ≡ length c.args.self.now.log.items = ap length c.has_room.ensures.items in
    marked_set seats at c.wait.new.seat (length c.args.self.now.log.items) (length c.has_room.new.log.items) within c.args.self.now.marked (omega (arith, same))
    (omega (arith, same, c.wait.ensures.mark, mark_there seats at c.index_mut.result.now (length c.args.self.now.log.items) there c.args.self.now.marked))

pub invariant_of-self-2-clause-apart : goal.invariant_of-self-2-clause-apart
invariant_of-self-2-clause-apart c =
    let seats = c.args.self.now.seats.items in
    let at = c.args.s.number in
    let within : at < length seats = omega (arith, c.args.self.now.all_seated, c.args.s.up_to_64) in
    let there = slice_get_read seats (length seats) at c.index_mut.result.now refl within c.index_mut.ensures.value in
    apart_kept c.args.self.now.log.items seats at c.index_mut.result.now c.wait.new.seat within there (c.wait.ensures.transaction c.args.self.now.log.items) c.args.self.now.apart

pub invariant_of-self-2-clause-roomy : goal.invariant_of-self-2-clause-roomy
invariant_of-self-2-clause-roomy c =
    let seats = c.args.self.now.seats.items in
    let at = c.args.s.number in
    let within : at < length seats = omega (arith, c.args.self.now.all_seated, c.args.s.up_to_64) in
    let there = slice_get_read seats (length seats) at c.index_mut.result.now refl within c.index_mut.ensures.value in
    let idle = idle_seat seats at c.index_mut.result.now there c.requires.idle in
    let has : c.has_room.result ≡ true = search (rules, not_false) in
    posted_room (vec_len c.args.self.now.log) (vec_len c.has_room.new.log) (vec_capacity c.args.self.now.log) (vec_capacity c.has_room.new.log) seats at c.index_mut.result.now c.wait.new.seat c.args.request c.wait.result there
    c.args.self.now.all_seated within c.wait.ensures.open_too idle c.wait.ensures.posted (c.has_room.ensures.room has) c.has_room.ensures.len c.has_room.ensures.capacity c.args.self.now.roomy

pub wait-requires-clause-idle : goal.wait-requires-clause-idle
wait-requires-clause-idle c =
    let seats = c.args.self.now.seats.items in
    let at = c.args.s.number in
    let within : at < length seats = omega (arith, c.args.self.now.all_seated, c.args.s.up_to_64) in
    let there = slice_get_read seats (length seats) at c.index_mut.result.now refl within c.index_mut.ensures.value in
    idle_seat seats at c.index_mut.result.now there c.requires.idle

pub wait-requires-clause-may : goal.wait-requires-clause-may
wait-requires-clause-may c =
    let store = c.args.self.now in
    let seats = store.seats.items in
    let at = c.args.s.number in
    let within : at < length seats = omega (arith, store.all_seated, c.args.s.up_to_64) in
    let there = slice_get_read seats (length seats) at c.index_mut.result.now refl within c.index_mut.ensures.value in
    (may_admit (next_of store.numbers) store.catalogue store.log.items seats store.is_lost at c.index_mut.result.now c.args.request there).1 c.requires.may

pub wait-requires-clause-marked : goal.wait-requires-clause-marked
wait-requires-clause-marked c =
    let store = c.args.self.now in
    let seats = store.seats.items in
    let at = c.args.s.number in
    let within : at < length seats = omega (arith, store.all_seated, c.args.s.up_to_64) in
    let there = slice_get_read seats (length seats) at c.index_mut.result.now refl within c.index_mut.ensures.value in
    let same : length c.as_slice-log.result.now ≡ length store.log.items = ap (λ (l : List ChangeSet). length l) (c.as_slice-log.ensures.value ∙ c.has_room.ensures.items) in
    omega (arith, same, mark_there seats at c.index_mut.result.now (length store.log.items) there store.marked)

pub wait-requires-clause-committed : goal.wait-requires-clause-committed
wait-requires-clause-committed c =
    let store = c.args.self.now in
    subst (λ (sets : List ChangeSet). AreAllStored store.catalogue sets) (sym (c.as_slice-log.ensures.value ∙ c.has_room.ensures.items)) store.committed

pub wait-requires-clause-stored : goal.wait-requires-clause-stored
wait-requires-clause-stored c =
    let store = c.args.self.now in
    let seats = store.seats.items in
    let at = c.args.s.number in
    let within : at < length seats = omega (arith, store.all_seated, c.args.s.up_to_64) in
    let there = slice_get_read seats (length seats) at c.index_mut.result.now refl within c.index_mut.ensures.value in
    stored_there store.catalogue seats at c.index_mut.result.now there store.stored

pub invariant_of-self-2-clause-committed : goal.invariant_of-self-2-clause-committed
invariant_of-self-2-clause-committed c =
    let store = c.args.self.now in
    subst (λ (sets : List ChangeSet). AreAllStored store.catalogue sets) (sym c.has_room.ensures.items) store.committed

pub invariant_of-self-2-clause-stored : goal.invariant_of-self-2-clause-stored
invariant_of-self-2-clause-stored c =
    let store = c.args.self.now in
    let seats = store.seats.items in
    let at = c.args.s.number in
    let within : at < length seats = omega (arith, store.all_seated, c.args.s.up_to_64) in
    let there = slice_get_read seats (length seats) at c.index_mut.result.now refl within c.index_mut.ensures.value in
    stored_posted store.catalogue store.log.items seats at c.index_mut.result.now c.wait.new.seat within there (c.wait.ensures.transaction store.log.items) store.stored

pub invariant_of-self-2-clause-given : goal.invariant_of-self-2-clause-given
invariant_of-self-2-clause-given c =
    let store = c.args.self.now in
    let seats = store.seats.items in
    let at = c.args.s.number in
    let within : at < length seats = omega (arith, store.all_seated, c.args.s.up_to_64) in
    given_posted (next_of store.numbers) store.catalogue store.log.items c.has_room.new.log.items c.as_slice-log.result.now seats at c.wait.new.seat c.has_room.ensures.items c.as_slice-log.ensures.value within c.wait.ensures.given
    store.given

pub returns-clause-posted : goal.returns-clause-posted
returns-clause-posted c =
    let seats = c.args.self.now.seats.items in
    let at = c.args.s.number in
    let within : at < length seats = omega (arith, c.args.self.now.all_seated, c.args.s.up_to_64) in
    let there = slice_get_read seats (length seats) at c.index_mut.result.now refl within c.index_mut.ensures.value in
    let idle = idle_seat seats at c.index_mut.result.now there c.requires.idle in
    posted_ok (next_of c.args.self.now.numbers) c.args.self.now.catalogue c.args.self.now.log.items c.has_room.new.log.items seats c.args.self.now.is_lost at c.index_mut.result.now c.wait.new.seat c.args.request c.wait.result c.has_room.ensures.items within there
    (c.wait.ensures.transaction c.args.self.now.log.items) idle c.wait.ensures.posted

pub invariant_of-self-clause-indexed : goal.invariant_of-self-clause-indexed
invariant_of-self-clause-indexed c = subst (IsIndexOf c.has_room.new.index) (sym c.has_room.ensures.items) c.has_room.ensures.indexed

pub invariant_of-self-2-clause-indexed : goal.invariant_of-self-2-clause-indexed
invariant_of-self-2-clause-indexed c = subst (IsIndexOf c.has_room.new.index) (sym c.has_room.ensures.items) c.has_room.ensures.indexed

pub wait-requires-clause-indexed : goal.wait-requires-clause-indexed
wait-requires-clause-indexed c = subst (IsIndexOf c.has_room.new.index) (sym (c.as_slice-log.ensures.value ∙ c.has_room.ensures.items)) c.has_room.ensures.indexed

pub wait-requires-clause-whole : goal.wait-requires-clause-whole
wait-requires-clause-whole c = λ statement is.
    let has : c.has_room.result ≡ true = search (rules, not_false) in
    c.has_room.ensures.whole statement has is ∙ ap (λ (l : List ChangeSet). length l) (sym (c.as_slice-log.ensures.value ∙ c.has_room.ensures.items))
