use Rattle.std.proofs.Common.{◌<◌, arith, sym}
use Rattle.std.proofs.lemmas.Option.{slice_get_read}
use Rattle.plain_store.specs.Meaning.{store_of}
use Rattle.plain_store.proofs.AnsweredLaws.{waits_here, acted_here, idle_acted}
use Rattle.plain_store.proofs.data.Database.act.Goals as goal

pub act_on-done-requires-clause-waits : goal.act_on-done-requires-clause-waits
act_on-done-requires-clause-waits c =
    let d = c.args.self.now in
    let below : c.args.s.number < 65 = omega (arith, c.args.s.up_to_64) in
    waits_here d c.args.s.number c.index-waits.result.now c.in_ok-copy.copy c.in-Some.request (slice_get_read d.requests.items 65 c.args.s.number c.index-waits.result.now (sym d.requested) below c.index-waits.ensures) c.in_ok-copy.ensures c.in-Some.is

pub returns-in-Some : goal.returns-in-Some
returns-in-Some c =
    let d = c.args.self.now in
    let below : c.args.s.number < 65 = omega (arith, c.args.s.up_to_64) in
    acted_here d c.args.s.number (store_of c.act_on-done.new.store) c.in-Some.request c.args.told.now c.act_on-done.result
    (waits_here d c.args.s.number c.index-waits.result.now c.in_ok-copy.copy c.in-Some.request (slice_get_read d.requests.items 65 c.args.s.number c.index-waits.result.now (sym d.requested) below c.index-waits.ensures) c.in_ok-copy.ensures c.in-Some.is) c.act_on-done.ensures

pub returns-in-None : goal.returns-in-None
returns-in-None c =
    let d = c.args.self.now in
    let below : c.args.s.number < 65 = omega (arith, c.args.s.up_to_64) in
    idle_acted d c.args.s.number c.args.told.now c.index-waits.result.now c.in_ok-copy.copy (slice_get_read d.requests.items 65 c.args.s.number c.index-waits.result.now (sym d.requested) below c.index-waits.ensures) c.in_ok-copy.ensures c.in-None.is
