use Rattle.std.proofs.Common.{◌≡◌, ◌+◌, Bool, true, length, map, ap, sym, ◌∙◌, subst}
use Rattle.std.specs.Prelude.{All, drop, is_ok, not, ℕ, if◌then◌else◌}
use Rattle.backend_trait.specs.Store.{blank}
use Rattle.session_seat.specs.Shared.{IsFirst, shared_of}
use Rattle.pool_run.specs.Ends.{outside}
use Rattle.pool_run.specs.Plan.{SessionsEnd}
use Rattle.pool_run.proofs.PlayedOut.{all_of, only_first, only_popped, only_put, first_of}
use Rattle.pool_run.proofs.sessions.play_sessions.Goals as goal

pub new-world-requires-clause-spare : goal.new-world-requires-clause-spare
new-world-requires-clause-spare g c =
    let same : c.replace-held.result.items ≡ c.args.shelf.now.items = (let e = c.replace-held.ensures.value in cc) in
    subst (λ (n : ℕ). All (λ b. g.B.Backend.meaning b ≡ blank) (drop n c.replace-held.result.items)) (sym c.len.ensures)
    (subst (λ l. All (λ b. g.B.Backend.meaning b ≡ blank) (drop (length c.args.plan.now.config.nodes) l)) (sym same) c.requires.spares.blank_each)

pub new-world-requires-clause-honest : goal.new-world-requires-clause-honest
new-world-requires-clause-honest g c =
    let same : c.replace-held.result.items ≡ c.args.shelf.now.items = (let e = c.replace-held.ensures.value in cc) in
    subst (λ l. All (λ b. g.B.Backend.is_honest b ≡ true) l) (sym same)
    (all_of (λ b. g.B.Backend.is_honest b ≡ true) (length c.args.plan.now.config.nodes) c.args.shelf.now.items c.requires.each.honest c.requires.spares.honest)

pub new-world-requires-clause-prompt : goal.new-world-requires-clause-prompt
new-world-requires-clause-prompt g c =
    let same : c.replace-held.result.items ≡ c.args.shelf.now.items = (let e = c.replace-held.ensures.value in cc) in
    subst (λ l. All (λ b. g.B.Backend.is_prompt b ≡ true) l) (sym same)
    (all_of (λ b. g.B.Backend.is_prompt b ≡ true) (length c.args.plan.now.config.nodes) c.args.shelf.now.items c.requires.each.prompt c.requires.spares.prompt)

pub new-world-requires-clause-steady : goal.new-world-requires-clause-steady
new-world-requires-clause-steady g c =
    let same : c.replace-held.result.items ≡ c.args.shelf.now.items = (let e = c.replace-held.ensures.value in cc) in
    subst (λ l. All (λ b. g.B.Backend.is_steady b ≡ true) l) (sym same)
    (all_of (λ b. g.B.Backend.is_steady b ≡ true) (length c.args.plan.now.config.nodes) c.args.shelf.now.items c.requires.each.steady c.requires.spares.steady)

pub play_in-status-requires-clause-tables : goal.play_in-status-requires-clause-tables
play_in-status-requires-clause-tables g c =
    let put : is_ok c.push.result ≡ true = c.is_err.ensures.negation ∙ ap not c.if-is_err.false in
    let only = only_put (is_ok c.push.result) c.new-worlds.result.items c.push.new.self.items c.new-world.result c.push.ensures.items put c.new-worlds.ensures.items in
    only_first (λ w. w.tables ≡ c.args.plan.now.catalogue) c.push.new.self.items c.new-world.result c.index_mut.result.now c.index_mut.ensures.value only (c.new-world.ensures.tables ∙ c.requires.same)

pub play_in-status-requires-clause-first : goal.play_in-status-requires-clause-first
play_in-status-requires-clause-first g c =
    let plan = c.args.plan.now in
    let put : is_ok c.push.result ≡ true = c.is_err.ensures.negation ∙ ap not c.if-is_err.false in
    let only = only_put (is_ok c.push.result) c.new-worlds.result.items c.push.new.self.items c.new-world.result c.push.ensures.items put c.new-worlds.ensures.items in
    only_first (λ w. IsFirst plan.catalogue (length plan.config.nodes) (shared_of g.B.Backend.meaning w.gate.state w.tables w.count w.shelf.items)) c.push.new.self.items c.new-world.result c.index_mut.result.now
    c.index_mut.ensures.value only (first_of c.args.tables plan.catalogue c.len.result _ _ c.requires.same c.len.ensures c.new-world.ensures.first)

pub play_in-status-requires-clause-count : goal.play_in-status-requires-clause-count
play_in-status-requires-clause-count g c =
    let put : is_ok c.push.result ≡ true = c.is_err.ensures.negation ∙ ap not c.if-is_err.false in
    let only = only_put (is_ok c.push.result) c.new-worlds.result.items c.push.new.self.items c.new-world.result c.push.ensures.items put c.new-worlds.ensures.items in
    only_first (λ w. w.count ≡ length c.args.plan.now.config.nodes) c.push.new.self.items c.new-world.result c.index_mut.result.now c.index_mut.ensures.value only (c.new-world.ensures.count ∙ c.len.ensures)

pub returns-in-Some : goal.returns-in-Some
returns-in-Some g c =
    let plan = c.args.plan.now in
    let meaning = g.B.Backend.meaning in
    let had = g.O.Sink.taken in
    let faults = g.O.Sink.fault_count in
    let put : is_ok c.push.result ≡ true = c.is_err.ensures.negation ∙ ap not c.if-is_err.false in
    let only = only_put (is_ok c.push.result) c.new-worlds.result.items c.push.new.self.items c.new-world.result c.push.ensures.items put c.new-worlds.ensures.items in
    let one : c.push.new.self.len ≡ 1 =
    c.push.ensures.len ∙ (ap (λ (b : Bool). if b then c.new-worlds.result.len + 1 else c.new-worlds.result.len) put ∙ ap (λ (m : ℕ). m + 1) c.new-worlds.ensures.len) in
    let here : c.in-Some.world ≡ c.play_in-status.new.world = only_popped c.push.new.self.items c.new-world.result c.play_in-status.new.world c.in-Some.world _ c.pop.result only one c.pop.ensures.value c.in-Some.is in
    let boxes : c.into_shelf.result.items ≡ c.play_in-status.new.world.shelf.items = c.into_shelf.ensures ∙ ap (λ w. w.shelf.items) here in
    subst (λ xs. SessionsEnd c.args.journal plan c.play_in-status.result
    (outside (faults c.args.out.now) (faults c.play_in-status.new.out) (had c.args.out.now) (had c.play_in-status.new.out) (map meaning c.args.shelf.now.items) (map meaning xs))) (sym boxes)
    (c.play_in-status.ensures (map meaning c.args.shelf.now.items))
