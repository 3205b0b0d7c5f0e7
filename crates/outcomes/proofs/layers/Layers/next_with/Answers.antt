use Rattle.std.proofs.Common.{Bor, ap, sym, ◌∙◌}
use Rattle.std.specs.Prelude.{Option}
use Rattle.std.specs.Option.{option_map}
use Rattle.std.specs.Ordering.{is_lt}
use Rattle.pg_values.specs.declared.value.Value.{Value}
use Rattle.outcomes.specs.declared.shown.Shown.{Shown}
use Rattle.outcomes.specs.Layered.{entry_in}
use Rattle.outcomes.proofs.Layered.{below_first, own_left, own_some, quiet_none, quiet_some}
use Rattle.outcomes.proofs.Standing.{lt_is}
use Rattle.outcomes.proofs.layers.Layers.next_with.Goals as goal

pub returns-then-is_lt-clause-some : goal.returns-then-is_lt-clause-some
returns-then-is_lt-clause-some c =
    let layers = c.args.self.now in
    below_first layers.changes.now layers.index.now layers.mark layers.own.items layers.made layers.sorted
    c.args.table (option_map (λ (k : Bor Value). k.now) c.args.after) c.args.number c.requires.parted c.args.chain.now c.requires.there c.requires.table
    (entry_in c.in-Some.shown) (ap (λ (o : Option Shown). option_map entry_in o) (sym c.in-Some.is) ∙ c.below.ensures) (lt_is _ (sym (ap is_lt c.key_order.ensures) ∙ (sym c.is_lt.ensures ∙ c.if-is_lt.true)))

pub returns-in-None-clause-some : goal.returns-in-None-clause-some
returns-in-None-clause-some c =
    let layers = c.args.self.now in
    own_some layers.changes.now layers.index.now layers.mark layers.own.items layers.made layers.sorted
    c.args.table (option_map (λ (k : Bor Value). k.now) c.args.after) c.args.number c.requires.parted c.args.chain.now c.requires.there c.requires.table
    c.seen_at.result
    (quiet_none layers.changes.now layers.index.now layers.mark layers.own.items layers.made layers.sorted
    c.args.table (option_map (λ (k : Bor Value). k.now) c.args.after) c.args.number c.requires.parted c.args.chain.now c.requires.there c.requires.table
    (ap (λ (o : Option Shown). option_map entry_in o) (sym c.in-None.is) ∙ c.below.ensures)) c.seen_at.ensures

pub returns-in-None-clause-none : goal.returns-in-None-clause-none
returns-in-None-clause-none c =
    let layers = c.args.self.now in
    own_left layers.changes.now layers.index.now layers.mark layers.own.items layers.made layers.sorted
    c.args.table (option_map (λ (k : Bor Value). k.now) c.args.after) c.args.number c.requires.parted c.args.chain.now c.requires.there c.requires.table
    c.seen_at.result
    (quiet_none layers.changes.now layers.index.now layers.mark layers.own.items layers.made layers.sorted
    c.args.table (option_map (λ (k : Bor Value). k.now) c.args.after) c.args.number c.requires.parted c.args.chain.now c.requires.there c.requires.table
    (ap (λ (o : Option Shown). option_map entry_in o) (sym c.in-None.is) ∙ c.below.ensures)) c.seen_at.ensures

pub returns-else-is_lt-clause-some : goal.returns-else-is_lt-clause-some
returns-else-is_lt-clause-some c =
    let layers = c.args.self.now in
    own_some layers.changes.now layers.index.now layers.mark layers.own.items layers.made layers.sorted
    c.args.table (option_map (λ (k : Bor Value). k.now) c.args.after) c.args.number c.requires.parted c.args.chain.now c.requires.there c.requires.table
    c.seen_at-in-Some.result
    (quiet_some layers.changes.now layers.index.now layers.mark layers.own.items layers.made layers.sorted
    c.args.table (option_map (λ (k : Bor Value). k.now) c.args.after) c.args.number c.requires.parted c.args.chain.now c.requires.there c.requires.table
    (entry_in c.in-Some.shown) (ap (λ (o : Option Shown). option_map entry_in o) (sym c.in-Some.is) ∙ c.below.ensures) (sym (ap is_lt c.key_order.ensures) ∙ (sym c.is_lt.ensures ∙ c.if-is_lt.false))) c.seen_at-in-Some.ensures

pub returns-else-is_lt-clause-none : goal.returns-else-is_lt-clause-none
returns-else-is_lt-clause-none c =
    let layers = c.args.self.now in
    own_left layers.changes.now layers.index.now layers.mark layers.own.items layers.made layers.sorted
    c.args.table (option_map (λ (k : Bor Value). k.now) c.args.after) c.args.number c.requires.parted c.args.chain.now c.requires.there c.requires.table
    c.seen_at-in-Some.result
    (quiet_some layers.changes.now layers.index.now layers.mark layers.own.items layers.made layers.sorted
    c.args.table (option_map (λ (k : Bor Value). k.now) c.args.after) c.args.number c.requires.parted c.args.chain.now c.requires.there c.requires.table
    (entry_in c.in-Some.shown) (ap (λ (o : Option Shown). option_map entry_in o) (sym c.in-Some.is) ∙ c.below.ensures) (sym (ap is_lt c.key_order.ensures) ∙ (sym c.is_lt.ensures ∙ c.if-is_lt.false))) c.seen_at-in-Some.ensures
