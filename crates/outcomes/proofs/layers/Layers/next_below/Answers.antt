use Rattle.std.proofs.Common.{Bor, ap, sym, ◌∙◌}
use Rattle.std.specs.Prelude.{Option, None, Some}
use Rattle.std.specs.Option.{option_map}
use Rattle.pg_values.specs.declared.value.Value.{Value}
use Rattle.outcomes.specs.declared.shown.Shown.{Shown}
use Rattle.outcomes.specs.Layered.{entry_in}
use Rattle.outcomes.proofs.Layered.{next_below}
use Rattle.outcomes.proofs.layers.Layers.next_below.Goals as goal

pub returns-in-Some : goal.returns-in-Some
returns-in-Some c =
    let layers = c.args.self.now in
    next_below layers.changes.now layers.index.now layers.mark layers.own.items layers.made layers.sorted c.args.table (option_map (λ (k : Bor Value). k.now) c.args.after) c.args.number c.requires.parted
    (Some (entry_in c.in-Some.shown)) c.requires.elsewhere (ap (λ (o : Option Shown). option_map entry_in o) (sym c.in-Some.is) ∙ c.below.ensures)

pub returns-in-None : goal.returns-in-None
returns-in-None c =
    let layers = c.args.self.now in
    next_below layers.changes.now layers.index.now layers.mark layers.own.items layers.made layers.sorted c.args.table (option_map (λ (k : Bor Value). k.now) c.args.after) c.args.number c.requires.parted
    None c.requires.elsewhere (ap (λ (o : Option Shown). option_map entry_in o) (sym c.in-None.is) ∙ c.below.ensures)
