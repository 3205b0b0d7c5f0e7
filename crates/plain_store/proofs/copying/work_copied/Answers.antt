use Rattle.std.proofs.Common.{map, ap, ◌∙◌}
use Rattle.plain_store.specs.Phases.{changes_in}
use Rattle.plain_store.proofs.StepLaws.{copied_live}
use Rattle.plain_store.proofs.copying.work_copied.Goals as goal

pub returns : goal.returns
returns c =
    let work = c.args.work.now in
    copied_live c.in_ok-base.base.items work.base.items c.in_ok-own.own.changes.items work.own.changes.items c.in_ok-held.held.items work.held.items c.in_ok-tables.tables work.tables
    c.in_ok-stale.stale.items work.stale.items
    (c.in_ok-base.ensures ∙ ap (map changes_in) c.as_slice-old_base.ensures.value) c.in_ok-own.ensures (c.in_ok-held.ensures ∙ c.as_slice-old_held.ensures.value)
    (c.in_ok-tables.ensures ∙ c.as_slice-old_tables.ensures) (c.in_ok-stale.ensures ∙ ap (map changes_in) c.as_slice-old_stale.ensures.value)
