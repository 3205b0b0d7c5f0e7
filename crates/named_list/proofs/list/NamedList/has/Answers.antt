use Rattle.std.proofs.Common.{ap, ◌∙◌, is_some, bytes_eq}
use Rattle.std.specs.List.{list_any}
use Rattle.named_list.proofs.Finding.{found_any}
use Rattle.named_list.proofs.list.NamedList.has.Goals as goal

pub returns : goal.returns
returns g c =
    c.contains_key.ensures ∙ ap is_some (c.self.invariant c.args.name.now)
    ∙ found_any g.T.Named.name_of 0 c.args.name.now c.self.inside.items
    ∙ ap (list_any (λ x. bytes_eq (g.T.Named.name_of x) c.args.name.now)) c.self.view_is
