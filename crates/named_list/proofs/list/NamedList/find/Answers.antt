use Rattle.std.proofs.Common.{rules, ◌≡◌, ap, sym, ◌∙◌, Some, None, option_map, slice_get}
use Rattle.std.proofs.lemmas.Option.{slice_get_within}
use Rattle.named_list.proofs.Finding.{found_at}
use Rattle.named_list.proofs.list.NamedList.find.Goals as goal

pub returns-in_err-item-clause-found : goal.returns-in_err-item-clause-found
returns-in_err-item-clause-found g c =
    let gone : c.from_residual-in_err-item.result ≡ None = search rules in
    ap (option_map (λ x. (x.0, x.1.now))) gone
    ∙ found_at g.T.Named.name_of c.args.name.now c.self.inside.items c.args.self.now c.in_ok-number.field-0.now None c.self.view_is
    (c.in_ok-number.ensures.value ∙ c.self.invariant c.args.name.now) c.in_err-item.ensures

pub returns-clause-found : goal.returns-clause-found
returns-clause-found g c =
    found_at g.T.Named.name_of c.args.name.now c.self.inside.items c.args.self.now c.in_ok-number.field-0.now (Some c.in_ok-item.item.now)
    c.self.view_is (c.in_ok-number.ensures.value ∙ c.self.invariant c.args.name.now) c.in_ok-item.ensures

pub returns-clause-within : goal.returns-clause-within
returns-clause-within g c =
    slice_get_within c.args.self.now c.in_ok-number.field-0.now c.in_ok-item.item.now
    (ap (λ xs. slice_get xs c.in_ok-number.field-0.now) (sym c.self.view_is) ∙ sym c.in_ok-item.ensures)
