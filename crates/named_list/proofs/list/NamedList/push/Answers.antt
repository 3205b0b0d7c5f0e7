use Rattle.std.proofs.Common.{ap, sym, subst, ◌∙◌, is_some, arith}
use Rattle.indexmap.specs.IndexMap.{get_by_text}
use Rattle.named_list.specs.Names.{AreNumbers}
use Rattle.named_list.proofs.Finding.{ok_gives, numbers_stay, numbers_put}
use Rattle.named_list.proofs.list.NamedList.push.Goals as goal

pub invariant_of-self-then-contains_key : goal.invariant_of-self-then-contains_key
invariant_of-self-then-contains_key g c =
    subst (λ xs. AreNumbers g.T.Named.name_of xs c.self.inside.numbers) (sym c.in_ok-push.ensures.ok)
    (numbers_stay g.T.Named.name_of c.self.inside.items c.args.item c.self.inside.numbers c.self.invariant
    (ap (λ n. is_some (get_by_text c.self.inside.numbers n)) (sym c.name.ensures) ∙ sym c.contains_key.ensures ∙ c.if-contains_key.true))

pub invariant_of-self-2 : goal.invariant_of-self-2
invariant_of-self-2 g c =
    subst (λ xs. AreNumbers g.T.Named.name_of xs c.insert.new.self) (sym c.in_ok-push-2.ensures.ok)
    (numbers_put g.T.Named.name_of c.self.inside.items c.args.item c.self.inside.numbers c.reserve.new.self c.insert.new.self
    c.in_ok-name.name c.len-number.result c.self.invariant (c.in_ok-name.ensures.ok ∙ c.name-2.ensures) c.len-number.ensures
    (ap (λ n. is_some (get_by_text c.self.inside.numbers n)) (sym c.name.ensures) ∙ sym c.contains_key.ensures ∙ c.if-contains_key.false)
    c.in_ok-reserve.ensures.entries
    (ok_gives c.insert.result _ (c.insert.ensures.succeeds (omega (arith, c.in_ok-reserve.ensures.ok))) c.insert.ensures.entries))
