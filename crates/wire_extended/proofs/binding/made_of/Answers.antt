use Rattle.std.proofs.Common.{◌≡◌, true, Option, rules, subst}
use Rattle.wire_session.specs.declared.refusal.Refusal.{Refusal}
use Rattle.wire_extended.specs.Binding.{TellsForm, ends_block}
use Rattle.wire_extended.proofs.BindLemmas.{made_so}
use Rattle.wire_extended.proofs.binding.made_of.Goals as goal

pub returns-in_ok-made-in-None : goal.returns-in_ok-made-in-None
returns-in_ok-made-in-None c =
    let may : (c.args.failed ≡ true → ends_block c.args.what.now ≡ true) = search rules in
    made_so c.args.failed c.args.what.now c.args.session.now.portals c.args.binding.now c.in_ok-made-in-None.made may
    (subst (λ (why : Option Refusal). TellsForm c.args.what.now c.args.binding.now why) c.in-None.is c.in_ok-refusal.ensures) c.in_ok-made-in-None.ensures
