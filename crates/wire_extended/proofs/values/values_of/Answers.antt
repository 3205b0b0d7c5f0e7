use Rattle.std.proofs.Common.{◌≡◌, [], drop, sym, subst, drop_of_length-le}
use Rattle.std.proofs.lemmas.List.{append-nil}
use Rattle.wire_extended.specs.Binding.{AreRead}
use Rattle.wire_extended.proofs.values.values_of.Goals as goal

pub returns : goal.returns
returns c =
    let over : drop c.loop-bytes.bytes-index c.args.given.now ≡ [] = drop_of_length-le c.args.given.now c.loop-bytes-test.false in
    subst (λ xs. AreRead c.args.kinds.now c.args.formats.now 0 c.args.given.now xs) (append-nil c.loop-bytes.values)
    (c.loop-bytes.invariant.1 [] (subst (λ xs. AreRead c.args.kinds.now c.args.formats.now c.loop-bytes.bytes-index xs []) (sym over) tt))
