use Rattle.std.proofs.Common.{◌≡◌, ◌≤◌, ◌+◌, length, ap, ◌∙◌, arith, length-append}
use Rattle.std.specs.Fmt.{decimal}
use Rattle.wire_reply.proofs.Short.{short_decimal}
use Rattle.wire_reply.proofs.tags.counted.Goals as goal

pub returns-clause-short : goal.returns-clause-short
returns-clause-short c =
    let short : length (decimal c.args.count) ≤ 20 = short_decimal c.args.count c.ranges.count.fits in
    let len : length c.from_string.result ≡ length c.args.verb.now + length (decimal c.args.count) =
    ap length (c.from_string.ensures ∙ c.in_ok-format.ensures.ok) ∙ length-append c.args.verb.now (decimal c.args.count) in
    omega (arith, short, len, c.requires)
