use Rattle.std.proofs.Common.{◌≤◌, ◌-◌, length, take, drop, arith, ap, ◌∙◌}
use Rattle.serve_base.specs.Reader.{from_byte}
use Rattle.serve_base.proofs.Cuts.{from_short, front_taken, from_dropped}
use Rattle.serve_base.proofs.cut.split_at_byte.Goals as goal

pub overflow_sub-bytes : goal.overflow_sub-bytes
overflow_sub-bytes c =
    let short : length (from_byte c.args.byte c.args.bytes.now) ≤ length c.args.bytes.now = from_short c.args.byte c.args.bytes.now in
    let same = ap length c.from_byte-rest.ensures in omega arith

pub returns-clause-front : goal.returns-clause-front
returns-clause-front c =
    c.split_at.ensures.front ∙ (ap (λ n. take (length c.args.bytes.now - length n) c.args.bytes.now) c.from_byte-rest.ensures ∙ front_taken c.args.byte c.args.bytes.now)

pub returns-clause-rest : goal.returns-clause-rest
returns-clause-rest c =
    c.split_at.ensures.back ∙ (ap (λ n. drop (length c.args.bytes.now - length n) c.args.bytes.now) c.from_byte-rest.ensures ∙ from_dropped c.args.byte c.args.bytes.now)
