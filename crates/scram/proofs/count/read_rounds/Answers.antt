use Rattle.std.proofs.Common.{◌∙◌, sym, arith, true≢false}
use Rattle.scram.proofs.Rounds.{rounds_told, rounds_first, rounds_utf8, rounds_parsed, same_count, no_count}
use Rattle.scram.proofs.count.read_rounds.Goals as goal

pub returns-then-not-begins_count : goal.returns-then-not-begins_count
returns-then-not-begins_count c = λ n h.
    true≢false (sym (c.begins_count.ensures.1 (rounds_first c.args.text.now n h.0 h.1)) ∙ c.if-not-begins_count.true)

pub returns-in_default : goal.returns-in_default
returns-in_default c = λ n h. c.in_default.ensures.cases.0 (rounds_utf8 c.args.text.now n h.0 h.1)

pub returns-in-Ok-parse : goal.returns-in-Ok-parse
returns-in-Ok-parse c =
    let same = c.in-Ok.ensures.cases.0 in
    let told = rounds_told c.args.text.now c.in-Ok.digits.now c.in-Ok-parse.rounds c.parse.result (c.begins_count.ensures.0 c.if-not-begins_count.false) same c.parse.ensures.value.0 c.in-Ok-parse.is in
    ((told.0, c.if-rounds-le-MOST_ROUNDS.true), told.1)

pub returns-in_default-parse : goal.returns-in_default-parse
returns-in_default-parse c = λ n h.
    let same = same_count c.in-Ok-parse.rounds n c.parse.result c.in-Ok-parse.is (rounds_parsed c.args.text.now c.in-Ok.digits.now n c.parse.result h.0 h.1 c.in-Ok.ensures.cases.0 c.parse.ensures.value.0) in
    let most = h.0.1 in
    let over = c.if-rounds-le-MOST_ROUNDS.false in
    omega (arith, same, most, over)

pub returns-in_default-parse-2 : goal.returns-in_default-parse-2
returns-in_default-parse-2 c = λ n h.
    no_count n c.in_default-parse.field-0 c.parse.result c.in_default-parse.is (rounds_parsed c.args.text.now c.in-Ok.digits.now n c.parse.result h.0 h.1 c.in-Ok.ensures.cases.0 c.parse.ensures.value.0)
