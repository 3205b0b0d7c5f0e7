use Rattle.std.proofs.Common.{◌≡◌, ◌<◌, length, arith, rules}
use Rattle.std.proofs.lemmas.Bool.Decides.{nat_tests}
use Rattle.std.proofs.lemmas.Str.Pattern.{split_parts}
use Rattle.journal.proofs.Growing.{onward}
use Rattle.journal.proofs.Lines.{one_more, at_end, at_last}
use Rattle.journal.proofs.header.push_lines.Goals as goal

pub lines-preserved : goal.lines-preserved
lines-preserved c =
    let l = c.lines in
    let cut = rw c.in-Some.is at (split_parts 10 l.left.now c.split_once.result c.split_once.ensures.cases (omega arith)) in
    (one_more _ _ _ _ _ _ _ l.invariant.0 cut.0 cut.1 (search rules), search rules)

pub returns-then-is_empty : goal.returns-then-is_empty
returns-then-is_empty c =
    let l = c.lines in
    let none : length l.left.now ≡ 0 = grind (arith, nat_tests) in
    at_end _ _ _ _ l.invariant.0 none

pub returns : goal.returns
returns c =
    let l = c.lines in
    let within = rw c.in_default.is at (split_parts 10 l.left.now c.split_once.result c.split_once.ensures.cases (omega arith)) in
    let some : 0 < length l.left.now = grind (arith, nat_tests) in
    onward c.push_line-2.result c.push_line-2.ensures (at_last _ _ _ _ _ l.invariant.0 within some)
