use Rattle.std.proofs.Common.{◌≤◌, ◌<◌, ℕ, List, map, refl, sym, subst}
use Rattle.pgproto.specs.Line.{line_of}
use Rattle.pgproto.specs.Script.{IsScript, IsBadAt}
use Rattle.pool_run.specs.Scripts.{SaysNoScript, lines_in, many_lines, has_bad_line}
use Rattle.pool_run.proofs.ScriptReading.{reading, bad_at, none_of_bad}
use Rattle.pool_run.proofs.scripts.read_lines.Goals as goal

pub returns-then-lines_in-gt-MOST_LINES : goal.returns-then-lines_in-gt-MOST_LINES
returns-then-lines_in-gt-MOST_LINES c =
    many_lines c.in-Some.text c.in-Some.is (subst (λ (t : List ℕ). 20000 < lines_in t) c.as_slice.ensures (subst (λ (n : ℕ). 20000 < n) c.lines_in.ensures c.if-lines_in-gt-MOST_LINES.true)) refl

pub returns-in-Ok : goal.returns-in-Ok
returns-in-Ok c =
    let few : lines_in c.in-Some.text ≤ 20000 = subst (λ (t : List ℕ). lines_in t ≤ 20000) c.as_slice.ensures (subst (λ (n : ℕ). n ≤ 20000) c.lines_in.ensures c.if-lines_in-gt-MOST_LINES.false) in
    reading c.args.script.now c.in-Some.text (map line_of c.in-Ok.lines) c.in-Some.is few (subst (λ (t : List ℕ). IsScript t (map line_of c.in-Ok.lines)) c.as_slice-2.ensures c.in-Ok.ensures.found)
    (λ found says. c.in-Ok.ensures.only found (subst (λ (t : List ℕ). IsScript t found) (sym c.as_slice-2.ensures) says))

pub returns-in-Err-BadLine : goal.returns-in-Err-BadLine
returns-in-Err-BadLine c =
    let few : lines_in c.in-Some.text ≤ 20000 = subst (λ (t : List ℕ). lines_in t ≤ 20000) c.as_slice.ensures (subst (λ (n : ℕ). n ≤ 20000) c.lines_in.ensures c.if-lines_in-gt-MOST_LINES.false) in
    let n : ℕ = c.in-Err-BadLine.n in
    let slice : List ℕ = c.as_slice-2.result.now in
    let bad : IsBadAt slice n = bad_at c.in-Err-BadLine.field-0 n slice c.in-Err-BadLine.field-0-is c.in-Err-BadLine.ensures.bad in
    let none : SaysNoScript slice = none_of_bad c.in-Err-BadLine.field-0 n slice c.in-Err-BadLine.field-0-is c.in-Err-BadLine.ensures.only in
    has_bad_line c.in-Some.text n c.in-Some.is few (subst (λ (t : List ℕ). IsBadAt t n) c.as_slice-2.ensures bad) (subst SaysNoScript c.as_slice-2.ensures none) refl
