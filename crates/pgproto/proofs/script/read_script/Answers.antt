use Rattle.std.proofs.Common.{◌≡◌, ◌≢◌, ◌+◌, ◌∷◌, ◌++◌, ℕ, List, [], map, length, ap, subst, sym, ◌∙◌, arith, rules}
use Rattle.std.proofs.lemmas.List.{length-append}
use Rattle.pgproto.specs.Line.{Line, line_of}
use Rattle.pgproto.specs.Script.{IsBadAt, IsScript}
use Rattle.pgproto.proofs.ScriptLaws.{bad_is_no_script, bad_line, empty_of, goes_on, is_done, no_end, one_script}
use Rattle.pgproto.proofs.script.read_script.Goals as goal

pub returns-in_default-clause-bad : goal.returns-in_default-clause-bad
returns-in_default-clause-bad c =
    no_end c.args.text.now c.loop-rest.rest.now (map line_of c.loop-rest.found.items) c.loop-rest.number c.loop-rest.invariant.going c.in_default.ensures.none
    (λ e. let h : length c.loop-rest.rest.now ≡ 0 = ap length e in grind arith)

pub returns-in_default-clause-only : goal.returns-in_default-clause-only
returns-in_default-clause-only c = λ found s. bad_is_no_script c.args.text.now (c.loop-rest.number + 1) found
    (no_end c.args.text.now c.loop-rest.rest.now (map line_of c.loop-rest.found.items) c.loop-rest.number c.loop-rest.invariant.going c.in_default.ensures.none
    (λ e. let h : length c.loop-rest.rest.now ≡ 0 = ap length e in grind arith)) s

pub returns-in-Err-NotALine-clause-only : goal.returns-in-Err-NotALine-clause-only
returns-in-Err-NotALine-clause-only c = λ found s. bad_is_no_script c.args.text.now (c.loop-rest.number + 1) found
    (bad_line c.args.text.now c.loop-rest.rest.now c.in-Some.bytes.now c.in-Some.after.now (map line_of c.loop-rest.found.items) c.loop-rest.number c.loop-rest.invariant.going c.in-Some.ensures.parts c.in-Some.ensures.one (c.in-Err-NotALine.ensures.bad c.in-Err-NotALine.field-0-is)) s

pub loop-rest-preserved : goal.loop-rest-preserved
loop-rest-preserved c = record {
  going = goes_on c.args.text.now c.loop-rest.rest.now c.in-Some.bytes.now c.in-Some.after.now (map line_of c.loop-rest.found.items) (map line_of c.take_line.new.found.items) c.loop-rest.number c.loop-rest.invariant.going c.in-Some.ensures.parts c.in-Some.ensures.one c.in-Ok.ensures.ok;
  few = omega (arith, ap length c.in-Some.ensures.parts, length-append c.in-Some.bytes.now (10 ∷ c.in-Some.after.now), c.loop-rest.invariant.few);
}

pub returns-clause-only : goal.returns-clause-only
returns-clause-only c = λ found s.
    one_script c.args.text.now (map line_of c.from_vec.result) found
    (subst (λ xs. IsScript c.args.text.now (map line_of xs)) (sym c.from_vec.ensures)
    (is_done c.args.text.now c.loop-rest.rest.now (map line_of c.loop-rest.found.items) c.loop-rest.number c.loop-rest.invariant.going (empty_of c.loop-rest.rest.now (grind arith)))) s
