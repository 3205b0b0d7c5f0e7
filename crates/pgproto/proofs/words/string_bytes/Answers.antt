use Rattle.std.proofs.Common.{suc, length, Some, Option, ℕ, ap, ◌∙◌, rules, arith}
use Rattle.std.proofs.lemmas.Result.{err_from_is_err_and}
use Rattle.pgproto.specs.Reading.{bytes_at, string_byte}
use Rattle.pgproto.proofs.Loop.{goes_on, ends, is_done, starts}
use Rattle.pgproto.proofs.words.string_bytes.Goals as goal

pub returns-in_err-byte-clause-gives : goal.returns-in_err-byte-clause-gives
returns-in_err-byte-clause-gives c =
    let p = err_from_is_err_and c.from_residual-in_err-byte.result c.from_residual-in_err-byte.ensures.1 in
    rw (p.1, p.2) (ends c.in_err-byte.field-0.0 string_byte c.loop-text.text.items c.loop-text.rest.now (bytes_at string_byte (suc (length c.args.bytes.now)) c.args.bytes.now) c.loop-text.invariant.going c.in_err-byte.ensures.gives)

pub loop-text-preserved : goal.loop-text-preserved
loop-text-preserved c = record {
  going = rw c.in_ok-push-in-Some.ensures.items (goes_on string_byte c.loop-text.text.items c.loop-text.rest.now c.in_ok-byte.after.now (bytes_at string_byte (suc (length c.args.bytes.now)) c.args.bytes.now) c.in-Some.byte c.loop-text.invariant.going (c.in_ok-byte.ensures.gives ∙ ap (λ (o : Option ℕ). Some (o, c.in_ok-byte.after.now)) c.in-Some.is) c.in_ok-byte.ensures.shorter);
  shorter = omega (arith, c.in_ok-byte.ensures.shorter);
}

pub returns-in-None-clause-gives : goal.returns-in-None-clause-gives
returns-in-None-clause-gives c = is_done string_byte c.loop-text.text.items c.loop-text.rest.now c.in_ok-byte.after.now (bytes_at string_byte (suc (length c.args.bytes.now)) c.args.bytes.now) c.loop-text.invariant.going (c.in_ok-byte.ensures.gives ∙ ap (λ (o : Option ℕ). Some (o, c.in_ok-byte.after.now)) c.in-None.is)
