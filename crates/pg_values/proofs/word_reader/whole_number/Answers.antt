use Rattle.std.proofs.Common.{ℤ, sym, subst, FitsSigned, w64}
use Rattle.std.proofs.lemmas.Int.{to_z-of_z}
use Rattle.pg_values.specs.Text.{IsNumberText}
use Rattle.pg_values.proofs.WordLemmas.{signed_takes, number_fits, number_too_large, no_number}
use Rattle.pg_values.proofs.word_reader.whole_number.Goals as goal

pub returns-in-None : goal.returns-in-None
returns-in-None c = no_number c.args.text.now (sym c.in-None.ensures)

pub number-requires : goal.number-requires
number-requires c = (signed_takes c.args.text.now c.in-Some.negative c.in-Some.digits.now (sym c.in-Some.ensures)).are_digits

pub returns-in-Some-with_sign : goal.returns-in-Some-with_sign
returns-in-Some-with_sign c =
    let read = number_fits c.args.text.now c.in-Some.negative c.in-Some.digits.now c.number.result c.in-Some-with_sign.number (sym c.in-Some.ensures) c.number.ensures c.in-Some-with_sign.ensures in
    subst (λ (z : ℤ). IsNumberText c.args.text.now z × FitsSigned w64 z) (sym (to_z-of_z w64 c.in-Some-with_sign.number read.1)) read

pub returns-in-None-with_sign : goal.returns-in-None-with_sign
returns-in-None-with_sign c =
    number_too_large c.args.text.now c.in-Some.negative c.in-Some.digits.now c.number.result (sym c.in-Some.ensures) c.number.ensures c.in-None-with_sign.ensures
