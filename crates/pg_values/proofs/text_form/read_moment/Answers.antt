use Rattle.std.proofs.Common.{sym, refl, inl, inr, ◌∙◌, ap, FitsSigned, w64, rules}
use Rattle.std.proofs.lemmas.Int.{to_z-of_z}
use Rattle.pg_values.specs.declared.value.Value.TheVariants.{Moment}
use Rattle.pg_values.proofs.MomentLemmas.{written_takes, no_written}
use Rattle.pg_values.proofs.text_form.read_moment.Goals as goal

pub moment_of-requires : goal.moment_of-requires
moment_of-requires c = (written_takes c.args.text.now c.in-Some.written (sym c.written.ensures ∙ c.in-Some.is)).0

pub returns-in-None : goal.returns-in-None
returns-in-None c = inl (no_written c.args.text.now (sym c.written.ensures ∙ c.in-None.is), refl)

pub returns-in-Some-moment_of : goal.returns-in-Some-moment_of
returns-in-Some-moment_of c =
    let told = c.in-Some-moment_of.ensures in
    let fits : FitsSigned w64 c.in-Some-moment_of.micros = search rules in (
      c.in-Some.written,
      written_takes c.args.text.now c.in-Some.written (sym c.written.ensures ∙ c.in-Some.is),
      told.0,
      told.1,
      ap Moment (to_z-of_z w64 c.in-Some-moment_of.micros fits ∙ told.2),
    )

pub returns-in-None-moment_of : goal.returns-in-None-moment_of
returns-in-None-moment_of c =
    inr (c.in-Some.written, written_takes c.args.text.now c.in-Some.written (sym c.written.ensures ∙ c.in-Some.is), c.in-None-moment_of.ensures, refl)
