use Rattle.std.proofs.Common.{Err, ap, ◌∙◌}
use Rattle.sql_reader.specs.declared.text_fault.TextError.{TextError}
use Rattle.sql_reader.proofs.Told.{goes_wrong, are_read, only_read, refused}
use Rattle.sql_reader.proofs.reader.read_placed.Goals as goal

pub returns-in-Ok-clause-found : goal.returns-in-Ok-clause-found
returns-in-Ok-clause-found c = are_read c.args.placed c.as_slice.result.now (c.as_slice.ensures ∙ c.in_ok-tokens.ensures.0) c.in-Ok.statements c.in-Ok.ensures.found c.in-Ok.ensures.few c.in-Ok.ensures.have_from

pub returns-in-Ok-clause-only : goal.returns-in-Ok-clause-only
returns-in-Ok-clause-only c = only_read c.args.placed c.as_slice.result.now (c.as_slice.ensures ∙ c.in_ok-tokens.ensures.0) c.in-Ok.statements c.in-Ok.ensures.only

pub returns-clause-refused : goal.returns-clause-refused
returns-clause-refused c =
    refused c.args.placed c.as_slice.result.now (c.as_slice.ensures ∙ c.in_ok-tokens.ensures.0) c.args.size c.as_slice-in-Err-Fault.result.now c.as_slice-in-Err-Fault-2.result.now c.in-Err-Fault.fault c.in_ok-told-in-Err-Fault.field-0
    (c.as_slice-in-Err-Fault.ensures ∙ c.in_ok-tokens.ensures.0) (c.as_slice-in-Err-Fault-2.ensures ∙ c.in_ok-tokens.ensures.1)
    (goes_wrong c.as_slice.result.now (Err c.in-Err-Fault.field-0) c.in-Err-Fault.ensures.place c.in-Err-Fault.ensures.deep c.in-Err-Fault.ensures.without_from c.in-Err-Fault.ensures.too_many c.in-Err-Fault.fault (ap (λ (x : TextError). Err x) c.in-Err-Fault.field-0-is))
    c.in_ok-told-in-Err-Fault.ensures
