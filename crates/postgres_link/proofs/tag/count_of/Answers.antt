use Rattle.std.proofs.Common.{pos}
use Rattle.pg_values.specs.declared.value.Value.TheVariants as value
use Rattle.postgres_link.proofs.Tags.{count_reading}
use Rattle.postgres_link.proofs.tag.count_of.Goals as goal

pub returns-in-Ok : goal.returns-in-Ok
returns-in-Ok c = count_reading c.args.text.now c.in-Ok.value c.count_in-count.result c.in-Ok.ensures.value c.in-Ok.ensures.each_value c.count_in-count.ensures

pub returns-in-Err-Bad : goal.returns-in-Err-Bad
returns-in-Err-Bad c = λ other is. rw c.in-Err-Bad.field-0-is at (c.in-Err-Bad.ensures.each_value (value.Int8 (pos other)) is)
