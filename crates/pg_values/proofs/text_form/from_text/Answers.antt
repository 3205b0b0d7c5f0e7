use Rattle.std.proofs.Common.{◌≡◌}
use Rattle.pg_values.specs.declared.col_type.ColType.TheVariants.{Text}
use Rattle.pg_values.specs.Answers.{ReadsText, RefusesText}
use Rattle.pg_values.proofs.Exactness.{each_value, each_code, reads_once, reads_never, refuses_once}
use Rattle.pg_values.proofs.text_form.from_text.Goals as goal

pub returns-clause-each_value : goal.returns-clause-each_value
returns-clause-each_value c =
    each_value c.read_text.result (ReadsText c.args.kind c.args.text.now) (RefusesText c.args.kind c.args.text.now) (c.args.kind ≡ Text)
    (reads_once c.args.kind c.args.text.now) (reads_never c.args.kind c.args.text.now) c.read_text.ensures

pub returns-clause-each_code : goal.returns-clause-each_code
returns-clause-each_code c =
    each_code c.read_text.result (ReadsText c.args.kind c.args.text.now) (RefusesText c.args.kind c.args.text.now) (c.args.kind ≡ Text)
    (refuses_once c.args.kind c.args.text.now) (reads_never c.args.kind c.args.text.now) c.read_text.ensures
