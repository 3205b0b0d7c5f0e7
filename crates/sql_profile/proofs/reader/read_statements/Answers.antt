use Rattle.sql_profile.proofs.Named.{named_of, without_from_told, too_many_told}
use Rattle.sql_profile.proofs.reader.read_statements.Goals as goal

pub returns : goal.returns
returns c = record {
  found = c.read_statements.ensures.found;
  only = c.read_statements.ensures.only;
  named = named_of c.args.text.now c.read_statements.result c.read_statements.ensures.only c.read_statements.ensures.refused c.read_statements.ensures.told;
  without_from = without_from_told c.args.text.now c.read_statements.result c.read_statements.ensures.told;
  too_many = too_many_told c.args.text.now c.read_statements.result c.read_statements.ensures.told;
}
