use Rattle.pgproto.proofs.ReaderLaws.{found_of, only_of, small_of}
use Rattle.pgproto.proofs.reader.line.Goals as goal

pub returns-clause-found : goal.returns-clause-found
returns-clause-found c = found_of c.exact_line.result c.args.bytes.now c.exact_line.ensures

pub returns-clause-small : goal.returns-clause-small
returns-clause-small c = small_of c.exact_line.result c.args.bytes.now c.exact_line.ensures

pub returns-clause-only : goal.returns-clause-only
returns-clause-only c = only_of c.exact_line.result c.args.bytes.now c.exact_line.ensures
