use Rattle.serve_base.proofs.Laws.{read_back_if}
use Rattle.serve_base.proofs.writer.write_status.Goals as goal

pub returns-clause-read_back : goal.returns-clause-read_back
returns-clause-read_back c = read_back_if c.args.all.now c.written.result c.requires.plain c.requires.few c.written.ensures
