use Rattle.std.proofs.Common.{refl}
use Rattle.session_engine.specs.Cores.{machine_in}
use Rattle.session_wire.specs.Shown.{shown}
use Rattle.serve_steps.specs.Causes.{is_cut_off, is_put_out, is_read_fault, is_write_fault}
use Rattle.pool_server.proofs.Stepping.{given_out, memory_in}
use Rattle.pool_server.proofs.session.Session.give_out.Goals as goal

pub returns-clause-read : goal.returns-clause-read
returns-clause-read g c = memory_in is_read_fault c.args.self.now.parting c.first_of.result refl c.first_of.ensures

pub returns-clause-write : goal.returns-clause-write
returns-clause-write g c = memory_in is_write_fault c.args.self.now.parting c.first_of.result refl c.first_of.ensures

pub returns-clause-cut : goal.returns-clause-cut
returns-clause-cut g c = memory_in is_cut_off c.args.self.now.parting c.first_of.result refl c.first_of.ensures

pub returns-clause-put_out : goal.returns-clause-put_out
returns-clause-put_out g c = memory_in is_put_out c.args.self.now.parting c.first_of.result refl c.first_of.ensures

pub returns-clause-leads : goal.returns-clause-leads
returns-clause-leads g c = λ w s. given_out w s (machine_in c.args.self.now.work.core) (shown c.args.self.now.talk.wire) c.args.self.now.parting c.first_of.result c.first_of.ensures
