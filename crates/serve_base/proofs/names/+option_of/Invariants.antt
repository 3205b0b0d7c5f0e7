use Rattle.std.proofs.Common.{length}
use Rattle.serve_base.proofs.names.+option_of.Given as goal

abbrev pub decreases-option_of : goal.decreases-option_of
decreases-option_of l = length l.options.now
