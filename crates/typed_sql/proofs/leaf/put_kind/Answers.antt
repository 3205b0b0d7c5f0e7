use Rattle.std.proofs.Common.{arith, refl}
use Rattle.typed_sql.proofs.KnownLemmas.{put_known}
use Rattle.typed_sql.proofs.leaf.put_kind.Goals as goal

pub returns : goal.returns
returns c = put_known c.args.number c.args.kind c.args.known.now.items c.reach.new.known.items _ (omega arith) c.in_ok-reach.ensures refl
