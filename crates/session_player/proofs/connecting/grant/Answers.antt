use Rattle.std.proofs.Common.{ap, refl}
use Rattle.std.specs.Prelude.{Some}
use Rattle.session_player.specs.Speaking.{hearer_in, hearer_of}
use Rattle.session_player.proofs.connecting.grant.Goals as goal

pub returns-in-Free-clause-hears : goal.returns-in-Free-clause-hears
returns-in-Free-clause-hears c = (ap hearer_in c.in-Free.is, refl)

pub returns-in_ok-grant_client-in-Taken-clause-hears : goal.returns-in_ok-grant_client-in-Taken-clause-hears
returns-in_ok-grant_client-in-Taken-clause-hears c = (hearer_of c.in-Taken.client.place.seat, ap hearer_in c.in-Taken.is, ap Some c.in_ok-grant_client-in-Taken.ensures.hears)
