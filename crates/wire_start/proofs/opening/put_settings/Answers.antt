use Rattle.std.specs.Prelude.{codes, ◌++◌}
use Rattle.pg_messages.specs.declared.server.ServerMessage.TheVariants.{ParameterStatus}
use Rattle.pg_messages.specs.Server.{spelling}
use Rattle.wire_start.proofs.Chains.{chain_four}
use Rattle.wire_start.proofs.opening.put_settings.Goals as goal

pub returns : goal.returns
returns c = chain_four c.args.onto.now
    (spelling (ParameterStatus (codes "client_encoding") (codes "UTF8"))
    ++ (spelling (ParameterStatus (codes "DateStyle") (codes "ISO, MDY"))
    ++ (spelling (ParameterStatus (codes "integer_datetimes") (codes "on"))
    ++ spelling (ParameterStatus (codes "server_encoding") (codes "UTF8")))))
    (spelling (ParameterStatus (codes "server_version") (codes "14.0")))
    (spelling (ParameterStatus (codes "standard_conforming_strings") (codes "on")))
    (spelling (ParameterStatus (codes "TimeZone") (codes "UTC")))
    c.put_encodings.new.onto c.put_setting.new.onto c.put_setting-2.new.onto c.put_setting-3.new.onto
    c.in_ok-put_encodings.ensures c.in_ok-put_setting.ensures c.in_ok-put_setting-2.ensures c.in_ok-put_setting-3.ensures
