use Rattle.wire_extended.proofs.parsing.made_of.Goals as goal

pub returns : goal.returns
returns c = record { read = c.in_ok-reading.reading; is_read = c.in_ok-reading.ensures.reading; made = c.in_ok-made.ensures }
