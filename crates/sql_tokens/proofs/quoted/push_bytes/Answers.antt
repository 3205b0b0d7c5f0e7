use Rattle.sql_tokens.proofs.quoted.push_bytes.Goals as goal

pub unreachable-requires : goal.unreachable-requires
unreachable-requires c = c.in-Err.ensures.cases.0 c.requires
