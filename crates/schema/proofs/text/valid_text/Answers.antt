use Rattle.schema.proofs.text.valid_text.Goals as goal

pub unreachable-requires : goal.unreachable-requires
unreachable-requires c = cc (c.in-Err.ensures.succeeds c.requires)
