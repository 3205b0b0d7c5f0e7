use Rattle.std.proofs.Common.{length, arith, sym, ◌∙◌}
use Rattle.std.proofs.lemmas.Bool.{eqb-true, eqb-false}
use Rattle.sql_tokens.proofs.Quotes.{chunk_none, chunk_last, chunk_part, part_short}
use Rattle.sql_tokens.proofs.quoted.next_chunk.Goals as goal

pub returns-then-is_empty : goal.returns-then-is_empty
returns-then-is_empty c =
    chunk_none c.args.quote c.requires.ascii c.args.bytes.now c.split_run.result.0.now c.split_run.result.1.now
    c.requires.text c.split_run.ensures.run c.split_run.ensures.rest
    (eqb-true (length c.split_run.result.1.now) 0 (sym c.is_empty.ensures ∙ c.if-is_empty.true))

pub split_at-requires : goal.split_at-requires
split_at-requires c =
    part_short c.args.quote c.requires.ascii c.args.bytes.now c.split_run.result.0.now c.split_run.result.1.now
    c.requires.text c.split_run.ensures.run c.split_run.ensures.rest (omega (arith, eqb-false (length c.split_run.result.1.now) 0 (sym c.is_empty.ensures ∙ c.if-is_empty.false)))

pub returns-then-begins_with : goal.returns-then-begins_with
returns-then-begins_with c =
    chunk_part c.args.quote c.requires.ascii c.args.bytes.now c.split_run.result.0.now c.split_run.result.1.now
    c.requires.text c.split_run.ensures.run c.split_run.ensures.rest c.behind_first-after.result.now c.split_at.result.0.now c.behind_first.result.now
    (omega (arith, eqb-false (length c.split_run.result.1.now) 0 (sym c.is_empty.ensures ∙ c.if-is_empty.false))) c.behind_first-after.ensures (sym c.begins_with.ensures ∙ c.if-begins_with.true) c.split_at.ensures.front c.behind_first.ensures

pub returns-else-begins_with : goal.returns-else-begins_with
returns-else-begins_with c =
    chunk_last c.args.quote c.requires.ascii c.args.bytes.now c.split_run.result.0.now c.split_run.result.1.now
    c.requires.text c.split_run.ensures.run c.split_run.ensures.rest c.behind_first-after.result.now
    (omega (arith, eqb-false (length c.split_run.result.1.now) 0 (sym c.is_empty.ensures ∙ c.if-is_empty.false))) c.behind_first-after.ensures (sym c.begins_with.ensures ∙ c.if-begins_with.false)
