use Rattle.std.proofs.Common.{◌<◌, length, refl, arith, ◌∙◌}
use Rattle.std.proofs.lemmas.List.{length-set}
use Rattle.pool_run.proofs.Preparing.{fresh_one, fresh_less, prepared_none, prepared_more, prepared_all}
use Rattle.pool_run.proofs.running.prepare_each.Goals as goal

pub loop-one-init : goal.loop-one-init
loop-one-init g c = record {
  len = refl;
  done = prepared_none g.B.Backend.meaning g.B.Backend.is_honest g.B.Backend.is_prompt g.B.Backend.is_steady c.args.catalogue.now;
  left = c.requires.fresh;
}

pub prepare-requires-clause-blank : goal.prepare-requires-clause-blank
prepare-requires-clause-blank g c =
    (fresh_one g.B.Backend.meaning g.B.Backend.is_honest g.B.Backend.is_prompt g.B.Backend.is_steady c.loop-one.boxes c.loop-one.one-index c.one-item.result (omega arith) c.loop-one.invariant.left).0

pub loop-one-preserved : goal.loop-one-preserved
loop-one-preserved g c =
    let meaning = g.B.Backend.meaning in
    let is_honest = g.B.Backend.is_honest in
    let is_prompt = g.B.Backend.is_prompt in
    let is_steady = g.B.Backend.is_steady in
    let i = c.loop-one.one-index in
    let boxes = c.loop-one.boxes in
    let old = c.one-item.result in
    let new = c.prepare.new.self in
    let below : i < length boxes = omega arith in
    let was = fresh_one meaning is_honest is_prompt is_steady boxes i old below c.loop-one.invariant.left in
    record {
      len = length-set boxes i new ∙ c.loop-one.invariant.len;
      done = prepared_more meaning is_honest is_prompt is_steady c.args.catalogue.now boxes i new below c.loop-one.invariant.done (record {
        means = c.in_ok-prepare.ensures.prepared;
        honest = c.prepare.ensures.honest ∙ was.1;
        prompt = c.prepare.ensures.prompt ∙ was.2;
        steady = c.prepare.ensures.steady ∙ was.3;
      });
      left = fresh_less meaning is_honest is_prompt is_steady boxes i new c.loop-one.invariant.left;
    }

pub returns-clause-each : goal.returns-clause-each
returns-clause-each g c =
    prepared_all g.B.Backend.meaning g.B.Backend.is_honest g.B.Backend.is_prompt g.B.Backend.is_steady c.args.catalogue.now c.loop-one.boxes c.loop-one.one-index (omega arith) c.loop-one.invariant.done
