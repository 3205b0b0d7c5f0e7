use Rattle.std.proofs.Common.{◌≤◌, List, ℕ, sym, subst, arith}
use Rattle.play.proofs.Asking.{whatever}
use Rattle.play.proofs.ScriptLemmas.{some_item, none_left}
use Rattle.play.proofs.Replying.{Shows, shows_on, all_shown, never_none, front_shown}
use Rattle.play.proofs.player.put_replies.Goals as goal

pub returns-in_err-length-clause-front : goal.returns-in_err-length-clause-front
returns-in_err-length-clause-front g c =
    let taken = g.O.Sink.taken in
    whatever c.from_residual.result (front_shown (taken c.args.out.now) (taken c.loop-rest.out) (taken c.put_reply.new.out) c.args.bytes.now c.loop-rest.rest.now
    (some_item c.loop-rest.rest.now c.is_empty.result c.is_empty.ensures c.loop-rest-test.true) c.loop-rest.invariant.shows c.in_err-length.ensures.front)

pub returns-then-length-eq0-clause-all : goal.returns-then-length-eq0-clause-all
returns-then-length-eq0-clause-all g c = λ messages again spells.
    let taken = g.O.Sink.taken in
    absurd (never_none (taken c.args.out.now) (taken c.loop-rest.out) (taken c.put_reply.new.out) c.args.bytes.now c.loop-rest.rest.now c.in_ok-length.length
    (some_item c.loop-rest.rest.now c.is_empty.result c.is_empty.ensures c.loop-rest-test.true) c.if-length-eq0.true c.loop-rest.invariant.shows c.in_ok-length.ensures.all messages again spells)

pub loop-rest-preserved : goal.loop-rest-preserved
loop-rest-preserved g c =
    let taken = g.O.Sink.taken in
    let After : List ℕ → Type 0 = λ rest. Shows (taken c.args.out.now) (taken c.put_reply.new.out) c.args.bytes.now rest in
    record {
      shows = subst After (sym c.split_at.ensures.back) (shows_on (taken c.args.out.now) (taken c.loop-rest.out) (taken c.put_reply.new.out) c.args.bytes.now c.loop-rest.rest.now c.in_ok-length.length
          (some_item c.loop-rest.rest.now c.is_empty.result c.is_empty.ensures c.loop-rest-test.true) c.loop-rest.invariant.shows c.in_ok-length.ensures.all);
      later = (let a : g.O.Sink.fault_count c.args.out.now ≤ g.O.Sink.fault_count c.loop-rest.out = c.loop-rest.invariant.later in let b : g.O.Sink.fault_count c.loop-rest.out ≤ g.O.Sink.fault_count c.put_reply.new.out = c.put_reply.ensures.later in omega arith);
    }

pub returns-clause-all : goal.returns-clause-all
returns-clause-all g c =
    let taken = g.O.Sink.taken in
    all_shown (taken c.args.out.now) (taken c.loop-rest.out) c.args.bytes.now c.loop-rest.rest.now (none_left c.loop-rest.rest.now c.is_empty.result c.is_empty.ensures c.loop-rest-test.false) c.loop-rest.invariant.shows
