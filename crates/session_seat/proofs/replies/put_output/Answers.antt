use Rattle.std.proofs.Common.{ℕ, List, ap, subst, ◌∙◌, rules}
use Rattle.session_wire.specs.Shown.{shown, with_written}
use Rattle.session_seat.specs.Speech.{IsShown}
use Rattle.session_seat.proofs.replies.put_output.Goals as goal

pub returns-clause-written : goal.returns-clause-written
returns-clause-written c =
    let shows = c.in_ok-put_replies.ensures.shows in
    let view = shown c.args.wire.now in
    record {
      text = shows.0;
      shows = subst (λ (z : List ℕ). IsShown c.args.s.number z shows.0) c.output.ensures shows.1;
      wrote = c.written.ensures.shown ∙ ap (λ (n : ℕ). with_written view n) (search rules);
      lines = shows.2;
    }
