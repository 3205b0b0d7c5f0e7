use Rattle.std.proofs.Common.{◌≡◌, ℕ, ◌<◌, List, [], length, arith, ◌++◌, ◌∙◌, take, sym, ap, refl, subst, append_assoc, rules}
use Rattle.std.proofs.lemmas.List.{append-nil}
use Rattle.session_seat.specs.Speech.{message_line}
use Rattle.session_seat.proofs.DueLemmas.{front_on}
use Rattle.session_seat.proofs.SpeechLemmas.{Shows, shows_all, shows_none, shows_on}
use Rattle.session_seat.proofs.replies.put_replies.Goals as goal

pub replies-preserved : goal.replies-preserved
replies-preserved c =
    let behind = c.replies.invariant.behind in
    let told = c.replies.invariant.told in
    let s = c.args.s.number in
    let some : 0 < c.in_ok-length.length = search rules in
    let shown = c.in_ok-length.ensures.shows some in
    let front = behind.0 ++ take c.in_ok-length.length c.replies.rest.now in
    record {
      events = c.put_reply.ensures.events ∙ c.replies.invariant.events;
      journal = c.put_reply.ensures.journal ∙ c.replies.invariant.journal;
      behind = (front, front_on c.args.bytes.now behind.0 c.replies.rest.now c.in_ok-length.length behind.1 ∙ ap (λ (z : List ℕ). front ++ z) (sym c.split_at.ensures.back));
      told = (
        told.0 ++ message_line s shown.0,
        shown.2 ∙ (ap (λ (z : List ℕ). z ++ message_line s shown.0) told.1 ∙ append_assoc c.args.book.now.lines told.0 (message_line s shown.0)),
        subst (λ (z : List ℕ). Shows s c.args.bytes.now z (told.0 ++ message_line s shown.0)) (sym c.split_at.ensures.back)
            (shows_on s c.args.bytes.now c.replies.rest.now told.0 shown.0 c.in_ok-length.length some shown.1 told.2),
      );
    }

pub replies-init : goal.replies-init
replies-init c = record {
  events = refl;
  journal = refl;
  behind = ([], refl);
  told = ([], sym (append-nil c.args.book.now.lines), shows_none c.args.s.number c.args.bytes.now);
}

pub returns-clause-shows : goal.returns-clause-shows
returns-clause-shows c =
    let told = c.replies.invariant.told in
    let none : length c.replies.rest.now ≡ 0 = grind arith in
    (told.0, shows_all c.args.s.number c.args.bytes.now c.replies.rest.now told.0 none told.2, told.1)
