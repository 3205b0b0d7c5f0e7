use Rattle.std.proofs.Common.{◌≡◌, List, ℕ, ◌++◌, length}
use Rattle.session_seat.proofs.SpeechLemmas.{Shows}
use Rattle.session_seat.proofs.replies.put_replies.Given as goal

abbrev pub invariant-replies : goal.invariant-replies
invariant-replies l = record {
  events : l.book.events ≡ l.initial.book.events;
  journal : l.book.journal ≡ l.initial.book.journal;
  behind : (front : List ℕ) × (l.bytes ≡ front ++ l.rest);
  told : (text : List ℕ) × (l.book.lines ≡ l.initial.book.lines ++ text) × Shows l.s.number l.bytes l.rest text;
}

abbrev pub decreases-replies : goal.decreases-replies
decreases-replies l = length l.rest
