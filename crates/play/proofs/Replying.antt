-- The lines of the messages in some bytes, written one after another.
use Rattle.std.proofs.Common.{◌≡◌, ℕ, List, [], ◌∷◌, ◌++◌, length, drop, refl, sym, ap, ◌∙◌, subst, arith}
use Rattle.std.specs.Prelude.{Option}
use Rattle.std.proofs.lemmas.List.{append_assoc, append-nil}
use Rattle.std.proofs.Math.Seq.{drop-append_seam}
use Rattle.pool_base.specs.Outside.{Appends, AppendsFront}
use Rattle.pool_base.proofs.Sinking.{appends_nothing, appends_on, front_on, front_of_more}
use Rattle.pg_messages.specs.declared.server.ServerMessage.{ServerMessage}
use Rattle.pg_messages.specs.declared.read.Read.TheVariants.{Whole}
use Rattle.pg_messages.specs.Server.{spelling}
use Rattle.pg_messages.specs.Fronts.{server_front}
use Rattle.play.specs.Replies.{spelled_all, AreReadAgain}
use Rattle.play.specs.Transcript.{reply_line, lines_of}

pub front_nothing : (a : Option (List ℕ)) (x : List ℕ) → AppendsFront a a x
front_nothing a x = record { front = []; rest = x; parts = refl; has = appends_nothing a }

-- the messages that are left, and the lines that are gone
pub record Left (a b : Option (List ℕ)) (rest : List ℕ) (messages : List ServerMessage) : Type 0 where
  pub left : List ServerMessage
  pub again : AreReadAgain left
  pub spells : rest ≡ spelled_all left
  pub gone : List ℕ
  pub wrote : Appends a b gone
  pub lines : lines_of messages ≡ gone ++ lines_of left

abbrev pub Shows : Option (List ℕ) → Option (List ℕ) → List ℕ → List ℕ → Type 0
Shows a b bytes rest = (messages : List ServerMessage) → AreReadAgain messages → bytes ≡ spelled_all messages → Left a b rest messages

pub shows_none : (a : Option (List ℕ)) (bytes : List ℕ) → Shows a a bytes bytes
shows_none a bytes = λ messages again spells. record { left = messages; again = again; spells = spells; gone = []; wrote = appends_nothing a; lines = refl }

-- what a call says of the message at the front
abbrev pub Puts : Option (List ℕ) → Option (List ℕ) → List ℕ → ℕ → Type 0
Puts b c rest n = (m : ServerMessage) (k : ℕ) → server_front rest ≡ Whole m k → (n ≡ k) × Appends b c (reply_line m)

abbrev pub PutsFront : Option (List ℕ) → Option (List ℕ) → List ℕ → Type 0
PutsFront b c rest = (m : ServerMessage) (k : ℕ) → server_front rest ≡ Whole m k → AppendsFront b c (reply_line m)

at_front : (rest : List ℕ) (m : ServerMessage) (others : List ServerMessage) → AreReadAgain (m ∷ others) → rest ≡ spelled_all (m ∷ others) → server_front rest ≡ Whole m (length (spelling m))
at_front rest m others again spells = ap server_front spells ∙ again.0 (spelled_all others)

step : (a b c : Option (List ℕ)) (rest : List ℕ) (n : ℕ) (messages left : List ServerMessage) (gone : List ℕ) → (rest ≡ [] → ⊥) → AreReadAgain left → rest ≡ spelled_all left → Appends a b gone → lines_of messages ≡ gone ++ lines_of left
    → Puts b c rest n → Left a c (drop n rest) messages
step a b c rest n messages [] gone some again spells wrote lines puts = absurd (some spells)
step a b c rest n messages (m ∷ others) gone some again spells wrote lines puts =
    let put : (n ≡ length (spelling m)) × Appends b c (reply_line m) = puts m (length (spelling m)) (at_front rest m others again spells) in
    record {
      left = others;
      again = again.1;
      spells = ap (λ k. drop k rest) put.0 ∙ ap (drop (length (spelling m))) spells ∙ drop-append_seam (spelling m) (spelled_all others);
      gone = gone ++ reply_line m;
      wrote = appends_on a b c gone (reply_line m) wrote put.1;
      lines = lines ∙ sym (append_assoc gone (reply_line m) (lines_of others));
    }

pub shows_on : (a b c : Option (List ℕ)) (bytes rest : List ℕ) (n : ℕ) → (rest ≡ [] → ⊥) → Shows a b bytes rest → Puts b c rest n → Shows a c bytes (drop n rest)
shows_on a b c bytes rest n some shows puts = λ messages again spells.
    let l : Left a b rest messages = shows messages again spells in
    step a b c rest n messages l.left l.gone some l.again l.spells l.wrote l.lines puts

-- at the end of the bytes
all_at : (a b : Option (List ℕ)) (rest : List ℕ) (messages left : List ServerMessage) (gone : List ℕ) → rest ≡ [] → rest ≡ spelled_all left → Appends a b gone → lines_of messages ≡ gone ++ lines_of left → Appends a b (lines_of messages)
all_at a b rest messages [] gone none spells wrote lines = subst (Appends a b) (sym (lines ∙ append-nil gone)) wrote
all_at a b rest messages (m ∷ others) gone none spells wrote lines = let e : [] ≡ spelled_all (m ∷ others) = sym none ∙ spells in absurd (cc)

pub all_shown : (a b : Option (List ℕ)) (bytes rest : List ℕ) → rest ≡ [] → Shows a b bytes rest → (messages : List ServerMessage) → AreReadAgain messages → bytes ≡ spelled_all messages → Appends a b (lines_of messages)
all_shown a b bytes rest none shows messages again spells =
    let l : Left a b rest messages = shows messages again spells in
    all_at a b rest messages l.left l.gone none l.spells l.wrote l.lines

-- a message has bytes
never_at : (b c : Option (List ℕ)) (rest : List ℕ) (n : ℕ) (left : List ServerMessage) → (rest ≡ [] → ⊥) → n ≡ 0 → AreReadAgain left → rest ≡ spelled_all left → Puts b c rest n → ⊥
never_at b c rest n [] some zero_is again spells puts = some spells
never_at b c rest n (m ∷ others) some zero_is again spells puts =
    let put : (n ≡ length (spelling m)) × Appends b c (reply_line m) = puts m (length (spelling m)) (at_front rest m others again spells) in
    let none : length (spelling m) ≡ 0 = sym put.0 ∙ zero_is in
    absurd (omega arith)

pub never_none : (a b c : Option (List ℕ)) (bytes rest : List ℕ) (n : ℕ) → (rest ≡ [] → ⊥) → n ≡ 0 → Shows a b bytes rest → Puts b c rest n → (messages : List ServerMessage) → AreReadAgain messages → bytes ≡ spelled_all messages → ⊥
never_none a b c bytes rest n some zero_is shows puts messages again spells =
    let l : Left a b rest messages = shows messages again spells in
    never_at b c rest n l.left some zero_is l.again l.spells puts

-- after a fault
front_at : (a b c : Option (List ℕ)) (rest : List ℕ) (messages left : List ServerMessage) (gone : List ℕ) → (rest ≡ [] → ⊥) → AreReadAgain left → rest ≡ spelled_all left → Appends a b gone → lines_of messages ≡ gone ++ lines_of left
    → PutsFront b c rest → AppendsFront a c (lines_of messages)
front_at a b c rest messages [] gone some again spells wrote lines puts = absurd (some spells)
front_at a b c rest messages (m ∷ others) gone some again spells wrote lines puts =
    subst (AppendsFront a c) (sym lines) (front_on a b c gone (reply_line m ++ lines_of others) wrote (front_of_more b c (reply_line m) (lines_of others) (puts m (length (spelling m)) (at_front rest m others again spells))))

pub front_shown : (a b c : Option (List ℕ)) (bytes rest : List ℕ) → (rest ≡ [] → ⊥) → Shows a b bytes rest → PutsFront b c rest → (messages : List ServerMessage) → AreReadAgain messages → bytes ≡ spelled_all messages → AppendsFront a c (lines_of messages)
front_shown a b c bytes rest some shows puts messages again spells =
    let l : Left a b rest messages = shows messages again spells in
    front_at a b c rest messages l.left l.gone some l.again l.spells l.wrote l.lines puts
