-- The bytes of a message, read again.
use Rattle.std.proofs.Common.{◌≡◌, ℕ, ◌+◌, ◌^◌, ◌<◌, Bool, true, false, ltb, List, [], ◌∷◌, ◌++◌, length, take, refl, sym, ap, ◌∙◌, subst, arith, codes, lit<, lit≤}
use Rattle.std.specs.Prelude.{◌&&◌, Option, Some, unwrap_or}
use Rattle.std.specs.List.{All}
use Rattle.std.proofs.lemmas.List.Elements.{All-nil, All-cons}
use Rattle.std.proofs.lemmas.Bool.{false≢true}
use borrow.Author.Tests.{ltb-true}
use Rattle.pg_messages.specs.declared.start.Pair.{Pair}
use Rattle.pg_messages.specs.Start as start
use Rattle.pg_messages.specs.Fields.{AreBytes, PairInRange}
use Rattle.pg_messages.specs.Frame.{BeginsWith}
use Rattle.std.specs.Prelude.{Result, Ok, Err, OnErr}
use Rattle.std.proofs.lemmas.List.{append-nil, length-append, take_all}
use Rattle.std.proofs.lemmas.Option.{none-some}
use Rattle.pg_messages.specs.declared.client.ClientMessage.{ClientMessage}
use Rattle.pg_messages.specs.declared.client.ClientMessage.TheVariants as message
use Rattle.pg_messages.specs.declared.read.Read.{Read}
use Rattle.pg_messages.specs.declared.read.Read.TheVariants.{Whole, More, Bad, TooLong}
use Rattle.pg_messages.specs.Client as client
use Rattle.pg_messages.specs.Client.{spelling}
use Rattle.pg_messages.specs.Fronts.{client_front}
use Rattle.play.specs.Opening.{HoldsClient, HoldsStart, query_in, query_of, start_message}
use Rattle.play.specs.Replies.{Sent, spelled_all}
use Rattle.pg_messages.specs.declared.server.ServerMessage.{ServerMessage}
use Rattle.play.proofs.SendingLemmas.{string_is}

pub holds_one : (bytes : List ℕ) (m : ClientMessage) → bytes ≡ [] ++ spelling m → ((rest : List ℕ) → client_front (spelling m ++ rest) ≡ Whole m (length (spelling m))) → HoldsClient bytes m
holds_one bytes m is again = ap client_front (is ∙ sym (append-nil (spelling m))) ∙ again [] ∙ ap (λ b. Whole m (length b)) (sym is)

pub whatever : {X E P : Type 0} (r : Result X E) → P → OnErr r P
whatever (Ok x) p = tt
whatever (Err e) p = p

-- ---- the first message of the session
pub begins_with : (bytes : List ℕ) → HoldsStart bytes → BeginsWith start.IsStartForm start_message (length bytes) bytes
begins_with bytes holds = (omega arith, subst (start.IsStartForm start_message) (sym (take_all (length bytes) bytes (omega arith))) holds)

abbrev are_bytes : List ℕ → Bool
are_bytes [] = true
are_bytes (b ∷ bs) = ltb b 256 && are_bytes bs

left_is : (a b : Bool) → (a && b) ≡ true → a ≡ true
left_is true b h = refl
left_is false b h = h

right_is : (a b : Bool) → (a && b) ≡ true → b ≡ true
right_is true b h = h
right_is false b h = absurd (false≢true h)

bytes_are : (text : List ℕ) → are_bytes text ≡ true → AreBytes text
bytes_are [] h = All-nil (λ b. b < 256)
bytes_are (b ∷ bs) h = All-cons (λ b. b < 256) b bs (ltb-true b 256 (left_is (ltb b 256) (are_bytes bs) h)) (bytes_are bs (right_is (ltb b 256) (are_bytes bs) h))

two_pairs : (P : Pair → Type 0) (a b : Pair) → P a → P b → All P (a ∷ b ∷ [])
two_pairs P a b p q = All-cons P a (b ∷ []) p (All-cons P b [] q (All-nil P))

pub start_form : HoldsStart (start.spelling start_message)
start_form =
    let a : Pair = record { name = codes "user"; value = codes "pool" } in
    let b : Pair = record { name = codes "database"; value = codes "pool" } in (
      (refl, two_pairs start.IsOption a b (lit< tt, string_is (codes "user") refl, string_is (codes "pool") refl) (lit< tt, string_is (codes "database") refl, string_is (codes "pool") refl)),
      (lit< tt, two_pairs PairInRange a b (record { name = bytes_are (codes "user") refl; value = bytes_are (codes "pool") refl }) (record { name = bytes_are (codes "database") refl; value = bytes_are (codes "pool") refl })),
      lit≤ tt,
      refl,
    )

-- the text of a Query that was read
abbrev pub IsQueryIn : Read ClientMessage → List ℕ → Type 0
IsQueryIn read text = (n : ℕ) × (read ≡ Whole (message.Query text) n)

query_is : (m : ClientMessage) (n : ℕ) (text : List ℕ) → query_of m ≡ Some text → IsQueryIn (Whole m n) text
query_is (message.Query other) n text is = (n, ap (λ (o : Option (List ℕ)). Whole (message.Query (unwrap_or o text)) n) is)
query_is (message.Parse name sql kinds) n text is = absurd (none-some text is)
query_is (message.Bind portal name formats values results) n text is = absurd (none-some text is)
query_is (message.Describe portal name) n text is = absurd (none-some text is)
query_is (message.Execute portal limit) n text is = absurd (none-some text is)
query_is (message.Close portal name) n text is = absurd (none-some text is)
query_is message.Flush n text is = absurd (none-some text is)
query_is message.Sync n text is = absurd (none-some text is)
query_is message.Terminate n text is = absurd (none-some text is)
query_is (message.Other tag) n text is = absurd (none-some text is)

query_read : (read : Read ClientMessage) (text : List ℕ) → query_in read ≡ Some text → IsQueryIn read text
query_read (Whole m n) text is = query_is m n text is
query_read More text is = absurd (none-some text is)
query_read (Bad place) text is = absurd (none-some text is)
query_read (TooLong n) text is = absurd (none-some text is)

query_form : (text bytes : List ℕ) → client.IsClientForm (message.Query text) bytes → length text < 2 ^ 32
query_form text bytes (clean, ranged, (body, has, room, is)) =
    let same : length body ≡ length (text ++ 0 ∷ []) = ap length has in
    let long : length (text ++ 0 ∷ []) ≡ length text + 1 = length-append text (0 ∷ []) in
    let big : 1048576 < 2 ^ 32 = lit< tt in
    omega (arith, same, long, room, big)

-- it is no longer than a message may be
pub query_short : (read : Read ClientMessage) (text bytes : List ℕ) → query_in read ≡ Some text
    → ((m : ClientMessage) (n : ℕ) → read ≡ Whole m n → BeginsWith client.IsClientForm m n bytes) → length text < 2 ^ 32
query_short read text bytes is whole =
    let found : IsQueryIn read text = query_read read text is in
    query_form text (take found.0 bytes) (whole (message.Query text) found.0 found.1).1

-- what was sent behind nothing
pub sent_bytes : (a b bytes : List ℕ) (messages : List ServerMessage) → a ≡ [] → bytes ≡ b → Sent a b messages → bytes ≡ spelled_all messages
sent_bytes a b bytes messages none same s = same ∙ s.bytes ∙ ap (λ z. z ++ spelled_all messages) none
