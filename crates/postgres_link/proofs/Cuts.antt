-- Bytes that are heard in pieces.
use Rattle.std.proofs.Common.{◌≡◌, ◌≢◌, ℕ, ◌+◌, ◌-◌, ◌++◌, ◌≤◌, List, ◌∷◌, length, drop, refl, sym, arith, length-append}
use Rattle.std.proofs.lemmas.List.{drop-append-le}
use Rattle.pg_messages.specs.declared.server.ServerMessage.{ServerMessage}
use Rattle.pg_messages.specs.declared.read.Read.{Read}
use Rattle.pg_messages.specs.declared.read.Read.TheVariants as read
use Rattle.pg_messages.specs.Fronts.{server_front}
use Rattle.postgres_link.specs.Hearing.{Hears, Outcome, waiting, replied, broken, Fronts, waits, wants, passes, garbled, too_long, never_so_long, floods, never_so_many, breaks, ends, goes}
use Rattle.postgres_link.specs.declared.hearing.Excess.{Excess}

-- an answer of a front other than More stays, whatever follows
abbrev pub Stays : Type 0
Stays = (bytes rest : List ℕ) (found : Read ServerMessage) → server_front bytes ≡ found → found ≢ read.More → server_front (bytes ++ rest) ≡ found

whole_is_no_more : (m : ServerMessage) (n : ℕ) → read.Whole m n ≢ read.More
whole_is_no_more m n e = absurd (grind arith)

bad_is_no_more : (found : Read ServerMessage) (place : ℕ) → found ≡ read.Bad place → found ≢ read.More
bad_is_no_more found place e f = absurd (grind arith)

long_is_no_more : (found : Read ServerMessage) (n : ℕ) → found ≡ read.TooLong n → found ≢ read.More
long_is_no_more found n e f = absurd (grind arith)

fronts_stay : Stays → (m : ServerMessage) (n : ℕ) (a b : List ℕ) → Fronts m n a → Fronts m n (a ++ b)
fronts_stay stays m n a b (front, within) = (stays a b (read.Whole m n) front (whole_is_no_more m n), omega (arith, within, length-append a b))

long_stays : Stays → (tag n : ℕ) (a b : List ℕ) → server_front (tag ∷ a) ≡ read.TooLong n → server_front (tag ∷ (a ++ b)) ≡ read.TooLong n
long_stays stays tag n a b e = stays (tag ∷ a) b (read.TooLong n) e (long_is_no_more (read.TooLong n) n refl)

longer : (n : ℕ) (a b : List ℕ) → n ≤ length a → n ≤ length (a ++ b)
longer n a b within = omega (arith, within, length-append a b)

pub cut_waits : {S R : Type 0} {Goes : S → ServerMessage → S → Type 0} {Ends : S → ServerMessage → R → Type 0} {Exceeds : S → Excess → S → Type 0} → Stays → (s new : S) (n m left now : ℕ) (a b rest : List ℕ) (o : Outcome S R)
    → Hears Goes Ends Exceeds s n left a (waiting new m now rest) → Hears Goes Ends Exceeds new m now (rest ++ b) o → Hears Goes Ends Exceeds s n left (a ++ b) o
cut_waits stays s new n m left now a b rest o (waits e) h = h
cut_waits stays s new n m left now a b rest o wants h = h
cut_waits stays s new n m left now a b rest o (passes k o' some within more) h =
    passes k o some (longer k a b within) (rw (drop-append-le k a b within) (cut_waits stays s new n m (left - k) now (drop k a) b rest o more h))
cut_waits stays s new n m left now (tag ∷ a) b rest o (too_long k mid o' front step more) h =
    too_long k mid o (long_stays stays tag k a b front) step (cut_waits stays mid new n m (1 + k) now (tag ∷ a) b rest o more h)
cut_waits stays s new n m left now a b rest o (floods message k mid o' front limit step more) h =
    floods message k mid o (fronts_stay stays message k a b front) limit step (cut_waits stays mid new 0 m 0 now a b rest o more h)
cut_waits stays s new n m left now a b rest o (goes message k mid o' front limit step more) h =
    goes message k mid o (fronts_stay stays message k a b front) limit step (rw (drop-append-le k a b front.1) (cut_waits stays mid new (n + k) m 0 now (drop k a) b rest o more h))

pub cut_replies : {S R : Type 0} {Goes : S → ServerMessage → S → Type 0} {Ends : S → ServerMessage → R → Type 0} {Exceeds : S → Excess → S → Type 0} → Stays → (s : S) (n left : ℕ) (a b rest : List ℕ) (r : R)
    → Hears Goes Ends Exceeds s n left a (replied r rest) → Hears Goes Ends Exceeds s n left (a ++ b) (replied r (rest ++ b))
cut_replies stays s n left a b rest r (ends message k r' front limit step) =
    rw (sym (drop-append-le k a b front.1)) (ends message k r (fronts_stay stays message k a b front) limit step)
cut_replies stays s n left a b rest r (passes k o some within more) =
    passes k (replied r (rest ++ b)) some (longer k a b within) (rw (drop-append-le k a b within) (cut_replies stays s n (left - k) (drop k a) b rest r more))
cut_replies stays s n left (tag ∷ a) b rest r (too_long k mid o front step more) =
    too_long k mid (replied r (rest ++ b)) (long_stays stays tag k a b front) step (cut_replies stays mid n (1 + k) (tag ∷ a) b rest r more)
cut_replies stays s n left a b rest r (floods message k mid o front limit step more) =
    floods message k mid (replied r (rest ++ b)) (fronts_stay stays message k a b front) limit step (cut_replies stays mid 0 0 a b rest r more)
cut_replies stays s n left a b rest r (goes message k mid o' front limit step more) =
    goes message k mid (replied r (rest ++ b)) (fronts_stay stays message k a b front) limit step (rw (drop-append-le k a b front.1) (cut_replies stays mid (n + k) 0 (drop k a) b rest r more))

pub cut_breaks : {S R : Type 0} {Goes : S → ServerMessage → S → Type 0} {Ends : S → ServerMessage → R → Type 0} {Exceeds : S → Excess → S → Type 0} → Stays → (s : S) (n left : ℕ) (a b : List ℕ)
    → Hears Goes Ends Exceeds s n left a broken → Hears Goes Ends Exceeds s n left (a ++ b) broken
cut_breaks stays s n left a b (garbled place e) = garbled place (stays a b (read.Bad place) e (bad_is_no_more (read.Bad place) place refl))
cut_breaks stays s n left (tag ∷ a) b (never_so_long k front none) = never_so_long k (long_stays stays tag k a b front) none
cut_breaks stays s n left a b (never_so_many message k front limit none) = never_so_many message k (fronts_stay stays message k a b front) limit none
cut_breaks stays s n left a b (breaks message k front limit strange) = breaks message k (fronts_stay stays message k a b front) limit strange
cut_breaks stays s n left a b (passes k o some within more) =
    passes k broken some (longer k a b within) (rw (drop-append-le k a b within) (cut_breaks stays s n (left - k) (drop k a) b more))
cut_breaks stays s n left (tag ∷ a) b (too_long k mid o front step more) =
    too_long k mid broken (long_stays stays tag k a b front) step (cut_breaks stays mid n (1 + k) (tag ∷ a) b more)
cut_breaks stays s n left a b (floods message k mid o front limit step more) =
    floods message k mid broken (fronts_stay stays message k a b front) limit step (cut_breaks stays mid 0 0 a b more)
cut_breaks stays s n left a b (goes message k mid o' front limit step more) =
    goes message k mid broken (fronts_stay stays message k a b front) limit step (rw (drop-append-le k a b front.1) (cut_breaks stays mid (n + k) 0 (drop k a) b more))
