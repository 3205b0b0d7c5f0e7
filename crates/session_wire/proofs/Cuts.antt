-- Laws of bytes that are cut into messages.
use Rattle.std.proofs.Common.{◌≡◌, ◌≢◌, ℕ, Bool, true, false, List, [], ◌∷◌, ◌++◌, drop, sym, ap, subst, arith}
use Rattle.std.proofs.lemmas.List.{drop-append-le, append-nil, append_assoc, length-append}
use Rattle.pg_messages.specs.declared.read.Read.{Read}
use Rattle.pg_messages.specs.declared.read.Read.TheVariants.{Whole, More}
use Rattle.pg_messages.specs.Fronts.{start_front, client_front}
use Rattle.session_wire.specs.Shown.{View, with_piece}
use Rattle.session_wire.specs.Cuts.{Message, First, Later, AreCut, Agrees, HasTaken, Takes}

-- an answer that is not More stays
abbrev pub Stay : {A : Type 0} → (List ℕ → Read A) → Type 0
Stay front = (bytes rest : List ℕ) (read : _) → front bytes ≡ read → read ≢ More → front (bytes ++ rest) ≡ read

pub cut_more : Stay client_front → Stay start_front → (begun : Bool) (bytes : List ℕ) (ms : List Message) (rest : List ℕ) (then : Bool) (more : List ℕ)
    → AreCut begun bytes ms rest then → AreCut begun (bytes ++ more) ms (rest ++ more) then
cut_more cs ss begun bytes [] rest then more h = (ap (λ b. b ++ more) h.0, h.1)
cut_more cs ss false bytes (First m ∷ ms) rest then more h = (
  h.0,
  omega (arith, h.1, length-append bytes more),
  ss bytes more (Whole m h.0) h.2 (λ e. absurd (cc)),
  h.3,
  subst (λ b. AreCut h.3 b ms (rest ++ more) then) (sym (drop-append-le h.0 bytes more h.1)) (cut_more cs ss h.3 (drop h.0 bytes) ms rest then more h.4),
)
cut_more cs ss true bytes (First m ∷ ms) rest then more h = absurd h
cut_more cs ss true bytes (Later m ∷ ms) rest then more h = (
  h.0,
  omega (arith, h.1, length-append bytes more),
  cs bytes more (Whole m h.0) h.2 (λ e. absurd (cc)),
  subst (λ b. AreCut true b ms (rest ++ more) then) (sym (drop-append-le h.0 bytes more h.1)) (cut_more cs ss true (drop h.0 bytes) ms rest then more h.3),
)
cut_more cs ss false bytes (Later m ∷ ms) rest then more h = absurd h

pub cut_on : (begun : Bool) (bytes : List ℕ) (ms : List Message) (mid : List ℕ) (then : Bool) (more : List Message) (rest : List ℕ) (last : Bool)
    → AreCut begun bytes ms mid then → AreCut then mid more rest last → AreCut begun bytes (ms ++ more) rest last
cut_on begun bytes [] mid then more rest last h k =
    subst (λ b. AreCut b bytes more rest last) (sym h.1) (subst (λ b. AreCut then b more rest last) (sym h.0) k)
cut_on false bytes (First m ∷ ms) mid then more rest last h k = (h.0, h.1, h.2, h.3, cut_on h.3 (drop h.0 bytes) ms mid then more rest last h.4 k)
cut_on true bytes (First m ∷ ms) mid then more rest last h k = absurd h
cut_on true bytes (Later m ∷ ms) mid then more rest last h k = (h.0, h.1, h.2, cut_on true (drop h.0 bytes) ms mid then more rest last h.3 k)
cut_on false bytes (Later m ∷ ms) mid then more rest last h k = absurd h

pub fed_on : Stay client_front → Stay start_front → (v : View) (fed : List ℕ) (taken : List Message) (piece : List ℕ)
    → HasTaken fed taken v → HasTaken (fed ++ piece) taken (with_piece v piece)
fed_on cs ss v fed taken piece h = (h.0, cut_more cs ss false fed taken v.rest h.0 piece h.1, h.2)

-- nothing is taken
pub takes_none : (old new : View) → new.rest ≡ old.rest → ((begun : Bool) → Agrees old.stage begun → Agrees new.stage begun) → Takes old new
takes_none old new same stage fed taken h =
    ([], (h.0, subst (λ ms. AreCut false fed ms new.rest h.0) (sym (append-nil taken)) (subst (λ r. AreCut false fed taken r h.0) (sym same) h.1), stage h.0 h.2))

pub takes_twice : (old mid new : View) → Takes old mid → Takes mid new → Takes old new
takes_twice old mid new f g fed taken h =
    let a = f fed taken h in
    let b = g fed (taken ++ a.0) a.1 in
    (a.0 ++ b.0, subst (λ ms. HasTaken fed ms new) (append_assoc taken a.0 b.0) b.1)
