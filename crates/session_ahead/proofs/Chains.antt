-- Chains: those that are open, one after another, and what is coming at them.
use Rattle.std.proofs.Common.{◌≡◌, ℕ, Bool, true, false, Some, None, List, [], ◌∷◌, ◌++◌, refl, sym, ap, subst}
use Rattle.std.specs.Prelude.{Option, ◌&&◌, ◌||◌, ◌==◌, not, map, filter, find, option_map, option_to_list, if◌then◌else◌, ⊤}
use Rattle.std.specs.List.{list_all}
use Rattle.std.proofs.lemmas.Bool.{and_parts, and_right, not-true, eqb-true, eqb-false, eq-eqb, false_from_ne_true}
use Rattle.std.proofs.lemmas.List.{append-nil}
use Rattle.std.proofs.lemmas.List.Elements.{filter_agree}
use Rattle.pool_base.specs.Sets.{has}
use Rattle.pool_base.specs.declared.backend_id.BackendId.{BackendId}
use Rattle.backend_trait.specs.Store.{is_refusal}
use Rattle.backend_trait.specs.declared.answer.Answer.{Answer}
use Rattle.backend_trait.specs.declared.request.Request.TheVariants as requests
use Rattle.write_path.specs.declared.kind.ChainKind.TheVariants.{StopAtRefusal}
use Rattle.session_machine.specs.declared.work.Class.{Class}
use Rattle.session_machine.specs.declared.work.Class.TheVariants as classes
use Rattle.session_machine.specs.declared.work.Work.{Work}
use Rattle.session_machine.specs.declared.machine.Heard.{Heard}
use Rattle.session_machine.specs.declared.machine.Stage.{Stage}
use Rattle.session_machine.specs.declared.machine.Stage.TheVariants.{Opening, Reading, Running, Locking, Inserting, Committing, Closing, RollingBack}
use Rattle.session_machine.specs.declared.machine.Session.{Session}
use Rattle.session_machine.specs.Answers.{all_backends, has_answered, has_refused, is_open, first_open, is_stopped, next_of, reader}
use Rattle.session_machine.specs.Rules.{primary, request_of, kind_of, heard_more, ticket_of}
use Rattle.session_ahead.specs.Coming.{post_of, is_open_but, is_past_at, is_fixed, first_as, is_began, begun_there, statement_behind, behind, from_next, is_held, at_look}
use Rattle.session_ahead.specs.Turns.{StartsWith, TakesSnapshot}
use Rattle.session_ahead.specs.declared.post.Post.{Post}
use Rattle.session_ahead.proofs.Lists.{all_more, none_found}

-- The first that passes stands before the others that pass.

abbrev Others : BackendId → List BackendId → Type 0
Others b [] = ⊤
Others b (c ∷ cs) = ((c.number == b.number) ≡ false) × Others b cs

abbrev Apart : List BackendId → Type 0
Apart [] = ⊤
Apart (b ∷ bs) = Others b bs × Apart bs

eight_apart : Apart all_backends
eight_apart = (
  (refl, (refl, (refl, (refl, (refl, (refl, (refl, tt))))))),
  (
    (refl, (refl, (refl, (refl, (refl, (refl, tt)))))),
    (
      (refl, (refl, (refl, (refl, (refl, tt))))),
      (
        (refl, (refl, (refl, (refl, tt)))),
        (
          (refl, (refl, (refl, tt))),
          (
            (refl, (refl, tt)),
            (
              (refl, tt),
              (tt, tt),
            ),
          ),
        ),
      ),
    ),
  ),
)

abbrev but : (BackendId → Bool) → BackendId → BackendId → Bool
but p b c = p c && not (c.number == b.number)

and_true : (t : Bool) → (t && true) ≡ t
and_true true = refl
and_true false = refl

passed : (b : BackendId) (x : BackendId) (p : BackendId → Bool) → (x.number == b.number) ≡ false → but p b x ≡ p x
passed b x p other = rw other (and_true (p x))

same_without : (p : BackendId → Bool) (b : BackendId) (xs : List BackendId) → Others b xs → filter (but p b) xs ≡ filter p xs
same_without p b [] others = refl
same_without p b (x ∷ xs) (other, rest) = rw (passed b x p other) (rw (same_without p b xs rest) refl)

left_out : (p : BackendId → Bool) (x : BackendId) → but p x x ≡ false
left_out p x = rw (eq-eqb x.number x.number refl) (and_right (p x) false refl)

front_true : (p : BackendId → Bool) (x : BackendId) (xs : List BackendId) → Others x xs
    → x ∷ filter p xs ≡ x ∷ (if but p x x then x ∷ filter (but p x) xs else filter (but p x) xs)
front_true p x xs others = rw (left_out p x) (rw (same_without p x xs others) refl)

front_at : (p : BackendId → Bool) (x c : BackendId) (xs : List BackendId) (t : Bool) → p x ≡ t → Others x xs
    → (find p xs ≡ Some c → filter p xs ≡ c ∷ filter (but p c) xs)
    → (if t then Some x else find p xs) ≡ Some c
    → (if t then x ∷ filter p xs else filter p xs) ≡ c ∷ (if but p c x then x ∷ filter (but p c) xs else filter (but p c) xs)
front_at p x c xs true is others more e =
    let same : x ≡ c = cc in
    subst (λ (d : BackendId). x ∷ filter p xs ≡ d ∷ (if but p d x then x ∷ filter (but p d) xs else filter (but p d) xs)) same (front_true p x xs others)
front_at p x c xs false is others more e = rw is (more e)

front : (p : BackendId → Bool) (c : BackendId) (xs : List BackendId) → Apart xs → find p xs ≡ Some c → filter p xs ≡ c ∷ filter (but p c) xs
front p c [] apart e = absurd (cc)
front p c (x ∷ xs) (others, apart) e = front_at p x c xs (p x) refl others (front p c xs apart) e

abbrev pub open_all : ℕ → List Heard → List BackendId
open_all attached heard = filter (is_open attached heard) all_backends

pub front_open : (attached : ℕ) (heard : List Heard) (c : BackendId) → first_open attached heard ≡ Some c
    → open_all attached heard ≡ c ∷ filter (is_open_but attached heard c) all_backends
front_open attached heard c e = front (is_open attached heard) c all_backends eight_apart e

-- Behind one more answer those are open that were open behind its backend.

swapped_at : (m n : ℕ) (t : Bool) → (m == n) ≡ t → t ≡ (n == m)
swapped_at m n true is = sym (eq-eqb n m (sym (eqb-true m n is)))
swapped_at m n false is = sym (false_from_ne_true (n == m) (λ same. eqb-false m n is (sym (eqb-true n m same))))

swapped : (m n : ℕ) → (m == n) ≡ (n == m)
swapped m n = swapped_at m n (m == n) refl

if_itself : (t : Bool) → (if t then true else false) ≡ t
if_itself true = refl
if_itself false = refl

if_or : (t u v : Bool) → (if t then true else (u || v)) ≡ ((if t then true else u) || v)
if_or true u v = refl
if_or false u v = refl

answered_more : (hs : List Heard) (h : Heard) (c : BackendId) → has_answered (hs ++ h ∷ []) c ≡ (has_answered hs c || (h.b.number == c.number))
answered_more [] h c = if_itself (h.b.number == c.number)
answered_more (x ∷ hs) h c = rw (answered_more hs h c) (if_or (x.b.number == c.number) (has_answered hs c) (h.b.number == c.number))

open_either : (t u v : Bool) → (t && not (u || v)) ≡ ((t && not u) && not v)
open_either true true v = refl
open_either true false v = refl
open_either false u v = refl

open_more_at : (attached : ℕ) (hs : List Heard) (h : Heard) (c : BackendId) → is_open attached (hs ++ h ∷ []) c ≡ is_open_but attached hs h.b c
open_more_at attached hs h c =
    rw (answered_more hs h c) (rw (swapped h.b.number c.number) (open_either (has attached c.number) (has_answered hs c) (c.number == h.b.number)))

pub open_more : (attached : ℕ) (hs : List Heard) (h : Heard) → open_all attached (hs ++ h ∷ []) ≡ filter (is_open_but attached hs h.b) all_backends
open_more attached hs h = filter_agree (is_open attached (hs ++ h ∷ [])) (is_open_but attached hs h.b) (open_more_at attached hs h) all_backends

answered_still : (x h : Heard) (hs : List Heard) (c : BackendId) (t : Bool)
    → (has_answered hs c ≡ true → has_refused (hs ++ h ∷ []) c ≡ has_refused hs c)
    → (if t then true else has_answered hs c) ≡ true
    → (if t then is_refusal x.answer else has_refused (hs ++ h ∷ []) c) ≡ (if t then is_refusal x.answer else has_refused hs c)
answered_still x h hs c true more there = refl
answered_still x h hs c false more there = more there

refused_more : (hs : List Heard) (h : Heard) (c : BackendId) → has_answered hs c ≡ true → has_refused (hs ++ h ∷ []) c ≡ has_refused hs c
refused_more [] h c there = absurd (cc)
refused_more (x ∷ hs) h c there = answered_still x h hs c (x.b.number == c.number) (refused_more hs h c) there

or_true : (t u : Bool) → t ≡ true → (t || u) ≡ true
or_true t u is = rw is refl

past_more_at : (hs : List Heard) (h : Heard) (o : Option BackendId) → is_past_at hs o ≡ true → is_past_at (hs ++ h ∷ []) o ≡ true
past_more_at hs h None past = past
past_more_at hs h (Some b) past =
    let (there, agreed) = and_parts (has_answered hs b) (not (has_refused hs b)) past in
    rw (answered_more hs h b) (rw (or_true (has_answered hs b) (h.b.number == b.number) there) (rw (refused_more hs h b there) agreed))

-- A chain whose others are fixed goes on to each that is open.

past_goes : (hs : List Heard) (o next : Option BackendId) → is_past_at hs o ≡ true → (if is_stopped StopAtRefusal hs o then None else next) ≡ next
past_goes hs None next past = refl
past_goes hs (Some b) next past =
    let (there, agreed) = and_parts (has_answered hs b) (not (has_refused hs b)) past in
    rw (not-true (has_refused hs b) agreed) refl

abbrev Goes : Session → Stage → Type 0
Goes s stage = (is_held stage ≡ false) × (next_of (kind_of stage) s.view.attached.bits s.heard ≡ first_open s.view.attached.bits s.heard)

pub fixed_goes : (s : Session) (stage : Stage) → is_fixed s stage ≡ true → Goes s stage
fixed_goes s (Opening work) goes = (refl, refl)
fixed_goes s (Reading work ticket) goes = absurd (cc)
fixed_goes s (Running work) goes = (refl, past_goes s.heard (primary s) (first_open s.view.attached.bits s.heard) goes)
fixed_goes s (Locking work table) goes = (refl, past_goes s.heard (primary s) (first_open s.view.attached.bits s.heard) goes)
fixed_goes s (Inserting work true) goes = (refl, refl)
fixed_goes s (Inserting work false) goes = absurd (cc)
fixed_goes s Committing goes = (refl, refl)
fixed_goes s Closing goes = (refl, refl)
fixed_goes s (RollingBack ending) goes = (refl, refl)

-- to each that is open, and then the statement
abbrev pub to_open : Session → Stage → List Post
to_open s stage = map (post_of (request_of stage)) (open_all s.view.attached.bits s.heard) ++ option_to_list (statement_behind s stage)

from_open : (s : Session) (stage : Stage) (o : Option BackendId) → is_fixed s stage ≡ true → first_open s.view.attached.bits s.heard ≡ o
    → from_next s stage o ≡ to_open s stage
from_open s stage (Some c) goes e = rw goes (rw (front_open s.view.attached.bits s.heard c e) refl)
from_open s stage None goes e = rw (none_found (is_open s.view.attached.bits s.heard) all_backends e) refl

pub look_fixed : (s : Session) (stage : Stage) → is_fixed s stage ≡ true → at_look s stage ≡ to_open s stage
look_fixed s stage goes =
    let (free, next) = fixed_goes s stage goes in
    rw free (rw next (from_open s stage (first_open s.view.attached.bits s.heard) goes refl))

-- An answer comes.

fixed_more : (s : Session) (b : BackendId) (answer : Answer) (stage : Stage) → is_fixed s stage ≡ true → is_fixed (heard_more s b answer) stage ≡ true
fixed_more s b answer (Opening work) goes = refl
fixed_more s b answer (Reading work ticket) goes = goes
fixed_more s b answer (Running work) goes = past_more_at s.heard (record { b = b; answer = answer }) (primary s) goes
fixed_more s b answer (Locking work table) goes = past_more_at s.heard (record { b = b; answer = answer }) (primary s) goes
fixed_more s b answer (Inserting work posted) goes = goes
fixed_more s b answer Committing goes = refl
fixed_more s b answer Closing goes = refl
fixed_more s b answer (RollingBack ending) goes = refl

ticket_heard : (s : Session) (hs : List Heard) (t : Bool) → ticket_of (record s { heard = hs }) t ≡ ticket_of s t
ticket_heard s hs true = refl
ticket_heard s hs false = refl

pub first_heard : (s : Session) (hs : List Heard) (work : Work) (c : Class) → first_as (record s { heard = hs }) work c ≡ first_as s work c
first_heard s hs work classes.Read =
    ap (λ (n : ℕ). option_map (post_of (requests.Run work.statement)) (reader s.policy s.view.attached.bits n)) (ticket_heard s hs s.policy.per_statement)
first_heard s hs work classes.LockingRead = refl
first_heard s hs work (classes.Write verb) = refl
first_heard s hs work (classes.SerialInsert table) = refl

began_more : (s : Session) (b : BackendId) (answer : Answer) → is_began answer ≡ true
    → list_all begun_there (s.heard ++ record { b = b; answer = answer } ∷ []) ≡ list_all begun_there s.heard
began_more s b answer began =
    rw (all_more begun_there s.heard (record { b = b; answer = answer })) (rw began (and_true (list_all begun_there s.heard)))

statement_more : (s : Session) (b : BackendId) (answer : Answer) (stage : Stage) → TakesSnapshot stage answer
    → statement_behind (heard_more s b answer) stage ≡ statement_behind s stage
statement_more s b answer (Opening work) began =
    rw (began_more s b answer began) (rw (first_heard s (s.heard ++ record { b = b; answer = answer } ∷ []) work work.class) refl)
statement_more s b answer (Reading work ticket) began = refl
statement_more s b answer (Running work) began = refl
statement_more s b answer (Locking work table) began = refl
statement_more s b answer (Inserting work posted) began = refl
statement_more s b answer Committing began = refl
statement_more s b answer Closing began = refl
statement_more s b answer (RollingBack ending) began = refl

pub nothing_behind : (s : Session) (stage : Stage) → is_fixed s stage ≡ false → statement_behind s stage ≡ None
nothing_behind s (Opening work) not_fixed = absurd (cc)
nothing_behind s (Reading work ticket) not_fixed = refl
nothing_behind s (Running work) not_fixed = refl
nothing_behind s (Locking work table) not_fixed = refl
nothing_behind s (Inserting work posted) not_fixed = refl
nothing_behind s Committing not_fixed = refl
nothing_behind s Closing not_fixed = refl
nothing_behind s (RollingBack ending) not_fixed = refl

pub starts_same : (posts first : List Post) → posts ≡ first → StartsWith posts first
starts_same posts first e = ([], rw e (sym (append-nil first)))

pub starts_none : (posts first : List Post) → first ≡ [] → StartsWith posts first
starts_none posts first e = rw e (posts, refl)

-- the list that an answer leaves is the one that was coming behind its backend
heard_fixed : (s : Session) (b : BackendId) (answer : Answer) (stage : Stage) → TakesSnapshot stage answer → is_fixed s stage ≡ true
    → at_look (heard_more s b answer) stage ≡ behind s stage b
heard_fixed s b answer stage began goes =
    rw (look_fixed (heard_more s b answer) stage (fixed_more s b answer stage goes))
    (rw (open_more s.view.attached.bits s.heard (record { b = b; answer = answer }))
    (rw (statement_more s b answer stage began) (rw goes refl)))

heard_at : (s : Session) (b : BackendId) (answer : Answer) (stage : Stage) (t : Bool) → is_fixed s stage ≡ t → TakesSnapshot stage answer
    → StartsWith (at_look (heard_more s b answer) stage) (behind s stage b)
heard_at s b answer stage true goes began =
    starts_same (at_look (heard_more s b answer) stage) (behind s stage b) (heard_fixed s b answer stage began goes)
heard_at s b answer stage false goes began = rw goes (rw (nothing_behind s stage goes) (at_look (heard_more s b answer) stage, refl))

pub heard_stays : (s : Session) (b : BackendId) (answer : Answer) (stage : Stage) → TakesSnapshot stage answer
    → StartsWith (at_look (heard_more s b answer) stage) (behind s stage b)
heard_stays s b answer stage began = heard_at s b answer stage (is_fixed s stage) refl began
