-- One entry more.
use Rattle.std.proofs.Common.{◌≡◌, ◌≢◌, ◌⊎◌, ℕ, Bool, true, false, List, [], ◌∷◌, ◌++◌, cond, nat_lt, nat_le, ◌||◌, ◌==◌, ◌+◌, ◌≤◌, ◌^◌, if◌then◌else◌, refl, ap, sym, subst, ◌∙◌, inl, inr, arith, append_assoc, eq-eqb, ne_eqb, length, length-append}
use Rattle.std.proofs.lemmas.Bool.Decides.{nat_tests}
use Rattle.std.proofs.lemmas.List.{append-nil}
use Rattle.std.proofs.lemmas.List.Elements.{filter-append}
use mathlib.Core.Option.{some, none, some-injective, Option}
use Rattle.pool_base.specs.Sets.{has}
use Rattle.pool_base.specs.declared.gate_call.GateCall.{GateCall}
use Rattle.pool_base.specs.declared.gate_call.GateCall.TheVariants.{Look, EnterSnapshot, LeaveSnapshot, EnterCommit, LeaveCommit, Finish, Detach, StartCopy, AskQuiet, EnterQuiet, Attach, LeaveQuiet}
use Rattle.pool_base.specs.declared.gate_call.GateAnswer.{GateAnswer}
use Rattle.pool_base.specs.declared.gate_call.GateAnswer.TheVariants.{Seen, Held, Spent}
use Rattle.snapshot_gate.specs.declared.state.GateState.{GateState}
use Rattle.shared_gate.specs.declared.history.Entry.{Entry}
use Rattle.snapshot_gate.specs.Function.{step, grant, refuse, view_of, Turn, MayCall}
use Rattle.shared_gate.specs.History.{state_after, IsReplay, IsOrderly, MayStand, stand_of, copy_of, calls_by, StartsWith, Stand, Copy, stand_from, stand_next, copy_from, copy_next, is_grant, Shows}

pub state_snoc : (s : GateState) (log : List Entry) (e : Entry) → state_after s (log ++ e ∷ []) ≡ (step (state_after s log) e.call).0
state_snoc s [] e = refl
state_snoc s (x ∷ xs) e = state_snoc (step s x.call).0 xs e

pub replay_snoc : (s : GateState) (log : List Entry) (e : Entry) → IsReplay s log → MayCall (state_after s log) e.call → (step (state_after s log) e.call).1 ≡ e.answer → IsReplay s (log ++ e ∷ [])
replay_snoc s [] e r may is = (may, is, tt)
replay_snoc s (x ∷ xs) e r may is = (r.0, r.1, replay_snoc (step s x.call).0 xs e r.2 may is)

pub stand_snoc : (s : Stand) (mine : List Entry) (e : Entry) → stand_from s (mine ++ e ∷ []) ≡ stand_next (stand_from s mine) e.call e.answer
stand_snoc s [] e = refl
stand_snoc s (x ∷ xs) e = stand_snoc (stand_next s x.call x.answer) xs e

pub copy_snoc : (c : Copy) (mine : List Entry) (e : Entry) → copy_from c (mine ++ e ∷ []) ≡ copy_next (copy_from c mine) e.call e.answer
copy_snoc c [] e = refl
copy_snoc c (x ∷ xs) e = copy_snoc (copy_next c x.call x.answer) xs e

pub calls_more : (by : ℕ) (log : List Entry) (e : Entry) → e.by ≡ by → calls_by by (log ++ e ∷ []) ≡ calls_by by log ++ e ∷ []
calls_more by log e is = filter-append (λ (x : Entry). x.by == by) log (e ∷ []) ∙ ap (λ (b : Bool). calls_by by log ++ cond b (e ∷ []) []) (eq-eqb e.by by is)

pub calls_else : (by : ℕ) (log : List Entry) (e : Entry) → e.by ≢ by → calls_by by (log ++ e ∷ []) ≡ calls_by by log
calls_else by log e is = filter-append (λ (x : Entry). x.by == by) log (e ∷ []) ∙ (ap (λ (b : Bool). calls_by by log ++ cond b (e ∷ []) []) (ne_eqb e.by by is) ∙ append-nil (calls_by by log))

pub starts_snoc : (log seen : List Entry) (e : Entry) → StartsWith log seen → StartsWith (log ++ e ∷ []) seen
starts_snoc log seen e r = (r.0 ++ e ∷ [], ap (λ (l : List Entry). l ++ e ∷ []) r.1 ∙ append_assoc seen r.0 (e ∷ []))

-- a call that is granted was free to be
abbrev pub Free : GateState → GateCall → Type 0
Free s StartCopy = s.quiet ≡ 0
Free s _ = Unit {0}

abbrev pub Refuses : GateState → GateCall → Turn → Type 0
Refuses s call t = (a : GateAnswer) × (t ≡ refuse s a) × (is_grant a ≡ false)

abbrev pub Grants : GateState → GateCall → Turn → Type 0
Grants s call t = (t ≡ grant s call) × Free s call

-- each turn refuses or grants
abbrev pub Either : GateState → GateCall → Turn → Type 0
Either s call t = Refuses s call t ⊎ Grants s call t

by_test : (s : GateState) (call : GateCall) (b : Bool) (t u : Turn) → Either s call t → Either s call u → Either s call (if b then t else u)
by_test s call true t u l r = l
by_test s call false t u l r = r

refused : (s : GateState) (call : GateCall) (a : GateAnswer) → is_grant a ≡ false → Either s call (refuse s a)
refused s call a is = inl (a, refl, is)

copy_test : (s : GateState) (b : Bool) → nat_lt 0 s.quiet ≡ b → Either s StartCopy (if b then refuse s (Held s.quiet) else grant s StartCopy)
copy_test s true is = refused s StartCopy (Held s.quiet) refl
copy_test s false is = inr (refl, grind (arith, nat_tests))

pub each_turn : (s : GateState) (call : GateCall) → Either s call (step s call)
each_turn s Look = refused s Look (Seen (view_of s)) refl
each_turn s EnterSnapshot =
    by_test s EnterSnapshot (nat_lt 0 s.commits) _ _ (refused s EnterSnapshot (Held s.commits) refl)
    (by_test s EnterSnapshot (nat_le 2 s.quiet) _ _ (refused s EnterSnapshot (Held s.quiet) refl)
    (by_test s EnterSnapshot ((s.snaps + s.live == 65535) || (s.done + s.snaps + s.live == 2 ^ 63)) _ _ (refused s EnterSnapshot Spent refl) (inr (refl, tt))))
each_turn s LeaveSnapshot = inr (refl, tt)
each_turn s (EnterCommit tables) = by_test s (EnterCommit tables) (nat_lt 0 s.snaps) _ _ (refused s (EnterCommit tables) (Held s.snaps) refl) (inr (refl, tt))
each_turn s LeaveCommit = inr (refl, tt)
each_turn s Finish = inr (refl, tt)
each_turn s (Detach b) = by_test s (Detach b) (has s.attached.bits b.number) _ _ (inr (refl, tt)) (refused s (Detach b) (Seen (view_of s)) refl)
each_turn s StartCopy = copy_test s (nat_lt 0 s.quiet) refl
each_turn s AskQuiet = inr (refl, tt)
each_turn s EnterQuiet = by_test s EnterQuiet (nat_lt 0 (s.snaps + s.live)) _ _ (refused s EnterQuiet (Held (s.snaps + s.live)) refl) (inr (refl, tt))
each_turn s (Attach b) = by_test s (Attach b) (nat_le 4294967280 s.epoch) _ _ (refused s (Attach b) Spent refl) (inr (refl, tt))
each_turn s LeaveQuiet = inr (refl, tt)

-- between a beginning with all of someone's calls and the whole, each beginning has them all
pub squeeze : (a b c : List Entry) → (a ++ b) ++ c ≡ a → b ≡ []
squeeze a b c e =
    let l : length ((a ++ b) ++ c) ≡ length a = ap length e in let m = length-append (a ++ b) c in let n = length-append a b in empty b (omega arith)
  where
    empty : (l : List Entry) → length l ≡ 0 → l ≡ []
    empty [] e = refl
    empty (z ∷ zs) e = absurd (omega arith)

pub starts_trans : (a b c : List Entry) → StartsWith a b → StartsWith b c → StartsWith a c
starts_trans a b c p q = (q.0 ++ p.0, p.1 ∙ (ap (λ (l : List Entry). l ++ p.0) q.1 ∙ append_assoc c q.0 p.0))

-- two lists that begin with each other are one
pub starts_same : (a b : List Entry) → StartsWith a b → StartsWith b a → b ≡ a
starts_same a b p q = q.1 ∙ (ap (λ (l : List Entry). a ++ l) (squeeze a q.0 p.0 (ap (λ (l : List Entry). l ++ p.0) (sym q.1) ∙ sym p.1)) ∙ append-nil a)

rest_of : List Entry → List Entry
rest_of [] = []
rest_of (x ∷ xs) = xs

head_of : List Entry → Option Entry
head_of [] = none
head_of (x ∷ xs) = some x

heads : (x y : Entry) (xs ys : List Entry) → x ∷ xs ≡ y ∷ ys → x ≡ y
unfolding head_of
heads x y xs ys e = some-injective x y (ap head_of e)

rests : (x y : Entry) (xs ys : List Entry) → x ∷ xs ≡ y ∷ ys → xs ≡ ys
unfolding rest_of
rests x y xs ys e = ap rest_of e

-- of two beginnings of one list the longer begins with the shorter
pub begins : (xs ys rest rest' : List Entry) → xs ++ rest ≡ ys ++ rest' → length xs ≤ length ys → StartsWith ys xs
begins [] ys rest rest' e le = (ys, refl)
begins (x ∷ xs) [] rest rest' e le = absurd (omega arith)
begins (x ∷ xs) (y ∷ ys) rest rest' e le =
    let t = begins xs ys rest rest' (rests x y (xs ++ rest) (ys ++ rest') e) (omega arith) in let h : y ≡ x = sym (heads x y (xs ++ rest) (ys ++ rest') e) in
    (t.0, λ k. h k ∷ t.1 k)

-- a beginning of a list with one entry more is a beginning of the list, or the whole
pub last_or : (log mid : List Entry) (e : Entry) → StartsWith (log ++ e ∷ []) mid → StartsWith log mid ⊎ (mid ≡ log ++ e ∷ [])
last_or log mid e r = go r.0 refl
  where
    go : (rest : List Entry) → r.0 ≡ rest → StartsWith log mid ⊎ (mid ≡ log ++ e ∷ [])
    go [] is = inr (sym (r.1 ∙ (ap (λ (l : List Entry). mid ++ l) is ∙ append-nil mid)))
    go (x ∷ xs) is =
        let m : log ++ e ∷ [] ≡ mid ++ x ∷ xs = r.1 ∙ ap (λ (l : List Entry). mid ++ l) is in
        let n = length-append log (e ∷ []) in let o = length-append mid (x ∷ xs) in let z = ap length m in
        inl (begins mid log (x ∷ xs) (e ∷ []) (sym m) (omega arith))

abbrev pub TurnShows : Turn → Type 0
TurnShows t = Shows t.1 t.0

show_test : (b : Bool) (t u : Turn) → TurnShows t → TurnShows u → TurnShows (if b then t else u)
show_test true t u l r = l
show_test false t u l r = r

pub turn_shows : (s : GateState) (call : GateCall) → TurnShows (step s call)
turn_shows s Look = refl
turn_shows s EnterSnapshot =
    show_test (nat_lt 0 s.commits) _ _ tt
    (show_test (nat_le 2 s.quiet) _ _ tt (show_test ((s.snaps + s.live == 65535) || (s.done + s.snaps + s.live == 2 ^ 63)) _ _ tt refl))
turn_shows s LeaveSnapshot = refl
turn_shows s (EnterCommit tables) = show_test (nat_lt 0 s.snaps) _ _ tt refl
turn_shows s LeaveCommit = refl
turn_shows s Finish = refl
turn_shows s (Detach b) = show_test (has s.attached.bits b.number) _ _ refl refl
turn_shows s StartCopy = show_test (nat_lt 0 s.quiet) _ _ tt refl
turn_shows s AskQuiet = refl
turn_shows s EnterQuiet = show_test (nat_lt 0 (s.snaps + s.live)) _ _ tt refl
turn_shows s (Attach b) = show_test (nat_le 4294967280 s.epoch) _ _ tt refl
turn_shows s LeaveQuiet = refl

-- what the last answer shows is the state after it
pub last_shows : (s : GateState) (log : List Entry) (e : Entry) → IsReplay s (log ++ e ∷ []) → Shows e.answer (state_after s (log ++ e ∷ []))
last_shows s [] e r = subst (λ (a : GateAnswer). Shows a (step s e.call).0) r.1 (turn_shows s e.call)
last_shows s (x ∷ xs) e r = last_shows (step s x.call).0 xs e r.2

pub orderly_snoc : (s : GateState) (before log : List Entry) (e : Entry) → IsOrderly s before log
    → MayStand (stand_of (calls_by e.by (before ++ log))) (copy_of (calls_by e.by (before ++ log))) (state_after s (before ++ log)) e.call → IsOrderly s before (log ++ e ∷ [])
orderly_snoc s before [] e r may =
    (subst (λ (l : List Entry). MayStand (stand_of (calls_by e.by l)) (copy_of (calls_by e.by l)) (state_after s l) e.call) (append-nil before) may, tt)
orderly_snoc s before (x ∷ xs) e r may = (
  r.0,
  orderly_snoc s (before ++ x ∷ []) xs e r.1
      (subst (λ (l : List Entry). MayStand (stand_of (calls_by e.by l)) (copy_of (calls_by e.by l)) (state_after s l) e.call) (sym (append_assoc before (x ∷ []) xs)) may),
)

pub orderly_before : (s : GateState) (before xs ys : List Entry) → IsOrderly s before (xs ++ ys) → IsOrderly s before xs
orderly_before s before [] ys r = tt
orderly_before s before (x ∷ xs) ys r = (r.0, orderly_before s (before ++ x ∷ []) xs ys r.1)

-- the condition on what was seen and that on the state make the condition at the state
pub at_state : (st : Stand) (cp : Copy) (seen s : GateState) (call : GateCall) → MayStand st cp seen call → MayCall s call → MayStand st cp s call
at_state st cp seen s Look may can = may
at_state st cp seen s EnterSnapshot may can = may
at_state st cp seen s LeaveSnapshot may can = may
at_state st cp seen s (EnterCommit tables) may can = may
at_state st cp seen s LeaveCommit may can = may
at_state st cp seen s Finish may can = may
at_state st cp seen s (Detach b) may can = may
at_state st cp seen s StartCopy may can = may
at_state st cp seen s AskQuiet may can = may
at_state st cp seen s EnterQuiet may can = may
at_state st cp seen s (Attach b) may can = (may.0, can.1)
at_state st cp seen s LeaveQuiet may can = may
