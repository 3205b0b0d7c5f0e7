-- The answers of a chain: who is asked next, whose answer is kept, and whose answer differs from it.
use Rattle.std.specs.Prelude.{ℕ, zero, suc, ◌+◌, ◌%◌, Bool, true, false, not, ◌&&◌, ◌||◌, ◌==◌, nat_lt, nat_le, is_some, if◌then◌else◌, List, [], ◌∷◌, Option, Some, None, find, count_by}
use Rattle.std.specs.List.{list_all}
use lib.Dec.{lit<}
use Rattle.pool_base.specs.Sets.{has}
use Rattle.pool_base.specs.declared.backend_id.BackendId.{BackendId}
use Rattle.backend_trait.specs.declared.answer.Answer.{Answer}
use Rattle.backend_trait.specs.contracts.answer.AnswerPartialEq.TheImpl as answer_eq
use Rattle.backend_trait.specs.Store.{is_refusal}
use Rattle.read_balance.specs.Picking.{weight_at, weight_below, weight_of_all}
use Rattle.write_path.specs.declared.kind.ChainKind.{ChainKind}
use Rattle.write_path.specs.declared.kind.ChainKind.TheVariants as kinds
use Rattle.session_machine.specs.declared.machine.Heard.{Heard}
use Rattle.session_machine.specs.declared.machine.ReadPolicy.{ReadPolicy}

-- the backends, by number
abbrev pub all_backends : List BackendId
all_backends = record { number = 0; below_8 = lit< tt } ∷ record { number = 1; below_8 = lit< tt }
    ∷ record { number = 2; below_8 = lit< tt } ∷ record { number = 3; below_8 = lit< tt }
    ∷ record { number = 4; below_8 = lit< tt } ∷ record { number = 5; below_8 = lit< tt }
    ∷ record { number = 6; below_8 = lit< tt } ∷ record { number = 7; below_8 = lit< tt } ∷ []

-- two answers are the same
abbrev pub is_same : Answer → Answer → Bool
is_same = (answer_eq.ghosts).eq

-- the primary: the lowest of the attached backends
abbrev pub is_attached : ℕ → BackendId → Bool
is_attached attached b = has attached b.number

abbrev pub lowest : ℕ → Option BackendId
lowest attached = find (is_attached attached) all_backends

-- whether a backend has answered, and whether it has refused
abbrev pub has_answered : List Heard → BackendId → Bool
has_answered [] b = false
has_answered (h ∷ hs) b = if h.b.number == b.number then true else has_answered hs b

abbrev pub has_refused : List Heard → BackendId → Bool
has_refused [] b = false
has_refused (h ∷ hs) b = if h.b.number == b.number then is_refusal h.answer else has_refused hs b

-- the lowest attached backend that has not answered
abbrev pub is_open : ℕ → List Heard → BackendId → Bool
is_open attached heard b = has attached b.number && not (has_answered heard b)

abbrev pub first_open : ℕ → List Heard → Option BackendId
first_open attached heard = find (is_open attached heard) all_backends

-- a chain that stops at a refusal is at its end where the lowest attached backend has refused
abbrev pub is_stopped : ChainKind → List Heard → Option BackendId → Bool
is_stopped kinds.All heard primary = false
is_stopped kinds.StopAtRefusal heard None = false
is_stopped kinds.StopAtRefusal heard (Some b) = has_refused heard b

-- who is asked next; nobody: the chain is at its end
abbrev pub next_of : ChainKind → ℕ → List Heard → Option BackendId
next_of kind attached heard = if is_stopped kind heard (lowest attached) then None else first_open attached heard

-- an answer counts where its backend is attached
abbrev pub counts : ℕ → Heard → Bool
counts attached h = has attached h.b.number

-- the group of an answer: those that count and are the same
abbrev pub is_in_group : ℕ → Answer → Heard → Bool
is_in_group attached answer h = counts attached h && is_same h.answer answer

abbrev pub group_size : ℕ → List Heard → Answer → ℕ
group_size attached heard answer = count_by (is_in_group attached answer) heard

-- no group is larger
unfoldable pub is_no_larger : ℕ → List Heard → ℕ → Heard → Bool
is_no_larger attached heard size h = not (counts attached h) || nat_le (group_size attached heard h.answer) size

abbrev pub is_largest : ℕ → List Heard → ℕ → Bool
is_largest attached heard size = list_all (is_no_larger attached heard size) heard

-- the kept answer: the first of a largest group. Backends are asked in rising order, so of two groups as large it is the one
-- with the lowest number
unfoldable pub is_kept : ℕ → List Heard → Heard → Bool
is_kept attached heard h = counts attached h && is_largest attached heard (group_size attached heard h.answer)

abbrev pub kept : ℕ → List Heard → Option Heard
kept attached heard = find (is_kept attached heard) heard

-- the first answer, from a number on, that is another than the kept one
abbrev pub is_other : ℕ → Answer → ℕ → Heard → Bool
is_other attached answer from h = counts attached h && (nat_le from h.b.number && not (is_same h.answer answer))

abbrev pub first_other : ℕ → Answer → ℕ → List Heard → Option Heard
first_other attached answer from heard = find (is_other attached answer from) heard

-- the kept answer is no refusal, and an attached backend has not answered
abbrev pub goes_on : ℕ → List Heard → Answer → Bool
goes_on attached heard answer = not (is_refusal answer) && is_some (first_open attached heard)

-- the backends take turns at reads: by their weights, as the ticket says
abbrev pub is_turn : List ℕ → ℕ → ℕ → BackendId → Bool
is_turn weights attached rest b =
    has attached b.number && nat_lt rest (weight_below weights attached b.number + weight_at weights attached b.number)

abbrev pub turn_of : List ℕ → ℕ → ℕ → ℕ → BackendId → Option BackendId
turn_of weights attached ticket zero primary = Some primary
turn_of weights attached ticket (suc more) primary = find (is_turn weights attached (ticket % suc more)) all_backends

-- the backend that reads: the primary where reads are not balanced, or where no attached backend has a weight
abbrev pub reader_among : ReadPolicy → ℕ → ℕ → Option BackendId → Option BackendId
reader_among policy attached ticket None = None
reader_among policy attached ticket (Some primary) =
    if policy.balance then turn_of policy.weights attached ticket (weight_of_all policy.weights attached) primary else Some primary

abbrev pub reader : ReadPolicy → ℕ → ℕ → Option BackendId
reader policy attached ticket = reader_among policy attached ticket (lowest attached)
