-- Servers by their answers: which agree, which group of them is kept, which are one under two numbers.
use Rattle.std.specs.Prelude.{◌≡◌, ℕ, ◌+◌, Bool, true, false, ◌&&◌, if◌then◌else◌, nat_lt, nat_le, List, [], ◌∷◌, Option, Some, None, find, count_by, is_none, slice_get, bytes_eq}
use Rattle.std.specs.List.{list_all}
use Rattle.server_check.specs.declared.answer.Answer.{Answer}
use Rattle.server_check.specs.declared.answer.Answer.TheVariants as answer
use Rattle.server_check.specs.declared.question.Question.{Question}
use Rattle.server_check.specs.declared.server.Identity.{Identity}
use Rattle.server_check.specs.declared.server.Server.{Server}
use Rattle.server_check.specs.contracts.answer.AnswerPartialEq.TheImpl as answer_eq

-- two answers are the same
abbrev pub is_same : Answer → Answer → Bool
is_same = (answer_eq.ghosts).eq

-- two lists of answers are the same
abbrev pub are_same : List Answer → List Answer → Bool
are_same [] [] = true
are_same [] (other ∷ right) = false
are_same (one ∷ left) [] = false
are_same (one ∷ left) (other ∷ right) = is_same one other && are_same left right

-- both have answered, the same
abbrev pub is_same_at : Option Answer → Option Answer → Bool
is_same_at None told = false
is_same_at (Some kept) None = false
is_same_at (Some kept) (Some told) = is_same told kept

-- ---- which are as they are wanted

-- the answer is a text, and the wanted one where one is wanted
abbrev pub meets : Option (List ℕ) → Answer → Bool
meets None (answer.Told text) = true
meets (Some wanted) (answer.Told text) = bytes_eq text wanted
meets wanted answer.Nothing = false
meets wanted (answer.Refused code) = false

-- there is an answer, and it is what is wanted
abbrev pub meets_at : Question → Option Answer → Bool
meets_at q None = false
meets_at q (Some told) = meets q.wanted told

-- the first question, from question n on, whose answer is not what is wanted
abbrev pub unfit_from : List Answer → ℕ → List Question → Option ℕ
unfit_from told n [] = None
unfit_from told n (q ∷ qs) = if meets_at q (slice_get told n) then unfit_from told (n + 1) qs else Some n

-- there is none
abbrev pub is_fit : List Question → Server → Bool
is_fit questions server = is_none (unfit_from server.answers 0 questions)

-- the first question, from question n on, that two do not answer alike
abbrev pub differs_from : List Answer → List Answer → ℕ → List Question → Option ℕ
differs_from kept told n [] = None
differs_from kept told n (q ∷ qs) = if is_same_at (slice_get kept n) (slice_get told n) then differs_from kept told (n + 1) qs else Some n

-- ---- the kept group

-- a server gives the answers of another
abbrev pub agrees : Server → Server → Bool
agrees one server = are_same server.answers one.answers

-- how many servers give its answers
abbrev pub group_size : List Server → Server → ℕ
group_size all one = count_by (agrees one) all

-- one more than that; 0 where it is not as it is wanted
abbrev pub weight : List Question → List Server → Server → ℕ
weight questions all one = if is_fit questions one then 1 + group_size all one else 0

unfoldable pub is_no_larger : List Question → List Server → ℕ → Server → Bool
is_no_larger questions all size one = nat_le (weight questions all one) size

-- it is as it is wanted, and no group of such servers is larger than its own
unfoldable pub is_kept : List Question → List Server → Server → Bool
is_kept questions all one = nat_lt 0 (weight questions all one) && list_all (is_no_larger questions all (weight questions all one)) all

-- the first server of a largest group: of two groups as large it is the one with the lowest number
abbrev pub kept : List Question → List Server → Option Server
kept questions all = find (is_kept questions all) all

abbrev pub AreUnfit : List Question → List Server → Type 0
AreUnfit questions [] = Unit {0}
AreUnfit questions (one ∷ all) = (is_fit questions one ≡ false) × AreUnfit questions all

abbrev pub or_largest : List Server → Option Server → Option Server
or_largest all None = kept [] all
or_largest all (Some one) = Some one

-- where none is as it is wanted, the first server of a largest group
abbrev pub chosen : List Question → List Server → Option Server
chosen questions all = or_largest all (kept questions all)

-- ---- two numbers that are one server

-- the same server under a lower number
abbrev pub is_twin : Identity → Identity → Bool
is_twin one lower = nat_lt lower.number.number one.number.number && bytes_eq lower.place one.place

abbrev pub twin_of : List Identity → Identity → Option Identity
twin_of all one = find (is_twin one) all
