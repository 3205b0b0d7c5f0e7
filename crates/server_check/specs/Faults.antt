-- Which answers of a server are faults: those that are not what the schema wants, or not those of the kept server.
use Rattle.std.specs.Prelude.{◌≡◌, ℕ, ◌+◌, Bool, true, false, ◌&&◌, if◌then◌else◌, List, [], ◌∷◌, ◌++◌, length, sum_by, slice_get, Option, Some, None}
use Rattle.server_check.specs.declared.answer.Answer.{Answer}
use Rattle.server_check.specs.declared.question.Question.{Question}
use Rattle.server_check.specs.declared.server.Server.{Server}
use Rattle.server_check.specs.declared.verdict.Verdict.{Verdict}
use Rattle.server_check.specs.declared.verdict.Verdict.TheVariants as verdict
use Rattle.server_check.specs.Servers.{chosen, is_same, meets}

-- both have answered, the same, and what is wanted
abbrev pub is_good : Question → Option Answer → Option Answer → Bool
is_good q None told = false
is_good q (Some kept) None = false
is_good q (Some kept) (Some told) = is_same told kept && meets q.wanted told

-- the number of a question whose answer is not good
abbrev pub fault_at : List Answer → List Answer → ℕ → Question → List ℕ
fault_at kept told n q = if is_good q (slice_get kept n) (slice_get told n) then [] else n ∷ []

-- the numbers of all that are not, from question n on
abbrev pub faults_from : List Answer → List Answer → ℕ → List Question → List ℕ
faults_from kept told n [] = []
faults_from kept told n (q ∷ qs) = fault_at kept told n q ++ faults_from kept told (n + 1) qs

abbrev pub faults : List Question → List Answer → List Answer → List ℕ
faults questions kept told = faults_from kept told 0 questions

abbrev pub fault_count : List Question → Server → Server → ℕ
fault_count questions kept server = length (faults questions kept.answers server.answers)

-- from question n on, both have answered each one, the same, and what is wanted
abbrev pub AreGood : List Answer → List Answer → ℕ → List Question → Type 0
AreGood kept told n [] = Unit {0}
AreGood kept told n (q ∷ qs) = (is_good q (slice_get kept n) (slice_get told n) ≡ true) × AreGood kept told (n + 1) qs

-- to each question every server gives the answer of the kept one, and it is what is wanted
abbrev pub AreEqual : List Question → Server → List Server → Type 0
AreEqual questions kept [] = Unit {0}
AreEqual questions kept (server ∷ servers) = AreGood kept.answers server.answers 0 questions × AreEqual questions kept servers

-- ---- what is found

-- one line for each fault beside the kept server, and there is one
abbrev pub DifferBy : List Question → List Server → List (List ℕ) → Option Server → Type 0
DifferBy questions servers lines None = ⊥
DifferBy questions servers lines (Some one) = (length lines ≡ sum_by (fault_count questions one) servers) × (AreEqual questions one servers → ⊥)

abbrev pub AreEqualBy : List Question → List Server → Option Server → Type 0
AreEqualBy questions servers None = ⊥
AreEqualBy questions servers (Some one) = AreEqual questions one servers

abbrev pub IsVerdict : List Question → List Server → Verdict → Type 0
IsVerdict questions servers verdict.Nobody = servers ≡ []
IsVerdict questions servers verdict.Equal = AreEqualBy questions servers (chosen questions servers)
IsVerdict questions servers (verdict.Differ lines group) = DifferBy questions servers lines (chosen questions servers)
