-- Reading a file, one piece after another.
use Rattle.std.proofs.Common.{◌≡◌, ℕ, ◌+◌, ◌≤◌, List, ◌++◌, length, take, drop, sym, ap, ◌∙◌}
use Rattle.std.proofs.lemmas.List.{take-append-drop, length-take-le, drop-drop}
use Rattle.pool_base.specs.Outside.{Told, untold, absent, content, GaveSurely, FaultyRead}
use Rattle.pool_base.specs.declared.outside.Got.{Got}
use Rattle.pool_base.specs.declared.outside.Got.TheVariants as got

-- where it is told, these bytes are a front of the file
abbrev pub IsFrontOf : Told → List ℕ → Type 0
IsFrontOf untold bytes = Unit {0}
IsFrontOf absent bytes = Unit {0}
IsFrontOf (content all) bytes = all ≡ bytes ++ drop (length bytes) all

-- bytes that were copied from a place of a content stand there
pub copied : (all : List ℕ) (place n : ℕ) (bytes : List ℕ) → bytes ≡ take n (drop place all) → n ≤ length (drop place all) → drop place all ≡ bytes ++ drop (place + length bytes) all
copied all place n bytes is within =
    let long : length bytes ≡ n = ap length is ∙ length-take-le n (drop place all) within in
    sym (take-append-drop n (drop place all)) ∙ ap (λ xs. xs ++ drop n (drop place all)) (sym is) ∙ ap (λ xs. bytes ++ xs) (drop-drop n place all) ∙ ap (λ k. bytes ++ drop (place + k) all) (sym long)

-- bytes that were copied from what is left, and what is left then
pub read_on : (all : List ℕ) (place n : ℕ) (bytes : List ℕ) → bytes ≡ take n (drop place all) → drop place all ≡ bytes ++ drop (place + n) all
read_on all place n bytes is =
    sym (take-append-drop n (drop place all)) ∙ ap (λ xs. xs ++ drop n (drop place all)) (sym is) ∙ ap (λ xs. bytes ++ xs) (drop-drop n place all)

-- an answer that is no failure needs no fault
pub surely : (answer : Got) (before after : ℕ) → GaveSurely answer → FaultyRead answer before after
surely (got.Bytes count) before after h = tt
surely got.End before after h = tt
surely got.Failed before after h = absurd h
