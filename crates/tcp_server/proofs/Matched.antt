-- Seats and passes are matched where no seat is taken and each pass is there.
use Rattle.std.proofs.Common.{◌≡◌, ℕ, zero, suc, Bool, List, [], ◌∷◌, ◌++◌, length, refl, sym, ◌∙◌, arith}
use Rattle.std.specs.Prelude.{Option, Some}
use Rattle.pool_server.specs.Seats.{AreFree}
use Rattle.tcp_server.specs.Rooms.{AreMatched, AreThere}

pub matched_free : {X : Type 0} (passes : List (Option X)) (taken : List Bool) (count : ℕ) → length passes ≡ count → AreFree count taken → AreThere passes → AreMatched passes taken
matched_free passes taken count is free there n lt = free (suc n) (omega arith) (omega arith) ∙ sym (there n lt)

pub there_push : {X : Type 0} (passes : List (Option X)) (x : X) → AreThere passes → AreThere (passes ++ Some x ∷ [])
there_push [] x there zero lt = refl
there_push [] x there (suc n) lt = absurd (omega arith)
there_push (p ∷ passes) x there zero lt = there zero (omega arith)
there_push (p ∷ passes) x there (suc n) lt = there_push passes x (λ m l. there (suc m) (omega arith)) n (omega arith)
