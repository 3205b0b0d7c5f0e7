-- Which answers are the same as one of an opening or of a lock.
use Rattle.std.proofs.Common.{◌≡◌, true, false, refl, inl, inr}
use Rattle.std.specs.Prelude.{◌⊎◌}
use Rattle.pool_base.specs.declared.code.Code.{Code}
use Rattle.backend_trait.specs.declared.answer.Answer.{Answer}
use Rattle.backend_trait.specs.declared.answer.Answer.TheVariants as answers
use Rattle.backend_trait.specs.Store.{is_refusal}
use Rattle.session_machine.specs.Answers.{is_same}

-- an answer is a refusal, or none
pub kind_is : (x : Answer) → ((code : Code) × (x ≡ answers.Refused code)) ⊎ (is_refusal x ≡ false)
kind_is (answers.Refused code) = inl (code, refl)
kind_is answers.Began = inr refl
kind_is (answers.Rows rows) = inr refl
kind_is (answers.Count n) = inr refl
kind_is answers.Locked = inr refl
kind_is answers.Done = inr refl
kind_is (answers.Serial n) = inr refl

pub began_is : (y : Answer) → is_same answers.Began y ≡ true → y ≡ answers.Began
began_is answers.Began e = refl
began_is (answers.Rows rows) e = absurd (let z : false ≡ true = e in cc)
began_is (answers.Count n) e = absurd (let z : false ≡ true = e in cc)
began_is answers.Locked e = absurd (let z : false ≡ true = e in cc)
began_is answers.Done e = absurd (let z : false ≡ true = e in cc)
began_is (answers.Serial n) e = absurd (let z : false ≡ true = e in cc)
began_is (answers.Refused code) e = absurd (let z : false ≡ true = e in cc)

pub locked_is : (y : Answer) → is_same answers.Locked y ≡ true → y ≡ answers.Locked
locked_is answers.Locked e = refl
locked_is answers.Began e = absurd (let z : false ≡ true = e in cc)
locked_is (answers.Rows rows) e = absurd (let z : false ≡ true = e in cc)
locked_is (answers.Count n) e = absurd (let z : false ≡ true = e in cc)
locked_is answers.Done e = absurd (let z : false ≡ true = e in cc)
locked_is (answers.Serial n) e = absurd (let z : false ≡ true = e in cc)
locked_is (answers.Refused code) e = absurd (let z : false ≡ true = e in cc)

-- a refusal is the same as a refusal alone
pub refused_apart : (code : Code) (y : Answer) → is_refusal y ≡ false → is_same (answers.Refused code) y ≡ true → ⊥
refused_apart code (answers.Refused other) right e = let z : true ≡ false = right in cc
refused_apart code answers.Began right e = let z : false ≡ true = e in cc
refused_apart code (answers.Rows rows) right e = let z : false ≡ true = e in cc
refused_apart code (answers.Count n) right e = let z : false ≡ true = e in cc
refused_apart code answers.Locked right e = let z : false ≡ true = e in cc
refused_apart code answers.Done right e = let z : false ≡ true = e in cc
refused_apart code (answers.Serial n) right e = let z : false ≡ true = e in cc
