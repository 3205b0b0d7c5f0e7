use Rattle.std.proofs.Common.{◌≡◌, ap, ℕ, List, refl, sym, subst}
use Rattle.pgproto.specs.Line.{query}
use Rattle.play.specs.declared.script.Part.{Part as Given}
use Rattle.play.specs.Script.{Part, before, within, behind, IsNext, asked}
use Rattle.play.specs.Parts.{part_of}
use Rattle.play.proofs.Sessions.{none_ask}
use Rattle.play.proofs.script.behind_query.Goals as goal

pub returns-in-Before : goal.returns-in-Before
returns-in-Before c = subst (λ (part : Given). (text : List ℕ) → (next : Part) → IsNext (part_of part) (query 1 text) next → ⊥) (sym c.in-Before.is) (λ text. none_ask before (query 1 text) text refl (λ (is : before ≡ within). absurd (cc)))

pub returns-in-Behind : goal.returns-in-Behind
returns-in-Behind c = subst (λ (part : Given). (text : List ℕ) → (next : Part) → IsNext (part_of part) (query 1 text) next → ⊥) (sym c.in-Behind.is) (λ text. none_ask behind (query 1 text) text refl (λ (is : behind ≡ within). absurd (cc)))

pub returns-in-Within : goal.returns-in-Within
returns-in-Within c = λ text. asked text refl (ap part_of c.in-Within.is) refl
