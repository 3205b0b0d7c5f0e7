use Rattle.std.proofs.Common.{◌≡◌, refl, sym, subst}
use Rattle.pgproto.specs.Line.{terminate}
use Rattle.play.specs.declared.script.Part.{Part as Given}
use Rattle.play.specs.Script.{Part, before, within, behind, IsNext}
use Rattle.play.specs.Parts.{part_of}
use Rattle.play.proofs.Sessions.{none_leave}
use Rattle.play.proofs.script.behind_leaving.Goals as goal

pub returns-in-Before : goal.returns-in-Before
returns-in-Before c = subst (λ (part : Given). (next : Part) → IsNext (part_of part) (terminate 1) next → ⊥) (sym c.in-Before.is) (none_leave before (terminate 1) refl (λ (is : before ≡ within). absurd (cc)))

pub returns-in-Behind : goal.returns-in-Behind
returns-in-Behind c = subst (λ (part : Given). (next : Part) → IsNext (part_of part) (terminate 1) next → ⊥) (sym c.in-Behind.is) (none_leave behind (terminate 1) refl (λ (is : behind ≡ within). absurd (cc)))
