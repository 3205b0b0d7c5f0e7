use Rattle.std.proofs.Common.{◌≡◌, refl, sym, subst}
use Rattle.pgproto.specs.Line.{session}
use Rattle.play.specs.declared.script.Part.{Part as Given}
use Rattle.play.specs.Script.{Part, before, within, behind, IsNext}
use Rattle.play.specs.Parts.{part_of}
use Rattle.play.proofs.Sessions.{none_connect}
use Rattle.play.proofs.script.behind_session.Goals as goal

pub returns-in-Within : goal.returns-in-Within
returns-in-Within c = subst (λ (part : Given). (next : Part) → IsNext (part_of part) (session 1) next → ⊥) (sym c.in-Within.is) (none_connect within (session 1) refl (λ (is : within ≡ before). absurd (cc)))

pub returns-in-Behind : goal.returns-in-Behind
returns-in-Behind c = subst (λ (part : Given). (next : Part) → IsNext (part_of part) (session 1) next → ⊥) (sym c.in-Behind.is) (none_connect behind (session 1) refl (λ (is : behind ≡ before). absurd (cc)))
