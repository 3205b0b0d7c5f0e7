use Rattle.std.proofs.Common.{rules, ◌∙◌, sym, ap}
use Rattle.shared_gate.specs.declared.history.Knows.{Knows}
use Rattle.shared_gate.specs.History.{Known}
use Rattle.shared_gate.proofs.Passes.{forks, merges}
use Rattle.shared_gate.proofs.shared_gate.SharedGate.join.Goals as goal

pub split_pass-note-requires : goal.split_pass-note-requires
split_pass-note-requires g c =
    (search rules, (search rules, (c.hear.ensures.same.0 ∙ (ap (λ (k : Known). k.gate) c.other.view_is ∙ (c.requires.gate.1 ∙ sym c.self.view_is)), forks _ _ c.hear.ensures.rest.0)))

pub join_pass-requires : goal.join_pass-requires
join_pass-requires g c =
    let new = c.split_pass-note.ensures.given in
    let mine = ap (λ (k : Known). k.gate) c.pass.view_is ∙ c.requires.gate.0 in
    let theirs = ap (λ (k : Known). k.gate) c.other.view_is ∙ c.requires.gate.1 in (
      search rules,
      (
        search rules,
        (
          (mine ∙ sym c.self.view_is, new.0 ∙ (c.hear.ensures.same.0 ∙ (theirs ∙ sym mine)), new.2),
          merges _ _ _ _ c.pass.invariant.0 (ap (λ (v : Knows). v.admitted) new.1) (ap (λ (v : Knows). v.mine) new.1),
        ),
      ),
    )
