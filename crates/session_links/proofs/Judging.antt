-- One backend more.
use Rattle.std.proofs.Common.{◌≡◌, ℕ, List, ap, ◌∙◌}
use Rattle.session_links.specs.declared.verdict.Opened.{Opened}
use Rattle.session_links.specs.declared.verdict.Verdict.{Verdict}
use Rattle.session_links.specs.Verdicts.{behind, behind_at, opened_at}

pub judged : (opened : List Opened) (n : ℕ) (before after so : Verdict) (here : Opened) → after ≡ behind before n here → here ≡ opened_at opened n → before ≡ so → after ≡ behind_at opened n so
judged opened n before after so here is at same = is ∙ (ap (λ (v : Verdict). behind v n here) same ∙ ap (behind so n) at)
