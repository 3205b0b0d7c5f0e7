-- One missing parameter after another.
use Rattle.std.proofs.Common.{◌≡◌, ℕ, List, [], ◌∷◌, ◌++◌, ap, sym, ◌∙◌, subst, append_assoc, append-nil}
use Rattle.pool_config.specs.Configuration.{Lacks}
use Rattle.pool_advice.specs.Missing.{AreMissing, IsGiven}

-- with what is missing of the text as it is now these are what is missing of it as it was
abbrev pub So : List ℕ → List ℕ → List (List ℕ) → Type 0
So text all names = (more : List (List ℕ)) → AreMissing all more → AreMissing text (names ++ more)

pub goes_on : (text old name new : List ℕ) (names more_names : List (List ℕ)) → So text old names → Lacks old name → IsGiven old name new
    → more_names ≡ names ++ name ∷ [] → So text new more_names
goes_on text old name new names more_names so lacks given is = λ more h.
    let same : more_names ++ more ≡ names ++ name ∷ more = ap (λ (ns : List (List ℕ)). ns ++ more) is ∙ append_assoc names (name ∷ []) more in
    subst (AreMissing text) (sym same) (so (name ∷ more) (lacks, (new, given, h)))

pub ends_so : (text all : List ℕ) (names : List (List ℕ)) → So text all names → AreMissing text names
ends_so text all names so = subst (AreMissing text) (append-nil names) (so [] tt)
