-- The users of a configuration, one after another.
use Rattle.std.proofs.Common.{◌≡◌, inl, inr, List, [], ◌∷◌, ◌++◌, refl, ap, sym, ◌∙◌, subst, length, append_assoc, append-nil, arith}
use Rattle.pool_config.specs.declared.config.ScramUser.{ScramUser}
use Rattle.scram.specs.Verifiers.{IsTextOf}
use Rattle.scram.specs.declared.verifier.Verifier.{Verifier}
use Rattle.login.specs.declared.candidate.User.{User}
use Rattle.tcp_link.specs.Users.{Adds, AreUsersOf, one_user}

-- with those of what is left these are those of all
abbrev pub So : List ScramUser → List ScramUser → List User → Type 0
So all left users = (more : List User) → AreUsersOf left more → AreUsersOf all (users ++ more)

pub goes_on : (all left rest : List ScramUser) (said : ScramUser) (old new : List User) → So all left old → left ≡ said ∷ rest → Adds said old new
    → So all rest new
goes_on all left rest said old new so cut (inl none) = λ more h.
    subst (λ (users : List User). AreUsersOf all (users ++ more)) (sym none.1)
    (so more (subst (λ (ls : List ScramUser). AreUsersOf ls more) (sym cut) (inl (none.0, h))))
goes_on all left rest said old new so cut (inr added) = λ more h.
    let with_it : AreUsersOf left (added.0 ∷ more) =
    subst (λ (ls : List ScramUser). AreUsersOf ls (added.0 ∷ more)) (sym cut) (inr (added.0, more, added.1, refl, h)) in
    let same : new ++ more ≡ old ++ added.0 ∷ more = ap (λ (users : List User). users ++ more) added.2 ∙ append_assoc old (added.0 ∷ []) more in
    subst (AreUsersOf all) (sym same) (so (added.0 ∷ more) with_it)

pub ends_so : (all left : List ScramUser) (users : List User) → So all left users → left ≡ [] → AreUsersOf all users
ends_so all left users so none =
    subst (AreUsersOf all) (append-nil users) (so [] (subst (λ (ls : List ScramUser). AreUsersOf ls []) (sym none) refl))

pub none_left : (left : List ScramUser) → length left ≡ 0 → left ≡ []
none_left [] e = refl
none_left (x ∷ rest) e = absurd (omega arith)

-- a verifier that was read joins under its name
pub joins : (said : ScramUser) (verifier : Verifier) (old new : List User) → IsTextOf said.verifier verifier → new ≡ old ++ one_user said.name verifier
    → Adds said old new
joins said verifier old new text is = inr (record { name = said.name; verifier = verifier }, record { name = refl; verifier = text }, is)
