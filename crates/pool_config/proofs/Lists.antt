-- The first of two lists that passes a test.
use Rattle.std.proofs.Common.{◌≡◌, Bool, true, false, List, [], ◌∷◌, ◌++◌, Option, Some, None, refl, ap, ap₂, sym, ◌∙◌, map, find, cond}
use Rattle.pool_config.specs.Configuration.{later, lacks, missing_of, backends_in, users_in, required_at, required_of}
use Rattle.pool_config.specs.declared.user.UserNumber.{UserNumber}
use Rattle.pool_base.specs.declared.backend_id.BackendId.{BackendId}
use Rattle.pool_config.specs.declared.assemble.Setting.{Setting}
use Rattle.pool_config.specs.declared.parameter.Parameter.TheVariants.{ClusteringMode, Hostname, BackendPort}

pub find-append : {X : Type 0} (test : X → Bool) (xs ys : List X) → find test (xs ++ ys) ≡ later (find test xs) (find test ys)
find-append test [] ys = refl
find-append {X} test (x ∷ xs) ys = go (test x) (find-append test xs ys)
  where
    go : (t : Bool) → find test (xs ++ ys) ≡ later (find test xs) (find test ys) → cond t (Some x) (find test (xs ++ ys)) ≡ later (cond t (Some x) (find test xs)) (find test ys)
    go true e = refl
    go false e = e

pub neither : {X : Type 0} (a b : Option X) → later a b ≡ None → (a ≡ None) × (b ≡ None)
neither None b e = (refl, e)
neither (Some x) b e = absurd (cc)

-- where the mode is given, the first hostname that is not given is missing, and then the first port
pub missing_at : (said : List Setting) (backends : List BackendId) → lacks said ClusteringMode ≡ false
    → find (lacks said) (required_at backends) ≡ later (find (lacks said) (map Hostname backends)) (find (lacks said) (map BackendPort backends))
missing_at said backends given =
    ap (λ (t : Bool). cond t (Some ClusteringMode) (find (lacks said) (map Hostname backends ++ map BackendPort backends))) given
    ∙ find-append (lacks said) (map Hostname backends) (map BackendPort backends)

-- what is missing of the users, behind what is missing at the backends
pub missing_in : (said : List Setting) (backends : List BackendId) (users : List UserNumber) → backends ≡ backends_in said → users ≡ users_in said
    → missing_of said ≡ later (find (lacks said) (required_at backends)) (find (lacks said) (required_of users))
missing_in said backends users e f =
    find-append (lacks said) (required_at (backends_in said)) (required_of (users_in said))
    ∙ ap₂ (λ (bs : List BackendId) (us : List UserNumber). later (find (lacks said) (required_at bs)) (find (lacks said) (required_of us))) (sym e) (sym f)
