-- The kind of a parameter that is found among those of the users.
use Rattle.std.proofs.Common.{◌≡◌, ℕ, List, Option, Some, None, option_map, refl, ap, sym, ◌∙◌}
use Rattle.pool_config.specs.Table.{kind_of}
use Rattle.pool_config.specs.Names.{single_named, numbered_named, or_numbered, user_named, or_of_user, parameter_named}
use Rattle.pool_config.specs.declared.parameter.Parameter.{Parameter}
use Rattle.pool_config.specs.declared.parameter.Kind.{Kind}

no_kind : (o : Option Parameter) → None ≡ option_map kind_of o → o ≡ None
no_kind None e = refl
no_kind (Some p) e = absurd (cc)

-- a name that is none of the others' is a user's, if it is any
pub of_user : (name : List ℕ) (kind : Option Kind) → None ≡ option_map kind_of (single_named name) → None ≡ option_map kind_of (numbered_named name)
    → kind ≡ option_map kind_of (user_named name) → kind ≡ option_map kind_of (parameter_named name)
unfolding parameter_named
of_user name kind single numbered user =
    user ∙ sym (ap (λ (o : Option Parameter). option_map kind_of (or_of_user (or_numbered o name) name)) (no_kind (single_named name) single)
    ∙ ap (λ (o : Option Parameter). option_map kind_of (or_of_user o name)) (no_kind (numbered_named name) numbered))
