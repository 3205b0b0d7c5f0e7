-- What stands in settings with users and a password behind those of the backends.
use Rattle.std.proofs.Common.{◌≡◌, ◌≤◌, ◌<◌, ◌==◌, ℕ, Bool, false, List, [], ◌∷◌, ◌++◌, Option, Some, None, refl, ap, sym, ◌∙◌, length, map, find, cond, if◌then◌else◌, arith}
use Rattle.std.proofs.lemmas.Bool.Decides.{nat_tests}
use Rattle.pool_base.specs.declared.backend_id.BackendId.{BackendId}
use Rattle.pool_config.specs.Table.{place_of}
use Rattle.pool_config.specs.Users.{all_users}
use Rattle.pool_config.specs.Configuration.{standing, said_by, later, text_there, value_for, count_of, user_count_of, users_in, user_of, lacks, required_at, required_of}
use Rattle.pool_config.specs.declared.user.UserNumber.{UserNumber}
use Rattle.pool_config.specs.declared.parameter.Parameter.{Parameter}
use Rattle.pool_config.specs.declared.parameter.Parameter.TheVariants.{Hostname, BackendPort, Weight, ScramUser, ScramVerifier, BackendPassword}
use Rattle.pool_config.specs.declared.value.Value.{Value}
use Rattle.pool_config.specs.declared.value.Value.TheVariants.{Text, Number}
use Rattle.pool_config.specs.declared.assemble.Setting.{Setting}
use Rattle.pool_config.specs.declared.config.Node.{Node}
use Rattle.pool_config.specs.declared.config.ScramUser.{ScramUser as UserOf}
use Rattle.pool_config.proofs.Printing.{node_settings}
use Rattle.pool_config.proofs.UserPrinting.{user_settings, password_settings}

-- ---- what stands in two lists

later_none : {X : Type 0} (a : Option X) → later a None ≡ a
later_none None = refl
later_none (Some x) = refl

later_later : {X : Type 0} (a b c : Option X) → later (later a b) c ≡ later a (later b c)
later_later None b c = refl
later_later (Some x) b c = refl

pub standing_append : (p : Parameter) (xs ys : List Setting) → standing p (xs ++ ys) ≡ later (standing p ys) (standing p xs)
standing_append p [] ys = sym (later_none (standing p ys))
standing_append p (s ∷ xs) ys =
    ap (λ (o : Option Value). later o (said_by p s)) (standing_append p xs ys) ∙ later_later (standing p ys) (standing p xs) (said_by p s)

-- a setting of another parameter
other_said : (p : Parameter) (s : Setting) → (place_of s.parameter ≡ place_of p → ⊥) → said_by p s ≡ None
other_said p s other =
    let apart : (place_of s.parameter == place_of p) ≡ false = grind (arith, nat_tests) in
    ap (λ (t : Bool). if t then Some s.value else None) apart

pub passed : (p : Parameter) (s : Setting) (rest : List Setting) → (place_of s.parameter ≡ place_of p → ⊥) → standing p (s ∷ rest) ≡ standing p rest
passed p s rest other = ap (later (standing p rest)) (other_said p s other) ∙ later_none (standing p rest)

-- ---- the users and the password

abbrev pub logins : List UserOf → Option (List ℕ) → List Setting
logins users password = user_settings all_users users (password_settings password)

users_passed : (p : Parameter) (us : List UserNumber) (xs : List UserOf) (said : List Setting) → place_of p < 40
    → standing p (user_settings us xs said) ≡ standing p said
users_passed p us [] said low = refl
users_passed p [] (x ∷ xs) said low = refl
users_passed p (u ∷ us) (x ∷ xs) said low =
    let rest : List Setting = user_settings us xs said in
    let second : Setting = record { parameter = ScramVerifier u; value = Text x.verifier } in
    passed p (record { parameter = ScramUser u; value = Text x.name }) (second ∷ rest) (λ e. absurd (omega arith))
    ∙ (passed p second rest (λ e. absurd (omega arith)) ∙ users_passed p us xs said low)

password_passed : (p : Parameter) (password : Option (List ℕ)) → place_of p < 38 → standing p (password_settings password) ≡ None
password_passed p None low = refl
password_passed p (Some text) low = passed p (record { parameter = BackendPassword; value = Text text }) [] (λ e. absurd (omega arith))

-- no parameter of a backend or of the pool stands there
pub logins_silent : (p : Parameter) (users : List UserOf) (password : Option (List ℕ)) → place_of p < 38 → standing p (logins users password) ≡ None
logins_silent p users password low =
    users_passed p all_users users (password_settings password) (omega arith) ∙ password_passed p password low

users_count_one : (us : List UserNumber) (xs : List UserOf) (said : List Setting) → count_of (user_settings us xs said) ≡ count_of said
users_count_one us [] said = refl
users_count_one [] (x ∷ xs) said = refl
users_count_one (u ∷ us) (x ∷ xs) said = let h = users_count_one us xs said in omega arith

password_counts : (password : Option (List ℕ)) → count_of (password_settings password) ≡ 1
password_counts None = refl
password_counts (Some text) = refl

pub logins_count : (users : List UserOf) (password : Option (List ℕ)) → count_of (logins users password) ≡ 1
logins_count users password = users_count_one all_users users (password_settings password) ∙ password_counts password

pub count_append : (xs ys : List Setting) → count_of ys ≡ 1 → count_of (xs ++ ys) ≡ count_of xs
count_append [] ys one = one
count_append (s ∷ xs) ys one = let h = count_append xs ys one in omega arith

-- what they say
pub record AreLogins (users : List UserOf) (password : Option (List ℕ)) : Type 0 where
  pub complete : find (lacks (logins users password)) (required_of (users_in (logins users password))) ≡ None
  pub users_are : map (user_of (logins users password)) (users_in (logins users password)) ≡ users
  pub password_is : text_there (value_for BackendPassword (logins users password)) ≡ password

pub are_logins : (users : List UserOf) (password : Option (List ℕ)) → length users ≤ 16 → AreLogins users password
are_logins [] None few = record { complete = refl; users_are = refl; password_is = refl }
are_logins [] (Some t) few = record { complete = refl; users_are = refl; password_is = refl }
are_logins (x0 ∷ []) None few = record { complete = refl; users_are = refl; password_is = refl }
are_logins (x0 ∷ []) (Some t) few = record { complete = refl; users_are = refl; password_is = refl }
are_logins (x0 ∷ x1 ∷ []) None few = record { complete = refl; users_are = refl; password_is = refl }
are_logins (x0 ∷ x1 ∷ []) (Some t) few = record { complete = refl; users_are = refl; password_is = refl }
are_logins (x0 ∷ x1 ∷ x2 ∷ []) None few = record { complete = refl; users_are = refl; password_is = refl }
are_logins (x0 ∷ x1 ∷ x2 ∷ []) (Some t) few = record { complete = refl; users_are = refl; password_is = refl }
are_logins (x0 ∷ x1 ∷ x2 ∷ x3 ∷ []) None few = record { complete = refl; users_are = refl; password_is = refl }
are_logins (x0 ∷ x1 ∷ x2 ∷ x3 ∷ []) (Some t) few = record { complete = refl; users_are = refl; password_is = refl }
are_logins (x0 ∷ x1 ∷ x2 ∷ x3 ∷ x4 ∷ []) None few = record { complete = refl; users_are = refl; password_is = refl }
are_logins (x0 ∷ x1 ∷ x2 ∷ x3 ∷ x4 ∷ []) (Some t) few = record { complete = refl; users_are = refl; password_is = refl }
are_logins (x0 ∷ x1 ∷ x2 ∷ x3 ∷ x4 ∷ x5 ∷ []) None few = record { complete = refl; users_are = refl; password_is = refl }
are_logins (x0 ∷ x1 ∷ x2 ∷ x3 ∷ x4 ∷ x5 ∷ []) (Some t) few = record { complete = refl; users_are = refl; password_is = refl }
are_logins (x0 ∷ x1 ∷ x2 ∷ x3 ∷ x4 ∷ x5 ∷ x6 ∷ []) None few = record { complete = refl; users_are = refl; password_is = refl }
are_logins (x0 ∷ x1 ∷ x2 ∷ x3 ∷ x4 ∷ x5 ∷ x6 ∷ []) (Some t) few = record { complete = refl; users_are = refl; password_is = refl }
are_logins (x0 ∷ x1 ∷ x2 ∷ x3 ∷ x4 ∷ x5 ∷ x6 ∷ x7 ∷ []) None few = record { complete = refl; users_are = refl; password_is = refl }
are_logins (x0 ∷ x1 ∷ x2 ∷ x3 ∷ x4 ∷ x5 ∷ x6 ∷ x7 ∷ []) (Some t) few = record { complete = refl; users_are = refl; password_is = refl }
are_logins (x0 ∷ x1 ∷ x2 ∷ x3 ∷ x4 ∷ x5 ∷ x6 ∷ x7 ∷ x8 ∷ []) None few = record { complete = refl; users_are = refl; password_is = refl }
are_logins (x0 ∷ x1 ∷ x2 ∷ x3 ∷ x4 ∷ x5 ∷ x6 ∷ x7 ∷ x8 ∷ []) (Some t) few = record { complete = refl; users_are = refl; password_is = refl }
are_logins (x0 ∷ x1 ∷ x2 ∷ x3 ∷ x4 ∷ x5 ∷ x6 ∷ x7 ∷ x8 ∷ x9 ∷ []) None few = record { complete = refl; users_are = refl; password_is = refl }
are_logins (x0 ∷ x1 ∷ x2 ∷ x3 ∷ x4 ∷ x5 ∷ x6 ∷ x7 ∷ x8 ∷ x9 ∷ []) (Some t) few = record { complete = refl; users_are = refl; password_is = refl }
are_logins (x0 ∷ x1 ∷ x2 ∷ x3 ∷ x4 ∷ x5 ∷ x6 ∷ x7 ∷ x8 ∷ x9 ∷ x10 ∷ []) None few = record { complete = refl; users_are = refl; password_is = refl }
are_logins (x0 ∷ x1 ∷ x2 ∷ x3 ∷ x4 ∷ x5 ∷ x6 ∷ x7 ∷ x8 ∷ x9 ∷ x10 ∷ []) (Some t) few = record { complete = refl; users_are = refl; password_is = refl }
are_logins (x0 ∷ x1 ∷ x2 ∷ x3 ∷ x4 ∷ x5 ∷ x6 ∷ x7 ∷ x8 ∷ x9 ∷ x10 ∷ x11 ∷ []) None few = record { complete = refl; users_are = refl; password_is = refl }
are_logins (x0 ∷ x1 ∷ x2 ∷ x3 ∷ x4 ∷ x5 ∷ x6 ∷ x7 ∷ x8 ∷ x9 ∷ x10 ∷ x11 ∷ []) (Some t) few = record { complete = refl; users_are = refl; password_is = refl }
are_logins (x0 ∷ x1 ∷ x2 ∷ x3 ∷ x4 ∷ x5 ∷ x6 ∷ x7 ∷ x8 ∷ x9 ∷ x10 ∷ x11 ∷ x12 ∷ []) None few = record { complete = refl; users_are = refl; password_is = refl }
are_logins (x0 ∷ x1 ∷ x2 ∷ x3 ∷ x4 ∷ x5 ∷ x6 ∷ x7 ∷ x8 ∷ x9 ∷ x10 ∷ x11 ∷ x12 ∷ []) (Some t) few = record { complete = refl; users_are = refl; password_is = refl }
are_logins (x0 ∷ x1 ∷ x2 ∷ x3 ∷ x4 ∷ x5 ∷ x6 ∷ x7 ∷ x8 ∷ x9 ∷ x10 ∷ x11 ∷ x12 ∷ x13 ∷ []) None few = record { complete = refl; users_are = refl; password_is = refl }
are_logins (x0 ∷ x1 ∷ x2 ∷ x3 ∷ x4 ∷ x5 ∷ x6 ∷ x7 ∷ x8 ∷ x9 ∷ x10 ∷ x11 ∷ x12 ∷ x13 ∷ []) (Some t) few = record { complete = refl; users_are = refl; password_is = refl }
are_logins (x0 ∷ x1 ∷ x2 ∷ x3 ∷ x4 ∷ x5 ∷ x6 ∷ x7 ∷ x8 ∷ x9 ∷ x10 ∷ x11 ∷ x12 ∷ x13 ∷ x14 ∷ []) None few = record { complete = refl; users_are = refl; password_is = refl }
are_logins (x0 ∷ x1 ∷ x2 ∷ x3 ∷ x4 ∷ x5 ∷ x6 ∷ x7 ∷ x8 ∷ x9 ∷ x10 ∷ x11 ∷ x12 ∷ x13 ∷ x14 ∷ []) (Some t) few = record { complete = refl; users_are = refl; password_is = refl }
are_logins (x0 ∷ x1 ∷ x2 ∷ x3 ∷ x4 ∷ x5 ∷ x6 ∷ x7 ∷ x8 ∷ x9 ∷ x10 ∷ x11 ∷ x12 ∷ x13 ∷ x14 ∷ x15 ∷ []) None few = record { complete = refl; users_are = refl; password_is = refl }
are_logins (x0 ∷ x1 ∷ x2 ∷ x3 ∷ x4 ∷ x5 ∷ x6 ∷ x7 ∷ x8 ∷ x9 ∷ x10 ∷ x11 ∷ x12 ∷ x13 ∷ x14 ∷ x15 ∷ []) (Some t) few = record { complete = refl; users_are = refl; password_is = refl }
are_logins (x0 ∷ x1 ∷ x2 ∷ x3 ∷ x4 ∷ x5 ∷ x6 ∷ x7 ∷ x8 ∷ x9 ∷ x10 ∷ x11 ∷ x12 ∷ x13 ∷ x14 ∷ x15 ∷ x16 ∷ more) password few = absurd (omega arith)

-- ---- the settings of the backends

pub nodes_passed : (p : Parameter) (bs : List BackendId) (xs : List Node) (said : List Setting) → 33 ≤ place_of p
    → standing p (node_settings bs xs said) ≡ standing p said
nodes_passed p bs [] said high = refl
nodes_passed p [] (x ∷ xs) said high = refl
nodes_passed p (b ∷ bs) (x ∷ xs) said high =
    let low = b.below_8 in
    let rest : List Setting = node_settings bs xs said in
    let port : Setting = record { parameter = BackendPort b; value = Number x.port } in
    let weight : Setting = record { parameter = Weight b; value = Number x.weight } in
    passed p (record { parameter = Hostname b; value = Text x.host }) (port ∷ weight ∷ rest) (λ e. absurd (omega arith))
    ∙ (passed p port (weight ∷ rest) (λ e. absurd (omega arith))
    ∙ (passed p weight rest (λ e. absurd (omega arith)) ∙ nodes_passed p bs xs said high))

pub nodes_users : (bs : List BackendId) (xs : List Node) (said : List Setting) → user_count_of (node_settings bs xs said) ≡ user_count_of said
nodes_users bs [] said = refl
nodes_users [] (x ∷ xs) said = refl
nodes_users (b ∷ bs) (x ∷ xs) said = let h = nodes_users bs xs said in omega arith

pub nodes_append : (bs : List BackendId) (xs : List Node) (said more : List Setting) → node_settings bs xs (said ++ more) ≡ node_settings bs xs said ++ more
nodes_append bs [] said more = refl
nodes_append [] (x ∷ xs) said more = refl
nodes_append (b ∷ bs) (x ∷ xs) said more =
    ap (λ (rest : List Setting). record { parameter = Hostname b; value = Text x.host } ∷ record { parameter = BackendPort b; value = Number x.port }
    ∷ record { parameter = Weight b; value = Number x.weight } ∷ rest) (nodes_append bs xs said more)

-- ---- what is looked for

abbrev pub AllPass : (Parameter → Type 0) → List Parameter → Type 0
AllPass P [] = Unit {0}
AllPass P (p ∷ ps) = P p × AllPass P ps

pub find_alike : (P : Parameter → Type 0) (f g : Parameter → Bool) (ps : List Parameter) → AllPass P ps → ((p : Parameter) → P p → f p ≡ g p) → find f ps ≡ find g ps
find_alike P f g [] all same = refl
find_alike P f g (p ∷ ps) all same =
    ap (λ (t : Bool). cond t (Some p) (find f ps)) (same p all.0) ∙ ap (λ (o : Option Parameter). cond (g p) (Some p) o) (find_alike P f g ps all.1 same)

all_append : (P : Parameter → Type 0) (ps qs : List Parameter) → AllPass P ps → AllPass P qs → AllPass P (ps ++ qs)
all_append P [] qs a b = b
all_append P (p ∷ ps) qs a b = (a.0, all_append P ps qs a.1 b)

hosts_low : (bs : List BackendId) → AllPass (λ p. place_of p < 33) (map Hostname bs)
hosts_low [] = tt
hosts_low (b ∷ bs) = let low = b.below_8 in (omega arith, hosts_low bs)

ports_low : (bs : List BackendId) → AllPass (λ p. place_of p < 33) (map BackendPort bs)
ports_low [] = tt
ports_low (b ∷ bs) = let low = b.below_8 in (omega arith, ports_low bs)

pub required_low : (bs : List BackendId) → AllPass (λ p. place_of p < 33) (required_at bs)
required_low bs = (omega arith, all_append _ (map Hostname bs) (map BackendPort bs) (hosts_low bs) (ports_low bs))

names_high : (us : List UserNumber) → AllPass (λ p. 38 ≤ place_of p) (map ScramUser us)
names_high [] = tt
names_high (u ∷ us) = (omega arith, names_high us)

verifiers_high : (us : List UserNumber) → AllPass (λ p. 38 ≤ place_of p) (map ScramVerifier us)
verifiers_high [] = tt
verifiers_high (u ∷ us) = (omega arith, verifiers_high us)

pub required_high : (us : List UserNumber) → AllPass (λ p. 38 ≤ place_of p) (required_of us)
required_high us = all_append _ (map ScramUser us) (map ScramVerifier us) (names_high us) (verifiers_high us)
