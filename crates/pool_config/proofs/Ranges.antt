-- A number that stands for a parameter is in the parameter's range.
use Rattle.std.proofs.Common.{◌≡◌, ◌<◌, ◌≤◌, ◌==◌, ◌^◌, ◌+◌, ℕ, Bool, true, false, List, [], ◌∷◌, Option, Some, None, refl, ap, sym, ◌∙◌, subst, if◌then◌else◌, nat_lt, arith, max}
use Rattle.std.proofs.lemmas.Bool.Decides.{nat_tests}
use Rattle.pool_base.specs.declared.backend_id.BackendId.{BackendId}
use Rattle.pool_config.specs.Table.{kind_of, takes, place_of}
use Rattle.pool_config.specs.Taken.{AllTaken}
use Rattle.pool_config.specs.Configuration.{standing, said_by, later, number_in, count_of}
use Rattle.pool_config.specs.declared.parameter.Parameter.{Parameter}
use Rattle.pool_config.specs.declared.parameter.Parameter.TheVariants.{ClusteringMode, Hostname, BackendPort, Weight, ListenAddresses, Port, Children, LoadBalance, StatementBalance, InsertLock, StopOnMismatch, FailoverOnMismatch, ServerTimeout, AuthenticationTimeout, ClientIdleLimit, LogConnections, LogDisconnections, ScramUser, ScramVerifier, BackendPassword}
use Rattle.pool_config.specs.declared.parameter.Kind.{Kind}
use Rattle.pool_config.specs.declared.parameter.Kind.TheVariants as kind
use Rattle.pool_config.specs.declared.value.Value.{Value}
use Rattle.pool_config.specs.declared.value.Value.TheVariants.{Text, Number, Truth}
use Rattle.pool_config.specs.declared.assemble.Setting.{Setting}

abbrev low_kind : ℕ → Kind
low_kind n = if n == 0 then kind.Mode else (if n == 1 then kind.Words else (if n == 2 then kind.Number 1 65535
    else (if n == 3 then kind.Number 1 64 else (if nat_lt n 6 then kind.Truth else kind.OnlyOn))))

abbrev middle_kind : ℕ → Kind
middle_kind n = if n == 32 then kind.OnlyOn else (if n == 33 then kind.Number 2 600 else (if n == 34 then kind.Number 1 600
    else (if n == 35 then kind.Number 0 86400 else (if nat_lt n 38 then kind.Truth else kind.Secret))))

-- the kind of the parameter with this place
abbrev kind_at : ℕ → Kind
kind_at n = if nat_lt n 8 then low_kind n else (if nat_lt n 16 then kind.HostName
    else (if nat_lt n 24 then kind.Number 1 65535 else (if nat_lt n 32 then kind.Number 0 1000
    else (if nat_lt n 40 then middle_kind n else (if nat_lt n 56 then kind.Words else kind.Verifier)))))

host_kind : (n : ℕ) → n < 8 → kind_at (8 + n) ≡ kind.HostName
host_kind n h = grind (arith, nat_tests)

port_kind : (n : ℕ) → n < 8 → kind_at (16 + n) ≡ kind.Number 1 65535
port_kind n h = grind (arith, nat_tests)

weight_kind : (n : ℕ) → n < 8 → kind_at (24 + n) ≡ kind.Number 0 1000
weight_kind n h = grind (arith, nat_tests)

user_kind : (n : ℕ) → n < 16 → kind_at (40 + n) ≡ kind.Words
user_kind n h = grind (arith, nat_tests)

verifier_kind : (n : ℕ) → n < 16 → kind_at (56 + n) ≡ kind.Verifier
verifier_kind n h = grind (arith, nat_tests)

kind_by_place : (p : Parameter) → kind_at (place_of p) ≡ kind_of p
kind_by_place ClusteringMode = refl
kind_by_place (Hostname b) = host_kind b.number b.below_8
kind_by_place (BackendPort b) = port_kind b.number b.below_8
kind_by_place (Weight b) = weight_kind b.number b.below_8
kind_by_place ListenAddresses = refl
kind_by_place Port = refl
kind_by_place Children = refl
kind_by_place LoadBalance = refl
kind_by_place StatementBalance = refl
kind_by_place InsertLock = refl
kind_by_place StopOnMismatch = refl
kind_by_place FailoverOnMismatch = refl
kind_by_place (ScramUser u) = user_kind u.number u.below_16
kind_by_place (ScramVerifier u) = verifier_kind u.number u.below_16
kind_by_place ServerTimeout = refl
kind_by_place AuthenticationTimeout = refl
kind_by_place ClientIdleLimit = refl
kind_by_place LogConnections = refl
kind_by_place LogDisconnections = refl
kind_by_place BackendPassword = refl

pub same_kind : (p q : Parameter) → place_of p ≡ place_of q → kind_of p ≡ kind_of q
same_kind p q e = sym (kind_by_place p) ∙ (ap kind_at e ∙ kind_by_place q)

small : (low high : ℕ) (v : Value) → takes (kind.Number low high) v ≡ true → number_in (Some v) ≤ high
small low high (Text t) h = absurd (cc)
small low high (Truth on) h = absurd (cc)
small low high (Number n) h = grind (arith, nat_tests)

one_small : (p : Parameter) (low high : ℕ) → kind_of p ≡ kind.Number low high → (s : Setting) → takes (kind_of s.parameter) s.value ≡ true → number_in (said_by p s) ≤ high
one_small p low high is s taken = go (place_of s.parameter == place_of p) refl
  where
    go : (t : Bool) → (place_of s.parameter == place_of p) ≡ t → number_in (if t then Some s.value else None) ≤ high
    go true e =
        let same : place_of s.parameter ≡ place_of p = grind (arith, nat_tests) in
        small low high s.value (subst (λ (k : Kind). takes k s.value ≡ true) (same_kind s.parameter p same ∙ is) taken)
    go false e = omega arith

later_small : (high : ℕ) (a b : Option Value) → number_in a ≤ high → number_in b ≤ high → number_in (later a b) ≤ high
later_small high None b h k = k
later_small high (Some v) b h k = h

pub standing_small : (p : Parameter) (low high : ℕ) → kind_of p ≡ kind.Number low high → (said : List Setting) → AllTaken said → number_in (standing p said) ≤ high
standing_small p low high is [] taken = omega arith
standing_small p low high is (s ∷ rest) taken = later_small high (standing p rest) (said_by p s) (standing_small p low high is rest taken.1) (one_small p low high is s taken.0)

pub port_small : (said : List Setting) → AllTaken said → number_in (standing Port said) < 2 ^ 16
port_small said taken = let h = standing_small Port 1 65535 refl said taken in omega arith

pub children_small : (said : List Setting) → AllTaken said → number_in (standing Children said) < 2 ^ 32
children_small said taken = let h = standing_small Children 1 64 refl said taken in omega arith

pub server_small : (said : List Setting) → AllTaken said → number_in (standing ServerTimeout said) < 2 ^ 32
server_small said taken = let h = standing_small ServerTimeout 2 600 refl said taken in omega arith

pub authentication_small : (said : List Setting) → AllTaken said → number_in (standing AuthenticationTimeout said) < 2 ^ 32
authentication_small said taken = let h = standing_small AuthenticationTimeout 1 600 refl said taken in omega arith

pub idle_small : (said : List Setting) → AllTaken said → number_in (standing ClientIdleLimit said) < 2 ^ 32
idle_small said taken = let h = standing_small ClientIdleLimit 0 86400 refl said taken in omega arith

pub node_port_small : (b : BackendId) (said : List Setting) → AllTaken said → number_in (standing (BackendPort b) said) < 2 ^ 16
node_port_small b said taken = let h = standing_small (BackendPort b) 1 65535 refl said taken in omega arith

pub weight_small : (b : BackendId) (said : List Setting) → AllTaken said → number_in (standing (Weight b) said) < 2 ^ 32
weight_small b said taken = let h = standing_small (Weight b) 0 1000 refl said taken in omega arith

pub counts_one : (said : List Setting) → 1 ≤ count_of said
counts_one [] = omega arith
counts_one (s ∷ rest) = let h = counts_one rest in omega arith

pub from_one : (said : List Setting) → max 1 (count_of said) ≡ count_of said
from_one said = let h = counts_one said in omega arith
