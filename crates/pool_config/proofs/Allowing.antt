-- What a text says is in the ranges of the table.
use Rattle.std.proofs.Common.{◌≡◌, ◌≤◌, ◌==◌, ◌||◌, inl, inr, ℕ, zero, suc, Bool, true, false, not, List, [], ◌∷◌, ◌++◌, Option, Some, None, Result, Ok, Err, IfOk, refl, ap, sym, ◌∙◌, subst, length, codes, cond, find, map, take, option_map, is_some, if◌then◌else◌, arith, bytes_eq}
use Rattle.std.proofs.lemmas.Bool.Decides.{nat_tests}
use Rattle.std.specs.Str.{is_utf8, chars}
use Rattle.std.specs.Char.{encode_utf8}
use Rattle.pool_base.specs.declared.backend_id.BackendId.{BackendId}
use Rattle.pool_config.specs.Bytes.{has, AllOf, lines, onto}
use Rattle.pool_config.specs.Form.{Spelling, quoted, bare, spelled, IsSpelling}
use Rattle.pool_config.specs.Value.{value_of, number_of}
use Rattle.pool_config.specs.Table.{all_backends, kind_of, takes, place_of}
use Rattle.scram.specs.Tests.{is_verifier}
use Rattle.pool_config.specs.Users.{all_users}
use Rattle.pool_config.specs.declared.user.UserNumber.{UserNumber}
use Rattle.pool_config.specs.Settings.{Sets, Say}
use Rattle.pool_config.specs.Configuration.{standing, said_by, later, text_in, number_in, count_of, backends_in, node_of, user_count_of, users_in, user_of, text_there, required_at, required_of, lacks, missing_of, config_of, IsConfiguration, IsString, AreAllowedNodes, AreAllowedUsers, IsAllowedPassword, AreAllowedSessions, sessions_of, IsAllowed}
use Rattle.pool_config.specs.Reader.{Gives, answer_of}
use Rattle.pool_config.specs.declared.line.Class.{Class}
use Rattle.pool_config.specs.declared.line.Class.TheVariants.{InLine}
use Rattle.pool_config.specs.declared.parameter.Parameter.{Parameter}
use Rattle.pool_config.specs.declared.parameter.Parameter.TheVariants.{ClusteringMode, Hostname, BackendPort, Weight, ListenAddresses, Port, Children, ServerTimeout, AuthenticationTimeout, ClientIdleLimit, LogConnections, LogDisconnections, ScramUser, ScramVerifier, BackendPassword}
use Rattle.pool_config.specs.declared.parameter.Kind.{Kind}
use Rattle.pool_config.specs.declared.parameter.Kind.TheVariants as kind
use Rattle.pool_config.specs.declared.value.Value.{Value}
use Rattle.pool_config.specs.declared.value.Value.TheVariants.{Text, Number, Truth}
use Rattle.pool_config.specs.declared.assemble.Setting.{Setting}
use Rattle.pool_config.specs.declared.config.Config.{Config}
use Rattle.pool_config.specs.declared.fault.ConfigFault.{ConfigFault}
use Rattle.pool_config.proofs.Lists.{find-append, neither}
use Rattle.pool_config.proofs.Ranges.{same_kind, counts_one}
use Rattle.pool_config.proofs.Laws.{given_means}

-- ---- bytes

all_left : (c : Class) (a b : List ℕ) → AllOf c (a ++ b) → AllOf c a
all_left c [] b h = tt
all_left c (x ∷ a) b h = (h.0, all_left c a b h.1)

all_right : (c : Class) (a b : List ℕ) → AllOf c (a ++ b) → AllOf c b
all_right c [] b h = h
all_right c (x ∷ a) b h = all_right c a b h.1

-- no line holds a line feed
abbrev AreLines : List (List ℕ) → Type 0
AreLines [] = Unit {0}
AreLines (line ∷ rest) = AllOf InLine line × AreLines rest

onto_lines : (b : ℕ) (ls : List (List ℕ)) → has InLine b ≡ true → AreLines ls → AreLines (onto b ls)
onto_lines b [] h k = ((h, tt), tt)
onto_lines b (line ∷ rest) h k = ((h, k.0), k.1)

are_lines : (text : List ℕ) → AreLines (lines text)
are_lines [] = (tt, tt)
are_lines (b ∷ rest) = go (b == 10) refl (are_lines rest)
  where
    go : (t : Bool) → (b == 10) ≡ t → AreLines (lines rest) → AreLines (if t then [] ∷ lines rest else onto b (lines rest))
    go true e h = (tt, h)
    go false e h = onto_lines b (lines rest) (ap not e) h

-- ---- values

-- a text is a string of the grammar
abbrev IsValue : Value → Type 0
IsValue (Text text) = IsString text
IsValue (Number n) = Unit {0}
IsValue (Truth on) = Unit {0}

abbrev value_or : Value → Option Value → Value
value_or d None = d
value_or d (Some v) = v

is_the : (a v : Value) → IsValue a → Some a ≡ Some v → IsValue v
is_the a v h e = subst IsValue (ap (value_or a) e) h

number_means : (n : Option ℕ) (v : Value) → option_map (λ k. Number k) n ≡ Some v → IsValue v
number_means None v e = absurd (cc)
number_means (Some n) v e = is_the (Number n) v tt e

word_means : (t u : Bool) (n : Option ℕ) (v : Value)
    → (if t then Some (Truth true) else (if u then Some (Truth false) else option_map (λ k. Number k) n)) ≡ Some v → IsValue v
word_means true u n v e = is_the (Truth true) v tt e
word_means false true n v e = is_the (Truth false) v tt e
word_means false false n v e = number_means n v e

spelling_means : (w : Spelling) (v : Value) → IsSpelling w → AllOf InLine (spelled w) → value_of w ≡ Some v → IsValue v
spelling_means (quoted inner) v is in_line e = go (is_utf8 inner) refl e
  where
    go : (t : Bool) → is_utf8 inner ≡ t → (if t then Some (Text inner) else None) ≡ Some v → IsValue v
    go true u k = is_the (Text inner) v (u, is, all_left InLine inner (39 ∷ []) in_line.1) k
    go false u k = absurd (cc)
spelling_means (bare word) v is in_line e =
    word_means (bytes_eq word (codes "on") || bytes_eq word (codes "true")) (bytes_eq word (codes "off") || bytes_eq word (codes "false")) (number_of word) v e

-- ---- settings

-- the parameters take the values, and their texts are strings of the grammar
abbrev AreSettings : List Setting → Type 0
AreSettings [] = Unit {0}
AreSettings (s ∷ rest) = ((takes (kind_of s.parameter) s.value ≡ true) × IsValue s.value) × AreSettings rest

sets_value : (line : List ℕ) (s : Setting) → AllOf InLine line → Sets line s → IsValue s.value
sets_value line s all h =
    let f = h.form in
    let a = subst (AllOf InLine) f.parts all in
    let b = all_right InLine f.before _ a in
    let c = all_right InLine h.name _ b in
    let d = all_right InLine f.behind_name _ c in
    let e = all_right InLine f.before_value _ d.1 in
    spelling_means h.value s.value f.value_is (all_left InLine (spelled h.value) f.rest e) h.means

are_settings : (ls : List (List ℕ)) (said : List Setting) → AreLines ls → Say ls said → AreSettings said
are_settings [] said k h = subst AreSettings (sym h) tt
are_settings (line ∷ rest) [] k h = tt
are_settings (line ∷ rest) (s ∷ said) k (inl h) = are_settings rest (s ∷ said) k.1 h.1
are_settings (line ∷ rest) (s ∷ said) k (inr h) = ((h.0.taken, sets_value line s k.0 h.0), are_settings rest said k.1 h.1)

-- a value, where there is one, is of the kind
abbrev IsFor : Kind → Option Value → Type 0
IsFor k None = Unit {0}
IsFor k (Some v) = (takes k v ≡ true) × IsValue v

later_for : (k : Kind) (a b : Option Value) → IsFor k a → IsFor k b → IsFor k (later a b)
later_for k None b h g = g
later_for k (Some v) b h g = h

said_for : (p : Parameter) (s : Setting) → takes (kind_of s.parameter) s.value ≡ true → IsValue s.value → IsFor (kind_of p) (said_by p s)
said_for p s taken is = go (place_of s.parameter == place_of p) refl
  where
    go : (t : Bool) → (place_of s.parameter == place_of p) ≡ t → IsFor (kind_of p) (if t then Some s.value else None)
    go true e =
        let same : place_of s.parameter ≡ place_of p = grind (arith, nat_tests) in
        (subst (λ (k : Kind). takes k s.value ≡ true) (same_kind s.parameter p same) taken, is)
    go false e = tt

standing_for : (p : Parameter) (said : List Setting) → AreSettings said → IsFor (kind_of p) (standing p said)
standing_for p [] h = tt
standing_for p (s ∷ rest) h = later_for (kind_of p) (standing p rest) (said_by p s) (standing_for p rest h.1) (said_for p s h.0.0 h.0.1)

-- ---- what stands, or the default

number_for : (low high d : ℕ) (v : Option Value) → IsFor (kind.Number low high) v → low ≤ d → d ≤ high
    → (low ≤ number_in (later v (Some (Number d)))) × (number_in (later v (Some (Number d))) ≤ high)
number_for low high d None h l u = (l, u)
number_for low high d (Some (Text t)) h l u = let e = h.0 in absurd (cc)
number_for low high d (Some (Truth on)) h l u = let e = h.0 in absurd (cc)
number_for low high d (Some (Number n)) h l u = let e = h.0 in (grind (arith, nat_tests), grind (arith, nat_tests))

local_string : IsString (codes "localhost")
unfolding is_utf8 chars encode_utf8
local_string = (refl, (refl, (refl, (refl, (refl, (refl, (refl, (refl, (refl, (refl, tt))))))))), (refl, (refl, (refl, (refl, (refl, (refl, (refl, (refl, (refl, tt))))))))))

listen_for : (v : Option Value) → IsFor kind.Words v → IsString (text_in (later v (Some (Text (codes "localhost")))))
listen_for None h = local_string
listen_for (Some (Text t)) h = h.1
listen_for (Some (Number n)) h = let e = h.0 in absurd (cc)
listen_for (Some (Truth on)) h = let e = h.0 in absurd (cc)

some_text : (t : List ℕ) → not (bytes_eq t []) ≡ true → 1 ≤ length t
some_text [] h = absurd (cc)
some_text (b ∷ rest) h = omega arith

host_for : (v : Option Value) → not (is_some v) ≡ false → IsFor kind.HostName v → IsString (text_in (later v None)) × (1 ≤ length (text_in (later v None)))
host_for None e h = absurd (cc)
host_for (Some (Text t)) e h = (h.1, some_text t h.0)
host_for (Some (Number n)) e h = let f = h.0 in absurd (cc)
host_for (Some (Truth on)) e h = let f = h.0 in absurd (cc)

port_for : (v : Option Value) → not (is_some v) ≡ false → IsFor (kind.Number 1 65535) v → (1 ≤ number_in (later v None)) × (number_in (later v None) ≤ 65535)
port_for None e h = absurd (cc)
port_for (Some v) e h = number_for 1 65535 1 (Some v) h (omega arith) (omega arith)

-- ---- the backends

-- nothing passes a test, and so the first does not, and none behind it
not_found : {X : Type 0} (t : Bool) (x : X) (rest : Option X) → cond t (Some x) rest ≡ None → (t ≡ false) × (rest ≡ None)
not_found true x rest e = absurd (cc)
not_found false x rest e = (refl, e)

nodes_for : (said : List Setting) (bs : List BackendId) → AreSettings said → find (lacks said) (map Hostname bs) ≡ None
    → find (lacks said) (map BackendPort bs) ≡ None → AreAllowedNodes (map (node_of said) bs)
nodes_for said [] h e f = tt
nodes_for said (b ∷ bs) h e f =
    let p = not_found (lacks said (Hostname b)) (Hostname b) (find (lacks said) (map Hostname bs)) e in
    let q = not_found (lacks said (BackendPort b)) (BackendPort b) (find (lacks said) (map BackendPort bs)) f in (
      (
        host_for (standing (Hostname b) said) p.0 (standing_for (Hostname b) said h),
        port_for (standing (BackendPort b) said) q.0 (standing_for (BackendPort b) said h),
        (number_for 0 1000 1 (standing (Weight b) said) (standing_for (Weight b) said h) (omega arith) (omega arith)).1,
      ),
      nodes_for said bs h p.1 q.1,
    )

some_taken : (n : ℕ) → 1 ≤ n → 1 ≤ length (take n all_backends)
some_taken zero h = absurd (omega arith)
some_taken (suc n) h = omega arith

few_taken : {X : Type 0} (n : ℕ) (xs : List X) → length (take n xs) ≤ length xs
few_taken zero xs = omega arith
few_taken (suc n) [] = omega arith
few_taken (suc n) (x ∷ xs) = let h = few_taken n xs in omega arith

map_length : {X : Type 0} {Y : Type 0} (f : X → Y) (xs : List X) → length (map f xs) ≡ length xs
map_length f [] = refl
map_length f (x ∷ xs) = ap suc (map_length f xs)

-- ---- the users

name_for : (v : Option Value) → not (is_some v) ≡ false → IsFor kind.Words v → IsString (text_in (later v None))
name_for None e h = absurd (cc)
name_for (Some (Text t)) e h = h.1
name_for (Some (Number n)) e h = let f = h.0 in absurd (cc)
name_for (Some (Truth on)) e h = let f = h.0 in absurd (cc)

verifier_for : (v : Option Value) → not (is_some v) ≡ false → IsFor kind.Verifier v → IsString (text_in (later v None)) × (is_verifier (text_in (later v None)) ≡ true)
verifier_for None e h = absurd (cc)
verifier_for (Some (Text t)) e h = (h.1, h.0)
verifier_for (Some (Number n)) e h = let f = h.0 in absurd (cc)
verifier_for (Some (Truth on)) e h = let f = h.0 in absurd (cc)

password_for : (v : Option Value) → IsFor kind.Secret v → IsAllowedPassword (text_there (later v None))
password_for None h = tt
password_for (Some (Text t)) h = (h.1, h.0)
password_for (Some (Number n)) h = tt
password_for (Some (Truth on)) h = tt

users_for : (said : List Setting) (us : List UserNumber) → AreSettings said → find (lacks said) (map ScramUser us) ≡ None
    → find (lacks said) (map ScramVerifier us) ≡ None → AreAllowedUsers (map (user_of said) us)
users_for said [] h e f = tt
users_for said (u ∷ us) h e f =
    let p = not_found (lacks said (ScramUser u)) (ScramUser u) (find (lacks said) (map ScramUser us)) e in
    let q = not_found (lacks said (ScramVerifier u)) (ScramVerifier u) (find (lacks said) (map ScramVerifier us)) f in
    let verifier = verifier_for (standing (ScramVerifier u) said) q.0 (standing_for (ScramVerifier u) said h) in
    ((name_for (standing (ScramUser u) said) p.0 (standing_for (ScramUser u) said h), verifier.0, verifier.1), users_for said us h p.1 q.1)

-- ---- the sessions

sessions_for : (said : List Setting) → AreSettings said → AreAllowedSessions (sessions_of said)
sessions_for said h =
    let server = number_for 2 600 10 (standing ServerTimeout said) (standing_for ServerTimeout said h) (omega arith) (omega arith) in
    let authentication = number_for 1 600 30 (standing AuthenticationTimeout said) (standing_for AuthenticationTimeout said h) (omega arith) (omega arith) in
    let idle = number_for 0 86400 0 (standing ClientIdleLimit said) (standing_for ClientIdleLimit said h) (omega arith) (omega arith) in
    record {
      server_from = server.0;
      server_to = server.1;
      authentication_from = authentication.0;
      authentication_to = authentication.1;
      idle_to = idle.1;
    }

-- ---- the whole

settings_allowed : (said : List Setting) → AreSettings said → missing_of said ≡ None → IsAllowed (config_of said)
settings_allowed said h complete =
    let bs : List BackendId = backends_in said in
    let us : List UserNumber = users_in said in
    let two = neither (find (lacks said) (required_at bs)) (find (lacks said) (required_of us)) (sym (find-append (lacks said) (required_at bs) (required_of us)) ∙ complete) in
    let mode = not_found (lacks said ClusteringMode) ClusteringMode (find (lacks said) (map Hostname bs ++ map BackendPort bs)) two.0 in
    let shown = neither (find (lacks said) (map ScramUser us)) (find (lacks said) (map ScramVerifier us)) (sym (find-append (lacks said) (map ScramUser us) (map ScramVerifier us)) ∙ two.1) in
    let many = map_length (user_of said) us in
    let most = few_taken (user_count_of said) all_users in
    let each = neither (find (lacks said) (map Hostname bs)) (find (lacks said) (map BackendPort bs)) (sym (find-append (lacks said) (map Hostname bs) (map BackendPort bs)) ∙ mode.1) in
    let long = map_length (node_of said) bs in
    let some = some_taken (count_of said) (counts_one said) in
    let few = few_taken (count_of said) all_backends in
    let port = number_for 1 65535 9999 (standing Port said) (standing_for Port said h) (omega arith) (omega arith) in
    let children = number_for 1 64 32 (standing Children said) (standing_for Children said h) (omega arith) (omega arith) in
    record {
      some_node = subst (λ (n : ℕ). 1 ≤ n) (sym long) some;
      few_nodes = subst (λ (n : ℕ). n ≤ 8) (sym long) few;
      nodes = nodes_for said bs h each.0 each.1;
      listen = listen_for (standing ListenAddresses said) (standing_for ListenAddresses said h);
      port_from = port.0;
      port_to = port.1;
      children_from = children.0;
      children_to = children.1;
      sessions = sessions_for said h;
      few_users = subst (λ (n : ℕ). n ≤ 16) (sym many) most;
      users = users_for said us h shown.0 shown.1;
      password = password_for (standing BackendPassword said) (standing_for BackendPassword said h);
    }

-- every configuration that a text says is allowed
pub said_allowed : (text : List ℕ) (config : Config) → IsConfiguration text config → IsAllowed config
said_allowed text config h =
    subst IsAllowed (sym h.is) (settings_allowed h.said (are_settings (lines text) h.said (are_lines text) h.lines_say) h.complete)

pub given_allowed : (text : List ℕ) (r : Result Config ConfigFault) → Gives r (answer_of text) → IfOk r (λ config. IsAllowed config)
given_allowed text (Ok config) h = said_allowed text config (given_means text (Ok config) h)
given_allowed text (Err fault) h = tt
