-- The written text says the configuration that was written.
use Rattle.std.proofs.Common.{◌≡◌, ◌≤◌, ◌<◌, ℕ, Bool, false, not, List, [], ◌∷◌, ◌++◌, Option, None, is_some, refl, ap, ap₂, sym, ◌∙◌, subst, length, codes, map, find, take, append_assoc, arith, Result, Ok, Err, IfOk}
use Rattle.std.specs.Str.{is_utf8, chars}
use Rattle.std.specs.Char.{encode_utf8}
use Rattle.pool_base.specs.declared.backend_id.BackendId.{BackendId}
use Rattle.pool_config.specs.Bytes.{lines}
use Rattle.pool_config.specs.Table.{all_backends, place_of, default_of}
use Rattle.pool_config.specs.Users.{all_users}
use Rattle.pool_config.specs.Settings.{Say}
use Rattle.pool_config.specs.Configuration.{standing, later, value_for, text_in, number_in, truth_in, text_there, count_of, backends_in, node_of, user_count_of, users_in, user_of, sessions_of, lacks, missing_of, required_at, required_of, config_of, IsConfiguration, IsString, IsAllowed}
use Rattle.pool_config.specs.Printed.{string_line, number_line, truth_line, nodes_text, rest_text, sessions_text, users_text, password_text, text_of}
use Rattle.pool_config.specs.declared.line.Class.TheVariants.{Inner, InLine}
use Rattle.pool_config.specs.declared.user.UserNumber.{UserNumber}
use Rattle.pool_config.specs.declared.parameter.Parameter.{Parameter}
use Rattle.pool_config.specs.declared.parameter.Parameter.TheVariants.{ClusteringMode, Hostname, BackendPort, Weight, ListenAddresses, Port, Children, LoadBalance, StatementBalance, ServerTimeout, AuthenticationTimeout, ClientIdleLimit, LogConnections, LogDisconnections, ScramUser, ScramVerifier, BackendPassword}
use Rattle.pool_config.specs.declared.value.Value.{Value}
use Rattle.pool_config.specs.declared.value.Value.TheVariants.{Text, Number, Truth}
use Rattle.pool_config.specs.declared.assemble.Setting.{Setting}
use Rattle.pool_config.specs.declared.config.Config.{Config}
use Rattle.pool_config.specs.declared.config.Node.{Node}
use Rattle.pool_config.specs.declared.config.Sessions.{Sessions}
use Rattle.pool_config.specs.declared.config.ScramUser.{ScramUser as UserOf}
use Rattle.pool_config.proofs.Lists.{find-append, neither}
use Rattle.pool_config.proofs.Printing.{by_test, string_wrote, number_wrote, truth_wrote, in_range, node_settings, nodes_wrote, mode_name, listen_name, server_port_name, children_name, balance_name, statement_name}
use Rattle.pool_config.proofs.UserPrinting.{users_wrote, password_settings, password_wrote}
use Rattle.pool_config.proofs.Timing.{session_settings, sessions_passed, sessions_stand, sessions_count, sessions_users, sessions_wrote}
use Rattle.pool_config.proofs.Logins.{standing_append, passed, logins, logins_silent, logins_count, count_append, AreLogins, are_logins, nodes_passed, nodes_users, nodes_append, find_alike, required_low, required_high}

-- ---- without users
abbrev behind_nodes : List ℕ → ℕ → ℕ → Bool → Bool → List Setting → List Setting
behind_nodes listen port children balance per_statement said = record { parameter = ListenAddresses; value = Text listen }
    ∷ record { parameter = Port; value = Number port } ∷ record { parameter = Children; value = Number children }
    ∷ record { parameter = LoadBalance; value = Truth balance } ∷ record { parameter = StatementBalance; value = Truth per_statement } ∷ said

-- the settings of the mode, the backends and the pool, with those behind them
abbrev settings : List Node → List ℕ → ℕ → ℕ → Bool → Bool → List Setting → List Setting
settings nodes listen port children balance per_statement said = record { parameter = ClusteringMode; value = Text (codes "snapshot_isolation") }
    ∷ node_settings all_backends nodes (behind_nodes listen port children balance per_statement said)

abbrev defaults : Sessions
defaults = record { server_timeout = 10; authentication_timeout = 30; client_idle_limit = 0; log_connections = false; log_disconnections = false }

record IsWhole (nodes : List Node) (l : List ℕ) (p c : ℕ) (b s : Bool) : Type 0 where
  complete : missing_of (settings nodes l p c b s []) ≡ None
  same : config_of (settings nodes l p c b s []) ≡ record { nodes = nodes; listen = l; port = p; children = c; balance = b; per_statement = s; sessions = defaults; users = []; backend_password = None }

whole : (nodes : List Node) (l : List ℕ) (p c : ℕ) (b s : Bool) → 1 ≤ length nodes → length nodes ≤ 8 → IsWhole nodes l p c b s
whole [] l p c b s some few = absurd (omega arith)
whole (n0 ∷ []) l p c b s some few = record { complete = refl; same = refl }
whole (n0 ∷ n1 ∷ []) l p c b s some few = record { complete = refl; same = refl }
whole (n0 ∷ n1 ∷ n2 ∷ []) l p c b s some few = record { complete = refl; same = refl }
whole (n0 ∷ n1 ∷ n2 ∷ n3 ∷ []) l p c b s some few = record { complete = refl; same = refl }
whole (n0 ∷ n1 ∷ n2 ∷ n3 ∷ n4 ∷ []) l p c b s some few = record { complete = refl; same = refl }
whole (n0 ∷ n1 ∷ n2 ∷ n3 ∷ n4 ∷ n5 ∷ []) l p c b s some few = record { complete = refl; same = refl }
whole (n0 ∷ n1 ∷ n2 ∷ n3 ∷ n4 ∷ n5 ∷ n6 ∷ []) l p c b s some few = record { complete = refl; same = refl }
whole (n0 ∷ n1 ∷ n2 ∷ n3 ∷ n4 ∷ n5 ∷ n6 ∷ n7 ∷ []) l p c b s some few = record { complete = refl; same = refl }
whole (n0 ∷ n1 ∷ n2 ∷ n3 ∷ n4 ∷ n5 ∷ n6 ∷ n7 ∷ n8 ∷ more) l p c b s some few = absurd (omega arith)

-- ---- with users and a password

module _ (nodes : List Node) (l : List ℕ) (p c : ℕ) (b s : Bool) (w : Sessions) (users : List UserOf) (password : Option (List ℕ)) where
  abbrev front : List Setting
  front = settings nodes l p c b s []

  abbrev back : List Setting
  back = logins users password

  abbrev tail : List Setting
  tail = session_settings w back

  abbrev full : List Setting
  full = settings nodes l p c b s tail

  parts : full ≡ front ++ tail
  parts =
      ap (λ (rest : List Setting). record { parameter = ClusteringMode; value = Text (codes "snapshot_isolation") } ∷ rest)
      (nodes_append all_backends nodes (behind_nodes l p c b s []) tail)

  tail_silent : (q : Parameter) → place_of q < 33 → standing q tail ≡ None
  tail_silent q small = sessions_passed q w back (λ large less. absurd (omega arith)) ∙ logins_silent q users password (omega arith)

  -- what is of no session and no user stands as without them
  low : (q : Parameter) → place_of q < 33 → standing q full ≡ standing q front
  low q small =
      ap (standing q) parts ∙ (standing_append q front tail
      ∙ ap (λ (o : Option Value). later o (standing q front)) (tail_silent q small))

  -- and what is of a session or a user as without the rest
  behind : (q : Parameter) → 33 ≤ place_of q → standing q full ≡ standing q tail
  behind q large =
      let e : Setting = record { parameter = StatementBalance; value = Truth s } in
      let d : Setting = record { parameter = LoadBalance; value = Truth b } in
      let k : Setting = record { parameter = Children; value = Number c } in
      let g : Setting = record { parameter = Port; value = Number p } in
      let h : Setting = record { parameter = ListenAddresses; value = Text l } in
      passed q (record { parameter = ClusteringMode; value = Text (codes "snapshot_isolation") }) (node_settings all_backends nodes (behind_nodes l p c b s tail)) (λ x. absurd (omega arith))
      ∙ (nodes_passed q all_backends nodes (behind_nodes l p c b s tail) large
      ∙ (passed q h (g ∷ k ∷ d ∷ e ∷ tail) (λ x. absurd (omega arith))
      ∙ (passed q g (k ∷ d ∷ e ∷ tail) (λ x. absurd (omega arith))
      ∙ (passed q k (d ∷ e ∷ tail) (λ x. absurd (omega arith))
      ∙ (passed q d (e ∷ tail) (λ x. absurd (omega arith))
      ∙ passed q e tail (λ x. absurd (omega arith)))))))

  -- what is of a user stands as in the settings of the users
  high : (q : Parameter) → 38 ≤ place_of q → standing q full ≡ standing q back
  high q large = behind q (omega arith) ∙ sessions_passed q w back (λ more less. absurd (omega arith))

  count_is : count_of full ≡ count_of front
  count_is = ap count_of parts ∙ count_append front tail (sessions_count w back ∙ logins_count users password)

  users_are : user_count_of full ≡ user_count_of back
  users_are =
      let h = nodes_users all_backends nodes (behind_nodes l p c b s tail) in
      let k = sessions_users w back in omega (arith, h, k)

  low_value : (q : Parameter) → place_of q < 33 → value_for q full ≡ value_for q front
  low_value q small = ap (λ (o : Option Value). later o (default_of q)) (low q small)

  behind_value : (q : Parameter) → 33 ≤ place_of q → value_for q full ≡ value_for q tail
  behind_value q large = ap (λ (o : Option Value). later o (default_of q)) (behind q large)

  high_value : (q : Parameter) → 38 ≤ place_of q → value_for q full ≡ value_for q back
  high_value q large = ap (λ (o : Option Value). later o (default_of q)) (high q large)

  node_is : (n : BackendId) → node_of full n ≡ node_of front n
  node_is n =
      let small = n.below_8 in
      let host = low_value (Hostname n) (omega (arith, small)) in
      let port = low_value (BackendPort n) (omega (arith, small)) in
      let weight = low_value (Weight n) (omega (arith, small)) in
      λ i. record { host = text_in (host i); port = number_in (port i); weight = number_in (weight i) }

  user_is : (u : UserNumber) → user_of full u ≡ user_of back u
  user_is u =
      let name = high_value (ScramUser u) (omega arith) in
      let verifier = high_value (ScramVerifier u) (omega arith) in
      λ i. record { name = text_in (name i); verifier = text_in (verifier i) }

  sessions_as_behind : sessions_of full ≡ sessions_of tail
  sessions_as_behind =
      let server = behind_value ServerTimeout (omega arith) in
      let authentication = behind_value AuthenticationTimeout (omega arith) in
      let idle = behind_value ClientIdleLimit (omega arith) in
      let connections = behind_value LogConnections (omega arith) in
      let disconnections = behind_value LogDisconnections (omega arith) in
      λ i. record {
        server_timeout = number_in (server i);
        authentication_timeout = number_in (authentication i);
        client_idle_limit = number_in (idle i);
        log_connections = truth_in (connections i);
        log_disconnections = truth_in (disconnections i);
      }

  low_lacks : (q : Parameter) → place_of q < 33 → lacks full q ≡ lacks front q
  low_lacks q small = ap (λ (o : Option Value). not (is_some o)) (low q small)

  high_lacks : (q : Parameter) → 38 ≤ place_of q → lacks full q ≡ lacks back q
  high_lacks q large = ap (λ (o : Option Value). not (is_some o)) (high q large)

  nothing_missing : missing_of front ≡ None → find (lacks back) (required_of (users_in back)) ≡ None → missing_of full ≡ None
  nothing_missing complete there =
      let first = neither (find (lacks front) (required_at (backends_in front))) (find (lacks front) (required_of (users_in front)))
      (sym (find-append (lacks front) (required_at (backends_in front)) (required_of (users_in front))) ∙ complete) in
      let at : find (lacks full) (required_at (backends_in full)) ≡ None =
      find_alike (λ q. place_of q < 33) (lacks full) (lacks front) (required_at (backends_in full)) (required_low (backends_in full)) low_lacks
      ∙ (ap (λ (n : ℕ). find (lacks front) (required_at (take n all_backends))) count_is ∙ first.0) in
      let of : find (lacks full) (required_of (users_in full)) ≡ None =
      find_alike (λ q. 38 ≤ place_of q) (lacks full) (lacks back) (required_of (users_in full)) (required_high (users_in full)) high_lacks
      ∙ (ap (λ (n : ℕ). find (lacks back) (required_of (take n all_users))) users_are ∙ there) in
      find-append (lacks full) (required_at (backends_in full)) (required_of (users_in full))
      ∙ ap₂ (λ (x y : Option Parameter). later x y) at of

  map_same : {X Y : Type 0} (f g : X → Y) → ((x : X) → f x ≡ g x) → (xs : List X) → map f xs ≡ map g xs
  map_same f g same [] = refl
  map_same {X} {Y} f g same (x ∷ xs) = ap₂ (λ (y : Y) (ys : List Y). y ∷ ys) (same x) (map_same f g same xs)

  is_config : IsWhole nodes l p c b s → AreLogins users password → config_of full ≡ record {
    nodes = nodes;
    listen = l;
    port = p;
    children = c;
    balance = b;
    per_statement = s;
    sessions = w;
    users = users;
    backend_password = password;
  }
  is_config one two =
      let nodes_is : map (node_of full) (backends_in full) ≡ nodes =
      map_same (node_of full) (node_of front) node_is (backends_in full)
      ∙ (ap (λ (n : ℕ). map (node_of front) (take n all_backends)) count_is ∙ ap (λ (k : Config). k.nodes) one.same) in
      let listen_is : text_in (value_for ListenAddresses full) ≡ l = ap text_in (low_value ListenAddresses (omega arith)) ∙ ap (λ (k : Config). k.listen) one.same in
      let port_is : number_in (value_for Port full) ≡ p = ap number_in (low_value Port (omega arith)) ∙ ap (λ (k : Config). k.port) one.same in
      let children_is : number_in (value_for Children full) ≡ c = ap number_in (low_value Children (omega arith)) ∙ ap (λ (k : Config). k.children) one.same in
      let balance_is : truth_in (value_for LoadBalance full) ≡ b = ap truth_in (low_value LoadBalance (omega arith)) ∙ ap (λ (k : Config). k.balance) one.same in
      let statement_is : truth_in (value_for StatementBalance full) ≡ s = ap truth_in (low_value StatementBalance (omega arith)) ∙ ap (λ (k : Config). k.per_statement) one.same in
      let sessions_is : sessions_of full ≡ w = sessions_as_behind ∙ sessions_stand w back (λ q small. logins_silent q users password small) in
      let users_is : map (user_of full) (users_in full) ≡ users =
      map_same (user_of full) (user_of back) user_is (users_in full)
      ∙ (ap (λ (n : ℕ). map (user_of back) (take n all_users)) users_are ∙ two.users_are) in
      let password_is : text_there (value_for BackendPassword full) ≡ password = ap text_there (high_value BackendPassword (omega arith)) ∙ two.password_is in
      λ i. record {
        nodes = nodes_is i;
        listen = listen_is i;
        port = port_is i;
        children = children_is i;
        balance = balance_is i;
        per_statement = statement_is i;
        sessions = sessions_is i;
        users = users_is i;
        backend_password = password_is i;
      }

-- ---- the text

rest_parts : (a b c d e rest : List ℕ) → (a ++ (b ++ (c ++ (d ++ e)))) ++ rest ≡ a ++ (b ++ (c ++ (d ++ (e ++ rest))))
rest_parts a b c d e rest = simp append_assoc

rest_wrote : (config : Config) (rest : List ℕ) (said : List Setting) → IsAllowed config → Say (lines rest) said
    → Say (lines (rest_text config ++ rest)) (behind_nodes config.listen config.port config.children config.balance config.per_statement said)
rest_wrote config rest said ok more =
    let a : List ℕ = string_line (codes "listen_addresses") config.listen in
    let b : List ℕ = number_line (codes "port") config.port in
    let c : List ℕ = number_line (codes "num_init_children") config.children in
    let d : List ℕ = truth_line (codes "load_balance_mode") config.balance in
    let e : List ℕ = truth_line (codes "statement_level_load_balance") config.per_statement in
    subst (λ (t : List ℕ). Say (lines t) (behind_nodes config.listen config.port config.children config.balance config.per_statement said)) (sym (rest_parts a b c d e rest))
    (string_wrote _ config.listen ListenAddresses _ _ listen_name ok.listen refl
    (number_wrote _ config.port Port _ _ server_port_name (let n = ok.port_to in omega arith) (in_range 1 65535 config.port ok.port_from ok.port_to)
    (number_wrote _ config.children Children _ _ children_name (let n = ok.children_to in omega arith) (in_range 1 64 config.children ok.children_from ok.children_to)
    (truth_wrote _ config.balance LoadBalance _ _ balance_name refl
    (truth_wrote _ config.per_statement StatementBalance rest said statement_name refl more)))))

mode_string : IsString (codes "snapshot_isolation")
unfolding is_utf8 chars encode_utf8
mode_string = (refl, by_test Inner (codes "snapshot_isolation") refl, by_test InLine (codes "snapshot_isolation") refl)

pub written_says : (config : Config) → IsAllowed config → IsConfiguration (text_of config) config
written_says config ok =
    let one = whole config.nodes config.listen config.port config.children config.balance config.per_statement ok.some_node ok.few_nodes in
    let two = are_logins config.users config.backend_password ok.few_users in
    let ends : List ℕ = users_text 0 config.users ++ password_text config.backend_password in
    let sessions : List Setting = session_settings config.sessions (logins config.users config.backend_password) in
    let last : List Setting = behind_nodes config.listen config.port config.children config.balance config.per_statement sessions in
    let ending : Say (lines ends) (logins config.users config.backend_password) =
    users_wrote 0 all_users config.users (password_text config.backend_password) (password_settings config.backend_password)
    (refl, (refl, (refl, (refl, (refl, (refl, (refl, (refl, (refl, (refl, (refl, (refl, (refl, (refl, (refl, (refl, tt)))))))))))))))) ok.few_users ok.users
    (password_wrote config.backend_password ok.password) in
    record {
      said = settings config.nodes config.listen config.port config.children config.balance config.per_statement sessions;
      lines_say = string_wrote (codes "backend_clustering_mode") (codes "snapshot_isolation") ClusteringMode (nodes_text 0 config.nodes ++ (rest_text config ++ (sessions_text config.sessions ++ ends)))
          (node_settings all_backends config.nodes last) mode_name mode_string refl
          (nodes_wrote 0 all_backends config.nodes (rest_text config ++ (sessions_text config.sessions ++ ends)) last (refl, (refl, (refl, (refl, (refl, (refl, (refl, (refl, tt)))))))) ok.few_nodes ok.nodes
          (rest_wrote config (sessions_text config.sessions ++ ends) sessions ok
          (sessions_wrote config.sessions ends (logins config.users config.backend_password) ok.sessions ending)));
      complete = nothing_missing config.nodes config.listen config.port config.children config.balance config.per_statement config.sessions config.users config.backend_password one.complete two.complete;
      is = sym (is_config config.nodes config.listen config.port config.children config.balance config.per_statement config.sessions config.users config.backend_password one two);
    }

pub says_if : {E : Type 0} (config : Config) (r : Result (List ℕ) E) → IsAllowed config → IfOk r (λ text. text ≡ text_of config) → IfOk r (λ text. IsConfiguration text config)
says_if config (Ok text) ok e = subst (λ (t : List ℕ). IsConfiguration t config) (sym e) (written_says config ok)
says_if config (Err f) ok e = tt
