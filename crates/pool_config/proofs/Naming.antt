-- A name is a parameter's exactly where the table gives it that name.
use Rattle.std.proofs.Common.{◌≡◌, ◌≤◌, ◌+◌, ◌-◌, ◌==◌, ◌&&◌, ◌↔◌, ℕ, zero, suc, Bool, true, false, List, [], ◌∷◌, ◌++◌, Option, Some, None, option_map, refl, ap, ap₂, take-append-drop, sym, ◌∙◌, subst, length, take, drop, slice_index, slice_get, codes, if◌then◌else◌, arith, nat_lt, bytes_eq}
use Rattle.std.specs.Char.{is_ascii_digit}
use Rattle.std.proofs.lemmas.Bool.Decides.{nat_tests}
use Rattle.std.proofs.lemmas.Slice.Eq.{bytes_eq-Decides}
use Rattle.pool_base.specs.declared.backend_id.BackendId.{BackendId}
use Rattle.pool_config.specs.Table.{all_backends, numbered, name_of}
use Rattle.pool_config.specs.Names.{single_named, of_stem, of_backend, by_digit, numbered_named, or_numbered, user_named, or_of_user, parameter_named}
use Rattle.pool_config.specs.declared.parameter.Parameter.{Parameter}
use Rattle.pool_config.specs.declared.parameter.Parameter.TheVariants.{ClusteringMode, Hostname, BackendPort, Weight, ListenAddresses, Port, Children, LoadBalance, StatementBalance, InsertLock, StopOnMismatch, FailoverOnMismatch, ServerTimeout, AuthenticationTimeout, ClientIdleLimit, LogConnections, LogDisconnections, ScramUser, ScramVerifier, BackendPassword}
use Rattle.pool_config.specs.Users.{all_users, digits_of, one_digit, second_digit, user_at}
use Rattle.pool_config.specs.declared.user.UserNumber.{UserNumber}
use Rattle.pool_config.proofs.UserPrinting.{user_known, verifier_known}
use Rattle.pool_config.proofs.Printing.{host_known, port_known, weight_known}

abbrev parameter_or : Parameter → Option Parameter → Parameter
parameter_or d None = d
parameter_or d (Some p) = p

-- a word that is the key is the parameter's, and another is left to what follows
pick : (Is : Parameter → Type 0) (word key : List ℕ) (q p : Parameter) (rest : Option Parameter) → (word ≡ key → Is q)
    → (rest ≡ Some p → Is p) → (if bytes_eq word key then Some q else rest) ≡ Some p → Is p
pick Is word key q p rest here there e = go (bytes_eq word key) refl e
  where
    go : (t : Bool) → bytes_eq word key ≡ t → (if t then Some q else rest) ≡ Some p → Is p
    go true is k = subst Is (ap (parameter_or q) k) (here ((bytes_eq-Decides word key).0 is))
    go false is k = there k

single_is : (name : List ℕ) (p : Parameter) → single_named name ≡ Some p → name ≡ name_of p
single_is name p e =
    let Is : Parameter → Type 0 = λ q. name ≡ name_of q in
    pick Is name (codes "backend_clustering_mode") ClusteringMode p _ (λ k. k)
    (pick Is name (codes "listen_addresses") ListenAddresses p _ (λ k. k)
    (pick Is name (codes "port") Port p _ (λ k. k)
    (pick Is name (codes "num_init_children") Children p _ (λ k. k)
    (pick Is name (codes "load_balance_mode") LoadBalance p _ (λ k. k)
    (pick Is name (codes "statement_level_load_balance") StatementBalance p _ (λ k. k)
    (pick Is name (codes "insert_lock") InsertLock p _ (λ k. k)
    (pick Is name (codes "replication_stop_on_mismatch") StopOnMismatch p _ (λ k. k)
    (pick Is name (codes "failover_if_affected_tuples_mismatch") FailoverOnMismatch p _ (λ k. k)
    (pick Is name (codes "server_timeout") ServerTimeout p _ (λ k. k)
    (pick Is name (codes "authentication_timeout") AuthenticationTimeout p _ (λ k. k)
    (pick Is name (codes "client_idle_limit") ClientIdleLimit p _ (λ k. k)
    (pick Is name (codes "log_connections") LogConnections p _ (λ k. k)
    (pick Is name (codes "log_disconnections") LogDisconnections p _ (λ k. k)
    (pick Is name (codes "backend_password") BackendPassword p None (λ k. k) (λ k. absurd (cc)))))))))))))))) e

-- ---- a stem and a digit

split_last : (name : List ℕ) (n : ℕ) → length name ≡ n + 1 → take n name ++ slice_index (drop n name) 0 ∷ [] ≡ name
split_last [] n e = absurd (omega arith)
split_last (x ∷ []) zero e = refl
split_last (x ∷ y ∷ rest) zero e = absurd (omega arith)
split_last (x ∷ rest) (suc n) e = ap (λ (xs : List ℕ). x ∷ xs) (split_last rest n (omega arith))

abbrev number_or : ℕ → Option BackendId → ℕ
number_or d None = d
number_or d (Some b) = b.number

number_at : (n : ℕ) (b : BackendId) → slice_get all_backends n ≡ Some b → b.number ≡ n
number_at zero b e = sym (ap (number_or 0) e)
number_at (suc zero) b e = sym (ap (number_or 1) e)
number_at (suc (suc zero)) b e = sym (ap (number_or 2) e)
number_at (suc (suc (suc zero))) b e = sym (ap (number_or 3) e)
number_at (suc (suc (suc (suc zero)))) b e = sym (ap (number_or 4) e)
number_at (suc (suc (suc (suc (suc zero))))) b e = sym (ap (number_or 5) e)
number_at (suc (suc (suc (suc (suc (suc zero)))))) b e = sym (ap (number_or 6) e)
number_at (suc (suc (suc (suc (suc (suc (suc zero))))))) b e = sym (ap (number_or 7) e)
number_at (suc (suc (suc (suc (suc (suc (suc (suc n)))))))) b e = absurd (cc)

stem_is : (name stem : List ℕ) (b : BackendId) (p : Parameter) → name ≡ stem ++ (48 + b.number) ∷ [] → of_stem stem b ≡ Some p → name ≡ name_of p
stem_is name stem b p parts e =
    let Is : Parameter → Type 0 = λ q. name ≡ name_of q in
    let with : (key : List ℕ) → stem ≡ key → name ≡ numbered key b = λ key k. parts ∙ ap (λ (s : List ℕ). s ++ (48 + b.number) ∷ []) k in
    pick Is stem (codes "backend_hostname") (Hostname b) p _ (with (codes "backend_hostname"))
    (pick Is stem (codes "backend_port") (BackendPort b) p _ (with (codes "backend_port"))
    (pick Is stem (codes "backend_weight") (Weight b) p None (with (codes "backend_weight")) (λ k. absurd (cc)))) e

digit_is : (name stem : List ℕ) (digit : ℕ) (p : Parameter) → stem ++ digit ∷ [] ≡ name → by_digit stem digit ≡ Some p → name ≡ name_of p
digit_is name stem digit p parts e = go (nat_lt digit 48) refl e
  where
    at : (o : Option BackendId) → slice_get all_backends (digit - 48) ≡ o → nat_lt digit 48 ≡ false → of_backend stem o ≡ Some p → name ≡ name_of p
    at None is low k = absurd (cc)
    at (Some b) is low k =
        let number : b.number ≡ digit - 48 = number_at (digit - 48) b is in
        let same : digit ≡ 48 + b.number = grind (arith, nat_tests) in
        stem_is name stem b p (sym parts ∙ ap (λ (d : ℕ). stem ++ d ∷ []) same) k

    go : (t : Bool) → nat_lt digit 48 ≡ t → (if t then None else of_backend stem (slice_get all_backends (digit - 48))) ≡ Some p → name ≡ name_of p
    go true low k = absurd (cc)
    go false low k = at (slice_get all_backends (digit - 48)) refl low k

numbered_named_is : (name : List ℕ) (p : Parameter) → numbered_named name ≡ Some p → name ≡ name_of p
numbered_named_is name p e = go (length name == 0) refl e
  where
    go : (t : Bool) → (length name == 0) ≡ t
        → (if t then None else by_digit (take (length name - 1) name) (slice_index (drop (length name - 1) name) 0)) ≡ Some p → name ≡ name_of p
    go true long k = absurd (cc)
    go false long k =
        let some : 1 ≤ length name = grind (arith, nat_tests) in
        digit_is name (take (length name - 1) name) (slice_index (drop (length name - 1) name) 0) p (split_last name (length name - 1) (omega arith)) k

-- ---- a stem and the digits of a user

abbrev user_number_or : ℕ → Option UserNumber → ℕ
user_number_or d None = d
user_number_or d (Some u) = u.number

user_number_at : (n : ℕ) (u : UserNumber) → slice_get all_users n ≡ Some u → u.number ≡ n
user_number_at zero u e = sym (ap (user_number_or 0) e)
user_number_at (suc zero) u e = sym (ap (user_number_or 1) e)
user_number_at (suc (suc zero)) u e = sym (ap (user_number_or 2) e)
user_number_at (suc (suc (suc zero))) u e = sym (ap (user_number_or 3) e)
user_number_at (suc (suc (suc (suc zero)))) u e = sym (ap (user_number_or 4) e)
user_number_at (suc (suc (suc (suc (suc zero))))) u e = sym (ap (user_number_or 5) e)
user_number_at (suc (suc (suc (suc (suc (suc zero)))))) u e = sym (ap (user_number_or 6) e)
user_number_at (suc (suc (suc (suc (suc (suc (suc zero))))))) u e = sym (ap (user_number_or 7) e)
user_number_at (suc (suc (suc (suc (suc (suc (suc (suc zero)))))))) u e = sym (ap (user_number_or 8) e)
user_number_at (suc (suc (suc (suc (suc (suc (suc (suc (suc zero))))))))) u e = sym (ap (user_number_or 9) e)
user_number_at (suc (suc (suc (suc (suc (suc (suc (suc (suc (suc zero)))))))))) u e = sym (ap (user_number_or 10) e)
user_number_at (suc (suc (suc (suc (suc (suc (suc (suc (suc (suc (suc zero))))))))))) u e = sym (ap (user_number_or 11) e)
user_number_at (suc (suc (suc (suc (suc (suc (suc (suc (suc (suc (suc (suc zero)))))))))))) u e = sym (ap (user_number_or 12) e)
user_number_at (suc (suc (suc (suc (suc (suc (suc (suc (suc (suc (suc (suc (suc zero))))))))))))) u e = sym (ap (user_number_or 13) e)
user_number_at (suc (suc (suc (suc (suc (suc (suc (suc (suc (suc (suc (suc (suc (suc zero)))))))))))))) u e = sym (ap (user_number_or 14) e)
user_number_at (suc (suc (suc (suc (suc (suc (suc (suc (suc (suc (suc (suc (suc (suc (suc zero))))))))))))))) u e = sym (ap (user_number_or 15) e)
user_number_at (suc (suc (suc (suc (suc (suc (suc (suc (suc (suc (suc (suc (suc (suc (suc (suc n)))))))))))))))) u e = absurd (cc)

one_digit_is : (d : ℕ) (u : UserNumber) → one_digit d ≡ Some u → digits_of u.number ≡ d ∷ []
one_digit_is d u e = go (is_ascii_digit d) refl e
  where
    go : (t : Bool) → is_ascii_digit d ≡ t → (if t then slice_get all_users (d - 48) else None) ≡ Some u → digits_of u.number ≡ d ∷ []
    go true digit k =
        let number : u.number ≡ d - 48 = user_number_at (d - 48) u k in
        let few : nat_lt u.number 10 ≡ true = grind (arith, nat_tests) in
        let same : 48 + u.number ≡ d = grind (arith, nat_tests) in
        ap (λ (t : Bool). if t then (48 + u.number) ∷ [] else 49 ∷ (38 + u.number) ∷ []) few ∙ ap (λ (x : ℕ). x ∷ []) same
    go false digit k = absurd (cc)

second_digit_is : (d : ℕ) (u : UserNumber) → second_digit d ≡ Some u → digits_of u.number ≡ 49 ∷ d ∷ []
second_digit_is d u e = go (is_ascii_digit d) refl e
  where
    go : (t : Bool) → is_ascii_digit d ≡ t → (if t then slice_get all_users (d - 48 + 10) else None) ≡ Some u → digits_of u.number ≡ 49 ∷ d ∷ []
    go true digit k =
        let number : u.number ≡ d - 48 + 10 = user_number_at (d - 48 + 10) u k in
        let many : nat_lt u.number 10 ≡ false = grind (arith, nat_tests) in
        let same : 38 + u.number ≡ d = grind (arith, nat_tests) in
        ap (λ (t : Bool). if t then (48 + u.number) ∷ [] else 49 ∷ (38 + u.number) ∷ []) many ∙ ap (λ (x : ℕ). 49 ∷ x ∷ []) same
    go false digit k = absurd (cc)

user_at_is : (digits : List ℕ) (u : UserNumber) → user_at digits ≡ Some u → digits ≡ digits_of u.number
user_at_is [] u e = absurd (cc)
user_at_is (d ∷ []) u e = sym (one_digit_is d u e)
user_at_is (d ∷ x ∷ []) u e = go (d == 49) refl e
  where
    go : (t : Bool) → (d == 49) ≡ t → (if t then second_digit x else None) ≡ Some u → d ∷ x ∷ [] ≡ digits_of u.number
    go true is k =
        let one : d ≡ 49 = grind (arith, nat_tests) in
        ap (λ (y : ℕ). y ∷ x ∷ []) one ∙ sym (second_digit_is x u k)
    go false is k = absurd (cc)
user_at_is (d ∷ x ∷ y ∷ rest) u e =
    let one : (length (d ∷ x ∷ y ∷ rest) == 1) ≡ false = grind (arith, nat_tests) in
    let two : (length (d ∷ x ∷ y ∷ rest) == 2) ≡ false = grind (arith, nat_tests) in
    let none : user_at (d ∷ x ∷ y ∷ rest) ≡ None =
    ap₂ (λ (s t : Bool). if s then one_digit d else (if t && (d == 49) then second_digit x else None)) one two in
    absurd (cc)

stem_of_user : (name key : List ℕ) (n : ℕ) (make : UserNumber → Parameter) (p : Parameter) (o : Option UserNumber) → ((u : UserNumber) → o ≡ Some u → drop n name ≡ digits_of u.number)
    → take n name ≡ key → ((u : UserNumber) → name_of (make u) ≡ key ++ digits_of u.number) → option_map make o ≡ Some p → name ≡ name_of p
stem_of_user name key n make p None digits front named e = absurd (cc)
stem_of_user name key n make p (Some u) digits front named e =
    let whole : name ≡ key ++ digits_of u.number = sym (take-append-drop n name) ∙ ap₂ (λ (a b : List ℕ). a ++ b) front (digits u refl) in
    (whole ∙ sym (named u)) ∙ ap name_of (ap (parameter_or p) e)

user_named_is : (name : List ℕ) (p : Parameter) → user_named name ≡ Some p → name ≡ name_of p
user_named_is name p e = first (bytes_eq (take 10 name) (codes "scram_user")) refl e
  where
    second : (t : Bool) → bytes_eq (take 14 name) (codes "scram_verifier") ≡ t → (if t then option_map ScramVerifier (user_at (drop 14 name)) else None) ≡ Some p → name ≡ name_of p
    second true is k =
        stem_of_user name (codes "scram_verifier") 14 ScramVerifier p (user_at (drop 14 name)) (user_at_is (drop 14 name)) ((bytes_eq-Decides (take 14 name) (codes "scram_verifier")).0 is) (λ u. refl) k
    second false is k = absurd (cc)

    first : (t : Bool) → bytes_eq (take 10 name) (codes "scram_user") ≡ t
        → (if t then option_map ScramUser (user_at (drop 10 name)) else (if bytes_eq (take 14 name) (codes "scram_verifier") then option_map ScramVerifier (user_at (drop 14 name)) else None)) ≡ Some p → name ≡ name_of p
    first true is k =
        stem_of_user name (codes "scram_user") 10 ScramUser p (user_at (drop 10 name)) (user_at_is (drop 10 name)) ((bytes_eq-Decides (take 10 name) (codes "scram_user")).0 is) (λ u. refl) k
    first false is k = second (bytes_eq (take 14 name) (codes "scram_verifier")) refl k

-- ---- both ways

named_is : (name : List ℕ) (p : Parameter) → parameter_named name ≡ Some p → name ≡ name_of p
unfolding parameter_named
named_is name p e = single (single_named name) refl e
  where
    numbered_one : (o : Option Parameter) → numbered_named name ≡ o → or_of_user o name ≡ Some p → name ≡ name_of p
    numbered_one None is k = user_named_is name p k
    numbered_one (Some q) is k = numbered_named_is name p (is ∙ k)

    single : (o : Option Parameter) → single_named name ≡ o → or_of_user (or_numbered o name) name ≡ Some p → name ≡ name_of p
    single None is k = numbered_one (numbered_named name) refl k
    single (Some q) is k = single_is name p (is ∙ k)

known : (p : Parameter) → parameter_named (name_of p) ≡ Some p
unfolding parameter_named
known ClusteringMode = refl
known (Hostname b) = host_known b
known (BackendPort b) = port_known b
known (Weight b) = weight_known b
known ListenAddresses = refl
known Port = refl
known Children = refl
known LoadBalance = refl
known StatementBalance = refl
known InsertLock = refl
known StopOnMismatch = refl
known FailoverOnMismatch = refl
known (ScramUser u) = user_known u
known (ScramVerifier u) = verifier_known u
known ServerTimeout = refl
known AuthenticationTimeout = refl
known ClientIdleLimit = refl
known LogConnections = refl
known LogDisconnections = refl
known BackendPassword = refl

-- the name is the parameter's exactly where the table gives it that name
pub named_exactly : (name : List ℕ) (p : Parameter) → (parameter_named name ≡ Some p) ↔ (name ≡ name_of p)
named_exactly name p = ((named_is name p), (λ e. ap parameter_named e ∙ known p))
