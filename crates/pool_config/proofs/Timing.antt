-- What stands in settings with those of the sessions before others, and the lines of these.
use Rattle.std.proofs.Common.{◌≡◌, ◌≤◌, ◌<◌, ◌==◌, ◌&&◌, ℕ, Bool, true, false, List, [], ◌∷◌, ◌++◌, Option, Some, None, refl, ap, sym, ◌∙◌, subst, codes, if◌then◌else◌, append_assoc, arith, nat_le}
use Rattle.std.proofs.lemmas.Bool.Decides.{nat_tests}
use Rattle.pool_config.specs.Bytes.{lines}
use Rattle.pool_config.specs.Table.{kind_of, takes, place_of}
use Rattle.pool_config.specs.Settings.{Say}
use Rattle.pool_config.specs.Configuration.{standing, said_by, later, value_for, number_in, truth_in, count_of, user_count_of, sessions_of, AreAllowedSessions}
use Rattle.pool_config.specs.Printed.{number_unless, line_if_on, sessions_text, number_line, truth_line}
use Rattle.pool_config.specs.declared.parameter.Parameter.{Parameter}
use Rattle.pool_config.specs.declared.parameter.Parameter.TheVariants.{ServerTimeout, AuthenticationTimeout, ClientIdleLimit, LogConnections, LogDisconnections}
use Rattle.pool_config.specs.declared.value.Value.{Value}
use Rattle.pool_config.specs.declared.value.Value.TheVariants.{Number, Truth}
use Rattle.pool_config.specs.declared.assemble.Setting.{Setting}
use Rattle.pool_config.specs.declared.config.Sessions.{Sessions}
use Rattle.pool_config.proofs.Logins.{passed}
use Rattle.pool_config.proofs.Printing.{Names, number_wrote, truth_wrote, in_range, server_timeout_name, authentication_name, idle_name, connections_name, disconnections_name}

-- ---- one setting, which is there where it is not at its default

abbrev pub number_setting : Parameter → ℕ → ℕ → List Setting → List Setting
number_setting p default n said = if n == default then said else record { parameter = p; value = Number n } ∷ said

abbrev pub switch_setting : Parameter → Bool → List Setting → List Setting
switch_setting p true said = record { parameter = p; value = Truth true } ∷ said
switch_setting p false said = said

number_passed : (q p : Parameter) (default n : ℕ) (said : List Setting) → (place_of p ≡ place_of q → ⊥) → standing q (number_setting p default n said) ≡ standing q said
number_passed q p default n said other = go (n == default)
  where
    go : (t : Bool) → standing q (if t then said else record { parameter = p; value = Number n } ∷ said) ≡ standing q said
    go true = refl
    go false = passed q (record { parameter = p; value = Number n }) said other

switch_passed : (q p : Parameter) (on : Bool) (said : List Setting) → (place_of p ≡ place_of q → ⊥) → standing q (switch_setting p on said) ≡ standing q said
switch_passed q p true said other = passed q (record { parameter = p; value = Truth true }) said other
switch_passed q p false said other = refl

-- a setting of the parameter itself, with none behind it
own_stands : (p : Parameter) (v : Value) (said : List Setting) → standing p said ≡ None → standing p (record { parameter = p; value = v } ∷ said) ≡ Some v
own_stands p v said none =
    let same : (place_of p == place_of p) ≡ true = grind (arith, nat_tests) in
    ap (λ (o : Option Value). later o (if place_of p == place_of p then Some v else None)) none ∙ ap (λ (t : Bool). if t then Some v else None) same

number_stands : (p : Parameter) (default n : ℕ) (said : List Setting) → standing p said ≡ None
    → number_in (later (standing p (number_setting p default n said)) (Some (Number default))) ≡ n
number_stands p default n said none = go (n == default) refl
  where
    go : (t : Bool) → (n == default) ≡ t
        → number_in (later (standing p (if t then said else record { parameter = p; value = Number n } ∷ said)) (Some (Number default))) ≡ n
    go true e =
        let same : default ≡ n = grind (arith, nat_tests) in
        ap (λ (o : Option Value). number_in (later o (Some (Number default)))) none ∙ same
    go false e = ap (λ (o : Option Value). number_in (later o (Some (Number default)))) (own_stands p (Number n) said none)

switch_stands : (p : Parameter) (on : Bool) (said : List Setting) → standing p said ≡ None
    → truth_in (later (standing p (switch_setting p on said)) (Some (Truth false))) ≡ on
switch_stands p true said none = ap (λ (o : Option Value). truth_in (later o (Some (Truth false)))) (own_stands p (Truth true) said none)
switch_stands p false said none = ap (λ (o : Option Value). truth_in (later o (Some (Truth false)))) none

number_counts : (p : Parameter) (default n : ℕ) (said : List Setting) → count_of (record { parameter = p; value = Number n } ∷ said) ≡ count_of said
    → count_of (number_setting p default n said) ≡ count_of said
number_counts p default n said same = go (n == default)
  where
    go : (t : Bool) → count_of (if t then said else record { parameter = p; value = Number n } ∷ said) ≡ count_of said
    go true = refl
    go false = same

number_users : (p : Parameter) (default n : ℕ) (said : List Setting) → user_count_of (record { parameter = p; value = Number n } ∷ said) ≡ user_count_of said
    → user_count_of (number_setting p default n said) ≡ user_count_of said
number_users p default n said same = go (n == default)
  where
    go : (t : Bool) → user_count_of (if t then said else record { parameter = p; value = Number n } ∷ said) ≡ user_count_of said
    go true = refl
    go false = same

-- ---- those of the sessions, with others behind them

differ : (a b : ℕ) → (a == b) ≡ false → a ≡ b → ⊥
differ a b apart e = grind (arith, nat_tests)

abbrev switches : Sessions → List Setting → List Setting
switches w said = switch_setting LogConnections w.log_connections (switch_setting LogDisconnections w.log_disconnections said)

abbrev idle_on : Sessions → List Setting → List Setting
idle_on w said = number_setting ClientIdleLimit 0 w.client_idle_limit (switches w said)

abbrev waits_on : Sessions → List Setting → List Setting
waits_on w said = number_setting AuthenticationTimeout 30 w.authentication_timeout (idle_on w said)

abbrev pub session_settings : Sessions → List Setting → List Setting
session_settings w said = number_setting ServerTimeout 10 w.server_timeout (waits_on w said)

-- another parameter stands as behind them
pub sessions_passed : (q : Parameter) (w : Sessions) (said : List Setting) → (33 ≤ place_of q → place_of q < 38 → ⊥) → standing q (session_settings w said) ≡ standing q said
sessions_passed q w said other =
    number_passed q ServerTimeout 10 w.server_timeout (waits_on w said) (λ e. other (omega arith) (omega arith))
    ∙ (number_passed q AuthenticationTimeout 30 w.authentication_timeout (idle_on w said) (λ e. other (omega arith) (omega arith))
    ∙ (number_passed q ClientIdleLimit 0 w.client_idle_limit (switches w said) (λ e. other (omega arith) (omega arith))
    ∙ (switch_passed q LogConnections w.log_connections (switch_setting LogDisconnections w.log_disconnections said) (λ e. other (omega arith) (omega arith))
    ∙ switch_passed q LogDisconnections w.log_disconnections said (λ e. other (omega arith) (omega arith)))))

-- and each of them as it was written, where nothing behind them speaks of it
pub sessions_stand : (w : Sessions) (said : List Setting) → ((q : Parameter) → place_of q < 38 → standing q said ≡ None) → sessions_of (session_settings w said) ≡ w
sessions_stand w said silent =
    let off : List Setting = switch_setting LogDisconnections w.log_disconnections said in
    let on : List Setting = switches w said in
    let idle : List Setting = idle_on w said in
    let waits : List Setting = waits_on w said in
    let one : standing ServerTimeout waits ≡ None =
    number_passed ServerTimeout AuthenticationTimeout 30 w.authentication_timeout idle (differ 34 33 refl)
    ∙ (number_passed ServerTimeout ClientIdleLimit 0 w.client_idle_limit on (differ 35 33 refl)
    ∙ (switch_passed ServerTimeout LogConnections w.log_connections off (differ 36 33 refl)
    ∙ (switch_passed ServerTimeout LogDisconnections w.log_disconnections said (differ 37 33 refl) ∙ silent ServerTimeout (omega arith)))) in
    let two : standing AuthenticationTimeout idle ≡ None =
    number_passed AuthenticationTimeout ClientIdleLimit 0 w.client_idle_limit on (differ 35 34 refl)
    ∙ (switch_passed AuthenticationTimeout LogConnections w.log_connections off (differ 36 34 refl)
    ∙ (switch_passed AuthenticationTimeout LogDisconnections w.log_disconnections said (differ 37 34 refl) ∙ silent AuthenticationTimeout (omega arith))) in
    let three : standing ClientIdleLimit on ≡ None =
    switch_passed ClientIdleLimit LogConnections w.log_connections off (differ 36 35 refl)
    ∙ (switch_passed ClientIdleLimit LogDisconnections w.log_disconnections said (differ 37 35 refl) ∙ silent ClientIdleLimit (omega arith)) in
    let four : standing LogConnections off ≡ None = switch_passed LogConnections LogDisconnections w.log_disconnections said (differ 37 36 refl) ∙ silent LogConnections (omega arith) in
    let server : number_in (value_for ServerTimeout (session_settings w said)) ≡ w.server_timeout = number_stands ServerTimeout 10 w.server_timeout waits one in
    let authentication : number_in (value_for AuthenticationTimeout (session_settings w said)) ≡ w.authentication_timeout =
    ap (λ (o : Option Value). number_in (later o (Some (Number 30)))) (number_passed AuthenticationTimeout ServerTimeout 10 w.server_timeout waits (differ 33 34 refl))
    ∙ number_stands AuthenticationTimeout 30 w.authentication_timeout idle two in
    let limit : number_in (value_for ClientIdleLimit (session_settings w said)) ≡ w.client_idle_limit =
    ap (λ (o : Option Value). number_in (later o (Some (Number 0)))) (number_passed ClientIdleLimit ServerTimeout 10 w.server_timeout waits (differ 33 35 refl)
    ∙ number_passed ClientIdleLimit AuthenticationTimeout 30 w.authentication_timeout idle (differ 34 35 refl))
    ∙ number_stands ClientIdleLimit 0 w.client_idle_limit on three in
    let connections : truth_in (value_for LogConnections (session_settings w said)) ≡ w.log_connections =
    ap (λ (o : Option Value). truth_in (later o (Some (Truth false)))) (number_passed LogConnections ServerTimeout 10 w.server_timeout waits (differ 33 36 refl)
    ∙ (number_passed LogConnections AuthenticationTimeout 30 w.authentication_timeout idle (differ 34 36 refl)
    ∙ number_passed LogConnections ClientIdleLimit 0 w.client_idle_limit on (differ 35 36 refl)))
    ∙ switch_stands LogConnections w.log_connections off four in
    let disconnections : truth_in (value_for LogDisconnections (session_settings w said)) ≡ w.log_disconnections =
    ap (λ (o : Option Value). truth_in (later o (Some (Truth false)))) (number_passed LogDisconnections ServerTimeout 10 w.server_timeout waits (differ 33 37 refl)
    ∙ (number_passed LogDisconnections AuthenticationTimeout 30 w.authentication_timeout idle (differ 34 37 refl)
    ∙ (number_passed LogDisconnections ClientIdleLimit 0 w.client_idle_limit on (differ 35 37 refl)
    ∙ switch_passed LogDisconnections LogConnections w.log_connections off (differ 36 37 refl))))
    ∙ switch_stands LogDisconnections w.log_disconnections said (silent LogDisconnections (omega arith)) in
    λ i. record {
      server_timeout = server i;
      authentication_timeout = authentication i;
      client_idle_limit = limit i;
      log_connections = connections i;
      log_disconnections = disconnections i;
    }

-- ---- they are of no backend and of no user

switch_counts : (p : Parameter) (on : Bool) (said : List Setting) → count_of (record { parameter = p; value = Truth true } ∷ said) ≡ count_of said
    → count_of (switch_setting p on said) ≡ count_of said
switch_counts p true said same = same
switch_counts p false said same = refl

switch_users : (p : Parameter) (on : Bool) (said : List Setting) → user_count_of (record { parameter = p; value = Truth true } ∷ said) ≡ user_count_of said
    → user_count_of (switch_setting p on said) ≡ user_count_of said
switch_users p true said same = same
switch_users p false said same = refl

pub sessions_count : (w : Sessions) (said : List Setting) → count_of (session_settings w said) ≡ count_of said
sessions_count w said =
    number_counts ServerTimeout 10 w.server_timeout (waits_on w said) (omega arith)
    ∙ (number_counts AuthenticationTimeout 30 w.authentication_timeout (idle_on w said) (omega arith)
    ∙ (number_counts ClientIdleLimit 0 w.client_idle_limit (switches w said) (omega arith)
    ∙ (switch_counts LogConnections w.log_connections (switch_setting LogDisconnections w.log_disconnections said) (omega arith)
    ∙ switch_counts LogDisconnections w.log_disconnections said (omega arith))))

pub sessions_users : (w : Sessions) (said : List Setting) → user_count_of (session_settings w said) ≡ user_count_of said
sessions_users w said =
    number_users ServerTimeout 10 w.server_timeout (waits_on w said) (omega arith)
    ∙ (number_users AuthenticationTimeout 30 w.authentication_timeout (idle_on w said) (omega arith)
    ∙ (number_users ClientIdleLimit 0 w.client_idle_limit (switches w said) (omega arith)
    ∙ (switch_users LogConnections w.log_connections (switch_setting LogDisconnections w.log_disconnections said) (omega arith)
    ∙ switch_users LogDisconnections w.log_disconnections said (omega arith))))

-- ---- their lines

unless_wrote : (name : List ℕ) (p : Parameter) (default n : ℕ) (rest : List ℕ) (said : List Setting) → Names name p → n ≤ 86400 → takes (kind_of p) (Number n) ≡ true
    → Say (lines rest) said → Say (lines (number_unless name default n ++ rest)) (number_setting p default n said)
unless_wrote name p default n rest said names small taken more = go (n == default)
  where
    go : (t : Bool) → Say (lines ((if t then [] else number_line name n) ++ rest)) (if t then said else record { parameter = p; value = Number n } ∷ said)
    go true = more
    go false = number_wrote name n p rest said names small taken more

if_on_wrote : (name : List ℕ) (p : Parameter) (on : Bool) (rest : List ℕ) (said : List Setting) → Names name p → takes (kind_of p) (Truth true) ≡ true
    → Say (lines rest) said → Say (lines (line_if_on name on ++ rest)) (switch_setting p on said)
if_on_wrote name p true rest said names taken more = truth_wrote name true p rest said names taken more
if_on_wrote name p false rest said names taken more = more

five_parts : (a b c d e rest : List ℕ) → (a ++ (b ++ (c ++ (d ++ e)))) ++ rest ≡ a ++ (b ++ (c ++ (d ++ (e ++ rest))))
five_parts a b c d e rest = simp append_assoc

pub sessions_wrote : (w : Sessions) (rest : List ℕ) (said : List Setting) → AreAllowedSessions w → Say (lines rest) said
    → Say (lines (sessions_text w ++ rest)) (session_settings w said)
sessions_wrote w rest said ok more =
    let a : List ℕ = number_unless (codes "server_timeout") 10 w.server_timeout in
    let b : List ℕ = number_unless (codes "authentication_timeout") 30 w.authentication_timeout in
    let c : List ℕ = number_unless (codes "client_idle_limit") 0 w.client_idle_limit in
    let d : List ℕ = line_if_on (codes "log_connections") w.log_connections in
    let e : List ℕ = line_if_on (codes "log_disconnections") w.log_disconnections in
    subst (λ (t : List ℕ). Say (lines t) (session_settings w said)) (sym (five_parts a b c d e rest))
    (unless_wrote (codes "server_timeout") ServerTimeout 10 w.server_timeout _ (waits_on w said) server_timeout_name (let n = ok.server_to in omega arith) (in_range 2 600 w.server_timeout ok.server_from ok.server_to)
    (unless_wrote (codes "authentication_timeout") AuthenticationTimeout 30 w.authentication_timeout _ (idle_on w said) authentication_name (let n = ok.authentication_to in omega arith)
    (in_range 1 600 w.authentication_timeout ok.authentication_from ok.authentication_to)
    (unless_wrote (codes "client_idle_limit") ClientIdleLimit 0 w.client_idle_limit _ (switches w said) idle_name ok.idle_to (in_range 0 86400 w.client_idle_limit (omega arith) ok.idle_to)
    (if_on_wrote (codes "log_connections") LogConnections w.log_connections _ (switch_setting LogDisconnections w.log_disconnections said) connections_name refl
    (if_on_wrote (codes "log_disconnections") LogDisconnections w.log_disconnections rest said disconnections_name refl more)))))
