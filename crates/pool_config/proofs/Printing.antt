-- The written text says the configuration that was written.
use Rattle.std.proofs.Common.{◌≡◌, ◌≢◌, ◌==◌, ◌≤◌, ◌<◌, ◌+◌, ◌-◌, ◌*◌, ◌^◌, ◌&&◌, ◌||◌, inr, ℕ, Bool, true, false, not, List, [], ◌∷◌, ◌++◌, Option, Some, None, refl, ap, sym, ◌∙◌, subst, length, codes, if◌then◌else◌, append_assoc, append-nil, arith, nat_lt, nat_le, bytes_eq, option_map}
use lib.Dec.{lit<}
use Rattle.std.proofs.lemmas.Bool.Decides.{nat_tests}
use Rattle.std.proofs.lemmas.Fmt.{digits_decimal, digits_value-decimal, length-decimal-le, decimal_nonempty, decimal_digit}
use Rattle.std.proofs.lemmas.Str.Parse.{IsNumeralModel, numerals_by_fold, tells_all_ascii_digits}
use Rattle.std.specs.Fmt.{decimal}
use Rattle.std.specs.Char.{is_ascii_digit}
use Rattle.std.specs.Str.{all_ascii_digits}
use Rattle.pool_base.specs.declared.backend_id.BackendId.{BackendId}
use Rattle.pool_config.specs.Bytes.{has, AllOf, lines, onto}
use Rattle.pool_config.specs.Form.{Spelling, quoted, bare, spelled, IsSpelling}
use Rattle.pool_config.specs.Value.{value_of, word_value, number_of, number_after}
use Rattle.pool_config.specs.Table.{numbered, kind_of, takes}
use Rattle.pool_config.specs.Names.{parameter_named}
use Rattle.pool_config.specs.Settings.{Sets, Say}
use Rattle.pool_config.specs.Configuration.{IsString, IsAllowedNode, AreAllowedNodes}
use Rattle.pool_config.specs.Printed.{line_of, string_line, number_line, truth_line, node_text, nodes_text}
use Rattle.pool_config.specs.declared.line.Class.{Class}
use Rattle.pool_config.specs.declared.line.Class.TheVariants.{Name, Word, InLine}
use Rattle.pool_config.specs.declared.parameter.Parameter.{Parameter}
use Rattle.pool_config.specs.declared.parameter.Parameter.TheVariants.{ClusteringMode, Hostname, BackendPort, Weight, ListenAddresses, Port, Children, LoadBalance, StatementBalance, ServerTimeout, AuthenticationTimeout, ClientIdleLimit, LogConnections, LogDisconnections, BackendPassword}
use Rattle.pool_config.specs.declared.value.Value.{Value}
use Rattle.pool_config.specs.declared.value.Value.TheVariants.{Text, Number, Truth}
use Rattle.pool_config.specs.declared.assemble.Setting.{Setting}
use Rattle.pool_config.specs.declared.config.Node.{Node}
use Rattle.pool_config.proofs.Backends.{same_backend, each_below_8}

pub both : (a b : Bool) → (a && b) ≡ true → (a ≡ true) × (b ≡ true)
both true b e = (refl, e)
both false b e = absurd (cc)

pub not_false : (t : Bool) → not t ≡ true → t ≡ false
not_false true e = absurd (cc)
not_false false e = refl

-- ---- bytes of a class, by a test

abbrev pub all_of : Class → List ℕ → Bool
all_of c [] = true
all_of c (b ∷ rest) = has c b && all_of c rest

pub by_test : (c : Class) (bytes : List ℕ) → all_of c bytes ≡ true → AllOf c bytes
by_test c [] h = tt
by_test c (b ∷ rest) h = let p = both (has c b) (all_of c rest) h in (p.0, by_test c rest p.1)

pub all_append : (c : Class) (a b : List ℕ) → AllOf c a → AllOf c b → AllOf c (a ++ b)
all_append c [] b h k = k
all_append c (x ∷ a) b h k = (h.0, all_append c a b h.1 k)

-- ---- a line and what follows it

lines_line : (line rest : List ℕ) → AllOf InLine line → lines (line ++ 10 ∷ rest) ≡ line ∷ lines rest
lines_line [] rest h = refl
lines_line (x ∷ line) rest h =
    ap (λ (t : Bool). if t then [] ∷ lines (line ++ 10 ∷ rest) else onto x (lines (line ++ 10 ∷ rest))) (not_false (x == 10) h.0)
    ∙ ap (onto x) (lines_line line rest h.1)

say_line : (line rest : List ℕ) (s : Setting) (said : List Setting) → AllOf InLine line → Sets line s → Say (lines rest) said → Say (lines (line ++ 10 ∷ rest)) (s ∷ said)
say_line line rest s said h sets more = subst (λ (ls : List (List ℕ)). Say ls (s ∷ said)) (sym (lines_line line rest h)) (inr (sets, more))

-- the name of a parameter, as a line has it
pub record Names (name : List ℕ) (p : Parameter) : Type 0 where
  pub bytes : all_of Name name ≡ true
  pub in_line : all_of InLine name ≡ true
  pub some : (length name == 0) ≡ false
  pub known : parameter_named name ≡ Some p

pub some_bytes : (name : List ℕ) → (length name == 0) ≡ false → name ≢ []
some_bytes [] h = absurd (cc)
some_bytes (b ∷ rest) h = λ e. absurd (cc)

body_sets : (name : List ℕ) (w : Spelling) (p : Parameter) (v : Value) → Names name p → IsSpelling w → value_of w ≡ Some v → takes (kind_of p) v ≡ true
    → Sets (name ++ 32 ∷ 61 ∷ 32 ∷ spelled w) (record { parameter = p; value = v })
body_sets name w p v n is means taken = record {
  name = name;
  value = w;
  form = record {
    before = [];
    behind_name = 32 ∷ [];
    before_value = 32 ∷ [];
    rest = [];
    parts = ap (λ (xs : List ℕ). name ++ 32 ∷ 61 ∷ 32 ∷ xs) (sym (append-nil (spelled w)));
    before_is = tt;
    name_is = by_test Name name n.bytes;
    named = some_bytes name n.some;
    behind_is = (refl, tt);
    before_value_is = (refl, tt);
    value_is = is;
    rest_is = record { blanks = []; comment = []; parts = refl; are_blank = tt; is_comment = tt };
  };
  known = n.known;
  means = means;
  taken = taken;
}

wrote : (name : List ℕ) (w : Spelling) (p : Parameter) (v : Value) (rest : List ℕ) (said : List Setting) → Names name p → IsSpelling w → AllOf InLine (spelled w)
    → value_of w ≡ Some v → takes (kind_of p) v ≡ true → Say (lines rest) said
    → Say (lines ((name ++ 32 ∷ 61 ∷ 32 ∷ spelled w) ++ 10 ∷ rest)) (record { parameter = p; value = v } ∷ said)
wrote name w p v rest said n is in_line means taken more =
    say_line (name ++ 32 ∷ 61 ∷ 32 ∷ spelled w) rest (record { parameter = p; value = v }) said
    (all_append InLine name (32 ∷ 61 ∷ 32 ∷ spelled w) (by_test InLine name n.in_line) (refl, (refl, (refl, in_line))))
    (body_sets name w p v n is means taken) more

-- ---- the three kinds of lines

plain_parts : (name value rest : List ℕ) → line_of name value ++ rest ≡ (name ++ 32 ∷ 61 ∷ 32 ∷ value) ++ 10 ∷ rest
plain_parts name value rest =
    append_assoc name (32 ∷ 61 ∷ 32 ∷ (value ++ 10 ∷ [])) rest
    ∙ (ap (λ (xs : List ℕ). name ++ 32 ∷ 61 ∷ 32 ∷ xs) (append_assoc value (10 ∷ []) rest)
    ∙ sym (append_assoc name (32 ∷ 61 ∷ 32 ∷ value) (10 ∷ rest)))

string_parts : (name text rest : List ℕ) → string_line name text ++ rest ≡ (name ++ 32 ∷ 61 ∷ 32 ∷ spelled (quoted text)) ++ 10 ∷ rest
string_parts name text rest =
    append_assoc name (32 ∷ 61 ∷ 32 ∷ 39 ∷ (text ++ 39 ∷ 10 ∷ [])) rest
    ∙ (ap (λ (xs : List ℕ). name ++ 32 ∷ 61 ∷ 32 ∷ 39 ∷ xs) (append_assoc text (39 ∷ 10 ∷ []) rest ∙ sym (append_assoc text (39 ∷ []) (10 ∷ rest)))
    ∙ sym (append_assoc name (32 ∷ 61 ∷ 32 ∷ 39 ∷ (text ++ 39 ∷ [])) (10 ∷ rest)))

pub string_wrote : (name text : List ℕ) (p : Parameter) (rest : List ℕ) (said : List Setting) → Names name p → IsString text → takes (kind_of p) (Text text) ≡ true
    → Say (lines rest) said → Say (lines (string_line name text ++ rest)) (record { parameter = p; value = Text text } ∷ said)
string_wrote name text p rest said n is taken more =
    subst (λ (t : List ℕ). Say (lines t) (record { parameter = p; value = Text text } ∷ said)) (sym (string_parts name text rest))
    (wrote name (quoted text) p (Text text) rest said n is.1 (refl, all_append InLine text (39 ∷ []) is.2 (refl, tt))
    (ap (λ (t : Bool). if t then Some (Text text) else None) is.0) taken more)

word_wrote : (name word : List ℕ) (p : Parameter) (v : Value) (rest : List ℕ) (said : List Setting) → Names name p → AllOf Word word → word ≢ [] → AllOf InLine word
    → word_value word ≡ Some v → takes (kind_of p) v ≡ true
    → Say (lines rest) said → Say (lines (line_of name word ++ rest)) (record { parameter = p; value = v } ∷ said)
word_wrote name word p v rest said n is some in_line means taken more =
    subst (λ (t : List ℕ). Say (lines t) (record { parameter = p; value = v } ∷ said)) (sym (plain_parts name word rest))
    (wrote name (bare word) p v rest said n (is, some) in_line means taken more)

pub truth_wrote : (name : List ℕ) (on : Bool) (p : Parameter) (rest : List ℕ) (said : List Setting) → Names name p → takes (kind_of p) (Truth on) ≡ true
    → Say (lines rest) said → Say (lines (truth_line name on ++ rest)) (record { parameter = p; value = Truth on } ∷ said)
truth_wrote name true p rest said n taken more = word_wrote name (codes "on") p (Truth true) rest said n (by_test Word (codes "on") refl) (some_bytes (codes "on") refl) (by_test InLine (codes "on") refl) refl taken more
truth_wrote name false p rest said n taken more = word_wrote name (codes "off") p (Truth false) rest said n (by_test Word (codes "off") refl) (some_bytes (codes "off") refl) (by_test InLine (codes "off") refl) refl taken more

-- ---- numbers

abbrev read_on : ℕ → List ℕ → ℕ
read_on n [] = n
read_on n (c ∷ cs) = read_on (n * 10 + (c - 48)) cs

own : IsNumeralModel (λ ds. all_ascii_digits ds ≡ true) (read_on 0)
own = numerals_by_fold _ tells_all_ascii_digits read_on (record { empty = λ n. refl; more = λ n c cs h. refl })

digits_after : (n : ℕ) (ds : List ℕ) → all_ascii_digits ds ≡ true → number_after n ds ≡ Some (read_on n ds)
digits_after n [] h = refl
digits_after n (d ∷ ds) h =
    let p = both (is_ascii_digit d) (all_ascii_digits ds) h in
    ap (λ (t : Bool). if t then number_after (n * 10 + (d - 48)) ds else None) p.0 ∙ digits_after (n * 10 + (d - 48)) ds p.1

digit_word : (d : ℕ) → is_ascii_digit d ≡ true → (has Word d ≡ true) × (has InLine d ≡ true)
digit_word d h = (grind (arith, nat_tests), grind (arith, nat_tests))

digits_word : (ds : List ℕ) → all_ascii_digits ds ≡ true → (AllOf Word ds) × (AllOf InLine ds)
digits_word [] h = (tt, tt)
digits_word (d ∷ ds) h =
    let p = both (is_ascii_digit d) (all_ascii_digits ds) h in
    let q = digit_word d p.0 in
    let r = digits_word ds p.1 in ((q.0, r.0), (q.1, r.1))

not_letter : (d : ℕ) → is_ascii_digit d ≡ true → ((d == 111) ≡ false) × ((d == 116) ≡ false) × ((d == 102) ≡ false)
not_letter d h = (grind (arith, nat_tests), grind (arith, nat_tests), grind (arith, nat_tests))

no_truth : (word : List ℕ) → 0 < length word → all_ascii_digits word ≡ true → word_value word ≡ option_map (λ n. Number n) (number_of word)
no_truth [] some h = absurd (omega arith)
no_truth (d ∷ ds) some h =
    let p = both (is_ascii_digit d) (all_ascii_digits ds) h in
    let q = not_letter d p.0 in
    let rest : Option Value = option_map (λ n. Number n) (number_of (d ∷ ds)) in
    ap (λ (t : Bool). if (t && bytes_eq ds (codes "n")) || ((d == 116) && bytes_eq ds (codes "rue")) then Some (Truth true)
    else (if (t && bytes_eq ds (codes "ff")) || ((d == 102) && bytes_eq ds (codes "alse")) then Some (Truth false) else rest)) q.0
    ∙ (ap (λ (t : Bool). if t && bytes_eq ds (codes "rue") then Some (Truth true)
    else (if (d == 102) && bytes_eq ds (codes "alse") then Some (Truth false) else rest)) q.1
    ∙ ap (λ (t : Bool). if t && bytes_eq ds (codes "alse") then Some (Truth false) else rest) q.2)

pub number_wrote : (name : List ℕ) (n : ℕ) (p : Parameter) (rest : List ℕ) (said : List Setting) → Names name p → n ≤ 86400 → takes (kind_of p) (Number n) ≡ true
    → Say (lines rest) said → Say (lines (number_line name n ++ rest)) (record { parameter = p; value = Number n } ∷ said)
number_wrote name n p rest said names small taken more =
    let fits : n < 2 ^ 64 = omega arith in
    let digits : all_ascii_digits (decimal n) ≡ true = digits_decimal own n fits in
    let is : read_on 0 (decimal n) ≡ n = digits_value-decimal own n fits in
    let some : 0 < length (decimal n) = decimal_nonempty n fits in
    let few : length (decimal n) ≤ 10 = length-decimal-le 10 n (omega arith) (omega arith) fits in
    let test_some : nat_lt 0 (length (decimal n)) ≡ true = grind (arith, nat_tests) in
    let test_few : nat_le (length (decimal n)) 10 ≡ true = grind (arith, nat_tests) in
    let number : number_of (decimal n) ≡ Some n =
    ap (λ (t : Bool). if t && nat_le (length (decimal n)) 10 then number_after 0 (decimal n) else None) test_some
    ∙ (ap (λ (t : Bool). if t then number_after 0 (decimal n) else None) test_few
    ∙ (digits_after 0 (decimal n) digits ∙ ap (λ (k : ℕ). Some k) is)) in
    let words = digits_word (decimal n) digits in
    word_wrote name (decimal n) p (Number n) rest said names words.0 (nonempty (decimal n) some) words.1
    (no_truth (decimal n) some digits ∙ ap (option_map (λ k. Number k)) number) taken more
  where
    nonempty : (xs : List ℕ) → 0 < length xs → xs ≢ []
    nonempty [] h = absurd (omega arith)
    nonempty (x ∷ xs) h = λ e. absurd (cc)

-- ---- names

with_digit : (stem : List ℕ) (p : BackendId → Parameter) → ((b : BackendId) → Names (stem ++ (48 + b.number) ∷ []) (p b)) → (b : BackendId) → Names (stem ++ decimal b.number) (p b)
with_digit stem p h b = subst (λ (ds : List ℕ). Names (stem ++ ds) (p b)) (sym (decimal_digit b.number (let l = b.below_8 in omega arith))) (h b)

named_as : (name : List ℕ) (p : BackendId → Parameter) (c : BackendId) → Names name (p c) → (b : BackendId) → b.number ≡ c.number → Names name (p b)
named_as name p c h b e = subst (λ (x : BackendId). Names name (p x)) (same_backend c b (sym e)) h

abbrev place : (n : ℕ) → n < 8 → BackendId
place n l = record { number = n; below_8 = l }

host_name : (b : BackendId) → Names (codes "backend_hostname" ++ (48 + b.number) ∷ []) (Hostname b)
unfolding parameter_named
host_name b = each_below_8 (λ n. (l : n < 8) → Names (codes "backend_hostname" ++ (48 + n) ∷ []) (Hostname (place n l)))
    (λ l. named_as _ Hostname (place 0 (lit< tt)) (record { bytes = refl; in_line = refl; some = refl; known = refl }) (place 0 l) refl)
    (λ l. named_as _ Hostname (place 1 (lit< tt)) (record { bytes = refl; in_line = refl; some = refl; known = refl }) (place 1 l) refl)
    (λ l. named_as _ Hostname (place 2 (lit< tt)) (record { bytes = refl; in_line = refl; some = refl; known = refl }) (place 2 l) refl)
    (λ l. named_as _ Hostname (place 3 (lit< tt)) (record { bytes = refl; in_line = refl; some = refl; known = refl }) (place 3 l) refl)
    (λ l. named_as _ Hostname (place 4 (lit< tt)) (record { bytes = refl; in_line = refl; some = refl; known = refl }) (place 4 l) refl)
    (λ l. named_as _ Hostname (place 5 (lit< tt)) (record { bytes = refl; in_line = refl; some = refl; known = refl }) (place 5 l) refl)
    (λ l. named_as _ Hostname (place 6 (lit< tt)) (record { bytes = refl; in_line = refl; some = refl; known = refl }) (place 6 l) refl)
    (λ l. named_as _ Hostname (place 7 (lit< tt)) (record { bytes = refl; in_line = refl; some = refl; known = refl }) (place 7 l) refl)
    b.number b.below_8 b.below_8

port_name : (b : BackendId) → Names (codes "backend_port" ++ (48 + b.number) ∷ []) (BackendPort b)
unfolding parameter_named
port_name b = each_below_8 (λ n. (l : n < 8) → Names (codes "backend_port" ++ (48 + n) ∷ []) (BackendPort (place n l)))
    (λ l. named_as _ BackendPort (place 0 (lit< tt)) (record { bytes = refl; in_line = refl; some = refl; known = refl }) (place 0 l) refl)
    (λ l. named_as _ BackendPort (place 1 (lit< tt)) (record { bytes = refl; in_line = refl; some = refl; known = refl }) (place 1 l) refl)
    (λ l. named_as _ BackendPort (place 2 (lit< tt)) (record { bytes = refl; in_line = refl; some = refl; known = refl }) (place 2 l) refl)
    (λ l. named_as _ BackendPort (place 3 (lit< tt)) (record { bytes = refl; in_line = refl; some = refl; known = refl }) (place 3 l) refl)
    (λ l. named_as _ BackendPort (place 4 (lit< tt)) (record { bytes = refl; in_line = refl; some = refl; known = refl }) (place 4 l) refl)
    (λ l. named_as _ BackendPort (place 5 (lit< tt)) (record { bytes = refl; in_line = refl; some = refl; known = refl }) (place 5 l) refl)
    (λ l. named_as _ BackendPort (place 6 (lit< tt)) (record { bytes = refl; in_line = refl; some = refl; known = refl }) (place 6 l) refl)
    (λ l. named_as _ BackendPort (place 7 (lit< tt)) (record { bytes = refl; in_line = refl; some = refl; known = refl }) (place 7 l) refl)
    b.number b.below_8 b.below_8

weight_name : (b : BackendId) → Names (codes "backend_weight" ++ (48 + b.number) ∷ []) (Weight b)
unfolding parameter_named
weight_name b = each_below_8 (λ n. (l : n < 8) → Names (codes "backend_weight" ++ (48 + n) ∷ []) (Weight (place n l)))
    (λ l. named_as _ Weight (place 0 (lit< tt)) (record { bytes = refl; in_line = refl; some = refl; known = refl }) (place 0 l) refl)
    (λ l. named_as _ Weight (place 1 (lit< tt)) (record { bytes = refl; in_line = refl; some = refl; known = refl }) (place 1 l) refl)
    (λ l. named_as _ Weight (place 2 (lit< tt)) (record { bytes = refl; in_line = refl; some = refl; known = refl }) (place 2 l) refl)
    (λ l. named_as _ Weight (place 3 (lit< tt)) (record { bytes = refl; in_line = refl; some = refl; known = refl }) (place 3 l) refl)
    (λ l. named_as _ Weight (place 4 (lit< tt)) (record { bytes = refl; in_line = refl; some = refl; known = refl }) (place 4 l) refl)
    (λ l. named_as _ Weight (place 5 (lit< tt)) (record { bytes = refl; in_line = refl; some = refl; known = refl }) (place 5 l) refl)
    (λ l. named_as _ Weight (place 6 (lit< tt)) (record { bytes = refl; in_line = refl; some = refl; known = refl }) (place 6 l) refl)
    (λ l. named_as _ Weight (place 7 (lit< tt)) (record { bytes = refl; in_line = refl; some = refl; known = refl }) (place 7 l) refl)
    b.number b.below_8 b.below_8

pub mode_name : Names (codes "backend_clustering_mode") ClusteringMode
unfolding parameter_named
mode_name = record { bytes = refl; in_line = refl; some = refl; known = refl }

pub listen_name : Names (codes "listen_addresses") ListenAddresses
unfolding parameter_named
listen_name = record { bytes = refl; in_line = refl; some = refl; known = refl }

pub server_port_name : Names (codes "port") Port
unfolding parameter_named
server_port_name = record { bytes = refl; in_line = refl; some = refl; known = refl }

pub children_name : Names (codes "num_init_children") Children
unfolding parameter_named
children_name = record { bytes = refl; in_line = refl; some = refl; known = refl }

pub balance_name : Names (codes "load_balance_mode") LoadBalance
unfolding parameter_named
balance_name = record { bytes = refl; in_line = refl; some = refl; known = refl }

pub statement_name : Names (codes "statement_level_load_balance") StatementBalance
unfolding parameter_named
statement_name = record { bytes = refl; in_line = refl; some = refl; known = refl }

pub server_timeout_name : Names (codes "server_timeout") ServerTimeout
unfolding parameter_named
server_timeout_name = record { bytes = refl; in_line = refl; some = refl; known = refl }

pub authentication_name : Names (codes "authentication_timeout") AuthenticationTimeout
unfolding parameter_named
authentication_name = record { bytes = refl; in_line = refl; some = refl; known = refl }

pub idle_name : Names (codes "client_idle_limit") ClientIdleLimit
unfolding parameter_named
idle_name = record { bytes = refl; in_line = refl; some = refl; known = refl }

pub connections_name : Names (codes "log_connections") LogConnections
unfolding parameter_named
connections_name = record { bytes = refl; in_line = refl; some = refl; known = refl }

pub disconnections_name : Names (codes "log_disconnections") LogDisconnections
unfolding parameter_named
disconnections_name = record { bytes = refl; in_line = refl; some = refl; known = refl }

pub password_name : Names (codes "backend_password") BackendPassword
unfolding parameter_named
password_name = record { bytes = refl; in_line = refl; some = refl; known = refl }

-- ---- the backends

pub in_range : (low high n : ℕ) → low ≤ n → n ≤ high → (nat_le low n && nat_le n high) ≡ true
in_range low high n l h = grind (arith, nat_tests)

host_taken : (t : List ℕ) → 1 ≤ length t → not (bytes_eq t []) ≡ true
host_taken [] h = absurd (omega arith)
host_taken (b ∷ rest) h = refl

-- the settings of the backends, with those behind them
abbrev pub node_settings : List BackendId → List Node → List Setting → List Setting
node_settings bs [] said = said
node_settings [] (x ∷ xs) said = said
node_settings (b ∷ bs) (x ∷ xs) said = record { parameter = Hostname b; value = Text x.host }
    ∷ record { parameter = BackendPort b; value = Number x.port } ∷ record { parameter = Weight b; value = Number x.weight } ∷ node_settings bs xs said

node_wrote : (b : BackendId) (x : Node) (rest : List ℕ) (said : List Setting) → IsAllowedNode x → Say (lines rest) said
    → Say (lines (node_text b.number x ++ rest)) (record { parameter = Hostname b; value = Text x.host }
    ∷ record { parameter = BackendPort b; value = Number x.port } ∷ record { parameter = Weight b; value = Number x.weight } ∷ said)
node_wrote b x rest said ok more =
    let host : List ℕ = string_line (codes "backend_hostname" ++ decimal b.number) x.host in
    let port : List ℕ = number_line (codes "backend_port" ++ decimal b.number) x.port in
    let weight : List ℕ = number_line (codes "backend_weight" ++ decimal b.number) x.weight in
    let parts : (host ++ (port ++ weight)) ++ rest ≡ host ++ (port ++ (weight ++ rest)) =
    append_assoc host (port ++ weight) rest ∙ ap (λ (xs : List ℕ). host ++ xs) (append_assoc port weight rest) in
    subst (λ (t : List ℕ). Say (lines t) (record { parameter = Hostname b; value = Text x.host }
    ∷ record { parameter = BackendPort b; value = Number x.port } ∷ record { parameter = Weight b; value = Number x.weight } ∷ said)) (sym parts)
    (string_wrote _ x.host (Hostname b) _ _ (with_digit (codes "backend_hostname") Hostname host_name b) ok.0.0 (host_taken x.host ok.0.1)
    (number_wrote _ x.port (BackendPort b) _ _ (with_digit (codes "backend_port") BackendPort port_name b) (let h = ok.1.1 in omega arith) (in_range 1 65535 x.port ok.1.0 ok.1.1)
    (number_wrote _ x.weight (Weight b) rest said (with_digit (codes "backend_weight") Weight weight_name b) (let w = ok.2 in omega arith) (in_range 0 1000 x.weight (omega arith) ok.2) more)))

-- backends with the numbers from n on
abbrev pub AreFrom : ℕ → List BackendId → Type 0
AreFrom n [] = Unit {0}
AreFrom n (b ∷ bs) = (b.number ≡ n) × AreFrom (n + 1) bs

pub nodes_wrote : (n : ℕ) (bs : List BackendId) (xs : List Node) (rest : List ℕ) (said : List Setting) → AreFrom n bs → length xs ≤ length bs → AreAllowedNodes xs
    → Say (lines rest) said → Say (lines (nodes_text n xs ++ rest)) (node_settings bs xs said)
nodes_wrote n bs [] rest said from few ok more = more
nodes_wrote n [] (x ∷ xs) rest said from few ok more = absurd (omega arith)
nodes_wrote n (b ∷ bs) (x ∷ xs) rest said from few ok more =
    let after = nodes_wrote (n + 1) bs xs rest said from.1 (omega arith) ok.1 more in
    let here = node_wrote b x (nodes_text (n + 1) xs ++ rest) (node_settings bs xs said) ok.0 after in
    subst (λ (t : List ℕ). Say (lines t) (node_settings (b ∷ bs) (x ∷ xs) said))
    (ap (λ (k : ℕ). node_text k x ++ (nodes_text (n + 1) xs ++ rest)) from.0 ∙ sym (append_assoc (node_text n x) (nodes_text (n + 1) xs) rest)) here

-- ---- the names of one backend's parameters are known

pub host_known : (b : BackendId) → parameter_named (numbered (codes "backend_hostname") b) ≡ Some (Hostname b)
host_known b = (host_name b).known

pub port_known : (b : BackendId) → parameter_named (numbered (codes "backend_port") b) ≡ Some (BackendPort b)
port_known b = (port_name b).known

pub weight_known : (b : BackendId) → parameter_named (numbered (codes "backend_weight") b) ≡ Some (Weight b)
weight_known b = (weight_name b).known
