-- The lines of the users are read as what was written.
use Rattle.std.proofs.Common.{◌≡◌, ◌≤◌, ◌<◌, ◌+◌, ℕ, List, [], ◌∷◌, ◌++◌, Option, Some, None, refl, ap, sym, ◌∙◌, subst, length, codes, append_assoc, append-nil, arith}
use lib.Dec.{lit<}
use Rattle.std.specs.Fmt.{decimal}
use Rattle.pool_config.specs.Bytes.{lines}
use Rattle.pool_config.specs.Table.{of_user}
use Rattle.pool_config.specs.Users.{digits_of}
use Rattle.pool_config.specs.Names.{parameter_named}
use Rattle.pool_config.specs.Settings.{Say}
use Rattle.pool_config.specs.Configuration.{IsAllowedUser, AreAllowedUsers, IsAllowedPassword}
use Rattle.pool_config.specs.Printed.{string_line, user_text, users_text, password_text}
use Rattle.pool_config.specs.declared.user.UserNumber.{UserNumber}
use Rattle.pool_config.specs.declared.parameter.Parameter.{Parameter}
use Rattle.pool_config.specs.declared.parameter.Parameter.TheVariants.{ScramUser, ScramVerifier, BackendPassword}
use Rattle.pool_config.specs.declared.value.Value.TheVariants.{Text}
use Rattle.pool_config.specs.declared.assemble.Setting.{Setting}
use Rattle.pool_config.specs.declared.config.ScramUser.{ScramUser as UserOf}
use Rattle.pool_config.proofs.UserNumbers.{same_user, each_below_16, written_so}
use Rattle.pool_config.proofs.Printing.{Names, string_wrote, password_name}

-- ---- names

named_as : (name : List ℕ) (p : UserNumber → Parameter) (c : UserNumber) → Names name (p c) → (u : UserNumber) → u.number ≡ c.number → Names name (p u)
named_as name p c h u e = subst (λ (x : UserNumber). Names name (p x)) (same_user c u (sym e)) h

abbrev place : (n : ℕ) → n < 16 → UserNumber
place n l = record { number = n; below_16 = l }

user_name : (u : UserNumber) → Names (of_user (codes "scram_user") u) (ScramUser u)
unfolding parameter_named
user_name u = each_below_16 (λ n. (l : n < 16) → Names (codes "scram_user" ++ digits_of n) (ScramUser (place n l)))
    (λ l. named_as _ ScramUser (place 0 (lit< tt)) (record { bytes = refl; in_line = refl; some = refl; known = refl }) (place 0 l) refl)
    (λ l. named_as _ ScramUser (place 1 (lit< tt)) (record { bytes = refl; in_line = refl; some = refl; known = refl }) (place 1 l) refl)
    (λ l. named_as _ ScramUser (place 2 (lit< tt)) (record { bytes = refl; in_line = refl; some = refl; known = refl }) (place 2 l) refl)
    (λ l. named_as _ ScramUser (place 3 (lit< tt)) (record { bytes = refl; in_line = refl; some = refl; known = refl }) (place 3 l) refl)
    (λ l. named_as _ ScramUser (place 4 (lit< tt)) (record { bytes = refl; in_line = refl; some = refl; known = refl }) (place 4 l) refl)
    (λ l. named_as _ ScramUser (place 5 (lit< tt)) (record { bytes = refl; in_line = refl; some = refl; known = refl }) (place 5 l) refl)
    (λ l. named_as _ ScramUser (place 6 (lit< tt)) (record { bytes = refl; in_line = refl; some = refl; known = refl }) (place 6 l) refl)
    (λ l. named_as _ ScramUser (place 7 (lit< tt)) (record { bytes = refl; in_line = refl; some = refl; known = refl }) (place 7 l) refl)
    (λ l. named_as _ ScramUser (place 8 (lit< tt)) (record { bytes = refl; in_line = refl; some = refl; known = refl }) (place 8 l) refl)
    (λ l. named_as _ ScramUser (place 9 (lit< tt)) (record { bytes = refl; in_line = refl; some = refl; known = refl }) (place 9 l) refl)
    (λ l. named_as _ ScramUser (place 10 (lit< tt)) (record { bytes = refl; in_line = refl; some = refl; known = refl }) (place 10 l) refl)
    (λ l. named_as _ ScramUser (place 11 (lit< tt)) (record { bytes = refl; in_line = refl; some = refl; known = refl }) (place 11 l) refl)
    (λ l. named_as _ ScramUser (place 12 (lit< tt)) (record { bytes = refl; in_line = refl; some = refl; known = refl }) (place 12 l) refl)
    (λ l. named_as _ ScramUser (place 13 (lit< tt)) (record { bytes = refl; in_line = refl; some = refl; known = refl }) (place 13 l) refl)
    (λ l. named_as _ ScramUser (place 14 (lit< tt)) (record { bytes = refl; in_line = refl; some = refl; known = refl }) (place 14 l) refl)
    (λ l. named_as _ ScramUser (place 15 (lit< tt)) (record { bytes = refl; in_line = refl; some = refl; known = refl }) (place 15 l) refl)
    u.number u.below_16 u.below_16

verifier_name : (u : UserNumber) → Names (of_user (codes "scram_verifier") u) (ScramVerifier u)
unfolding parameter_named
verifier_name u = each_below_16 (λ n. (l : n < 16) → Names (codes "scram_verifier" ++ digits_of n) (ScramVerifier (place n l)))
    (λ l. named_as _ ScramVerifier (place 0 (lit< tt)) (record { bytes = refl; in_line = refl; some = refl; known = refl }) (place 0 l) refl)
    (λ l. named_as _ ScramVerifier (place 1 (lit< tt)) (record { bytes = refl; in_line = refl; some = refl; known = refl }) (place 1 l) refl)
    (λ l. named_as _ ScramVerifier (place 2 (lit< tt)) (record { bytes = refl; in_line = refl; some = refl; known = refl }) (place 2 l) refl)
    (λ l. named_as _ ScramVerifier (place 3 (lit< tt)) (record { bytes = refl; in_line = refl; some = refl; known = refl }) (place 3 l) refl)
    (λ l. named_as _ ScramVerifier (place 4 (lit< tt)) (record { bytes = refl; in_line = refl; some = refl; known = refl }) (place 4 l) refl)
    (λ l. named_as _ ScramVerifier (place 5 (lit< tt)) (record { bytes = refl; in_line = refl; some = refl; known = refl }) (place 5 l) refl)
    (λ l. named_as _ ScramVerifier (place 6 (lit< tt)) (record { bytes = refl; in_line = refl; some = refl; known = refl }) (place 6 l) refl)
    (λ l. named_as _ ScramVerifier (place 7 (lit< tt)) (record { bytes = refl; in_line = refl; some = refl; known = refl }) (place 7 l) refl)
    (λ l. named_as _ ScramVerifier (place 8 (lit< tt)) (record { bytes = refl; in_line = refl; some = refl; known = refl }) (place 8 l) refl)
    (λ l. named_as _ ScramVerifier (place 9 (lit< tt)) (record { bytes = refl; in_line = refl; some = refl; known = refl }) (place 9 l) refl)
    (λ l. named_as _ ScramVerifier (place 10 (lit< tt)) (record { bytes = refl; in_line = refl; some = refl; known = refl }) (place 10 l) refl)
    (λ l. named_as _ ScramVerifier (place 11 (lit< tt)) (record { bytes = refl; in_line = refl; some = refl; known = refl }) (place 11 l) refl)
    (λ l. named_as _ ScramVerifier (place 12 (lit< tt)) (record { bytes = refl; in_line = refl; some = refl; known = refl }) (place 12 l) refl)
    (λ l. named_as _ ScramVerifier (place 13 (lit< tt)) (record { bytes = refl; in_line = refl; some = refl; known = refl }) (place 13 l) refl)
    (λ l. named_as _ ScramVerifier (place 14 (lit< tt)) (record { bytes = refl; in_line = refl; some = refl; known = refl }) (place 14 l) refl)
    (λ l. named_as _ ScramVerifier (place 15 (lit< tt)) (record { bytes = refl; in_line = refl; some = refl; known = refl }) (place 15 l) refl)
    u.number u.below_16 u.below_16

pub user_known : (u : UserNumber) → parameter_named (of_user (codes "scram_user") u) ≡ Some (ScramUser u)
user_known u = (user_name u).known

pub verifier_known : (u : UserNumber) → parameter_named (of_user (codes "scram_verifier") u) ≡ Some (ScramVerifier u)
verifier_known u = (verifier_name u).known

in_decimal : (stem : List ℕ) (p : UserNumber → Parameter) (u : UserNumber) → Names (stem ++ digits_of u.number) (p u) → Names (stem ++ decimal u.number) (p u)
in_decimal stem p u h = subst (λ (ds : List ℕ). Names (stem ++ ds) (p u)) (written_so u.number u.below_16) h

-- ---- the users

-- the settings of the users, with those behind them
abbrev pub user_settings : List UserNumber → List UserOf → List Setting → List Setting
user_settings us [] said = said
user_settings [] (x ∷ xs) said = said
user_settings (u ∷ us) (x ∷ xs) said = record { parameter = ScramUser u; value = Text x.name }
    ∷ record { parameter = ScramVerifier u; value = Text x.verifier } ∷ user_settings us xs said

user_wrote : (u : UserNumber) (x : UserOf) (rest : List ℕ) (said : List Setting) → IsAllowedUser x → Say (lines rest) said
    → Say (lines (user_text u.number x ++ rest)) (record { parameter = ScramUser u; value = Text x.name }
    ∷ record { parameter = ScramVerifier u; value = Text x.verifier } ∷ said)
user_wrote u x rest said ok more =
    let name : List ℕ = string_line (codes "scram_user" ++ decimal u.number) x.name in
    let verifier : List ℕ = string_line (codes "scram_verifier" ++ decimal u.number) x.verifier in
    subst (λ (t : List ℕ). Say (lines t) (record { parameter = ScramUser u; value = Text x.name }
    ∷ record { parameter = ScramVerifier u; value = Text x.verifier } ∷ said)) (sym (append_assoc name verifier rest))
    (string_wrote _ x.name (ScramUser u) _ _ (in_decimal (codes "scram_user") ScramUser u (user_name u)) ok.0 refl
    (string_wrote _ x.verifier (ScramVerifier u) rest said (in_decimal (codes "scram_verifier") ScramVerifier u (verifier_name u)) ok.1 ok.2 more))

-- users with the numbers from n on
abbrev pub AreFrom : ℕ → List UserNumber → Type 0
AreFrom n [] = Unit {0}
AreFrom n (u ∷ us) = (u.number ≡ n) × AreFrom (n + 1) us

pub users_wrote : (n : ℕ) (us : List UserNumber) (xs : List UserOf) (rest : List ℕ) (said : List Setting) → AreFrom n us → length xs ≤ length us → AreAllowedUsers xs
    → Say (lines rest) said → Say (lines (users_text n xs ++ rest)) (user_settings us xs said)
users_wrote n us [] rest said from few ok more = more
users_wrote n [] (x ∷ xs) rest said from few ok more = absurd (omega arith)
users_wrote n (u ∷ us) (x ∷ xs) rest said from few ok more =
    let after = users_wrote (n + 1) us xs rest said from.1 (omega arith) ok.1 more in
    let here = user_wrote u x (users_text (n + 1) xs ++ rest) (user_settings us xs said) ok.0 after in
    subst (λ (t : List ℕ). Say (lines t) (user_settings (u ∷ us) (x ∷ xs) said))
    (ap (λ (k : ℕ). user_text k x ++ (users_text (n + 1) xs ++ rest)) from.0 ∙ sym (append_assoc (user_text n x) (users_text (n + 1) xs) rest)) here

-- ---- the password

abbrev pub password_settings : Option (List ℕ) → List Setting
password_settings None = []
password_settings (Some text) = record { parameter = BackendPassword; value = Text text } ∷ []

pub password_wrote : (password : Option (List ℕ)) → IsAllowedPassword password → Say (lines (password_text password)) (password_settings password)
password_wrote None ok = (record { blanks = []; comment = []; parts = refl; are_blank = tt; is_comment = tt }, refl)
password_wrote (Some text) ok =
    subst (λ (t : List ℕ). Say (lines t) (password_settings (Some text))) (append-nil (string_line (codes "backend_password") text))
    (string_wrote _ text BackendPassword [] [] password_name ok.0 ok.1
    (record { blanks = []; comment = []; parts = refl; are_blank = tt; is_comment = tt }, refl))
