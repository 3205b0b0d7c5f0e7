-- The text of a refusal has room in a message.
use Rattle.std.proofs.Common.{◌≡◌, ◌≢◌, ◌<◌, ◌≤◌, ◌+◌, ◌^◌, ℕ, List, ◌++◌, length, refl, ap, subst, arith, codes, lit<}
use Rattle.std.specs.Prelude.{true, Option, Some, unwrap_or}
use Rattle.std.specs.Fmt.{decimal}
use Rattle.std.proofs.lemmas.List.{length-append}
use Rattle.std.proofs.lemmas.List.Elements.{All-append}
use Rattle.std.proofs.lemmas.Option.{none-some}
use Rattle.pg_values.specs.Range.{HasNoZero}
use Rattle.pg_messages.specs.Fields.{IsString}
use Rattle.sql_tree.specs.declared.statement.Statement.{Statement}
use Rattle.sql_tree.specs.declared.statement.Statement.TheVariants as statement
use Rattle.sql_reader.specs.declared.fault.SqlFault.{SqlFault}
use Rattle.sql_reader.specs.declared.fault.SqlFault.TheVariants as fault
use Rattle.sql_reader.specs.Text.{IsRefusedBy}
use Rattle.sql_profile.specs.Named.{IsNamedBy}
use Rattle.statement_laws.specs.Told.{IsTold}
use Rattle.statement_laws.proofs.Refusals.{name_is_told, place_is_within}
use Rattle.statement_laws.proofs.Steps.{tested as name_tested}
use Rattle.play.specs.Codes.{about, number_text, outside}
use Rattle.play.specs.Asked.{left_out}
use Rattle.play.specs.Answering.{IsShort}
use Rattle.play.proofs.SendingLemmas.{digits_are, short_digits}
use Rattle.play.proofs.Short.{choice, code_short, front_fits, is_short, tested}

-- ---- a text with a name behind it

pub prefixed : (front name : List ℕ) → is_short front ≡ true → IsTold name → IsShort (front ++ name)
prefixed front name fits told =
    let both = front_fits front fits in
    let long : length front ≤ 900 = both.0 in
    let few : length name ≤ 63 = told.0 in
    let all : length (front ++ name) ≡ length front + length name = length-append front name in
    (omega (arith, long, few, all), All-append (λ b. b ≢ 0) front name both.1 told.1)

pub outside_short : (name : List ℕ) → IsTold name → IsShort (outside name)
outside_short name told = prefixed (codes "not in the profile: ") name refl told

number_short : (s : Statement) (name : List ℕ) → IsTold name → IsShort (number_text s name)
number_short (statement.Update update) name told = prefixed (codes "column set twice: ") name refl told
number_short s name told = tested (codes "wrong number of values") refl

pub about_short : (s : Statement) (code name : List ℕ) → IsTold name → IsShort (about s code name)
unfolding about
about_short s code name told =
    choice code (codes "0A000") (outside name) _ (outside_short name told)
    (choice code (codes "42601") (number_text s name) _ (number_short s name told)
    (choice code (codes "42701") (codes "column named twice: " ++ name) _ (prefixed (codes "column named twice: ") name refl told)
    (choice code (codes "42703") (codes "no such column: " ++ name) _ (prefixed (codes "no such column: ") name refl told)
    (choice code (codes "42P01") (codes "no such table: " ++ name) _ (prefixed (codes "no such table: ") name refl told)
    (code_short code)))))

-- ---- a text with a number behind it

some_byte : (b : ℕ) → 0 < b → b ≢ 0
some_byte b some none = absurd (omega (arith, some, none))

no_zero_in : (text : List ℕ) → IsString text → HasNoZero text
no_zero_in text all = λ k d below. some_byte _ (all k d below)

numbered : (front : List ℕ) (n : ℕ) → is_short front ≡ true → n < 2 ^ 64 → IsShort (front ++ decimal n)
numbered front n fits small =
    let both = front_fits front fits in
    let long : length front ≤ 900 = both.0 in
    let digits : length (decimal n) ≤ 20 = short_digits n small in
    let all : length (front ++ decimal n) ≡ length front + length (decimal n) = length-append front (decimal n) in
    (omega (arith, long, digits, all), All-append (λ b. b ≢ 0) front (decimal n) both.1 (no_zero_in (decimal n) (digits_are n small)))

small_place : (place size : ℕ) → place ≤ size → size < 2 ^ 32 → place + 1 < 2 ^ 64
small_place place size within short = let big : 2 ^ 32 + 1 < 2 ^ 64 = lit< tt in omega (arith, within, short, big)

-- ---- what the reader tells

refused_by : (text : List ℕ) (f : SqlFault) → IsNamedBy text f → IsRefusedBy text f
refused_by text (fault.Syntax place) h = (h.0, h.1, (h.2, h.3, h.5))
refused_by text (fault.Outside name place) h = (h.0, h.1, (h.2, h.3, h.5))
refused_by text fault.TooLong h = (h.0, h.1, (h.2, h.3, h.5))
refused_by text fault.NoMemory h = tt

pub place_short : (text : List ℕ) (place : ℕ) → length text < 2 ^ 32 → IsNamedBy text (fault.Syntax place) → IsShort (codes "syntax error at byte " ++ decimal (place + 1))
place_short text place short named =
    numbered (codes "syntax error at byte ") (place + 1) refl (small_place place (length text) (place_is_within text place (refused_by text (fault.Syntax place) named)) short)

pub reader_short : (text name : List ℕ) (place : ℕ) → IsNamedBy text (fault.Outside name place) → IsShort (outside name)
reader_short text name place named = outside_short name (name_is_told text name place (refused_by text (fault.Outside name place) named))

-- ---- what is left for later

left_told : (name told : List ℕ) → Some told ≡ Some name → IsTold told → IsTold name
left_told name told is short = subst IsTold (ap (λ (o : Option (List ℕ)). unwrap_or o name) is) short

pub later_told : (s : Statement) (name : List ℕ) → left_out s ≡ Some name → IsTold name
later_told (statement.Select select) name is = absurd (none-some name is)
later_told (statement.Insert insert) name is = absurd (none-some name is)
later_told (statement.Update update) name is = absurd (none-some name is)
later_told (statement.Delete delete) name is = absurd (none-some name is)
later_told statement.Begin name is = left_told name (codes "transaction control") is (name_tested (codes "transaction control") refl)
later_told statement.Commit name is = left_told name (codes "transaction control") is (name_tested (codes "transaction control") refl)
later_told statement.Rollback name is = left_told name (codes "transaction control") is (name_tested (codes "transaction control") refl)
later_told statement.ShowNodes name is = left_told name (codes "show") is (name_tested (codes "show") refl)
later_told (statement.Recover b) name is = left_told name (codes "recover") is (name_tested (codes "recover") refl)

pub several_told : IsTold (codes "several statements")
several_told = name_tested (codes "several statements") refl

pub serial_told : IsTold (codes "serial")
serial_told = name_tested (codes "serial") refl
