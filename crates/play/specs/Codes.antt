-- The texts of codes.
use Rattle.std.specs.Prelude.{ℕ, List, ◌++◌, bytes_eq, if◌then◌else◌, codes}
use Rattle.sql_tree.specs.declared.statement.Statement.{Statement}
use Rattle.sql_tree.specs.declared.statement.Statement.TheVariants as statement

-- what is not taken
abbrev pub outside : List ℕ → List ℕ
outside name = codes "not in the profile: " ++ name

abbrev pub is : List ℕ → List ℕ → List ℕ → List ℕ → List ℕ
is code wanted text other = if bytes_eq code wanted then text else other

-- the text of a code that comes as a statement runs; another code has the text of a refusal that is not known
unfoldable pub running_text : List ℕ → List ℕ
running_text code =
    is code (codes "23502") (codes "null value in a NOT NULL column")
    (is code (codes "23505") (codes "duplicate key")
    (is code (codes "40001") (codes "could not serialize access due to concurrent update")
    (is code (codes "40P01") (codes "deadlock detected")
    (is code (codes "53200") (codes "out of memory")
    (is code (codes "54000") (codes "a limit was passed")
    (codes "refused by the backends"))))))

-- the text of a code that is about no value
unfoldable pub statement_text : List ℕ → List ℕ
statement_text code =
    is code (codes "2200H") (codes "serial numbers are spent")
    (is code (codes "2201W") (codes "LIMIT must not be negative")
    (is code (codes "42804") (codes "types do not fit")
    (is code (codes "42P02") (codes "there is no parameter")
    (is code (codes "54011") (codes "too many columns")
    (running_text code)))))

-- the text of a code that has one text, without a name
unfoldable pub text_of_code : List ℕ → List ℕ
text_of_code code =
    is code (codes "22003") (codes "integer out of range")
    (is code (codes "22007") (codes "invalid moment")
    (is code (codes "22008") (codes "moment out of range")
    (is code (codes "22012") (codes "division by zero")
    (is code (codes "22021") (codes "invalid UTF-8")
    (is code (codes "22P02") (codes "invalid input text")
    (statement_text code))))))

-- the text of 42601 that a check finds: of an UPDATE a column that is set twice, else a row of an INSERT
abbrev pub number_text : Statement → List ℕ → List ℕ
number_text (statement.Update update) name = codes "column set twice: " ++ name
number_text s name = codes "wrong number of values"

-- the text of a code that a check finds in a statement, with the name of what it is about
unfoldable pub about : Statement → List ℕ → List ℕ → List ℕ
about s code name =
    is code (codes "0A000") (outside name)
    (is code (codes "42601") (number_text s name)
    (is code (codes "42701") (codes "column named twice: " ++ name)
    (is code (codes "42703") (codes "no such column: " ++ name)
    (is code (codes "42P01") (codes "no such table: " ++ name)
    (text_of_code code)))))
