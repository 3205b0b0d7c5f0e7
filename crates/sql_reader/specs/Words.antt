-- The words and marks that statements are built with: the token of each, and what follows it at the front.
use Rattle.std.specs.Prelude.{ℕ, Bool as Boolean, true, false, cond, List, ◌∷◌, Some, None, codes}
use Rattle.std.specs.Str.{bytes_eq}
use Rattle.sql_tokens.specs.Reading.{Marks}
use Rattle.sql_tokens.specs.declared.mark.Mark.TheVariants as mark
use Rattle.sql_tokens.specs.declared.token.Name.{Name}
use Rattle.sql_tokens.specs.declared.token.Token.{Token}
use Rattle.sql_tokens.specs.declared.token.Token.TheVariants as token
use Rattle.sql_tokens.specs.declared.word.Word.TheVariants as word
use Rattle.sql_reader.specs.declared.verb.Verb.{Verb}
use Rattle.sql_reader.specs.declared.verb.Verb.TheVariants as verb

abbrev pub delete_word : Unit {0} → Token
delete_word _ = token.Word word.Delete

abbrev pub after_delete : Marks Token (Unit {0})
after_delete (token.Word word.Delete ∷ ts) = Some (tt, ts)
after_delete _ = None

abbrev pub update_word : Unit {0} → Token
update_word _ = token.Word word.Update

abbrev pub after_update : Marks Token (Unit {0})
after_update (token.Word word.Update ∷ ts) = Some (tt, ts)
after_update _ = None

abbrev pub insert_word : Unit {0} → Token
insert_word _ = token.Word word.Insert

abbrev pub after_insert : Marks Token (Unit {0})
after_insert (token.Word word.Insert ∷ ts) = Some (tt, ts)
after_insert _ = None

abbrev pub from_word : Unit {0} → Token
from_word _ = token.Word word.From

abbrev pub after_from : Marks Token (Unit {0})
after_from (token.Word word.From ∷ ts) = Some (tt, ts)
after_from _ = None

abbrev pub where_word : Unit {0} → Token
where_word _ = token.Word word.Where

abbrev pub after_where : Marks Token (Unit {0})
after_where (token.Word word.Where ∷ ts) = Some (tt, ts)
after_where _ = None

abbrev pub into_word : Unit {0} → Token
into_word _ = token.Word word.Into

abbrev pub after_into : Marks Token (Unit {0})
after_into (token.Word word.Into ∷ ts) = Some (tt, ts)
after_into _ = None

abbrev pub values_word : Unit {0} → Token
values_word _ = token.Word word.Values

abbrev pub after_values : Marks Token (Unit {0})
after_values (token.Word word.Values ∷ ts) = Some (tt, ts)
after_values _ = None

abbrev pub set_word : Unit {0} → Token
set_word _ = token.Word word.Set

abbrev pub after_set : Marks Token (Unit {0})
after_set (token.Word word.Set ∷ ts) = Some (tt, ts)
after_set _ = None

abbrev pub by_word : Unit {0} → Token
by_word _ = token.Word word.By

abbrev pub after_by : Marks Token (Unit {0})
after_by (token.Word word.By ∷ ts) = Some (tt, ts)
after_by _ = None

abbrev pub level_word : Unit {0} → Token
level_word _ = token.Word word.Level

abbrev pub after_level : Marks Token (Unit {0})
after_level (token.Word word.Level ∷ ts) = Some (tt, ts)
after_level _ = None

abbrev pub repeatable_word : Unit {0} → Token
repeatable_word _ = token.Word word.Repeatable

abbrev pub after_repeatable : Marks Token (Unit {0})
after_repeatable (token.Word word.Repeatable ∷ ts) = Some (tt, ts)
after_repeatable _ = None

abbrev pub read_word : Unit {0} → Token
read_word _ = token.Word word.Read

abbrev pub after_read : Marks Token (Unit {0})
after_read (token.Word word.Read ∷ ts) = Some (tt, ts)
after_read _ = None

abbrev pub as_word : Unit {0} → Token
as_word _ = token.Word word.As

abbrev pub after_as : Marks Token (Unit {0})
after_as (token.Word word.As ∷ ts) = Some (tt, ts)
after_as _ = None

abbrev pub limit_word : Unit {0} → Token
limit_word _ = token.Word word.Limit

abbrev pub after_limit : Marks Token (Unit {0})
after_limit (token.Word word.Limit ∷ ts) = Some (tt, ts)
after_limit _ = None

abbrev pub order_word : Unit {0} → Token
order_word _ = token.Word word.Order

abbrev pub after_order : Marks Token (Unit {0})
after_order (token.Word word.Order ∷ ts) = Some (tt, ts)
after_order _ = None

abbrev pub for_word : Unit {0} → Token
for_word _ = token.Word word.For

abbrev pub after_for : Marks Token (Unit {0})
after_for (token.Word word.For ∷ ts) = Some (tt, ts)
after_for _ = None

abbrev pub isolation_word : Unit {0} → Token
isolation_word _ = token.Word word.Isolation

abbrev pub after_isolation : Marks Token (Unit {0})
after_isolation (token.Word word.Isolation ∷ ts) = Some (tt, ts)
after_isolation _ = None

abbrev pub transaction_word : Unit {0} → Token
transaction_word _ = token.Word word.Transaction

abbrev pub after_transaction : Marks Token (Unit {0})
after_transaction (token.Word word.Transaction ∷ ts) = Some (tt, ts)
after_transaction _ = None

abbrev pub default_word : Unit {0} → Token
default_word _ = token.Word word.Default

abbrev pub after_default : Marks Token (Unit {0})
after_default (token.Word word.Default ∷ ts) = Some (tt, ts)
after_default _ = None

abbrev pub open_mark : Unit {0} → Token
open_mark _ = token.Mark mark.Open

abbrev pub after_open : Marks Token (Unit {0})
after_open (token.Mark mark.Open ∷ ts) = Some (tt, ts)
after_open _ = None

abbrev pub close_mark : Unit {0} → Token
close_mark _ = token.Mark mark.Close

abbrev pub after_close : Marks Token (Unit {0})
after_close (token.Mark mark.Close ∷ ts) = Some (tt, ts)
after_close _ = None

abbrev pub equal_mark : Unit {0} → Token
equal_mark _ = token.Mark mark.Equal

abbrev pub after_equal : Marks Token (Unit {0})
after_equal (token.Mark mark.Equal ∷ ts) = Some (tt, ts)
after_equal _ = None

abbrev pub semicolon_mark : Unit {0} → Token
semicolon_mark _ = token.Mark mark.Semicolon

abbrev pub after_semicolon : Marks Token (Unit {0})
after_semicolon (token.Mark mark.Semicolon ∷ ts) = Some (tt, ts)
after_semicolon _ = None

abbrev pub dot_mark : Unit {0} → Token
dot_mark _ = token.Mark mark.Dot

abbrev pub after_dot : Marks Token (Unit {0})
after_dot (token.Mark mark.Dot ∷ ts) = Some (tt, ts)
after_dot _ = None

abbrev pub star_mark : Unit {0} → Token
star_mark _ = token.Mark mark.Star

abbrev pub after_star : Marks Token (Unit {0})
after_star (token.Mark mark.Star ∷ ts) = Some (tt, ts)
after_star _ = None

abbrev pub work_word : Boolean → Token
work_word false = token.Word word.Work
work_word true = token.Word word.Transaction

abbrev pub after_work : Marks Token Boolean
after_work (token.Word word.Work ∷ ts) = Some (false, ts)
after_work (token.Word word.Transaction ∷ ts) = Some (true, ts)
after_work _ = None

abbrev pub direction_word : Boolean → Token
direction_word false = token.Word word.Asc
direction_word true = token.Word word.Desc

abbrev pub after_direction : Marks Token Boolean
after_direction (token.Word word.Asc ∷ ts) = Some (false, ts)
after_direction (token.Word word.Desc ∷ ts) = Some (true, ts)
after_direction _ = None

-- any name
abbrev pub name_token : Name → Token
name_token n = token.Name n

abbrev pub after_name : Marks Token Name
after_name (token.Name n ∷ ts) = Some (n, ts)
after_name _ = None

-- the name stands without quotes, and is this word
abbrev pub is_plain : List ℕ → Name → Boolean
is_plain text n = cond n.quoted false (bytes_eq n.text text)

abbrev pub after_plain : List ℕ → Marks Token (Unit {0})
after_plain text (token.Name n ∷ ts) = cond (is_plain text n) (Some (tt, ts)) None
after_plain text _ = None

abbrev pub plain_name : List ℕ → Unit {0} → Token
plain_name text _ = token.Name (record { text = text; quoted = false })

-- `count` and `(`
abbrev pub after_count : Marks Token (Unit {0})
after_count (token.Name n ∷ token.Mark mark.Open ∷ ts) = cond (is_plain (codes "count") n) (Some (tt, ts)) None
after_count _ = None

-- the word that begins a statement
abbrev pub after_verb : Marks Token Verb
after_verb (token.Word word.Select ∷ ts) = Some (verb.Select, ts)
after_verb (token.Word word.Insert ∷ ts) = Some (verb.Insert, ts)
after_verb (token.Word word.Update ∷ ts) = Some (verb.Update, ts)
after_verb (token.Word word.Delete ∷ ts) = Some (verb.Delete, ts)
after_verb (token.Word word.Begin ∷ ts) = Some (verb.Begin, ts)
after_verb (token.Word word.Start ∷ ts) = Some (verb.Start, ts)
after_verb (token.Word word.Commit ∷ ts) = Some (verb.Commit, ts)
after_verb (token.Word word.End ∷ ts) = Some (verb.End, ts)
after_verb (token.Word word.Rollback ∷ ts) = Some (verb.Rollback, ts)
after_verb (token.Word word.Abort ∷ ts) = Some (verb.Abort, ts)
after_verb (token.Word word.Show ∷ ts) = Some (verb.Show, ts)
after_verb (token.Name n ∷ ts) = cond (is_plain (codes "pgpool") n) (Some (verb.Pgpool, ts)) None
after_verb _ = None
