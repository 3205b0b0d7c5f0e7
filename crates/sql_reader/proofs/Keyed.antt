-- The first token tells whether a word or a mark is there.
use Rattle.std.proofs.Common.{◌≡◌, ℕ, Bool as Boolean, true, false, cond, List, [], ◌∷◌, Option, Some, None, refl, sym, ap}
use Rattle.std.specs.Prelude.{codes}
use Rattle.std.specs.Str.{bytes_eq}
use Rattle.std.proofs.lemmas.Slice.Eq.{bytes_eq-Decides}
use Rattle.sql_tokens.proofs.Good.{HasMark}
use Rattle.sql_tokens.proofs.Told.{head, by_none, by_head}
use Rattle.sql_tokens.specs.declared.mark.Mark.TheVariants as mark
use Rattle.sql_tokens.specs.declared.token.Name.{Name}
use Rattle.sql_tokens.specs.declared.token.Token.{Token}
use Rattle.sql_tokens.specs.declared.token.Token.TheVariants as token
use Rattle.sql_tokens.specs.declared.word.Word.TheVariants as word
use Rattle.sql_reader.specs.Words.{delete_word, after_delete, update_word, after_update, insert_word, after_insert, from_word, after_from, where_word, after_where, into_word, after_into, values_word, after_values, set_word, after_set, by_word, after_by, level_word, after_level, repeatable_word, after_repeatable, read_word, after_read, as_word, after_as, limit_word, after_limit, order_word, after_order, for_word, after_for, isolation_word, after_isolation, transaction_word, after_transaction, default_word, after_default, open_mark, after_open, close_mark, after_close, equal_mark, after_equal, semicolon_mark, after_semicolon, dot_mark, after_dot, star_mark, after_star, work_word, after_work, direction_word, after_direction, name_token, after_name, is_plain, after_plain, plain_name, after_count}
use Rattle.sql_reader.proofs.Stage.{Keyed}

pub delete_keyed : Keyed after_delete delete_word
delete_keyed = record { are = record { found = found; again = λ m after. refl }; stays = stays } where
  found : (ts : List Token) → HasMark (after_delete ts) (λ m after. ts ≡ token.Word word.Delete ∷ after)
  found (token.Word word.Delete ∷ ts) = refl
  found _ = tt

  stays : (ts other : List Token) → head other ≡ head ts → after_delete ts ≡ None → after_delete other ≡ None
  stays [] other h n = by_none after_delete (λ _. None) refl other h
  stays (token.Word word.Delete ∷ ts) other h n = absurd cc
  stays (t ∷ ts) other h n = by_head t after_delete (λ _. None) (λ more. refl) other h

pub update_keyed : Keyed after_update update_word
update_keyed = record { are = record { found = found; again = λ m after. refl }; stays = stays } where
  found : (ts : List Token) → HasMark (after_update ts) (λ m after. ts ≡ token.Word word.Update ∷ after)
  found (token.Word word.Update ∷ ts) = refl
  found _ = tt

  stays : (ts other : List Token) → head other ≡ head ts → after_update ts ≡ None → after_update other ≡ None
  stays [] other h n = by_none after_update (λ _. None) refl other h
  stays (token.Word word.Update ∷ ts) other h n = absurd cc
  stays (t ∷ ts) other h n = by_head t after_update (λ _. None) (λ more. refl) other h

pub insert_keyed : Keyed after_insert insert_word
insert_keyed = record { are = record { found = found; again = λ m after. refl }; stays = stays } where
  found : (ts : List Token) → HasMark (after_insert ts) (λ m after. ts ≡ token.Word word.Insert ∷ after)
  found (token.Word word.Insert ∷ ts) = refl
  found _ = tt

  stays : (ts other : List Token) → head other ≡ head ts → after_insert ts ≡ None → after_insert other ≡ None
  stays [] other h n = by_none after_insert (λ _. None) refl other h
  stays (token.Word word.Insert ∷ ts) other h n = absurd cc
  stays (t ∷ ts) other h n = by_head t after_insert (λ _. None) (λ more. refl) other h

pub from_keyed : Keyed after_from from_word
from_keyed = record { are = record { found = found; again = λ m after. refl }; stays = stays } where
  found : (ts : List Token) → HasMark (after_from ts) (λ m after. ts ≡ token.Word word.From ∷ after)
  found (token.Word word.From ∷ ts) = refl
  found _ = tt

  stays : (ts other : List Token) → head other ≡ head ts → after_from ts ≡ None → after_from other ≡ None
  stays [] other h n = by_none after_from (λ _. None) refl other h
  stays (token.Word word.From ∷ ts) other h n = absurd cc
  stays (t ∷ ts) other h n = by_head t after_from (λ _. None) (λ more. refl) other h

pub where_keyed : Keyed after_where where_word
where_keyed = record { are = record { found = found; again = λ m after. refl }; stays = stays } where
  found : (ts : List Token) → HasMark (after_where ts) (λ m after. ts ≡ token.Word word.Where ∷ after)
  found (token.Word word.Where ∷ ts) = refl
  found _ = tt

  stays : (ts other : List Token) → head other ≡ head ts → after_where ts ≡ None → after_where other ≡ None
  stays [] other h n = by_none after_where (λ _. None) refl other h
  stays (token.Word word.Where ∷ ts) other h n = absurd cc
  stays (t ∷ ts) other h n = by_head t after_where (λ _. None) (λ more. refl) other h

pub into_keyed : Keyed after_into into_word
into_keyed = record { are = record { found = found; again = λ m after. refl }; stays = stays } where
  found : (ts : List Token) → HasMark (after_into ts) (λ m after. ts ≡ token.Word word.Into ∷ after)
  found (token.Word word.Into ∷ ts) = refl
  found _ = tt

  stays : (ts other : List Token) → head other ≡ head ts → after_into ts ≡ None → after_into other ≡ None
  stays [] other h n = by_none after_into (λ _. None) refl other h
  stays (token.Word word.Into ∷ ts) other h n = absurd cc
  stays (t ∷ ts) other h n = by_head t after_into (λ _. None) (λ more. refl) other h

pub values_keyed : Keyed after_values values_word
values_keyed = record { are = record { found = found; again = λ m after. refl }; stays = stays } where
  found : (ts : List Token) → HasMark (after_values ts) (λ m after. ts ≡ token.Word word.Values ∷ after)
  found (token.Word word.Values ∷ ts) = refl
  found _ = tt

  stays : (ts other : List Token) → head other ≡ head ts → after_values ts ≡ None → after_values other ≡ None
  stays [] other h n = by_none after_values (λ _. None) refl other h
  stays (token.Word word.Values ∷ ts) other h n = absurd cc
  stays (t ∷ ts) other h n = by_head t after_values (λ _. None) (λ more. refl) other h

pub set_keyed : Keyed after_set set_word
set_keyed = record { are = record { found = found; again = λ m after. refl }; stays = stays } where
  found : (ts : List Token) → HasMark (after_set ts) (λ m after. ts ≡ token.Word word.Set ∷ after)
  found (token.Word word.Set ∷ ts) = refl
  found _ = tt

  stays : (ts other : List Token) → head other ≡ head ts → after_set ts ≡ None → after_set other ≡ None
  stays [] other h n = by_none after_set (λ _. None) refl other h
  stays (token.Word word.Set ∷ ts) other h n = absurd cc
  stays (t ∷ ts) other h n = by_head t after_set (λ _. None) (λ more. refl) other h

pub by_keyed : Keyed after_by by_word
by_keyed = record { are = record { found = found; again = λ m after. refl }; stays = stays } where
  found : (ts : List Token) → HasMark (after_by ts) (λ m after. ts ≡ token.Word word.By ∷ after)
  found (token.Word word.By ∷ ts) = refl
  found _ = tt

  stays : (ts other : List Token) → head other ≡ head ts → after_by ts ≡ None → after_by other ≡ None
  stays [] other h n = by_none after_by (λ _. None) refl other h
  stays (token.Word word.By ∷ ts) other h n = absurd cc
  stays (t ∷ ts) other h n = by_head t after_by (λ _. None) (λ more. refl) other h

pub level_keyed : Keyed after_level level_word
level_keyed = record { are = record { found = found; again = λ m after. refl }; stays = stays } where
  found : (ts : List Token) → HasMark (after_level ts) (λ m after. ts ≡ token.Word word.Level ∷ after)
  found (token.Word word.Level ∷ ts) = refl
  found _ = tt

  stays : (ts other : List Token) → head other ≡ head ts → after_level ts ≡ None → after_level other ≡ None
  stays [] other h n = by_none after_level (λ _. None) refl other h
  stays (token.Word word.Level ∷ ts) other h n = absurd cc
  stays (t ∷ ts) other h n = by_head t after_level (λ _. None) (λ more. refl) other h

pub repeatable_keyed : Keyed after_repeatable repeatable_word
repeatable_keyed = record { are = record { found = found; again = λ m after. refl }; stays = stays } where
  found : (ts : List Token) → HasMark (after_repeatable ts) (λ m after. ts ≡ token.Word word.Repeatable ∷ after)
  found (token.Word word.Repeatable ∷ ts) = refl
  found _ = tt

  stays : (ts other : List Token) → head other ≡ head ts → after_repeatable ts ≡ None → after_repeatable other ≡ None
  stays [] other h n = by_none after_repeatable (λ _. None) refl other h
  stays (token.Word word.Repeatable ∷ ts) other h n = absurd cc
  stays (t ∷ ts) other h n = by_head t after_repeatable (λ _. None) (λ more. refl) other h

pub read_keyed : Keyed after_read read_word
read_keyed = record { are = record { found = found; again = λ m after. refl }; stays = stays } where
  found : (ts : List Token) → HasMark (after_read ts) (λ m after. ts ≡ token.Word word.Read ∷ after)
  found (token.Word word.Read ∷ ts) = refl
  found _ = tt

  stays : (ts other : List Token) → head other ≡ head ts → after_read ts ≡ None → after_read other ≡ None
  stays [] other h n = by_none after_read (λ _. None) refl other h
  stays (token.Word word.Read ∷ ts) other h n = absurd cc
  stays (t ∷ ts) other h n = by_head t after_read (λ _. None) (λ more. refl) other h

pub as_keyed : Keyed after_as as_word
as_keyed = record { are = record { found = found; again = λ m after. refl }; stays = stays } where
  found : (ts : List Token) → HasMark (after_as ts) (λ m after. ts ≡ token.Word word.As ∷ after)
  found (token.Word word.As ∷ ts) = refl
  found _ = tt

  stays : (ts other : List Token) → head other ≡ head ts → after_as ts ≡ None → after_as other ≡ None
  stays [] other h n = by_none after_as (λ _. None) refl other h
  stays (token.Word word.As ∷ ts) other h n = absurd cc
  stays (t ∷ ts) other h n = by_head t after_as (λ _. None) (λ more. refl) other h

pub limit_keyed : Keyed after_limit limit_word
limit_keyed = record { are = record { found = found; again = λ m after. refl }; stays = stays } where
  found : (ts : List Token) → HasMark (after_limit ts) (λ m after. ts ≡ token.Word word.Limit ∷ after)
  found (token.Word word.Limit ∷ ts) = refl
  found _ = tt

  stays : (ts other : List Token) → head other ≡ head ts → after_limit ts ≡ None → after_limit other ≡ None
  stays [] other h n = by_none after_limit (λ _. None) refl other h
  stays (token.Word word.Limit ∷ ts) other h n = absurd cc
  stays (t ∷ ts) other h n = by_head t after_limit (λ _. None) (λ more. refl) other h

pub order_keyed : Keyed after_order order_word
order_keyed = record { are = record { found = found; again = λ m after. refl }; stays = stays } where
  found : (ts : List Token) → HasMark (after_order ts) (λ m after. ts ≡ token.Word word.Order ∷ after)
  found (token.Word word.Order ∷ ts) = refl
  found _ = tt

  stays : (ts other : List Token) → head other ≡ head ts → after_order ts ≡ None → after_order other ≡ None
  stays [] other h n = by_none after_order (λ _. None) refl other h
  stays (token.Word word.Order ∷ ts) other h n = absurd cc
  stays (t ∷ ts) other h n = by_head t after_order (λ _. None) (λ more. refl) other h

pub for_keyed : Keyed after_for for_word
for_keyed = record { are = record { found = found; again = λ m after. refl }; stays = stays } where
  found : (ts : List Token) → HasMark (after_for ts) (λ m after. ts ≡ token.Word word.For ∷ after)
  found (token.Word word.For ∷ ts) = refl
  found _ = tt

  stays : (ts other : List Token) → head other ≡ head ts → after_for ts ≡ None → after_for other ≡ None
  stays [] other h n = by_none after_for (λ _. None) refl other h
  stays (token.Word word.For ∷ ts) other h n = absurd cc
  stays (t ∷ ts) other h n = by_head t after_for (λ _. None) (λ more. refl) other h

pub isolation_keyed : Keyed after_isolation isolation_word
isolation_keyed = record { are = record { found = found; again = λ m after. refl }; stays = stays } where
  found : (ts : List Token) → HasMark (after_isolation ts) (λ m after. ts ≡ token.Word word.Isolation ∷ after)
  found (token.Word word.Isolation ∷ ts) = refl
  found _ = tt

  stays : (ts other : List Token) → head other ≡ head ts → after_isolation ts ≡ None → after_isolation other ≡ None
  stays [] other h n = by_none after_isolation (λ _. None) refl other h
  stays (token.Word word.Isolation ∷ ts) other h n = absurd cc
  stays (t ∷ ts) other h n = by_head t after_isolation (λ _. None) (λ more. refl) other h

pub transaction_keyed : Keyed after_transaction transaction_word
transaction_keyed = record { are = record { found = found; again = λ m after. refl }; stays = stays } where
  found : (ts : List Token) → HasMark (after_transaction ts) (λ m after. ts ≡ token.Word word.Transaction ∷ after)
  found (token.Word word.Transaction ∷ ts) = refl
  found _ = tt

  stays : (ts other : List Token) → head other ≡ head ts → after_transaction ts ≡ None → after_transaction other ≡ None
  stays [] other h n = by_none after_transaction (λ _. None) refl other h
  stays (token.Word word.Transaction ∷ ts) other h n = absurd cc
  stays (t ∷ ts) other h n = by_head t after_transaction (λ _. None) (λ more. refl) other h

pub default_keyed : Keyed after_default default_word
default_keyed = record { are = record { found = found; again = λ m after. refl }; stays = stays } where
  found : (ts : List Token) → HasMark (after_default ts) (λ m after. ts ≡ token.Word word.Default ∷ after)
  found (token.Word word.Default ∷ ts) = refl
  found _ = tt

  stays : (ts other : List Token) → head other ≡ head ts → after_default ts ≡ None → after_default other ≡ None
  stays [] other h n = by_none after_default (λ _. None) refl other h
  stays (token.Word word.Default ∷ ts) other h n = absurd cc
  stays (t ∷ ts) other h n = by_head t after_default (λ _. None) (λ more. refl) other h

pub open_keyed : Keyed after_open open_mark
open_keyed = record { are = record { found = found; again = λ m after. refl }; stays = stays } where
  found : (ts : List Token) → HasMark (after_open ts) (λ m after. ts ≡ token.Mark mark.Open ∷ after)
  found (token.Mark mark.Open ∷ ts) = refl
  found _ = tt

  stays : (ts other : List Token) → head other ≡ head ts → after_open ts ≡ None → after_open other ≡ None
  stays [] other h n = by_none after_open (λ _. None) refl other h
  stays (token.Mark mark.Open ∷ ts) other h n = absurd cc
  stays (t ∷ ts) other h n = by_head t after_open (λ _. None) (λ more. refl) other h

pub close_keyed : Keyed after_close close_mark
close_keyed = record { are = record { found = found; again = λ m after. refl }; stays = stays } where
  found : (ts : List Token) → HasMark (after_close ts) (λ m after. ts ≡ token.Mark mark.Close ∷ after)
  found (token.Mark mark.Close ∷ ts) = refl
  found _ = tt

  stays : (ts other : List Token) → head other ≡ head ts → after_close ts ≡ None → after_close other ≡ None
  stays [] other h n = by_none after_close (λ _. None) refl other h
  stays (token.Mark mark.Close ∷ ts) other h n = absurd cc
  stays (t ∷ ts) other h n = by_head t after_close (λ _. None) (λ more. refl) other h

pub equal_keyed : Keyed after_equal equal_mark
equal_keyed = record { are = record { found = found; again = λ m after. refl }; stays = stays } where
  found : (ts : List Token) → HasMark (after_equal ts) (λ m after. ts ≡ token.Mark mark.Equal ∷ after)
  found (token.Mark mark.Equal ∷ ts) = refl
  found _ = tt

  stays : (ts other : List Token) → head other ≡ head ts → after_equal ts ≡ None → after_equal other ≡ None
  stays [] other h n = by_none after_equal (λ _. None) refl other h
  stays (token.Mark mark.Equal ∷ ts) other h n = absurd cc
  stays (t ∷ ts) other h n = by_head t after_equal (λ _. None) (λ more. refl) other h

pub semicolon_keyed : Keyed after_semicolon semicolon_mark
semicolon_keyed = record { are = record { found = found; again = λ m after. refl }; stays = stays } where
  found : (ts : List Token) → HasMark (after_semicolon ts) (λ m after. ts ≡ token.Mark mark.Semicolon ∷ after)
  found (token.Mark mark.Semicolon ∷ ts) = refl
  found _ = tt

  stays : (ts other : List Token) → head other ≡ head ts → after_semicolon ts ≡ None → after_semicolon other ≡ None
  stays [] other h n = by_none after_semicolon (λ _. None) refl other h
  stays (token.Mark mark.Semicolon ∷ ts) other h n = absurd cc
  stays (t ∷ ts) other h n = by_head t after_semicolon (λ _. None) (λ more. refl) other h

pub dot_keyed : Keyed after_dot dot_mark
dot_keyed = record { are = record { found = found; again = λ m after. refl }; stays = stays } where
  found : (ts : List Token) → HasMark (after_dot ts) (λ m after. ts ≡ token.Mark mark.Dot ∷ after)
  found (token.Mark mark.Dot ∷ ts) = refl
  found _ = tt

  stays : (ts other : List Token) → head other ≡ head ts → after_dot ts ≡ None → after_dot other ≡ None
  stays [] other h n = by_none after_dot (λ _. None) refl other h
  stays (token.Mark mark.Dot ∷ ts) other h n = absurd cc
  stays (t ∷ ts) other h n = by_head t after_dot (λ _. None) (λ more. refl) other h

pub star_keyed : Keyed after_star star_mark
star_keyed = record { are = record { found = found; again = λ m after. refl }; stays = stays } where
  found : (ts : List Token) → HasMark (after_star ts) (λ m after. ts ≡ token.Mark mark.Star ∷ after)
  found (token.Mark mark.Star ∷ ts) = refl
  found _ = tt

  stays : (ts other : List Token) → head other ≡ head ts → after_star ts ≡ None → after_star other ≡ None
  stays [] other h n = by_none after_star (λ _. None) refl other h
  stays (token.Mark mark.Star ∷ ts) other h n = absurd cc
  stays (t ∷ ts) other h n = by_head t after_star (λ _. None) (λ more. refl) other h

pub work_keyed : Keyed after_work work_word
work_keyed = record { are = record { found = found; again = again }; stays = stays } where
  found : (ts : List Token) → HasMark (after_work ts) (λ m after. ts ≡ work_word m ∷ after)
  found (token.Word word.Work ∷ ts) = refl
  found (token.Word word.Transaction ∷ ts) = refl
  found _ = tt

  again : (m : Boolean) (after : List Token) → after_work (work_word m ∷ after) ≡ Some (m, after)
  again false after = refl
  again true after = refl

  stays : (ts other : List Token) → head other ≡ head ts → after_work ts ≡ None → after_work other ≡ None
  stays [] other h n = by_none after_work (λ _. None) refl other h
  stays (token.Word word.Work ∷ ts) other h n = absurd cc
  stays (token.Word word.Transaction ∷ ts) other h n = absurd cc
  stays (t ∷ ts) other h n = by_head t after_work (λ _. None) (λ more. refl) other h

pub direction_keyed : Keyed after_direction direction_word
direction_keyed = record { are = record { found = found; again = again }; stays = stays } where
  found : (ts : List Token) → HasMark (after_direction ts) (λ m after. ts ≡ direction_word m ∷ after)
  found (token.Word word.Asc ∷ ts) = refl
  found (token.Word word.Desc ∷ ts) = refl
  found _ = tt

  again : (m : Boolean) (after : List Token) → after_direction (direction_word m ∷ after) ≡ Some (m, after)
  again false after = refl
  again true after = refl

  stays : (ts other : List Token) → head other ≡ head ts → after_direction ts ≡ None → after_direction other ≡ None
  stays [] other h n = by_none after_direction (λ _. None) refl other h
  stays (token.Word word.Asc ∷ ts) other h n = absurd cc
  stays (token.Word word.Desc ∷ ts) other h n = absurd cc
  stays (t ∷ ts) other h n = by_head t after_direction (λ _. None) (λ more. refl) other h

pub name_keyed : Keyed after_name name_token
name_keyed = record { are = record { found = found; again = λ m after. refl }; stays = stays } where
  found : (ts : List Token) → HasMark (after_name ts) (λ m after. ts ≡ token.Name m ∷ after)
  found (token.Name n ∷ ts) = refl
  found _ = tt

  stays : (ts other : List Token) → head other ≡ head ts → after_name ts ≡ None → after_name other ≡ None
  stays [] other h n = by_none after_name (λ _. None) refl other h
  stays (token.Name m ∷ ts) other h n = absurd cc
  stays (t ∷ ts) other h n = by_head t after_name (λ _. None) (λ more. refl) other h

pub plain_keyed : (text : List ℕ) → Keyed (after_plain text) (plain_name text)
plain_keyed text = record { are = record { found = found; again = again }; stays = stays } where
  by_plain : (n : Name) (ts : List Token) (quoted same : Boolean) → n.quoted ≡ quoted → bytes_eq n.text text ≡ same → HasMark (cond {A = Option (Unit {0} × List Token)} (cond quoted false same) (Some (tt, ts)) None) (λ m after. token.Name n ∷ ts ≡ plain_name text m ∷ after)
  by_plain n ts true same q e = tt
  by_plain n ts false false q e = tt
  by_plain n ts false true q e = let t : n.text ≡ text = (bytes_eq-Decides n.text text).0 e in rw (sym q, sym t) refl

  found : (ts : List Token) → HasMark (after_plain text ts) (λ m after. ts ≡ plain_name text m ∷ after)
  found (token.Name n ∷ ts) = by_plain n ts n.quoted (bytes_eq n.text text) refl refl
  found _ = tt

  again : (m : Unit {0}) (after : List Token) → after_plain text (plain_name text m ∷ after) ≡ Some (m, after)
  again m after = rw ((bytes_eq-Decides text text).1 refl) refl

  stays : (ts other : List Token) → head other ≡ head ts → after_plain text ts ≡ None → after_plain text other ≡ None
  stays [] other h n = by_none (after_plain text) (λ _. None) refl other h
  stays (token.Name m ∷ ts) other h n = by_plain_head m ts (is_plain text m) refl other h n where
    by_plain_head : (m : Name) (ts : List Token) (plain : Boolean) → is_plain text m ≡ plain → (other : List Token) → head other ≡ Some (token.Name m) → cond {A = Option (Unit {0} × List Token)} plain (Some (tt, ts)) None ≡ None → after_plain text other ≡ None
    by_plain_head m ts true e other h n = absurd cc
    by_plain_head m ts false e other h n = by_head (token.Name m) (after_plain text) (λ _. None) (λ more. rw e refl) other h
  stays (t ∷ ts) other h n = by_head t (after_plain text) (λ _. None) (λ more. refl) other h

pub plain_is : (text : List ℕ) (n : Name) → is_plain text n ≡ true → n ≡ record { text = text; quoted = false }
plain_is text n e = by_parts n.quoted (bytes_eq n.text text) refl refl e where
  by_parts : (quoted same : Boolean) → n.quoted ≡ quoted → bytes_eq n.text text ≡ same → cond quoted false same ≡ true → n ≡ record { text = text; quoted = false }
  by_parts true same q b e = absurd cc
  by_parts false false q b e = absurd cc
  by_parts false true q b e = let t : n.text ≡ text = (bytes_eq-Decides n.text text).0 b in rw (sym q, sym t) refl

pub count_found : (ts : List Token) → HasMark (after_count ts) (λ m after. ts ≡ plain_name (codes "count") m ∷ token.Mark mark.Open ∷ after)
count_found (token.Name n ∷ token.Mark mark.Open ∷ ts) = by_plain (is_plain (codes "count") n) refl where
  by_plain : (b : Boolean) → is_plain (codes "count") n ≡ b → HasMark (cond {A = Option (Unit {0} × List Token)} b (Some (tt, ts)) None) (λ m after. token.Name n ∷ token.Mark mark.Open ∷ ts ≡ plain_name (codes "count") m ∷ token.Mark mark.Open ∷ after)
  by_plain true e = ap (λ (x : Name). token.Name x ∷ token.Mark mark.Open ∷ ts) (plain_is (codes "count") n e)
  by_plain false e = tt
count_found _ = tt
