-- What may follow a statement and its parts.
use Rattle.std.proofs.Common.{List, [], ◌∷◌, refl}
use Rattle.sql_tokens.proofs.Good.{Any, Stops}
use Rattle.sql_tokens.specs.declared.mark.Mark.TheVariants as mark
use Rattle.sql_tokens.specs.declared.token.Token.{Token}
use Rattle.sql_tokens.specs.declared.token.Token.TheVariants as token
use Rattle.sql_tokens.specs.declared.word.Word.TheVariants as word
use Rattle.sql_expr.specs.Reading.{after_comma}
use Rattle.sql_expr.proofs.Ends.{EndsOr}
use Rattle.sql_reader.specs.Grammar.{Bound}
use Rattle.sql_reader.specs.Words.{after_where, after_work, after_isolation, after_as, after_from, after_order, after_limit, after_for, after_dot, after_direction}

-- a filter ends here
abbrev pub EndsFilter : List Token → Type 0
EndsFilter = Stops EndsOr after_where

abbrev pub EndsSets : List Token → Type 0
EndsSets = Stops EndsOr after_comma

abbrev pub EndsUpdate : List Token → Type 0
EndsUpdate = Stops EndsFilter after_comma

abbrev pub EndsWork : List Token → Type 0
EndsWork = Stops Any after_work

abbrev pub EndsIsolation : List Token → Type 0
EndsIsolation = Stops Any after_isolation

abbrev pub EndsBegin : List Token → Type 0
EndsBegin = Stops EndsIsolation after_work

pub where_stops : (after : List Token) → EndsSets (token.Word word.Where ∷ after)
where_stops after = (((((((((refl, refl), refl), refl), refl), refl), refl), refl), refl), refl)

pub bound_filter : (ts : List Token) → Bound ts → EndsFilter ts
bound_filter [] h = (((((((((refl, refl), refl), refl), refl), refl), refl), refl), refl), refl)
bound_filter (token.Mark mark.Semicolon ∷ ts) h = (((((((((refl, refl), refl), refl), refl), refl), refl), refl), refl), refl)
bound_filter _ h = absurd h

pub bound_update : (ts : List Token) → Bound ts → EndsUpdate ts
bound_update [] h = (bound_filter [] h, refl)
bound_update (token.Mark mark.Semicolon ∷ ts) h = (bound_filter (token.Mark mark.Semicolon ∷ ts) h, refl)
bound_update _ h = absurd h

pub bound_work : (ts : List Token) → Bound ts → EndsWork ts
bound_work [] h = (tt, refl)
bound_work (token.Mark mark.Semicolon ∷ ts) h = (tt, refl)
bound_work _ h = absurd h

pub bound_isolation : (ts : List Token) → Bound ts → EndsIsolation ts
bound_isolation [] h = (tt, refl)
bound_isolation (token.Mark mark.Semicolon ∷ ts) h = (tt, refl)
bound_isolation _ h = absurd h

pub bound_begin : (ts : List Token) → Bound ts → EndsBegin ts
bound_begin [] h = ((tt, refl), refl)
bound_begin (token.Mark mark.Semicolon ∷ ts) h = ((tt, refl), refl)
bound_begin _ h = absurd h

-- ---- SELECT

abbrev pub EndsItem : List Token → Type 0
EndsItem = Stops EndsOr after_as

abbrev pub EndsList : List Token → Type 0
EndsList = Stops EndsItem after_comma

abbrev pub EndsOrderItem : List Token → Type 0
EndsOrderItem = Stops (Stops Any after_direction) after_dot

abbrev pub EndsOrder : List Token → Type 0
EndsOrder = Stops (Stops EndsOrderItem after_comma) after_order

abbrev pub EndsSize : List Token → Type 0
EndsSize = Stops Any after_limit

abbrev pub EndsLock : List Token → Type 0
EndsLock = Stops Any after_for

pub as_stops : (after : List Token) → EndsOr (token.Word word.As ∷ after)
as_stops after = ((((((((refl, refl), refl), refl), refl), refl), refl), refl), refl)

pub from_list : (after : List Token) → EndsList (token.Word word.From ∷ after)
from_list after = ((((((((((refl, refl), refl), refl), refl), refl), refl), refl), refl), refl), refl)

pub order_filter : (after : List Token) → EndsFilter (token.Word word.Order ∷ after)
order_filter after = (((((((((refl, refl), refl), refl), refl), refl), refl), refl), refl), refl)

pub limit_filter : (after : List Token) → EndsFilter (token.Word word.Limit ∷ after)
limit_filter after = (((((((((refl, refl), refl), refl), refl), refl), refl), refl), refl), refl)

pub for_filter : (after : List Token) → EndsFilter (token.Word word.For ∷ after)
for_filter after = (((((((((refl, refl), refl), refl), refl), refl), refl), refl), refl), refl)

pub limit_order : (after : List Token) → EndsOrder (token.Word word.Limit ∷ after)
limit_order after = ((((tt, refl), refl), refl), refl)

pub for_order : (after : List Token) → EndsOrder (token.Word word.For ∷ after)
for_order after = ((((tt, refl), refl), refl), refl)

pub for_size : (after : List Token) → EndsSize (token.Word word.For ∷ after)
for_size after = (tt, refl)

pub bound_list : (ts : List Token) → Bound ts → EndsList ts
bound_list [] h = ((((((((((refl, refl), refl), refl), refl), refl), refl), refl), refl), refl), refl)
bound_list (token.Mark mark.Semicolon ∷ ts) h = ((((((((((refl, refl), refl), refl), refl), refl), refl), refl), refl), refl), refl)
bound_list _ h = absurd h

pub bound_from : (ts : List Token) → Bound ts → Stops Bound after_from ts
bound_from [] h = (tt, refl)
bound_from (token.Mark mark.Semicolon ∷ ts) h = (tt, refl)
bound_from _ h = absurd h

pub bound_order : (ts : List Token) → Bound ts → EndsOrder ts
bound_order [] h = ((((tt, refl), refl), refl), refl)
bound_order (token.Mark mark.Semicolon ∷ ts) h = ((((tt, refl), refl), refl), refl)
bound_order _ h = absurd h

pub bound_size : (ts : List Token) → Bound ts → EndsSize ts
bound_size [] h = (tt, refl)
bound_size (token.Mark mark.Semicolon ∷ ts) h = (tt, refl)
bound_size _ h = absurd h

pub bound_lock : (ts : List Token) → Bound ts → EndsLock ts
bound_lock [] h = (tt, refl)
bound_lock (token.Mark mark.Semicolon ∷ ts) h = (tt, refl)
bound_lock _ h = absurd h

pub bound_rows : (ts : List Token) → Bound ts → Stops Any after_comma ts
bound_rows [] h = (tt, refl)
bound_rows (token.Mark mark.Semicolon ∷ ts) h = (tt, refl)
bound_rows _ h = absurd h
