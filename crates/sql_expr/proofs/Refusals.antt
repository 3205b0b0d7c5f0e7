-- What stands for one or two tokens is refused at the first that does not fit.
use Rattle.std.proofs.Common.{◌≡◌, true, false, List, [], ◌∷◌, length, Ok, Err, refl, ap, inl, inr}
use Rattle.sql_tokens.specs.declared.fault.Awaited.TheVariants.{Word, Arguments, Close}
use Rattle.sql_tokens.specs.declared.fault.Fault.TheVariants.{Syntax}
use Rattle.sql_tokens.specs.Reading.{◌>>=◌}
use Rattle.sql_tokens.proofs.Good.{Any}
use Rattle.sql_tokens.proofs.Told.{Told, told_map, takes, refuses, behind, by_none, by_head}
use Rattle.sql_tokens.specs.declared.mark.Mark.TheVariants as mark
use Rattle.sql_tokens.specs.declared.token.Name.{Name}
use Rattle.sql_tokens.specs.declared.token.Token.{Token}
use Rattle.sql_tokens.specs.declared.token.Token.TheVariants as token
use Rattle.sql_tokens.specs.declared.word.Word.TheVariants as word
use Rattle.sql_expr.specs.declared.opening.Function.{Function}
use Rattle.sql_expr.specs.Grammar.{function_tree, NullityOf}
use Rattle.sql_expr.specs.Reading.{close_at, in_at, null_at, name_at, string_at, nullity_at, called_at}
use Rattle.sql_expr.proofs.Pieces.{NameOf, StringOf, CloseOf, InOf, NullOf, CalledOf}

-- a name that calls nothing
abbrev pub blank : Name
blank = record { text = []; quoted = true }

pub close_told : (ts : List Token) → Told true CloseOf close_at Any ts (close_at ts)
close_told (token.Mark mark.Close ∷ ts) = takes (token.Mark mark.Close) CloseOf close_at ts tt (λ other. refl) (λ other. refl)
close_told [] = refuses CloseOf close_at Any Close [] (by_none close_at (λ o. Err (Syntax (length o) Close)) refl) (token.Mark mark.Close ∷ []) tt (λ k h. refl)
close_told (t ∷ ts) = refuses CloseOf close_at Any Close (t ∷ ts) (by_head t close_at (λ o. Err (Syntax (length o) Close)) (λ more. refl)) (token.Mark mark.Close ∷ []) tt (λ k h. refl)

pub in_told : (ts : List Token) → Told true InOf in_at Any ts (in_at ts)
in_told (token.Word word.In ∷ ts) = takes (token.Word word.In) InOf in_at ts tt (λ other. refl) (λ other. refl)
in_told [] = refuses InOf in_at Any Word [] (by_none in_at (λ o. Err (Syntax (length o) Word)) refl) (token.Word word.In ∷ []) tt (λ k h. refl)
in_told (t ∷ ts) = refuses InOf in_at Any Word (t ∷ ts) (by_head t in_at (λ o. Err (Syntax (length o) Word)) (λ more. refl)) (token.Word word.In ∷ []) tt (λ k h. refl)

pub null_told : (ts : List Token) → Told true NullOf null_at Any ts (null_at ts)
null_told (token.Word word.Null ∷ ts) = takes (token.Word word.Null) NullOf null_at ts tt (λ other. refl) (λ other. refl)
null_told [] = refuses NullOf null_at Any Word [] (by_none null_at (λ o. Err (Syntax (length o) Word)) refl) (token.Word word.Null ∷ []) tt (λ k h. refl)
null_told (t ∷ ts) = refuses NullOf null_at Any Word (t ∷ ts) (by_head t null_at (λ o. Err (Syntax (length o) Word)) (λ more. refl)) (token.Word word.Null ∷ []) tt (λ k h. refl)

pub name_told : (ts : List Token) → Told true NameOf name_at Any ts (name_at ts)
name_told (token.Name n ∷ ts) = takes (token.Name n) NameOf name_at ts n.text (λ other. refl) (λ other. (n, refl, refl))
name_told [] = refuses NameOf name_at Any Word [] (by_none name_at (λ o. Err (Syntax (length o) Word)) refl) (token.Name blank ∷ []) [] (λ k h. (blank, refl, refl))
name_told (t ∷ ts) = refuses NameOf name_at Any Word (t ∷ ts) (by_head t name_at (λ o. Err (Syntax (length o) Word)) (λ more. refl)) (token.Name blank ∷ []) [] (λ k h. (blank, refl, refl))

pub string_told : (ts : List Token) → Told true StringOf string_at Any ts (string_at ts)
string_told (token.Str s ∷ ts) = takes (token.Str s) StringOf string_at ts s (λ other. refl) (λ other. refl)
string_told [] = refuses StringOf string_at Any Word [] (by_none string_at (λ o. Err (Syntax (length o) Word)) refl) (token.Str [] ∷ []) [] (λ k h. refl)
string_told (t ∷ ts) = refuses StringOf string_at Any Word (t ∷ ts) (by_head t string_at (λ o. Err (Syntax (length o) Word)) (λ more. refl)) (token.Str [] ∷ []) [] (λ k h. refl)

pub nullity_told : (ts : List Token) → Told true NullityOf nullity_at Any ts (nullity_at ts)
nullity_told (token.Word word.Null ∷ ts) = takes (token.Word word.Null) NullityOf nullity_at ts false (λ other. refl) (λ other. inl (refl, refl))
nullity_told (token.Word word.Not ∷ ts) = behind true (token.Word word.Not) NullityOf (λ m a rest. (m ≡ token.Word word.Null ∷ rest) × (a ≡ true)) nullity_at (λ m. null_at m >>= λ x. Ok (true, x.1)) Any ts (null_at ts >>= λ x. Ok (true, x.1)) (λ other. refl) (λ m a rest h. inr (ap (λ (l : List Token). token.Word word.Not ∷ l) h.0, h.1))
    (told_map true NullOf null_at Any (λ _. true) (λ m a rest. (m ≡ token.Word word.Null ∷ rest) × (a ≡ true)) (λ m. null_at m >>= λ x. Ok (true, x.1)) (λ ts. refl) (λ ts a rest h. (h, refl)) ts (null_told ts))
nullity_told [] = refuses NullityOf nullity_at Any Word [] (by_none nullity_at (λ o. Err (Syntax (length o) Word)) refl) (token.Word word.Null ∷ []) false (λ k h. inl (refl, refl))
nullity_told (t ∷ ts) = refuses NullityOf nullity_at Any Word (t ∷ ts) (by_head t nullity_at (λ o. Err (Syntax (length o) Word)) (λ more. refl)) (token.Word word.Null ∷ []) false (λ k h. inl (refl, refl))

pub called_told : (f : Function) (ts : List Token) → Told true (CalledOf f) (called_at f) Any ts (called_at f ts)
called_told f (token.Mark mark.Close ∷ ts) = takes (token.Mark mark.Close) (CalledOf f) (called_at f) ts (function_tree f) (λ other. refl) (λ other. (refl, refl))
called_told f [] = refuses (CalledOf f) (called_at f) Any Arguments [] (by_none (called_at f) (λ o. Err (Syntax (length o) Arguments)) refl) (token.Mark mark.Close ∷ []) (function_tree f) (λ k h. (refl, refl))
called_told f (t ∷ ts) = refuses (CalledOf f) (called_at f) Any Arguments (t ∷ ts) (by_head t (called_at f) (λ o. Err (Syntax (length o) Arguments)) (λ more. refl)) (token.Mark mark.Close ∷ []) (function_tree f) (λ k h. (refl, refl))
