-- What stands for one or two tokens, and how a name calls a function.
use Rattle.std.proofs.Common.{◌≡◌, ℕ, ◌<◌, Bool as Boolean, true, false, cond, List, ◌∷◌, length, Option, Some, None, Ok, refl, ap, arith, inl, inr}
use Rattle.std.specs.Prelude.{codes}
use Rattle.std.specs.Str.{bytes_eq}
use Rattle.std.proofs.lemmas.Slice.Eq.{bytes_eq-Decides}
use Rattle.sql_tokens.specs.Grammar.{Form}
use Rattle.sql_tokens.proofs.Good.{Has, Any, Good, then_has}
use Rattle.sql_tokens.specs.declared.mark.Mark.TheVariants as mark
use Rattle.sql_tokens.specs.declared.token.Name.{Name}
use Rattle.sql_tokens.specs.declared.token.Token.{Token}
use Rattle.sql_tokens.specs.declared.token.Token.TheVariants as token
use Rattle.sql_tokens.specs.declared.word.Word.TheVariants as word
use Rattle.sql_tree.specs.declared.expr.Expr.{Expr}
use Rattle.sql_expr.specs.declared.opening.Function.{Function}
use Rattle.sql_expr.specs.declared.opening.Function.TheVariants as function
use Rattle.sql_expr.specs.Grammar.{IsPlain, function_word, function_tree, NullityOf}
use Rattle.sql_expr.specs.Reading.{close_at, in_at, null_at, name_at, string_at, nullity_at, called_at, function_of}

-- a name, by its text
abbrev pub NameOf : Form Token (List ℕ)
NameOf ts a rest = (n : Name) × (ts ≡ token.Name n ∷ rest) × (a ≡ n.text)

abbrev pub StringOf : Form Token (List ℕ)
StringOf ts a rest = ts ≡ token.Str a ∷ rest

abbrev pub CloseOf : Form Token (Unit {0})
CloseOf ts _ rest = ts ≡ token.Mark mark.Close ∷ rest

abbrev pub InOf : Form Token (Unit {0})
InOf ts _ rest = ts ≡ token.Word word.In ∷ rest

abbrev pub NullOf : Form Token (Unit {0})
NullOf ts _ rest = ts ≡ token.Word word.Null ∷ rest

abbrev pub CalledOf : Function → Form Token Expr
CalledOf f ts e rest = (ts ≡ token.Mark mark.Close ∷ rest) × (e ≡ function_tree f)

pub close_takes : (ts : List Token) → Has (close_at ts) (CloseOf ts)
close_takes (token.Mark mark.Close ∷ ts) = refl
close_takes _ = tt

pub in_takes : (ts : List Token) → Has (in_at ts) (InOf ts)
in_takes (token.Word word.In ∷ ts) = refl
in_takes _ = tt

pub null_takes : (ts : List Token) → Has (null_at ts) (NullOf ts)
null_takes (token.Word word.Null ∷ ts) = refl
null_takes _ = tt

pub name_takes : (ts : List Token) → Has (name_at ts) (NameOf ts)
name_takes (token.Name n ∷ ts) = (n, refl, refl)
name_takes _ = tt

pub string_takes : (ts : List Token) → Has (string_at ts) (StringOf ts)
string_takes (token.Str s ∷ ts) = refl
string_takes _ = tt

pub good_nullity : Good NullityOf nullity_at Any
good_nullity = record { takes = takes; again = again; less = less } where
  takes : (ts : List Token) → Has (nullity_at ts) (NullityOf ts)
  takes (token.Word word.Null ∷ ts) = inl (refl, refl)
  takes (token.Word word.Not ∷ ts) = then_has (null_at ts) _ (NullOf ts) _ (null_takes ts) (λ x h. inr (ap (λ (l : List Token). token.Word word.Not ∷ l) h, refl))
  takes _ = tt

  again : (ts : List Token) (a : Boolean) (rest : List Token) → NullityOf ts a rest → Any rest → nullity_at ts ≡ Ok (a, rest)
  again ts a rest (inl h) ends = rw (h.0, h.1) refl
  again ts a rest (inr h) ends = rw (h.0, h.1) refl

  less : (ts : List Token) (a : Boolean) (rest : List Token) → NullityOf ts a rest → length rest < length ts
  less ts a rest (inl h) = omega (arith, ap length h.0)
  less ts a rest (inr h) = omega (arith, ap length h.0)

pub good_called : (f : Function) → Good (CalledOf f) (called_at f) Any
good_called f = record { takes = takes; again = again; less = less } where
  takes : (ts : List Token) → Has (called_at f ts) (CalledOf f ts)
  takes (token.Mark mark.Close ∷ ts) = (refl, refl)
  takes _ = tt

  again : (ts : List Token) (e : Expr) (rest : List Token) → CalledOf f ts e rest → Any rest → called_at f ts ≡ Ok (e, rest)
  again ts e rest h ends = rw (h.0, h.1) refl

  less : (ts : List Token) (e : Expr) (rest : List Token) → CalledOf f ts e rest → length rest < length ts
  less ts e rest h = omega (arith, ap length h.0)

-- ---- the function that a name calls

abbrev pub Calls : Name → Option Function → Type 0
Calls n None = Unit {0}
Calls n (Some f) = IsPlain (function_word f) n

chosen : (n : Name) (quoted now transaction : Boolean) → n.quoted ≡ quoted → bytes_eq n.text (codes "now") ≡ now → bytes_eq n.text (codes "transaction_timestamp") ≡ transaction
    → Calls n (cond quoted None (cond now (Some function.Now) (cond transaction (Some function.TransactionTimestamp) None)))
chosen n true now transaction q a b = tt
chosen n false true transaction q a b = (q, (bytes_eq-Decides n.text (codes "now")).0 a)
chosen n false false true q a b = (q, (bytes_eq-Decides n.text (codes "transaction_timestamp")).0 b)
chosen n false false false q a b = tt

pub function_found : (n : Name) → Calls n (function_of n)
function_found n = chosen n n.quoted (bytes_eq n.text (codes "now")) (bytes_eq n.text (codes "transaction_timestamp")) refl refl refl

pub function_again : (f : Function) (n : Name) → IsPlain (function_word f) n → function_of n ≡ Some f
function_again function.Now n h = rw (h.0, h.1) refl
function_again function.TransactionTimestamp n h = rw (h.0, h.1) refl
