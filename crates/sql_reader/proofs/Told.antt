-- What is told of a text, from what is answered of its tokens.
use Rattle.std.proofs.Common.{◌≡◌, ◌≤◌, ℕ, List, length, Result, Ok, Err, sym, ap, subst, ◌∙◌}
use Rattle.sql_tokens.specs.declared.fault.Awaited.{Awaited}
use Rattle.sql_tokens.specs.Grammar.{IsPlace, IsTooDeep}
use Rattle.sql_tokens.specs.declared.token.Placed.{Placed}
use Rattle.sql_tokens.specs.declared.token.Token.{Token}
use Rattle.sql_tree.specs.declared.statement.Statement.{Statement}
use Rattle.sql_reader.specs.declared.text_fault.TextError.{TextError}
use Rattle.sql_reader.specs.declared.text_fault.TextError.TheVariants as errors
use Rattle.sql_reader.specs.declared.text_fault.TextFault.{TextFault}
use Rattle.sql_reader.specs.declared.text_fault.TextFault.TheVariants as text_fault
use Rattle.sql_reader.specs.TextGrammar.{IsText, IsTextWithin, HaveFrom, IsWithoutFrom, IsTooMany}
use Rattle.sql_reader.specs.TextReading.{Answers}
use Rattle.sql_reader.specs.declared.fault.SqlFault.{SqlFault}
use Rattle.sql_reader.specs.declared.fault.SqlFault.TheVariants.{Syntax, Outside, TooLong, NoMemory}
use Rattle.sql_reader.specs.Text.{tokens_of, places_of, told_of, GoesWrong, AreRead, AreRefusedBy}

-- where the reader of statements fails, the tokens go wrong
pub goes_wrong : (tokens : List Token) (r : Result (List Statement) TextError)
    → ((left : ℕ) (awaited : Awaited) → r ≡ Err (errors.Fault (text_fault.Syntax left awaited)) → IsPlace IsText tokens left)
    → ((left : ℕ) → r ≡ Err (errors.Fault (text_fault.TooDeep left)) → IsTooDeep IsText (IsTextWithin 64) tokens left)
    → ((left : ℕ) → r ≡ Err (errors.Fault (text_fault.WithoutFrom left)) → IsWithoutFrom 64 tokens left)
    → ((left : ℕ) → r ≡ Err (errors.Fault (text_fault.TooMany left)) → IsTooMany 64 tokens left)
    → (fault : TextFault) → r ≡ Err (errors.Fault fault) → GoesWrong tokens fault
goes_wrong tokens r place deep bare many (text_fault.Syntax left awaited) is = place left awaited is
goes_wrong tokens r place deep bare many (text_fault.TooDeep left) is = deep left is
goes_wrong tokens r place deep bare many (text_fault.WithoutFrom left) is = bare left is
goes_wrong tokens r place deep bare many (text_fault.TooMany left) is = many left is

-- what is told of tokens that go wrong is what refuses them
pub refused_by : (placed : List Placed) (size : ℕ) (fault : TextFault) (e : SqlFault) → GoesWrong (tokens_of placed) fault → e ≡ told_of (tokens_of placed) (places_of placed) size fault → AreRefusedBy placed size e
refused_by placed size fault (Syntax place) h is = (fault, h, is)
refused_by placed size fault (Outside name place) h is = (fault, h, is)
refused_by placed size fault TooLong h is = (fault, h, is)
refused_by placed size fault NoMemory h is = tt

module _ (placed : List Placed) (ts : List Token) (is : ts ≡ tokens_of placed) where
  pub are_read : (all : List Statement) → IsTextWithin 64 ts all → length all ≤ 256 → HaveFrom all → AreRead placed all
  are_read all found few have = (subst (λ (l : List Token). IsTextWithin 64 l all) is found, few, have)

  same : (a b : List Statement) → Answers (λ (x : List Statement). x) (Ok b) (Ok a) → b ≡ a
  same a b e = cc

  pub only_read : (read : List Statement) → ((all : List Statement) → IsTextWithin 64 ts all → length all ≤ 256 → HaveFrom all → Answers (λ (x : List Statement). x) (Ok read) (Ok all)) → (all : List Statement) → AreRead placed all → read ≡ all
  only_read read only all h = same all read (only all (subst (λ (l : List Token). IsTextWithin 64 l all) (sym is) h.0) h.1 h.2)

  pub refused : (size : ℕ) (us : List Token) (places : List ℕ) (fault : TextFault) (e : SqlFault) → us ≡ tokens_of placed → places ≡ places_of placed → GoesWrong ts fault → e ≡ told_of us places size fault → AreRefusedBy placed size e
  refused size us places fault e us_are places_are h told =
      refused_by placed size fault e (subst (λ (l : List Token). GoesWrong l fault) is h)
      (told ∙ ap (λ (l : List Token). told_of l places size fault) us_are ∙ ap (λ (l : List ℕ). told_of (tokens_of placed) l size fault) places_are)
