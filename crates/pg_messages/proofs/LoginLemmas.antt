-- The clauses of reading and writing what a client says while it shows its password.
use Rattle.std.proofs.Common.{◌≡◌, ℕ, List, ◌++◌, length, Result, Ok, Err, refl, sym, ap, subst, ◌∙◌}
use Rattle.std.specs.Prelude.{◌↔◌, IfOk, OnOk}
use Rattle.std.proofs.lemmas.Bool.{eqb-true, eq-eqb}
use Rattle.pool_base.specs.declared.no_memory.NoMemory.{NoMemory}
use Rattle.pg_messages.specs.declared.read.Read.{Read}
use Rattle.pg_messages.specs.declared.read.Read.TheVariants.{Whole, More, Bad, TooLong}
use Rattle.pg_messages.specs.Fields.{AreBytes}
use Rattle.pg_messages.specs.Frame.{framed, message_layout, IsCut, IsBadAt, IsTooLong, BeginsWith}
use Rattle.pg_messages.specs.Login.{IsLoginType, is_login_type, login_in, LoginFits, IsLoginForm}
use Rattle.pg_messages.specs.Fronts.{login_front}
use Rattle.pg_messages.proofs.FieldLemmas.{some_is}
use Rattle.pg_messages.proofs.SideLemmas.{IsSide, form_again, whole_to_side, whole_from_side, more_to_side, more_from_side, long_to_side, long_from_side, bad_to_side, bad_from_side}

login_side : IsSide is_login_type IsLoginType login_in IsLoginForm
login_side = record {
  to_type = λ tag t. eqb-true tag 112 t;
  from_type = λ tag is. eq-eqb tag 112 is;
  takes = λ tag body m t fits short e.
      let same = some_is body m e in
      let type = eqb-true tag 112 t in
      subst (λ (x : List ℕ). IsLoginForm x (framed tag body)) same (fits, short, ap (λ (k : ℕ). framed k body) type);
  again = λ m bytes is. record {
    tag = 112;
    body = m;
    parts = is.2;
    typed = refl;
    short = is.1;
    read = refl;
  };
}

pub login_whole : (bytes : List ℕ) (r : Result (Read (List ℕ)) NoMemory) → AreBytes bytes → IfOk r (λ read. read ≡ login_front bytes) → IfOk r (λ read. (m : List ℕ) (n : ℕ) → (read ≡ Whole m n) ↔ BeginsWith IsLoginForm m n bytes)
unfolding login_front
login_whole bytes (Ok read) fits e = λ m n. (λ h. whole_to_side login_side m n bytes fits (sym e ∙ h), λ h. e ∙ whole_from_side login_side m n bytes h)
login_whole bytes (Err x) fits e = tt

pub login_more : (bytes : List ℕ) (r : Result (Read (List ℕ)) NoMemory) → IfOk r (λ read. read ≡ login_front bytes) → IfOk r (λ read. (read ≡ More) ↔ IsCut message_layout IsLoginType bytes)
unfolding login_front
login_more bytes (Ok read) e = (λ h. more_to_side login_side bytes (sym e ∙ h), λ h. e ∙ more_from_side login_side bytes h)
login_more bytes (Err x) e = tt

pub login_bad : (bytes : List ℕ) (r : Result (Read (List ℕ)) NoMemory) → AreBytes bytes → IfOk r (λ read. read ≡ login_front bytes) → IfOk r (λ read. (place : ℕ) → (read ≡ Bad place) ↔ IsBadAt message_layout IsLoginType IsLoginForm place bytes)
unfolding login_front
login_bad bytes (Ok read) fits e = λ place. (λ h. bad_to_side login_side place bytes (sym e ∙ h), λ h. e ∙ bad_from_side login_side place bytes fits h)
login_bad bytes (Err x) fits e = tt

pub login_long : (bytes : List ℕ) (r : Result (Read (List ℕ)) NoMemory) → IfOk r (λ read. read ≡ login_front bytes) → IfOk r (λ read. (n : ℕ) → (read ≡ TooLong n) ↔ IsTooLong message_layout IsLoginType n bytes)
unfolding login_front
login_long bytes (Ok read) e = λ n. (λ h. long_to_side login_side n bytes (sym e ∙ h), λ h. e ∙ long_from_side login_side n bytes h)
login_long bytes (Err x) e = tt

-- what is written of a body is read again
pub login_again : (body rest : List ℕ) → AreBytes body → LoginFits body → login_front (framed 112 body ++ rest) ≡ Whole body (length (framed 112 body))
unfolding login_front
login_again body rest bytes fits = form_again login_side body (framed 112 body) rest (bytes, fits, refl)

pub login_written : (body : List ℕ) {X : Type 0} (r : Result X NoMemory) → AreBytes body → LoginFits body → OnOk r ((rest : List ℕ) → login_front (framed 112 body ++ rest) ≡ Whole body (length (framed 112 body)))
login_written body (Ok x) bytes fits = λ rest. login_again body rest bytes fits
login_written body (Err x) bytes fits = tt
