-- What a line comes to behind those that were read.
use Rattle.std.proofs.Common.{◌≡◌, ◌+◌, ℕ, Bool, true, false, List, [], ◌∷◌, ◌++◌, Option, Some, None, Result, Ok, Err, bytes_eq, refl, ap, sym, ◌∙◌, if◌then◌else◌, append_assoc}
use Rattle.serve_base.specs.Status.{last_line}
use Rattle.serve_base.specs.Reader.{closed, fault_behind, joined, line_in, onto_read, rows_in}
use Rattle.serve_base.specs.declared.status.Standing.{Standing}
use Rattle.serve_base.specs.declared.status.StatusFault.{StatusFault}
use Rattle.serve_base.specs.declared.status.StatusFault.TheVariants.{BadLine}

onto_joined : (all : List Standing) (s : Standing) (n : ℕ) (more : Result (List Standing) StatusFault) → onto_read all (joined n (Some s) more) ≡ onto_read (all ++ s ∷ []) more
onto_joined all s n (Ok rest) = ap (λ (xs : List Standing). Ok xs) (sym (append_assoc all (s ∷ []) rest))
onto_joined all s n (Err fault) = refl

-- the line of one more backend
pub row_read : (all : List Standing) (s : Standing) (n : ℕ) (row : List ℕ) (rows : List (List ℕ)) → bytes_eq row (last_line n) ≡ false → line_in n row ≡ Some s
    → onto_read all (rows_in n (row ∷ rows)) ≡ onto_read (all ++ s ∷ []) (rows_in (n + 1) rows)
row_read all s n row rows other is =
    ap (λ (t : Bool). onto_read all (if t then closed (fault_behind n rows) else joined n (line_in n row) (rows_in (n + 1) rows))) other
    ∙ (ap (λ (o : Option Standing). onto_read all (joined n o (rows_in (n + 1) rows))) is ∙ onto_joined all s n (rows_in (n + 1) rows))

-- a line that is none
pub row_bad : (all : List Standing) (n : ℕ) (row : List ℕ) (rows : List (List ℕ)) → bytes_eq row (last_line n) ≡ false → line_in n row ≡ None
    → onto_read all (rows_in n (row ∷ rows)) ≡ Err (BadLine (n + 2))
row_bad all n row rows other is =
    ap (λ (t : Bool). onto_read all (if t then closed (fault_behind n rows) else joined n (line_in n row) (rows_in (n + 1) rows))) other
    ∙ ap (λ (o : Option Standing). onto_read all (joined n o (rows_in (n + 1) rows))) is

-- the last line
pub row_last : (all : List Standing) (n : ℕ) (row : List ℕ) (rows : List (List ℕ)) → bytes_eq row (last_line n) ≡ true
    → onto_read all (rows_in n (row ∷ rows)) ≡ onto_read all (closed (fault_behind n rows))
row_last all n row rows last =
    ap (λ (t : Bool). onto_read all (if t then closed (fault_behind n rows) else joined n (line_in n row) (rows_in (n + 1) rows))) last
