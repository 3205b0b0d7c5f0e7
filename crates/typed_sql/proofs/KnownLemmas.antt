-- What is known of the parameters, with a type more.
use Rattle.std.proofs.Common.{◌≡◌, ℕ, zero, suc, ◌-◌, ◌<◌, ◌≤◌, List, [], ◌++◌, length, take, refl, ap, sym, ◌∙◌, arith}
use Rattle.std.specs.Prelude.{Option, Some, None, replicate, set}
use Rattle.std.proofs.lemmas.List.{take_all, append-nil}
use Rattle.pg_values.specs.declared.col_type.ColType.{ColType}
use Rattle.typed_sql.specs.Steps.{Known, with_kind}

-- there are as many, or they are filled up
pub as_many : (n : ℕ) (old : Known) → n ≤ length old → old ≡ old ++ replicate (n - length old) None
as_many n old le = let e : n - length old ≡ 0 = omega arith in rw e (sym (append-nil old))

pub filled_up : (n : ℕ) (old new : Known) → length old < n → new ≡ take n old ++ replicate (n - length old) None
    → new ≡ old ++ replicate (n - length old) None
filled_up n old new lt is = is ∙ ap (λ front. front ++ replicate (n - length old) None) (take_all n old (omega arith))

pub put_known : (number : ℕ) (kind : ColType) (old mid new : Known) → 0 < number → mid ≡ old ++ replicate (number - length old) None
    → new ≡ set mid (number - 1) (Some kind) → new ≡ with_kind number kind old
put_known zero kind old mid new below is now = absurd (omega arith)
put_known (suc at) kind old mid new below is now =
    let e : suc at - 1 ≡ at = omega arith in
    now ∙ (ap (λ k. set mid k (Some kind)) e ∙ ap (λ m. set m at (Some kind)) is)
