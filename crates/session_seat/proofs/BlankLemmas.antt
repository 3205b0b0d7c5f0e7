-- A store that is blank.
use Rattle.std.proofs.Common.{◌≡◌, true, false, refl, sym, subst}
use Rattle.std.specs.Prelude.{Option, Some, None, is_some}
use Rattle.std.specs.FinMap as fin
use Rattle.sql_eval.specs.declared.row.Row.{Row}
use Rattle.backend_trait.specs.Keys.{place_order}
use Rattle.backend_trait.specs.Store.{Store, Pending, Transaction, Absent, Alive, Dead, blank, standing_of}
use Rattle.backend_rolls.specs.declared.known.Holds.TheVariants as holding
use Rattle.backend_rolls.specs.Known.{holds_as}
use Rattle.session_seat.specs.Rolls.{IsBlank}

no_transaction : (transaction : Transaction) → holds_as (standing_of transaction) ≡ holding.Nothing → transaction ≡ Absent
no_transaction Absent is = refl
no_transaction (Alive t) is = absurd (let never : holding.Live ≡ holding.Nothing = is in cc)
no_transaction Dead is = absurd (let never : holding.Dead ≡ holding.Nothing = is in cc)

no_pending : (pending : Option Pending) → is_some pending ≡ false → pending ≡ None
no_pending None is = refl
no_pending (Some p) is = absurd (let never : true ≡ false = is in cc)

pub is_blank : (st : Store) → IsBlank st → st ≡ blank
is_blank st is =
    let tables = is.0 in
    let rows = fin.empty_of_len st.rows is.1.0 in
    λ i. record {
      tables = tables i;
      rows = rows i;
      next = λ table. is.1.1.0 table i;
      transaction = λ s. no_transaction (st.transaction s) (is.1.1.1.0 s) i;
      pending = λ s. no_pending (st.pending s) (is.1.1.1.1.0 s) i;
      lost = is.1.1.1.1.1 i;
    }

none_blank : IsBlank blank
none_blank = (refl, (fin.len-empty place_order Row, (λ table. refl, (λ s. refl, (λ s. refl, refl)))))

pub blank_is : (st : Store) → st ≡ blank → IsBlank st
blank_is st same = subst IsBlank (sym same) none_blank
