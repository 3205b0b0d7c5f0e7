-- A statement at a moment, of its parts.
use Rattle.std.proofs.Common.{◌≡◌, ◌∙◌, ℤ, List, ap}
use Rattle.pg_values.specs.declared.col_type.ColType.{ColType}
use Rattle.catalogue.specs.declared.checked.Checked.{Checked}
use Rattle.catalogue.specs.declared.checked.CheckedBody.{CheckedBody}
use Rattle.catalogue.specs.declared.checked.ColumnDesc.{ColumnDesc}
use Rattle.time_rewrite.specs.Rewriting.{body_at, at_moment}

pub whole : (moment : ℤ) (checked : Checked) (body : CheckedBody) (columns : List ColumnDesc) (kinds : List ColType)
    → body ≡ body_at moment checked.body → columns ≡ checked.columns → kinds ≡ checked.kinds
    → ◌≡◌ {A = Checked} (record { body = body; columns = columns; kinds = kinds }) (at_moment moment checked)
whole moment checked body columns kinds a b c =
    let first : ◌≡◌ {A = Checked} (record { body = body; columns = columns; kinds = kinds }) (record { body = body_at moment checked.body; columns = columns; kinds = kinds })
    = ap (λ (x : CheckedBody). record { body = x; columns = columns; kinds = kinds }) a in
    let second : ◌≡◌ {A = Checked} (record { body = body_at moment checked.body; columns = columns; kinds = kinds }) (record { body = body_at moment checked.body; columns = checked.columns; kinds = kinds })
    = ap (λ (x : List ColumnDesc). record { body = body_at moment checked.body; columns = x; kinds = kinds }) b in
    first ∙ (second ∙ ap (λ (x : List ColType). record { body = body_at moment checked.body; columns = checked.columns; kinds = x }) c)
