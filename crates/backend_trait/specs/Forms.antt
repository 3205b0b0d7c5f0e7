-- Forms without time functions.
use Rattle.std.specs.Prelude.{Bool as Truth}
use Rattle.typed_sql.specs.declared.typed.TypedForm.{TypedForm}
use Rattle.typed_sql.specs.declared.typed.TypedForm.TheFolds.{fold-TypedForm}
use Rattle.time_rewrite.specs.Timeless.{timeless_form}

-- whether no time function stands in the form of an expression
abbrev pub timeless_in : TypedForm → Truth
timeless_in = fold-TypedForm Truth Truth Truth Truth timeless_form (λ e. e.form) (λ f. f.part) (λ s. s.part)
