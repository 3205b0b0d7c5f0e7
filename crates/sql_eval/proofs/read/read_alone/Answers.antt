use Rattle.std.proofs.Common.{◌≡◌, [], ◌∷◌, List, map, ap, sym, ◌∙◌, subst, Bor}
use Rattle.sql_eval.specs.declared.row.Row.{Row}
use Rattle.sql_eval.specs.declared.effect.ReadEffect.{ReadEffect}
use Rattle.sql_eval.specs.Views.{View}
use Rattle.sql_eval.specs.Walks.{Coded, GivesAs}
use Rattle.sql_eval.specs.Reads.{no_row, row_of}
use Rattle.sql_eval.proofs.Reading.{alone_read}
use Rattle.sql_eval.proofs.read.read_alone.Goals as goal

pub returns : goal.returns
returns c = λ (view : View).
    let now = λ (r : Bor Row). r.now in
    subst (λ (o : Coded ReadEffect). GivesAs (λ (e : ReadEffect). e) c.read_rows.result o)
    (alone_read now c.as_slice.result.now view c.args.read.now c.requires
    (ap (map now) c.as_slice.ensures.value ∙ (c.in_ok-rows.ensures ∙ ap (λ cells. row_of cells ∷ []) c.new.ensures))) c.read_rows.ensures
