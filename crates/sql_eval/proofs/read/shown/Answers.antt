use Rattle.std.proofs.Common.{◌≡◌, ℕ, List, length, map, ap, ◌∙◌, subst, arith, Bor}
use Rattle.std.specs.Prelude.{Option, Ok}
use Rattle.std.proofs.lemmas.List.{length-map}
use Rattle.std.proofs.lemmas.Result.{err_from_is_err_and}
use Rattle.catalogue.specs.declared.checked.OrderKey.{OrderKey}
use Rattle.sql_eval.specs.declared.row.Row.{Row}
use Rattle.sql_eval.specs.declared.effect.ReadEffect.{ReadEffect}
use Rattle.sql_eval.specs.Views.{entry_of}
use Rattle.sql_eval.specs.Walks.{Coded, GivesAs}
use Rattle.sql_eval.specs.Ordered.{ordered}
use Rattle.sql_eval.specs.Reads.{alone, counted, cut, limit_in, shown}
use Rattle.sql_eval.proofs.Reading.{cut_mapped, entries, counted_is, shown_stops, shown_lists}
use Rattle.sql_eval.proofs.Walking.{code_on}
use Rattle.sql_eval.proofs.read.shown.Goals as goal

pub returns-then-read : goal.returns-then-read
returns-then-read c =
    let es = entries (λ (r : Bor Row). r.now) c.args.key c.args.kept.items in
    let many : c.len.result ≡ length es = omega (arith, length-map c.args.kept.items (λ (r : Bor Row). entry_of c.args.key r.now)) in
    subst (λ (o : Coded ReadEffect). GivesAs (λ (e : ReadEffect). e) c.counted.result o)
    (ap (λ (n : ℕ). Ok (counted n)) many ∙ counted_is c.args.read.now es c.if-read.true) c.counted.ensures

pub returns-in_err-limit : goal.returns-in_err-limit
returns-in_err-limit c =
    let es = entries (λ (r : Bor Row). r.now) c.args.key c.args.kept.items in
    let p = err_from_is_err_and c.from_residual.result c.from_residual.ensures.1 in
    rw (p.1, p.2) (code_on (λ (n : Option ℕ). n) (λ (e : ReadEffect). e) c.in_err-limit.field-0.0
    (limit_in alone c.args.read.now.limit) (shown alone c.args.read.now es) c.in_err-limit.ensures
    (λ code is. shown_stops c.args.read.now es code c.if-read.false is))

pub returns : goal.returns
returns c =
    let entry = λ (r : Bor Row). entry_of c.args.key r.now in
    let es = entries (λ (r : Bor Row). r.now) c.args.key c.args.kept.items in
    subst (λ (o : Coded ReadEffect). GivesAs (λ (e : ReadEffect). e) c.listed.result o)
    (shown_lists c.args.read.now es (map entry c.as_slice-2.result.now) c.in_ok-limit.limit c.if-read.false c.in_ok-limit.ensures
    (ap (map entry) (c.as_slice-2.ensures.value ∙ c.cut.ensures) ∙ (cut_mapped entry c.in_ok-limit.limit c.put_in_order.new.rows.items
    ∙ ap (cut c.in_ok-limit.limit) (c.in_ok-put_in_order.ensures c.args.key ∙ ap (λ (keys : List OrderKey). ordered keys (map entry c.args.kept.items)) c.as_slice.ensures)))) c.listed.ensures
