use Rattle.std.proofs.Common.{◌≡◌, length, map, sym, ap, ◌∙◌, subst, arith}
use Rattle.std.proofs.lemmas.List.{length-map}
use Rattle.write_path.specs.Chains.{answer_of, has_refused}
use Rattle.session_core.specs.declared.ask.Step.{Step}
use Rattle.session_core.specs.Steps.{request_of, reach_of}
use Rattle.session_core.specs.Chains.{MayAllPost, WereAsked}
use Rattle.session_core.specs.Statements.{primary_tables, primary_rows}
use Rattle.session_core.proofs.Stages.{may_begin, ran_all, effect_kept, may_end, ended, all_have, not_stopped, reaches, at_rest, may_run, have_begun}
use Rattle.session_core.proofs.statement.run_statement.Goals as goal

pub go_down-requires-clause-may : goal.go_down-requires-clause-may
go_down-requires-clause-may g c =
    let olds = map g.B.Backend.meaning c.args.shelf.now in
    may_begin c.args.s.number (primary_tables olds) (primary_rows olds) olds c.requires.ready

pub go_down-requires-2-clause-may : goal.go_down-requires-2-clause-may
go_down-requires-2-clause-may g c =
    let olds = map g.B.Backend.meaning c.args.shelf.now in
    let begun_ones = map g.B.Backend.meaning c.go_down.new.shelf in
    let count = length c.args.shelf.now in
    let s = c.args.s.number in
    let tables = primary_tables olds in
    let rows = primary_rows olds in
    let first_chain = c.go_down.new.chain in
    let attached = c.first-attached.result.bits in
    let len : length begun_ones ≡ count = length-map c.go_down.new.shelf g.B.Backend.meaning ∙ c.in_ok-go_down.ensures.len in
    may_run s tables rows c.args.statement.now begun_ones c.requires.runnable c.requires.draws_none
    (have_begun s tables rows (answer_of first_chain) (has_refused first_chain) olds begun_ones c.requires.ready c.in_ok-go_down.ensures.asked
    (λ b below. all_have first_chain attached count c.first-attached.ensures c.requires.few (not_stopped first_chain attached c.in_ok-go_down.ensures.kind c.in_ok-go_down.ensures.end) b (omega (arith, below, len))))

pub kept-requires-clause-some : goal.kept-requires-clause-some
kept-requires-clause-some g c = (0, omega arith, (c.first-asked.ensures 0 (omega arith)).1 c.reach.ensures.some)

pub go_down-requires-3-clause-may : goal.go_down-requires-3-clause-may
go_down-requires-3-clause-may g c =
    let olds = map g.B.Backend.meaning c.args.shelf.now in
    let begun_ones = map g.B.Backend.meaning c.go_down.new.shelf in
    let news = map g.B.Backend.meaning c.go_down-2.new.shelf in
    let count = length c.args.shelf.now in
    let s = c.args.s.number in
    let tables = primary_tables olds in
    let rows = primary_rows olds in
    let attached = c.first-attached.result.bits in
    let second = c.go_down-2.new.chain in
    let len : length begun_ones ≡ count = length-map c.go_down.new.shelf g.B.Backend.meaning ∙ c.in_ok-go_down.ensures.len in
    let len-2 : length news ≡ count = length-map c.go_down-2.new.shelf g.B.Backend.meaning ∙ c.in_ok-go_down-2.ensures.len ∙ c.in_ok-go_down.ensures.len in
    let ran = ran_all s tables rows c.args.statement.now attached count c.go_down.new.chain second olds begun_ones news c.first-attached.ensures c.requires.few len c.requires.draws_none c.requires.ready
    c.in_ok-go_down.ensures.asked c.in_ok-go_down.ensures.kind c.in_ok-go_down.ensures.end c.in_ok-go_down-2.ensures.asked in
    let effect = effect_kept s tables rows c.args.statement.now c.first-asked.result.bits c.reach.result second news c.in_ok-answer.answer c.first-asked.ensures (omega (arith, len-2, c.reach.ensures.within, c.in_ok-go_down.ensures.len)) ran c.in_ok-answer.ensures in
    subst (λ (step : Step). MayAllPost s (request_of step) news) (sym c.last_step-last.ensures)
    (may_end s tables rows c.args.statement.now c.in_ok-answer.answer (answer_of second) (has_refused second) news ran effect.0)

pub returns-clause-answer : goal.returns-clause-answer
returns-clause-answer g c =
    let olds = map g.B.Backend.meaning c.args.shelf.now in
    let begun_ones = map g.B.Backend.meaning c.go_down.new.shelf in
    let news = map g.B.Backend.meaning c.go_down-2.new.shelf in
    let count = length c.args.shelf.now in
    let s = c.args.s.number in
    let tables = primary_tables olds in
    let rows = primary_rows olds in
    let attached = c.first-attached.result.bits in
    let second = c.go_down-2.new.chain in
    let len : length begun_ones ≡ count = length-map c.go_down.new.shelf g.B.Backend.meaning ∙ c.in_ok-go_down.ensures.len in
    let len-2 : length news ≡ count = length-map c.go_down-2.new.shelf g.B.Backend.meaning ∙ c.in_ok-go_down-2.ensures.len ∙ c.in_ok-go_down.ensures.len in
    let ran = ran_all s tables rows c.args.statement.now attached count c.go_down.new.chain second olds begun_ones news c.first-attached.ensures c.requires.few len c.requires.draws_none c.requires.ready
    c.in_ok-go_down.ensures.asked c.in_ok-go_down.ensures.kind c.in_ok-go_down.ensures.end c.in_ok-go_down-2.ensures.asked in
    (effect_kept s tables rows c.args.statement.now c.first-asked.result.bits c.reach.result second news c.in_ok-answer.answer c.first-asked.ensures (omega (arith, len-2, c.reach.ensures.within, c.in_ok-go_down.ensures.len)) ran c.in_ok-answer.ensures).0

pub returns-clause-form : goal.returns-clause-form
returns-clause-form g c =
    let olds = map g.B.Backend.meaning c.args.shelf.now in
    let begun_ones = map g.B.Backend.meaning c.go_down.new.shelf in
    let news = map g.B.Backend.meaning c.go_down-2.new.shelf in
    let count = length c.args.shelf.now in
    let s = c.args.s.number in
    let tables = primary_tables olds in
    let rows = primary_rows olds in
    let attached = c.first-attached.result.bits in
    let second = c.go_down-2.new.chain in
    let len : length begun_ones ≡ count = length-map c.go_down.new.shelf g.B.Backend.meaning ∙ c.in_ok-go_down.ensures.len in
    let len-2 : length news ≡ count = length-map c.go_down-2.new.shelf g.B.Backend.meaning ∙ c.in_ok-go_down-2.ensures.len ∙ c.in_ok-go_down.ensures.len in
    let ran = ran_all s tables rows c.args.statement.now attached count c.go_down.new.chain second olds begun_ones news c.first-attached.ensures c.requires.few len c.requires.draws_none c.requires.ready
    c.in_ok-go_down.ensures.asked c.in_ok-go_down.ensures.kind c.in_ok-go_down.ensures.end c.in_ok-go_down-2.ensures.asked in
    (effect_kept s tables rows c.args.statement.now c.first-asked.result.bits c.reach.result second news c.in_ok-answer.answer c.first-asked.ensures (omega (arith, len-2, c.reach.ensures.within, c.in_ok-go_down.ensures.len)) ran c.in_ok-answer.ensures).1

pub returns-clause-ready : goal.returns-clause-ready
returns-clause-ready g c =
    let olds = map g.B.Backend.meaning c.args.shelf.now in
    let begun_ones = map g.B.Backend.meaning c.go_down.new.shelf in
    let news = map g.B.Backend.meaning c.go_down-2.new.shelf in
    let lasts = map g.B.Backend.meaning c.go_down-3.new.shelf in
    let count = length c.args.shelf.now in
    let s = c.args.s.number in
    let tables = primary_tables olds in
    let rows = primary_rows olds in
    let attached = c.first-attached.result.bits in
    let second = c.go_down-2.new.chain in
    let third = c.go_down-3.new.chain in
    let len : length begun_ones ≡ count = length-map c.go_down.new.shelf g.B.Backend.meaning ∙ c.in_ok-go_down.ensures.len in
    let len-2 : length news ≡ count = length-map c.go_down-2.new.shelf g.B.Backend.meaning ∙ c.in_ok-go_down-2.ensures.len ∙ c.in_ok-go_down.ensures.len in
    let len-3 : length lasts ≡ count = length-map c.go_down-3.new.shelf g.B.Backend.meaning ∙ c.in_ok-go_down-3.ensures.len ∙ c.in_ok-go_down-2.ensures.len ∙ c.in_ok-go_down.ensures.len in
    let ran = ran_all s tables rows c.args.statement.now attached count c.go_down.new.chain second olds begun_ones news c.first-attached.ensures c.requires.few len c.requires.draws_none c.requires.ready
    c.in_ok-go_down.ensures.asked c.in_ok-go_down.ensures.kind c.in_ok-go_down.ensures.end c.in_ok-go_down-2.ensures.asked in
    let effect = effect_kept s tables rows c.args.statement.now c.first-asked.result.bits c.reach.result second news c.in_ok-answer.answer c.first-asked.ensures (omega (arith, len-2, c.reach.ensures.within, c.in_ok-go_down.ensures.len)) ran c.in_ok-answer.ensures in
    let asked = subst (λ (step : Step). WereAsked s (request_of step) (answer_of third) (has_refused third) news lasts) c.last_step-last.ensures c.in_ok-go_down-3.ensures.asked in
    ended s tables rows c.args.statement.now c.in_ok-answer.answer second c.first-asked.result.bits c.reach.result (answer_of third) (has_refused third) news lasts c.first-asked.ensures
    (omega (arith, c.reach.ensures.within, c.in_ok-go_down.ensures.len, c.requires.few)) (omega (arith, len-2, c.reach.ensures.within, c.in_ok-go_down.ensures.len))
    (reaches tables c.args.statement.now rows (length news) c.reach.result (c.reach.ensures.reach ∙ ap (reach_of c.args.statement.now) (c.in_ok-go_down.ensures.len ∙ sym len-2))) ran c.in_ok-go_down-2.ensures.end effect.0 asked
    (λ b below. all_have third attached count c.first-attached.ensures c.requires.few (not_stopped third attached c.in_ok-go_down-3.ensures.kind c.in_ok-go_down-3.ensures.end) b (omega (arith, below, len-3)))

pub returns-clause-rest : goal.returns-clause-rest
returns-clause-rest g c =
    at_rest _ _ (map g.B.Backend.meaning c.go_down-3.new.shelf) (omega (arith, length-map c.go_down-3.new.shelf g.B.Backend.meaning, c.in_ok-go_down-3.ensures.len, c.in_ok-go_down-2.ensures.len, c.in_ok-go_down.ensures.len, c.requires.some))
    (returns-clause-ready g c)
