use Rattle.std.proofs.Common.{◌∙◌, List, ℤ, w64, to_z, of_z, sym, ap, subst}
use Rattle.std.specs.Prelude.{Bool, Result, Ok, Err, OnOk}
use Rattle.std.proofs.lemmas.Int.{to_z-of_z}
use Rattle.pool_base.specs.declared.no_memory.NoMemory.{NoMemory}
use Rattle.schema.specs.declared.catalogue.TableDef.{TableDef}
use Rattle.play.specs.Asked.{IsAsked}
use Rattle.play.specs.Answering.{IsReady}
use Rattle.play.specs.Replies.{AreReplies, rows_left_by}
use Rattle.play.specs.Told.{asked_of}
use Rattle.play.proofs.Ready.{ready, within_of}
use Rattle.play.proofs.session.answer_query.Goals as goal

pub asked_by-requires-clause-within : goal.asked_by-requires-clause-within
asked_by-requires-clause-within g c = within_of c.args.catalogue.now c.requires.allowed

pub answer_fully-online-requires-clause-asked : goal.answer_fully-online-requires-clause-asked
answer_fully-online-requires-clause-asked g c =
    subst (λ (tables : List TableDef). IsReady tables (asked_of c.in_ok-asked.asked)) (sym c.requires.tables)
    (ready c.args.catalogue.now (to_z w64 (of_z w64 c.args.moment)) c.args.text.now (asked_of c.in_ok-asked.asked) c.requires.allowed c.requires.short c.in_ok-asked.ensures)

both : {P Q R : Type 0} (r : Result Bool NoMemory) → (P → Q → R) → OnOk r P → OnOk r Q → OnOk r R
both (Ok online) joins p q = joins p q
both (Err e) joins p q = tt

pub returns-clause-query : goal.returns-clause-query
returns-clause-query g c =
    let asked = asked_of c.in_ok-asked.asked in
    let rows = g.S.Database.rows c.args.database.now in
    both c.answer_fully-online.result (λ told left. record {
      asked = asked;
      is = subst (λ (m : ℤ). IsAsked c.args.catalogue.now m c.args.text.now asked) (to_z-of_z w64 c.args.moment c.ranges.moment) c.in_ok-asked.ensures;
      messages = told.0;
      replies = subst (λ (tables : List TableDef). AreReplies tables rows asked told.0) c.requires.tables told.1;
      sent = told.2;
      rows_left = left ∙ ap (λ (tables : List TableDef). rows_left_by tables rows asked) c.requires.tables;
    }) c.answer_fully-online.ensures.replies c.answer_fully-online.ensures.rows
