use Rattle.std.proofs.Common.{ℕ, List, refl, subst, inl, inr}
use Rattle.pool_base.specs.Outside.{Appends, AppendsFront}
use Rattle.std.proofs.lemmas.Result.{on_err_weaker, on_ok_weaker}
use Rattle.session_player.proofs.Breaking.{journal_behind, journal_front, on_err_always}
use Rattle.session_player.proofs.Going.{put_on}
use Rattle.session_player.proofs.Telling.{grew_on}
use Rattle.session_player.proofs.writing.put_journal.Goals as goal

pub returns-in_ok-put-in-On-clause-grows : goal.returns-in_ok-put-in-On-clause-grows
returns-in_ok-put-in-On-clause-grows g c =
    let had = g.O.Sink.taken in
    grew_on (had c.args.out.now) (had c.put.new.out) (had c.put-in-On.new.out) c.put.ensures.grows c.put-in-On.ensures.grows

pub returns-in_ok-put-in-On-clause-put : goal.returns-in_ok-put-in-On-clause-put
returns-in_ok-put-in-On-clause-put g c =
    let had = g.O.Sink.taken in
    let header = subst (λ (bytes : List ℕ). Appends (had c.args.out.now) (had c.put.new.out) bytes) c.as_bytes.ensures c.in_ok-put-in-On.ensures.all in
    on_ok_weaker c.put-in-On.result
    (λ all. put_on c.args.setting.config.now c.args.setting.tables.now c.args.book.now.journal c.in-On.lines c.in_ok-header-in-On.header (had c.args.out.now) (had c.put.new.out) (had c.put-in-On.new.out) c.in-On.is
    c.in_ok-header-in-On.ensures header (subst (λ (bytes : List ℕ). Appends (had c.put.new.out) (had c.put-in-On.new.out) bytes) c.as_slice.ensures all)) c.put-in-On.ensures.all

pub returns-in_err-header-in-On-clause-front : goal.returns-in_err-header-in-On-clause-front
returns-in_err-header-in-On-clause-front g c = on_err_always c.from_residual.result (inr refl)

pub returns-in_err-put-in-On-clause-front : goal.returns-in_err-put-in-On-clause-front
returns-in_err-put-in-On-clause-front g c =
    let had = g.O.Sink.taken in
    on_err_always c.from_residual-in_err-put-in-On.result
    (inl (journal_front c.args.setting.config.now c.args.setting.tables.now c.args.book.now.journal c.in-On.lines c.in_ok-header-in-On.header (had c.args.out.now) (had c.put.new.out) c.in-On.is
    c.in_ok-header-in-On.ensures (subst (λ (bytes : List ℕ). AppendsFront (had c.args.out.now) (had c.put.new.out) bytes) c.as_bytes.ensures c.in_err-put-in-On.ensures.front)))

pub returns-in_ok-put-in-On-clause-front : goal.returns-in_ok-put-in-On-clause-front
returns-in_ok-put-in-On-clause-front g c =
    let had = g.O.Sink.taken in
    let header = subst (λ (bytes : List ℕ). Appends (had c.args.out.now) (had c.put.new.out) bytes) c.as_bytes.ensures c.in_ok-put-in-On.ensures.all in
    on_err_weaker c.put-in-On.result
    (λ front. inl (journal_behind c.args.setting.config.now c.args.setting.tables.now c.args.book.now.journal c.in-On.lines c.in_ok-header-in-On.header (had c.args.out.now) (had c.put.new.out) (had c.put-in-On.new.out) c.in-On.is
    c.in_ok-header-in-On.ensures header (subst (λ (bytes : List ℕ). AppendsFront (had c.put.new.out) (had c.put-in-On.new.out) bytes) c.as_slice.ensures front))) c.put-in-On.ensures.front
