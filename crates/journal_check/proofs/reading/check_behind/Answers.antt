use Rattle.std.proofs.Common.{sym, subst}
use Rattle.std.proofs.lemmas.Bool.Decides.{Decides-eqb}
use Rattle.std.proofs.lemmas.Slice.Eq.{strip_prefix_is}
use Rattle.journal.specs.Header.{IsHeader}
use Rattle.journal_check.proofs.reading.check_behind.Goals as goal

pub returns-in-Ok : goal.returns-in-Ok
returns-in-Ok c =
    let cut = rw c.in-Some.is at (strip_prefix_is Decides-eqb c.args.text.now c.as_bytes.result.now c.strip_prefix.result c.strip_prefix.ensures.cases) in
    record {
      config = c.in_ok-config.config;
      start = c.in_ok-config.start;
      header = c.as_bytes.result.now;
      lines = c.in-Some.lines.now;
      parts = cut;
      printed = subst (IsHeader c.in_ok-config.config c.in_ok-config.start.catalogue) (sym c.as_bytes.ensures) c.in_ok-header.ensures;
      begins = c.in_ok-config.ensures.begins;
      schedule = c.in-Ok.ensures.one_store;
    }
