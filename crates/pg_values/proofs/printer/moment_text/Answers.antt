use Rattle.std.proofs.Common.{◌++◌, List, ℕ, ap, ◌∙◌}
use Rattle.pg_values.specs.Moments.{printed_text}
use Rattle.pg_values.proofs.PrintLemmas.{ascii_printed}
use Rattle.pg_values.proofs.printer.moment_text.Goals as goal

pub ascii_text-requires : goal.ascii_text-requires
ascii_text-requires c =
    ascii_printed c.reading_of-reading.result c.put_reading.new.out.items c.reading_of-reading.ensures.is_reading
    (c.in_ok-put_reading.ensures ∙ ap (λ (x : List ℕ). x ++ printed_text c.reading_of-reading.result) c.in_ok-out.ensures.items)
