use Rattle.std.proofs.Common.{◌-◌, length, take, drop, subst, sym}
use Rattle.sql_tokens.specs.declared.bytes.Kind.{Kind}
use Rattle.sql_tokens.specs.Calls.{IsTextBehind}
use Rattle.sql_tokens.proofs.FirstByte.{text_from}
use Rattle.sql_tokens.proofs.piece.read_piece.Goals as goal

pub read_by-requires : goal.read_by-requires
read_by-requires c =
    subst (λ (kind : Kind). IsTextBehind kind (take (length c.args.bytes.now - 1) (drop 1 c.args.bytes.now))) (sym c.kind_of.ensures)
    (text_from c.args.bytes.now c.in-len1-up.len_at_least c.requires.text)
