use Rattle.std.proofs.Common.{◌≡◌, ◌++◌, ◌∷◌, [], sym, subst, rules}
use Rattle.std.specs.Str.{IsUtf8}
use Rattle.pgproto.specs.Line.{line_of}
use Rattle.pgproto.specs.Spelling.{spelled}
use Rattle.pgproto.proofs.SpellingLaws.{spelled_utf8}
use Rattle.pgproto.proofs.print.print_line.Goals as goal

pub text-requires : goal.text-requires
text-requires c =
    let is : c.push.new.self ≡ spelled (line_of c.args.line.now) ++ 10 ∷ [] = search rules in
    subst IsUtf8 (sym is) (spelled_utf8 (line_of c.args.line.now) c.requires)
