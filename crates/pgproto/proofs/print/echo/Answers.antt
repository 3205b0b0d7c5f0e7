use Rattle.std.proofs.Common.{◌≡◌, ◌++◌, ◌∷◌, [], sym, subst, rules}
use Rattle.std.specs.Str.{IsUtf8}
use Rattle.pgproto.specs.Line.{line_of}
use Rattle.pgproto.specs.Spelling.{echoed}
use Rattle.pgproto.proofs.SpellingLaws.{echoed_utf8}
use Rattle.pgproto.proofs.print.echo.Goals as goal

pub text-requires : goal.text-requires
text-requires c =
    let is : c.push.new.self ≡ echoed (line_of c.args.line.now) ++ 10 ∷ [] = search rules in
    subst IsUtf8 (sym is) (echoed_utf8 (line_of c.args.line.now) c.requires)
