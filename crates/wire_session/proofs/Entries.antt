-- What names of statements stand for where one is put or dropped.
use Rattle.std.proofs.Common.{◌≡◌, ℕ, List, [], ◌∷◌, ◌++◌, Some, None, sym, ap, ◌∙◌}
use Rattle.std.specs.Prelude.{filter}
use Rattle.wire_session.specs.declared.statements.Entry.{Entry}
use Rattle.wire_session.specs.declared.statements.Prepared.{Prepared}
use Rattle.wire_session.specs.declared.statements.Statements.{Statements}
use Rattle.wire_session.specs.Kept.{named}
use Rattle.wire_session.specs.Standing.{StatementStands}
use Rattle.wire_session.proofs.Names.{closed_others, closed_own, keeps, put_other, put_own}

abbrev pub name_of : Entry → List ℕ
name_of e = e.name

abbrev pub what_of : Entry → Prepared
what_of e = e.what

-- those of a name are dropped
pub closed_so : (name : List ℕ) (old new : Statements) → new.entries.items ≡ filter (keeps name_of name) old.entries.items → StatementStands name None old new
closed_so name old new is = record {
  own = ap (named name) is ∙ closed_own name_of what_of name old.entries.items;
  others = λ other differs. ap (named other) is ∙ closed_others name_of what_of name other old.entries.items differs;
}

-- and one of that name is put behind the others
pub put_so : (name : List ℕ) (old start mid new : Statements) (e : Entry) → start.entries.items ≡ old.entries.items → StatementStands name None start mid → e.name ≡ name
    → new.entries.items ≡ mid.entries.items ++ e ∷ [] → StatementStands name (Some e.what) old new
put_so name old start mid new e same closed own is = record {
  own = ap (named name) is ∙ put_own name_of what_of name mid.entries.items e closed.own own;
  others = λ other differs. ap (named other) is ∙ put_other name_of what_of other mid.entries.items e (λ is. differs (sym is ∙ own))
      ∙ closed.others other differs ∙ ap (named other) same;
}
