use Rattle.checked_print.proofs.Held.{held_and, held_concat, held_member, held_or}
use Rattle.checked_print.proofs.Places.{and_at, concat_at, member_at, or_at}
use Rattle.checked_print.proofs.expression.+spelling.Goals as goal

pub spelled_at-returns-in_ok-spelled_all-in-Or-clause-made : goal.spelled_at-returns-in_ok-spelled_all-in-Or-clause-made
spelled_at-returns-in_ok-spelled_all-in-Or-clause-made t c =
    or_at c.args.speller.now.columns.now c.args.place c.args.expr.now c.in-Or.parts c.in_ok-spelled_all-in-Or.field-0 c.in-Or.is
    c.in_ok-spelled_all-in-Or.ensures.made

pub spelled_at-returns-in_ok-spelled_all-in-And-clause-made : goal.spelled_at-returns-in_ok-spelled_all-in-And-clause-made
spelled_at-returns-in_ok-spelled_all-in-And-clause-made t c =
    and_at c.args.speller.now.columns.now c.args.place c.args.expr.now c.in-And.parts c.in_ok-spelled_all-in-And.field-0 c.in-And.is
    c.in_ok-spelled_all-in-And.ensures.made

pub spelled_at-returns-in_ok-spelled_all-in-Member-clause-made :
    goal.spelled_at-returns-in_ok-spelled_all-in-Member-clause-made
spelled_at-returns-in_ok-spelled_all-in-Member-clause-made t c =
    member_at c.args.speller.now.columns.now c.args.place c.args.expr.now c.in-Member.of c.in_ok-part_box-in-Member.field-0 c.in-Member.negated
    c.in-Member.list c.in_ok-spelled_all-in-Member.field-0 c.in-Member.is c.in_ok-part_box-in-Member.ensures.made c.in_ok-spelled_all-in-Member.ensures.made

pub spelled_at-returns-in_ok-spelled_all-in-Concat-clause-made :
    goal.spelled_at-returns-in_ok-spelled_all-in-Concat-clause-made
spelled_at-returns-in_ok-spelled_all-in-Concat-clause-made t c =
    concat_at c.args.speller.now.columns.now c.args.place c.args.expr.now c.in-Concat.parts c.in_ok-spelled_all-in-Concat.field-0 c.in-Concat.is
    c.in_ok-spelled_all-in-Concat.ensures.made

pub spelled_at-returns-in_ok-spelled_all-in-Or-clause-held : goal.spelled_at-returns-in_ok-spelled_all-in-Or-clause-held
spelled_at-returns-in_ok-spelled_all-in-Or-clause-held t c = held_or c.args.expr.now c.in-Or.parts c.in-Or.is c.in_ok-spelled_all-in-Or.ensures.held

pub spelled_at-returns-in_ok-spelled_all-in-And-clause-held : goal.spelled_at-returns-in_ok-spelled_all-in-And-clause-held
spelled_at-returns-in_ok-spelled_all-in-And-clause-held t c = held_and c.args.expr.now c.in-And.parts c.in-And.is c.in_ok-spelled_all-in-And.ensures.held

pub spelled_at-returns-in_ok-spelled_all-in-Member-clause-held : goal.spelled_at-returns-in_ok-spelled_all-in-Member-clause-held
spelled_at-returns-in_ok-spelled_all-in-Member-clause-held t c =
    held_member c.args.expr.now c.in-Member.of c.in-Member.negated c.in-Member.list c.in-Member.is c.in_ok-part_box-in-Member.ensures.held c.in_ok-spelled_all-in-Member.ensures.held

pub spelled_at-returns-in_ok-spelled_all-in-Concat-clause-held : goal.spelled_at-returns-in_ok-spelled_all-in-Concat-clause-held
spelled_at-returns-in_ok-spelled_all-in-Concat-clause-held t c =
    held_concat c.args.expr.now c.in-Concat.parts c.in-Concat.is c.in_ok-spelled_all-in-Concat.ensures.held
