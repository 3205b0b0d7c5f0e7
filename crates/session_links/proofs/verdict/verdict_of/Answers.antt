use Rattle.std.proofs.Common.{refl}
use Rattle.session_links.specs.declared.verdict.Verdict.TheVariants.{LetIn}
use Rattle.session_links.specs.Verdicts.{behind_at}
use Rattle.session_links.proofs.Judging.{judged}
use Rattle.session_links.proofs.verdict.verdict_of.Goals as goal

pub returns : goal.returns
returns c =
    let all = c.args.opened.now in
    let to_0 = judged all 0 LetIn c.behind.result LetIn c.opened_at.result c.behind.ensures c.opened_at.ensures refl in
    let so_0 = behind_at all 0 LetIn in
    let to_1 = judged all 1 c.behind.result c.behind-2.result so_0 c.opened_at-2.result c.behind-2.ensures c.opened_at-2.ensures to_0 in
    let so_1 = behind_at all 1 so_0 in
    let to_2 = judged all 2 c.behind-2.result c.behind-3.result so_1 c.opened_at-3.result c.behind-3.ensures c.opened_at-3.ensures to_1 in
    let so_2 = behind_at all 2 so_1 in
    let to_3 = judged all 3 c.behind-3.result c.behind-4.result so_2 c.opened_at-4.result c.behind-4.ensures c.opened_at-4.ensures to_2 in
    let so_3 = behind_at all 3 so_2 in
    let to_4 = judged all 4 c.behind-4.result c.behind-5.result so_3 c.opened_at-5.result c.behind-5.ensures c.opened_at-5.ensures to_3 in
    let so_4 = behind_at all 4 so_3 in
    let to_5 = judged all 5 c.behind-5.result c.behind-6.result so_4 c.opened_at-6.result c.behind-6.ensures c.opened_at-6.ensures to_4 in
    let so_5 = behind_at all 5 so_4 in
    let to_6 = judged all 6 c.behind-6.result c.behind-7.result so_5 c.opened_at-7.result c.behind-7.ensures c.opened_at-7.ensures to_5 in
    let so_6 = behind_at all 6 so_5 in
    let to_7 = judged all 7 c.behind-7.result c.behind-8.result so_6 c.opened_at-8.result c.behind-8.ensures c.opened_at-8.ensures to_6 in
    to_7
