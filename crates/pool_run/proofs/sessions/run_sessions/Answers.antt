use Rattle.std.proofs.Common.{◌≡◌, ℕ, ◌++◌, length, take, ap, ◌∙◌, subst}
use Rattle.std.specs.Prelude.{drop}
use Rattle.pool_run.specs.Shelf.{AreFresh}
use Rattle.pool_run.proofs.Shelves.{rest_after}
use Rattle.pool_run.proofs.sessions.run_sessions.Goals as goal

pub play_sessions-requires-clause-spares : goal.play_sessions-requires-clause-spares
play_sessions-requires-clause-spares g c =
    let meaning = g.B.Backend.meaning in
    let is_honest = g.B.Backend.is_honest in
    let is_prompt = g.B.Backend.is_prompt in
    let is_steady = g.B.Backend.is_steady in
    let new = c.prepare_first.new.shelf in
    let old = c.args.shelf.now in
    let so_long : length new ≡ old.len = c.prepare_first.ensures.len ∙ c.as_mut_slice.ensures.len in
    subst (λ (n : ℕ). AreFresh meaning is_honest is_prompt is_steady (drop n (take old.len (new ++ drop (length new) old.items)))) c.len-count.ensures
    (rest_after meaning is_honest is_prompt is_steady old.len c.len-count.result new old.items so_long (c.prepare_first.ensures.rest ∙ ap (drop c.len-count.result) c.as_mut_slice.ensures.value) c.requires.fresh)
