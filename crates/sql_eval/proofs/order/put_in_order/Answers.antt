use Rattle.std.proofs.Common.{ℕ, rules, is_lt}
use Rattle.std.proofs.lemmas.Result.{on_ok_weaker}
use Rattle.std.proofs.lemmas.List.Sorted.{ranks_by}
use Rattle.std.proofs.lemmas.Fn.{always_returns_same}
use Rattle.sql_eval.specs.Views.{entry_of}
use Rattle.sql_eval.specs.Ordered.{row_order}
use Rattle.sql_eval.proofs.Ordering.{row_order_total, put_in_order}
use Rattle.sql_eval.proofs.order.put_in_order.Goals as goal

pub returns : goal.returns
returns c =
    let keys = c.args.keys.now in
    on_ok_weaker c.sort_by.result
    (λ sorted. λ (key : ℕ). put_in_order keys (λ r. entry_of key r.now) c.args.rows.now.items c.sort_by.new.self.items
    (sorted (λ a b. is_lt (row_order keys a.now b.now)) (ranks_by (row_order_total keys) (λ r. r.now)) (always_returns_same _ _ _ (λ a r f k. search rules)))
    (c.sort_by.ensures.stable (λ a b. is_lt (row_order keys a.now b.now)) (ranks_by (row_order_total keys) (λ r. r.now)) (always_returns_same _ _ _ (λ a r f k. search rules))))
    c.sort_by.ensures.sorted
