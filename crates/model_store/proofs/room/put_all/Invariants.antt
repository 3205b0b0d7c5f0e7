use Rattle.std.proofs.Common.{◌≡◌, ◌≤◌, ◌+◌, ◌++◌, length, vec_len, vec_capacity}
use Rattle.model_store.proofs.room.put_all.Given as goal

abbrev pub invariant-loop-item : goal.invariant-loop-item
invariant-loop-item g l = record {
  items : l.items.items ≡ l.initial.items.items ++ l.yielded;
  len : vec_len l.items ≡ vec_len l.initial.items + length l.yielded;
  capacity : vec_capacity l.initial.items ≤ vec_capacity l.items;
}
