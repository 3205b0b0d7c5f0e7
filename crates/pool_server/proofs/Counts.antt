-- A count of faults that rose in a part of a time rose in the whole of it.
use Rattle.std.proofs.Common.{ℕ, ◌≤◌, ◌⊎◌, inl, inr, arith}
use Rattle.pool_base.specs.Outside.{Rose}

pub rose_later : (before after later : ℕ) → Rose before after → after ≤ later → Rose before later
rose_later before after later (inl less) up = inl (omega arith)
rose_later before after later (inr top) up = inr (omega arith)

pub rose_earlier : (first before after : ℕ) → first ≤ before → Rose before after → Rose first after
rose_earlier first before after up (inl less) = inl (omega arith)
rose_earlier first before after up (inr top) = inr (omega arith)

-- over one step more: a fault that was told of before, or one of this step
pub rose_over : {P : Type 0} (first before after : ℕ) → (P → Rose first before) → first ≤ before → before ≤ after → P ⊎ Rose before after → Rose first after
rose_over first before after was up later (inl told) = rose_later first before after (was told) later
rose_over first before after was up later (inr rose) = rose_earlier first before after up rose
