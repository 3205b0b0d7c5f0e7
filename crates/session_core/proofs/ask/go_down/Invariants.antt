use Rattle.std.proofs.Common.{◌≡◌, ◌<◌, ℕ, false, true, length, map, All}
use Rattle.write_path.specs.Chains.{answer_of, has_refused, kind_of, is_waited_for}
use Rattle.session_core.specs.Chains.{WereAsked}
use Rattle.session_core.specs.Steps.{request_of}
use Rattle.session_core.proofs.ask.go_down.Given as goal

abbrev pub invariant-loop : goal.invariant-loop
invariant-loop g l = record {
  asked : WereAsked l.s.number (request_of l.step) (answer_of l.chain) (has_refused l.chain) (map g.B.Backend.meaning l.fn.shelf) (map g.B.Backend.meaning l.shelf);
  below : (k : ℕ) → k < l.counter → is_waited_for l.chain l.attached.bits k ≡ false;
  kind : kind_of l.chain ≡ l.fn.kind;
  len : length l.shelf ≡ length l.fn.shelf;
  honest : All (λ b. g.B.Backend.is_honest b ≡ true) l.shelf;
  prompt : All (λ b. g.B.Backend.is_prompt b ≡ true) l.shelf;
  steady : All (λ b. g.B.Backend.is_steady b ≡ true) l.shelf;
}
