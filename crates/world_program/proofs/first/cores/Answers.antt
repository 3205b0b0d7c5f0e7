use Rattle.std.proofs.Common.{◌≡◌, ◌∙◌, ◌+◌, length, refl, ap, arith, length-append}
use Rattle.session_machine.specs.Rules.{new_machine}
use Rattle.one_copy_model.specs.Numbers.{session_of}
use Rattle.world_program.proofs.Beginning.{new_snoc}
use Rattle.world_program.proofs.first.cores.Goals as goal

pub loop-n-init : goal.loop-n-init
loop-n-init c = rw c.new-all.ensures.items (record { len = refl; new = tt })

pub loop-n-preserved : goal.loop-n-preserved
loop-n-preserved c = rw c.in_ok-push.ensures.items (record {
  len = simp length-append (omega (arith, c.loop-n.invariant.len));
  new =
      new_snoc c.args.policy 0 c.loop-n.all.items c.in_ok-new.field-0 c.loop-n.invariant.new
      (c.in_ok-new.ensures ∙ ap (λ s. new_machine s c.args.policy) c.session_at.ensures ∙ ap (λ k. new_machine (session_of k) c.args.policy) (let len = c.loop-n.invariant.len in let e : c.loop-n.n ≡ 0 + length c.loop-n.all.items = omega (arith, len) in e));
})
