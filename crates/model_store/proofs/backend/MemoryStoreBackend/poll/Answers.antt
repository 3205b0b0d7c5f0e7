use Rattle.model_store.specs.declared.verdict.Verdict.TheVariants as verdicts
use Rattle.model_store.proofs.ActLaws.{decided_here, waits_promptly}
use Rattle.outcomes.specs.Next.{next_of}
use Rattle.model_store.proofs.backend.MemoryStoreBackend.poll.Goals as goal

pub granted-requires-clause-goes : goal.granted-requires-clause-goes
granted-requires-clause-goes c =
    let store = c.args.self.now in
    decided_here (next_of store.numbers) store.catalogue store.log.items c.as_slice.result.now store.seats.items c.as_slice-2.result.now c.args.s.number c.decide.result verdicts.Goes c.as_slice.ensures.value
    c.as_slice-2.ensures.value c.in-Goes.is store.given (c.decide.ensures (next_of store.numbers) store.catalogue)

pub refused-requires-clause-refused : goal.refused-requires-clause-refused
refused-requires-clause-refused c =
    let store = c.args.self.now in
    decided_here (next_of store.numbers) store.catalogue store.log.items c.as_slice.result.now store.seats.items c.as_slice-2.result.now c.args.s.number c.decide.result (verdicts.Refused c.in-Refused.code)
    c.as_slice.ensures.value c.as_slice-2.ensures.value c.in-Refused.is store.given (c.decide.ensures (next_of store.numbers) store.catalogue)

pub returns-in-Waits-clause-promptly : goal.returns-in-Waits-clause-promptly
returns-in-Waits-clause-promptly c =
    let store = c.args.self.now in
    let decided = decided_here (next_of store.numbers) store.catalogue store.log.items c.as_slice.result.now store.seats.items c.as_slice-2.result.now c.args.s.number c.decide.result verdicts.Waits c.as_slice.ensures.value
    c.as_slice-2.ensures.value c.in-Waits.is store.given (c.decide.ensures (next_of store.numbers) store.catalogue) in
    let waits = waits_promptly store.is_lost c.if-self.false (next_of store.numbers) store.catalogue store.log.items store.seats.items c.args.s.number decided in
    λ prompt. (c.if-self.false, waits.0, waits.1)
