-- Whether a client is let in, by what became of the links that were made for it.
use Rattle.std.specs.Prelude.{ℕ, List, Option, Some, None, codes}
use Rattle.std.specs.List.{slice_get}
use Rattle.std.proofs.Common.{inl, lit≤}
use Rattle.std.proofs.lemmas.List.Elements.{All-from_recursion}
use Rattle.pool_base.specs.Codes.{IsCodeByte}
use Rattle.pool_base.specs.declared.code.Code.{Code}
use Rattle.session_links.specs.declared.verdict.Want.{Want}
use Rattle.session_links.specs.declared.verdict.Want.TheVariants as wants
use Rattle.session_links.specs.declared.verdict.Opened.{Opened}
use Rattle.session_links.specs.declared.verdict.Opened.TheVariants as opens
use Rattle.session_links.specs.declared.verdict.Verdict.{Verdict}
use Rattle.session_links.specs.declared.verdict.Verdict.TheVariants as verdicts

-- the pool has no descriptor for a client
abbrev pub too_many_connections : Code
too_many_connections = record {
  bytes = codes "53300";
  spelled = ∣ All-from_recursion IsCodeByte (codes "53300") (inl (lit≤ tt, lit≤ tt), (inl (lit≤ tt, lit≤ tt), (inl (lit≤ tt, lit≤ tt), (inl (lit≤ tt, lit≤ tt), (inl (lit≤ tt, lit≤ tt), tt))))) ∣₁;
}

-- the pool has no memory for it
abbrev pub out_of_memory : Code
out_of_memory = record {
  bytes = codes "53200";
  spelled = ∣ All-from_recursion IsCodeByte (codes "53200") (inl (lit≤ tt, lit≤ tt), (inl (lit≤ tt, lit≤ tt), (inl (lit≤ tt, lit≤ tt), (inl (lit≤ tt, lit≤ tt), (inl (lit≤ tt, lit≤ tt), tt))))) ∣₁;
}

abbrev pub code_wanting : Want → Code
code_wanting wants.Descriptors = too_many_connections
code_wanting wants.Memory = out_of_memory

-- the code with which a client is refused
abbrev pub code_of : Verdict → Option Code
code_of verdicts.LetIn = None
code_of (verdicts.TurnedAway b code) = Some code
code_of (verdicts.Short b want) = Some (code_wanting want)

-- with one backend more: what the pool itself lacks goes before all; then comes the word of the first server that turns the client away.
-- A server that is not there keeps nobody out
abbrev pub behind : Verdict → ℕ → Opened → Verdict
behind verdicts.LetIn b opens.Unasked = verdicts.LetIn
behind verdicts.LetIn b opens.Ready = verdicts.LetIn
behind verdicts.LetIn b (opens.TurnedAway code) = verdicts.TurnedAway b code
behind verdicts.LetIn b opens.Failed = verdicts.LetIn
behind verdicts.LetIn b (opens.Short want) = verdicts.Short b want
behind (verdicts.TurnedAway first code) b opens.Unasked = verdicts.TurnedAway first code
behind (verdicts.TurnedAway first code) b opens.Ready = verdicts.TurnedAway first code
behind (verdicts.TurnedAway first code) b (opens.TurnedAway other) = verdicts.TurnedAway first code
behind (verdicts.TurnedAway first code) b opens.Failed = verdicts.TurnedAway first code
behind (verdicts.TurnedAway first code) b (opens.Short want) = verdicts.Short b want
behind (verdicts.Short first want) b opened = verdicts.Short first want

-- what became of the link to the backend at that place
abbrev pub opened_of : Option Opened → Opened
opened_of None = opens.Unasked
opened_of (Some opened) = opened

abbrev pub opened_at : List Opened → ℕ → Opened
opened_at opened at = opened_of (slice_get opened at)

abbrev pub behind_at : List Opened → ℕ → Verdict → Verdict
behind_at opened n verdict = behind verdict n (opened_at opened n)

-- the backends 0 to 7, in their order
abbrev pub verdict_of : List Opened → Verdict
verdict_of opened =
    behind_at opened 7 (behind_at opened 6 (behind_at opened 5 (behind_at opened 4
    (behind_at opened 3 (behind_at opened 2 (behind_at opened 1 (behind_at opened 0 verdicts.LetIn)))))))
