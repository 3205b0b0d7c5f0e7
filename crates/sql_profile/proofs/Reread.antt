-- What stands behind the verb of a printed statement is read as the statement, unless it nests too deep.
use Rattle.std.proofs.Common.{◌≡◌, ◌∙◌, ◌≤◌, ◌+◌, ℕ, zero, suc, List, [], ◌∷◌, Result, Ok, Err, map, sym, ap, subst, inl, inr, arith, ◌⊎◌}
use Rattle.std.proofs.lemmas.List.{append-nil}
use Rattle.sql_tokens.specs.declared.fault.Fault.{Fault}
use Rattle.sql_tokens.specs.declared.fault.Fault.TheVariants.{Syntax, TooDeep}
use Rattle.sql_tokens.proofs.Depth.{IsDeep, past, stays_past}
use Rattle.sql_tokens.specs.declared.token.Token.{Token}
use Rattle.sql_tree.specs.declared.statement.Statement.{Statement}
use Rattle.sql_reader.specs.Grammar.{BehindVerb, verb_token}
use Rattle.sql_reader.specs.Reading.{verb_at}
use Rattle.sql_reader.proofs.Verbs.{verb_stage}
use Rattle.sql_print.specs.Printed.{tokens_of}
use Rattle.sql_profile.specs.Lexemes.{token_of}
use Rattle.sql_profile.proofs.RoundLaw.{IsWritten}

past_is : (k d : ℕ) → past k d ≡ k + d
past_is zero d = omega arith
past_is (suc k) d = let later : past k d ≡ k + d = past_is k d in omega arith

deep_or : {A : Type 0} (r : Result A Fault) → IsDeep r ⊎ (IsDeep r → ⊥)
deep_or (Ok x) = inr (λ h. h)
deep_or (Err (Syntax n w)) = inr (λ h. h)
deep_or (Err (TooDeep n)) = inl tt

-- the tokens of a printed statement begin with its verb
pub starts : (s : Statement) (w : IsWritten s) → map token_of (tokens_of s) ≡ verb_token w.verb ∷ map token_of w.others
starts s w = ap (map token_of) w.parts ∙ ap (λ (t : Token). t ∷ map token_of w.others) w.begins

-- what stands behind it is read as the statement, or nests too deep
pub verb_read : (d : ℕ) (s : Statement) (w : IsWritten s) → IsDeep (verb_at d w.verb (map token_of w.others)) ⊎ (verb_at d w.verb (map token_of w.others) ≡ Ok (s, []))
verb_read d s w =
    let behind = map token_of w.others in
    let deepest = past w.depth d in
    let above : w.depth ≤ deepest = subst (λ (n : ℕ). w.depth ≤ n) (sym (past_is w.depth d)) (omega arith) in
    let text : BehindVerb deepest w.verb behind s [] =
    subst (λ (ts : List Token). BehindVerb deepest w.verb ts s []) (append-nil behind) (w.reads deepest above []) in
    let read : verb_at deepest w.verb behind ≡ Ok (s, []) = (verb_stage w.verb).again deepest behind s [] text tt in
    elim (deep_or (verb_at d w.verb behind)) [
      | inl deep ↦ inl deep
      | inr flat ↦ inr (stays_past (λ n. verb_at n w.verb behind) (λ n. (verb_stage w.verb).same n behind) w.depth d flat ∙ read)
    ]
