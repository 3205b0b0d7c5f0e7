-- What a link tells of itself, where it does: the exchanges that it is still to give.
use Rattle.std.specs.Prelude.{◌≡◌, ◌≢◌, List, [], ◌∷◌, Option, Some, None}
use Rattle.backend_trait.specs.declared.request.Request.{Request}
use Rattle.backend_trait.specs.declared.answer.Answer.{Answer}

-- a request and its answer
pub record Exchange : Type 0 where
  pub request : Request
  pub answer : Answer

abbrev pub exchange : Request → Answer → Exchange
exchange request answer = record { request = request; answer = answer }

-- an answer to the request that is pending is that of the next exchange, which has this request
abbrev pub Spends : Option (List Exchange) → Option Request → Answer → Option (List Exchange) → Type 0
Spends None pending answer new = new ≡ None
Spends (Some plan) None answer new = ⊥
Spends (Some plan) (Some request) answer new = (rest : List Exchange) × ((plan ≡ exchange request answer ∷ rest) × (new ≡ Some rest))

-- no exchange is left, or the next one has another request than that which is pending
abbrev pub IsSpent : Option (List Exchange) → Option Request → Type 0
IsSpent None pending = Unit {0}
IsSpent (Some []) pending = Unit {0}
IsSpent (Some (next ∷ rest)) pending = pending ≢ Some next.request

-- a link that is given up gives none any more
abbrev pub cut_short : Option (List Exchange) → Option (List Exchange)
cut_short None = None
cut_short (Some plan) = Some []
