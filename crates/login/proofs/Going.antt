-- One step more of a client's way, and faults that rose behind others.
use Rattle.std.proofs.Common.{◌≡◌, ◌≤◌, ◌+◌, ◌++◌, inl, inr, ℕ, Bool, List, [], Option, Some, None, Result, Ok, Err, MatchOption, IfOk, arith, ap, sym, subst, ◌∙◌, length, drop, min}
use Rattle.pool_base.specs.Outside.{Rose}
use Rattle.pool_base.specs.declared.no_memory.NoMemory.{NoMemory}
use Rattle.login.specs.declared.candidate.User.{User}
use Rattle.login.specs.declared.reception.Reception.{Reception}
use Rattle.login.specs.declared.reception.Reply.{Reply}
use Rattle.login.specs.declared.reception.Reply.TheVariants.{LetsIn}
use Rattle.login.specs.declared.entrance.Entrance.{Entrance}
use Rattle.login.specs.declared.entrance.Entrance.TheVariants as ends
use Rattle.login.specs.Receptions.{IsStep}
use Rattle.login.specs.Entrances.{Course, begins, goes_on, Moves, Reaches, IsAdmitted}

pub begun : (users : List User) (first : Reception) (source sink : Option (List ℕ)) (inbox : List ℕ) → inbox ≡ [] → Course users first source sink 0 first inbox source sink
begun users first source sink inbox e = subst (λ (xs : List ℕ). Course users first source sink 0 first xs source sink) (sym e) begins

-- what becomes of a client whose password is right is what its last step ends with
admitted : (users : List User) (old new : Reception) (inbox : List ℕ) (taken : ℕ) (told start front : List ℕ) (ended : Bool) (before after : Option (List ℕ)) (e : Entrance)
    → IsStep users old inbox (LetsIn taken told start) new → front ≡ start ++ drop (min taken (length inbox)) inbox → IsAdmitted front told e before after → Reaches users old inbox ended before e after
admitted users old new inbox taken told start front ended before after (ends.LetIn given) step is so = record {
  taken = taken;
  told = told;
  start = start;
  new = new;
  step = step;
  front_is = so.0 ∙ is;
  took = so.1;
}
admitted users old new inbox taken told start front ended before after (ends.Refused refusal) step is so = absurd so
admitted users old new inbox taken told start front ended before after ends.HeldBack step is so = record { new = new; shows = inr (taken, told, start, step); silent = so }
admitted users old new inbox taken told start front ended before after ends.Gone step is so = absurd so
admitted users old new inbox taken told start front ended before after ends.ReadFault step is so = absurd so
admitted users old new inbox taken told start front ended before after ends.WriteFault step is so = tt

pub admitted_so : (users : List User) (old new : Reception) (inbox heard rest : List ℕ) (reply : Reply) (taken : ℕ) (told said start : List ℕ) (ended : Bool) (before after : Option (List ℕ)) (e : Entrance)
    → IsStep users old heard reply new → reply ≡ LetsIn taken told start → heard ≡ inbox → rest ≡ drop (min taken (length inbox)) inbox → said ≡ told
    → IsAdmitted (start ++ rest) said e before after → Reaches users old inbox ended before e after
admitted_so users old new inbox heard rest reply taken told said start ended before after e step let_in same behind says so =
    admitted users old new inbox taken told start (start ++ rest) ended before after e
    (subst (λ (r : Reply). IsStep users old inbox r new) let_in (subst (λ (xs : List ℕ). IsStep users old xs reply new) same step))
    (ap (λ (xs : List ℕ). start ++ xs) behind) (subst (λ (xs : List ℕ). IsAdmitted (start ++ rest) xs e before after) says so)

pub goes_on_so : (users : List User) (first : Reception) (source sink : Option (List ℕ)) (n : ℕ) (old new : Reception) (inbox rest : List ℕ)
    (left later before after : Option (List ℕ)) (ended : Bool) (r : Result (Option Entrance) NoMemory) → r ≡ Ok None → Course users first source sink n old inbox left before
    → IfOk r (λ e. MatchOption e (Moves users old inbox left before new rest later after) (λ e. Reaches users old inbox ended before e after))
    → Course users first source sink (n + 1) new rest later after
goes_on_so users first source sink n old new inbox rest left later before after ended (Ok None) is course moves = goes_on course moves
goes_on_so users first source sink n old new inbox rest left later before after ended (Ok (Some e)) is course moves = absurd (cc)
goes_on_so users first source sink n old new inbox rest left later before after ended (Err f) is course moves = absurd (cc)

pub rose_behind : (a b c : ℕ) → a ≤ b → Rose b c → Rose a c
rose_behind a b c less (inl rose) = inl (omega arith)
rose_behind a b c less (inr most) = inr most
