-- The way of a client to its session: the steps of its reception over the bytes that it sends, with what it is told.
use Rattle.std.specs.Prelude.{◌≡◌, ◌≤◌, ◌+◌, ◌⊎◌, ℕ, Bool, true, List, [], ◌++◌, length, drop, min, Option}
use Rattle.pool_base.specs.Outside.{Appends, Gives}
use Rattle.pg_messages.specs.Server.{spelling}
use Rattle.login.specs.declared.candidate.User.{User}
use Rattle.login.specs.declared.refusal.Refusal.{Refusal}
use Rattle.login.specs.declared.refusal.Refusal.TheVariants as refusals
use Rattle.login.specs.declared.reception.Reception.{Reception}
use Rattle.login.specs.declared.reception.Reply.TheVariants.{More, Tells, LetsIn, Refuses, Leaves}
use Rattle.login.specs.declared.entrance.Entrance.{Entrance}
use Rattle.login.specs.declared.entrance.Entrance.TheVariants as ends
use Rattle.login.specs.Refusals.{refusal_of}
use Rattle.login.specs.Receptions.{IsStep}

-- `inbox` and `rest`: what has come and was not taken, before and behind a step. `left` and `later`: what the source has left then.

-- a piece has come
pub record HasCome (inbox rest : List ℕ) (left later : Option (List ℕ)) : Type 0 where
  pub piece : List ℕ
  pub came : rest ≡ inbox ++ piece
  pub gave : Gives left later piece

-- more is wanted, and a piece comes; the client is told nothing
pub record Reads (users : List User) (old : Reception) (inbox : List ℕ) (left before : Option (List ℕ)) (new : Reception) (rest : List ℕ) (later after : Option (List ℕ)) : Type 0 where
  pub step : IsStep users old inbox More new
  pub come : HasCome inbox rest left later
  pub silent : after ≡ before

-- some bytes are taken, and the client is told what follows from them
pub record Answers (users : List User) (old : Reception) (inbox : List ℕ) (left before : Option (List ℕ)) (new : Reception) (rest : List ℕ) (later after : Option (List ℕ)) : Type 0 where
  pub taken : ℕ
  pub told : List ℕ
  pub step : IsStep users old inbox (Tells taken told) new
  pub passed : rest ≡ drop (min taken (length inbox)) inbox
  pub unread : later ≡ left
  pub took : Appends before after told

abbrev pub Moves : List User → Reception → List ℕ → Option (List ℕ) → Option (List ℕ) → Reception → List ℕ → Option (List ℕ) → Option (List ℕ) → Type 0
Moves users old inbox left before new rest later after =
    Reads users old inbox left before new rest later after ⊎ Answers users old inbox left before new rest later after

-- so many steps lead from the first state, of which nothing has come, to this one
pub data Course (users : List User) (first : Reception) (source sink : Option (List ℕ)) : ℕ → Reception → List ℕ → Option (List ℕ) → Option (List ℕ) → Type 0 where
  begins : Course users first source sink 0 first [] source sink
  goes_on : {n : ℕ} {old new : Reception} {inbox rest : List ℕ} {left later before after : Option (List ℕ)} → Course users first source sink n old inbox left before
      → Moves users old inbox left before new rest later after → Course users first source sink (n + 1) new rest later after

-- ---- the last step

-- a client is let in: its session is given the start message and what was not taken
pub record IsLetIn (users : List User) (old : Reception) (inbox : List ℕ) (before : Option (List ℕ)) (front : List ℕ) (after : Option (List ℕ)) : Type 0 where
  pub taken : ℕ
  pub told : List ℕ
  pub start : List ℕ
  pub new : Reception
  pub step : IsStep users old inbox (LetsIn taken told start) new
  pub front_is : front ≡ start ++ drop (min taken (length inbox)) inbox
  pub took : Appends before after told

-- a client is turned away
pub record IsTurnedAway (users : List User) (old : Reception) (inbox : List ℕ) (before : Option (List ℕ)) (refusal : Refusal) (after : Option (List ℕ)) : Type 0 where
  pub new : Reception
  pub step : IsStep users old inbox (Refuses refusal) new
  pub took : Appends before after (spelling (refusal_of refusal))

-- what has come leads to this reply, or to one of these, and the client is told nothing
pub record IsHeard (users : List User) (old : Reception) (inbox : List ℕ) (before after : Option (List ℕ)) : Type 0 where
  pub new : Reception
  pub step : IsStep users old inbox More new
  pub silent : after ≡ before

pub record IsLeft (users : List User) (old : Reception) (inbox : List ℕ) (before after : Option (List ℕ)) : Type 0 where
  pub new : Reception
  pub step : IsStep users old inbox Leaves new
  pub silent : after ≡ before

-- it has shown a password, right or wrong, and is told nothing
pub record IsHeldBack (users : List User) (old : Reception) (inbox : List ℕ) (before after : Option (List ℕ)) : Type 0 where
  pub new : Reception
  pub shows : (IsStep users old inbox (Refuses refusals.Password) new) ⊎ ((taken : ℕ) × (told : List ℕ) × (start : List ℕ) × IsStep users old inbox (LetsIn taken told start) new)
  pub silent : after ≡ before

-- what the step ends with; a client is gone where what it said ends a connection without a word, or more is wanted and its source has ended
abbrev pub Reaches : List User → Reception → List ℕ → Bool → Option (List ℕ) → Entrance → Option (List ℕ) → Type 0
Reaches users old inbox ended before (ends.LetIn front) after = IsLetIn users old inbox before front after
Reaches users old inbox ended before (ends.Refused refusal) after = IsTurnedAway users old inbox before refusal after
Reaches users old inbox ended before ends.HeldBack after = IsHeldBack users old inbox before after
Reaches users old inbox ended before ends.Gone after = IsLeft users old inbox before after ⊎ (IsHeard users old inbox before after × (ended ≡ true))
Reaches users old inbox ended before ends.ReadFault after = IsHeard users old inbox before after
Reaches users old inbox ended before ends.WriteFault after = Unit {0}

-- what becomes of a client whose password is right, and of one that is refused
abbrev pub IsAdmitted : List ℕ → List ℕ → Entrance → Option (List ℕ) → Option (List ℕ) → Type 0
IsAdmitted front told (ends.LetIn given) before after = (given ≡ front) × Appends before after told
IsAdmitted front told (ends.Refused refusal) before after = ⊥
IsAdmitted front told ends.HeldBack before after = after ≡ before
IsAdmitted front told ends.Gone before after = ⊥
IsAdmitted front told ends.ReadFault before after = ⊥
IsAdmitted front told ends.WriteFault before after = Unit {0}

abbrev pub IsRefused : Refusal → Entrance → Option (List ℕ) → Option (List ℕ) → Type 0
IsRefused refusal (ends.LetIn front) before after = ⊥
IsRefused refusal (ends.Refused given) before after = (given ≡ refusal) × Appends before after (spelling (refusal_of refusal))
IsRefused refusal ends.HeldBack before after = (refusal ≡ refusals.Password) × (after ≡ before)
IsRefused refusal ends.Gone before after = ⊥
IsRefused refusal ends.ReadFault before after = ⊥
IsRefused refusal ends.WriteFault before after = Unit {0}

-- where more is wanted and none came, the client is told nothing
abbrev pub HasNoWord : Bool → Entrance → Type 0
HasNoWord ended (ends.LetIn front) = ⊥
HasNoWord ended (ends.Refused refusal) = ⊥
HasNoWord ended ends.HeldBack = ⊥
HasNoWord ended ends.Gone = ended ≡ true
HasNoWord ended ends.ReadFault = Unit {0}
HasNoWord ended ends.WriteFault = ⊥

-- the client's password was judged
abbrev pub IsJudged : Entrance → Type 0
IsJudged (ends.LetIn front) = Unit {0}
IsJudged (ends.Refused refusals.Password) = Unit {0}
IsJudged (ends.Refused refusals.Malformed) = ⊥
IsJudged (ends.Refused refusals.TooLong) = ⊥
IsJudged (ends.Refused refusals.MinorVersion) = ⊥
IsJudged (ends.Refused refusals.Encoding) = ⊥
IsJudged ends.HeldBack = ⊥
IsJudged ends.Gone = ⊥
IsJudged ends.ReadFault = ⊥
IsJudged ends.WriteFault = ⊥

-- a course of steps ends so: by its last step, or as one of 8192 steps that come to nothing
pub record IsEntered (users : List User) (first : Reception) (source sink : Option (List ℕ)) (entrance : Entrance) (ended : Bool) (later after : Option (List ℕ)) : Type 0 where
  pub count : ℕ
  pub old : Reception
  pub inbox : List ℕ
  pub before : Option (List ℕ)
  pub course : Course users first source sink count old inbox later before
  pub last : Reaches users old inbox ended before entrance after ⊎ ((entrance ≡ ends.Gone) × (8192 ≤ count) × (after ≡ before))
