-- What lies outside the program: what a read gives, what a write takes, what is told of files.
use Rattle.std.specs.Prelude.{◌≡◌, ℕ, ◌+◌, ◌<◌, ◌≤◌, ◌⊎◌, Bool, true, false, List, [], ◌∷◌, ◌++◌, length, take, drop, Option, Some, None, bytes_eq, unwrap_or, if◌then◌else◌}
use Rattle.pool_base.specs.declared.outside.Got.{Got}
use Rattle.pool_base.specs.declared.outside.Got.TheVariants as got
use Rattle.pool_base.specs.declared.outside.Put.{Put}
use Rattle.pool_base.specs.declared.outside.Put.TheVariants as put

-- a count rose, or stands where it can rise no more
abbrev pub Rose : ℕ → ℕ → Type 0
Rose before after = (before < after) ⊎ (18446744073709551615 ≤ after)

-- where it is told, what was taken or given so far is now longer by these items
abbrev pub Appends : {X : Type 0} → Option (List X) → Option (List X) → List X → Type 0
Appends None new items = new ≡ None
Appends (Some old) new items = new ≡ Some (old ++ items)

-- where it is told, what was taken so far is now longer by a front of these bytes
pub record AppendsFront (old new : Option (List ℕ)) (bytes : List ℕ) : Type 0 where
  pub front : List ℕ
  pub rest : List ℕ
  pub parts : bytes ≡ front ++ rest
  pub has : Appends old new front

-- where it is told, what was left is these bytes and then what is left now
abbrev pub Gives : Option (List ℕ) → Option (List ℕ) → List ℕ → Type 0
Gives old None bytes = old ≡ None
Gives old (Some left) bytes = old ≡ Some (bytes ++ left)

-- where it is told, nothing is left
abbrev pub NothingLeft : Option (List ℕ) → Type 0
NothingLeft None = Unit {0}
NothingLeft (Some left) = left ≡ []

-- what a source's answer says of the piece and of what was left before and is left now
abbrev pub Gave : Got → List ℕ → Option (List ℕ) → Option (List ℕ) → Type 0
Gave (got.Bytes count) piece old new = (1 ≤ count) × (count ≤ length piece) × Gives old new (take count piece)
Gave got.End piece old new = NothingLeft old × (new ≡ old)
Gave got.Failed piece old new = new ≡ old

-- an answer that is a failure comes only where the count of faults rose
abbrev pub FaultyRead : Got → ℕ → ℕ → Type 0
FaultyRead (got.Bytes count) before after = Unit {0}
FaultyRead got.End before after = Unit {0}
FaultyRead got.Failed before after = Rose before after

-- the answer is the end
abbrev pub is_end : Got → Bool
is_end (got.Bytes count) = false
is_end got.End = true
is_end got.Failed = false

-- what a sink's answer says of what it had taken before and has taken now
abbrev pub Took : Put → List ℕ → Option (List ℕ) → Option (List ℕ) → Type 0
Took (put.Taken count) piece old new = (1 ≤ count) × (count ≤ length piece) × Appends old new (take count piece)
Took put.Failed piece old new = new ≡ old

-- a failed write comes only where the count of faults rose
abbrev pub FaultyWrite : Put → ℕ → ℕ → Type 0
FaultyWrite (put.Taken count) before after = Unit {0}
FaultyWrite put.Failed before after = Rose before after

-- what is told of a file: nothing, that it is not there, or its bytes
pub data Told : Type 0 where
  untold : Told
  absent : Told
  content : List ℕ → Told

-- where it is told, the bytes stand at that place of the file
abbrev pub StandsAt : ℕ → List ℕ → Told → Type 0
StandsAt place bytes untold = Unit {0}
StandsAt place bytes absent = ⊥
StandsAt place bytes (content all) = drop place all ≡ bytes ++ drop (place + length bytes) all

-- where it is told, the file has nothing at that place and behind it
abbrev pub EndsBy : ℕ → Told → Type 0
EndsBy place untold = Unit {0}
EndsBy place absent = ⊥
EndsBy place (content all) = length all ≤ place

-- what an answer for a place of a file says of the piece and of the file
abbrev pub GaveAt : Got → ℕ → List ℕ → Told → Type 0
GaveAt (got.Bytes count) place piece told = (1 ≤ count) × (count ≤ length piece) × StandsAt place (take count piece) told
GaveAt got.End place piece told = EndsBy place told
GaveAt got.Failed place piece told = Unit {0}

-- where it is told, the file's bytes are these
abbrev pub IsTold : Told → List ℕ → Type 0
IsTold untold bytes = Unit {0}
IsTold absent bytes = ⊥
IsTold (content all) bytes = bytes ≡ all

-- where it is told, the file has more bytes than that
abbrev pub IsLonger : Told → ℕ → Type 0
IsLonger untold limit = Unit {0}
IsLonger absent limit = ⊥
IsLonger (content all) limit = limit < length all

-- the content that stands beside a name, the first where there are several
abbrev pub content_at : List (List ℕ) → List (List ℕ) → List ℕ → Option (List ℕ)
content_at [] contents name = None
content_at (other ∷ names) [] name = None
content_at (other ∷ names) (bytes ∷ contents) name = if bytes_eq other name then Some bytes else content_at names contents name

-- the file of that content, or none
abbrev pub told_by : Option (List ℕ) → Told
told_by None = absent
told_by (Some bytes) = content bytes

-- files in memory tell the content beside a name, and that no other file is there
abbrev pub told_of : List (List ℕ) → List (List ℕ) → List ℕ → Told
told_of names contents name = told_by (content_at names contents name)

-- files that never fail tell the content beside a name, and that any other file is empty
abbrev pub told_or_empty : List (List ℕ) → List (List ℕ) → List ℕ → Told
told_or_empty names contents name = content (unwrap_or (content_at names contents name) [])

-- the answer is no failure
abbrev pub GaveSurely : Got → Type 0
GaveSurely (got.Bytes count) = Unit {0}
GaveSurely got.End = Unit {0}
GaveSurely got.Failed = ⊥

-- the answer is a failure
abbrev pub is_failed : Got → Bool
is_failed (got.Bytes count) = false
is_failed got.End = false
is_failed got.Failed = true

-- a write that takes some takes all
abbrev pub TakesAll : Put → List ℕ → Type 0
TakesAll (put.Taken count) piece = count ≡ length piece
TakesAll put.Failed piece = Unit {0}
