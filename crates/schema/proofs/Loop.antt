-- A loop over tokens: what was read leads from the beginning to where the reader stands, and nowhere else.
use Rattle.std.proofs.Math.Seq.{take-length}
use Rattle.std.proofs.Common.{◌≡◌, ℕ, ◌≤◌, ◌-◌, length, take, drop, get_or, arith, length-drop, List, [], ◌∷◌, ◌++◌, refl, sym, ap, subst, ◌∙◌, append_assoc}
use Rattle.std.proofs.lemmas.List.{append-nil, map-append}
use Rattle.sql_tokens.specs.declared.token.Placed.{Placed}
use Rattle.sql_tokens.specs.declared.token.Token.{Token}
use Rattle.schema.specs.declared.catalogue.TableDef.{TableDef}
use Rattle.schema.specs.declared.open.Place.TheVariants.{Create}
use Rattle.schema.specs.Steps.{Steps, Runs}
use Rattle.schema.specs.Reading.{tokens_of, start, IsRead, LeadsOn, StopsAt}
use Rattle.schema.proofs.Running.{State}

pub runs_join : (a b c : State) (xs ys : List Token) → Runs a xs b → Runs b ys c → Runs a (xs ++ ys) c
unfolding Runs
runs_join a b c [] ys e k = subst (λ (s : State). Runs s ys c) e k
runs_join a b c (x ∷ xs) ys r k = (r.0, r.1, runs_join r.0 b c xs ys r.2 k)

pub record Split (a c : State) (xs ys : List Token) : Type 0 where
  pub mid : State
  pub first : Runs a xs mid
  pub second : Runs mid ys c

pub runs_split : (a c : State) (xs ys : List Token) → Runs a (xs ++ ys) c → Split a c xs ys
unfolding Runs
runs_split a c [] ys r = record { mid = a; first = refl; second = r }
runs_split a c (x ∷ xs) ys r =
    let s = runs_split r.0 c xs ys r.2 in
    record { mid = s.mid; first = (r.0, r.1, s.first); second = s.second }

one : (a b : State) (t : Token) → Steps a t b → Runs a (t ∷ []) b
unfolding Runs
one a b t s = (b, s, refl)

-- the first step of a run
first_step : (a c : State) (t : Token) (ts : List Token) → Runs a (t ∷ ts) c → (m : State) × Steps a t m × Runs m ts c
unfolding Runs
first_step a c t ts r = r

ended : (a c : State) → Runs a [] c → c ≡ a
unfolding Runs
ended a c r = r

pub record Going (all left : List Placed) (s : State) : Type 0 where
  pub front : List Placed
  pub parts : all ≡ front ++ left
  pub ran : Runs start (tokens_of front) s
  pub alone : (to : State) → Runs start (tokens_of front) to → to ≡ s

pub starts : (all : List Placed) → Going all all start
unfolding Runs
starts all = record { front = []; parts = refl; ran = refl; alone = λ to e. e }

behind : (front : List Placed) (p : Placed) → tokens_of (front ++ p ∷ []) ≡ tokens_of front ++ p.token ∷ []
behind front p = map-append (λ (p : Placed). p.token) front (p ∷ [])

pub steps : (all left : List Placed) (p : Placed) (s m : State) → Going all (p ∷ left) s → Steps s p.token m → ((to : State) → Steps s p.token to → to ≡ m) → Going all left m
steps all left p s m g st only = record {
  front = g.front ++ p ∷ [];
  parts = g.parts ∙ sym (append_assoc g.front (p ∷ []) left);
  ran = subst (λ (x : List Token). Runs start x m) (sym (behind g.front p)) (runs_join start s m (tokens_of g.front) (p.token ∷ []) g.ran (one s m p.token st));
  alone = λ to r. is_one to (runs_split start to (tokens_of g.front) (p.token ∷ []) (subst (λ (x : List Token). Runs start x to) (behind g.front p) r));
} where
  is_one : (to : State) → Split start to (tokens_of g.front) (p.token ∷ []) → to ≡ m
  is_one to sp =
      let f = first_step sp.mid to p.token [] sp.second in
      ended f.0 to f.2 ∙ only f.0 (subst (λ (x : State). Steps x p.token f.0) (g.alone sp.mid sp.first) f.1)

pub stops : (all left : List Placed) (p : Placed) (s : State) → Going all (p ∷ left) s → ((to : State) → Steps s p.token to → ⊥) → StopsAt all p.place
stops all left p s g none = (g.front, left, p, g.parts, refl, (s, g.ran), λ h. no_way h.0 (runs_split start h.0 (tokens_of g.front) (p.token ∷ []) h.1)) where
  no_way : (to : State) → Split start to (tokens_of g.front) (p.token ∷ []) → ⊥
  no_way to sp =
      let f = first_step sp.mid to p.token [] sp.second in
      none f.0 (subst (λ (x : State). Steps x p.token f.0) (g.alone sp.mid sp.first) f.1)

all_read : (all : List Placed) (s : State) (g : Going all [] s) → all ≡ g.front
all_read all s g = g.parts ∙ append-nil g.front

pub reads : (all : List Placed) (tables : List TableDef) → Going all [] (tables, Create) → IsRead (tokens_of all) tables
reads all tables g = subst (λ (x : List Placed). IsRead (tokens_of x) tables) (sym (all_read all (tables, Create) g)) g.ran

pub is_only : (all : List Placed) (s : State) (tables : List TableDef) → Going all [] s → IsRead (tokens_of all) tables → (tables, Create) ≡ s
is_only all s tables g r = g.alone (tables, Create) (subst (λ (x : List Placed). IsRead (tokens_of x) tables) (all_read all s g) r)

-- a run through all of the tokens goes through those that are left
pub leads_on : (all left : List Placed) (s : State) (tables : List TableDef) → Going all left s → IsRead (tokens_of all) tables → Runs s (tokens_of left) (tables, Create)
leads_on all left s tables g r =
    let e : tokens_of all ≡ tokens_of g.front ++ tokens_of left = ap tokens_of g.parts ∙ map-append (λ (p : Placed). p.token) g.front left in
    let sp = runs_split start (tables, Create) (tokens_of g.front) (tokens_of left) (subst (λ (x : List Token). Runs start x (tables, Create)) e r) in
    subst (λ (x : State). Runs x (tokens_of left) (tables, Create)) (g.alone sp.mid sp.first) sp.second

pub none_through : (all left : List Placed) (p : Placed) (s : State) (tables : List TableDef) → Going all (p ∷ left) s → ((to : State) → Steps s p.token to → ⊥) → IsRead (tokens_of all) tables → ⊥
none_through all left p s tables g none r =
    let f = first_step s (tables, Create) p.token (tokens_of left) (leads_on all (p ∷ left) s tables g r) in
    none f.0 f.1

pub leads : (all : List Placed) (s : State) → Going all [] s → LeadsOn (tokens_of all)
leads all s g = (s, subst (λ (x : List Placed). Runs start (tokens_of x) s) (sym (all_read all s g)) g.ran)

-- what a pattern of a first item and the others finds
pub first_and_rest : (left : List Placed) (p : Placed) → 1 ≤ length left → p ≡ get_or left 0 p → left ≡ p ∷ drop 1 left
first_and_rest [] p h e = absurd (omega arith)
first_and_rest (x ∷ xs) p h e = ap (λ (y : Placed). y ∷ xs) (sym e)

pub rest_whole : (left : List Placed) → take (length left - 1) (drop 1 left) ≡ drop 1 left
rest_whole left = ap (λ (n : ℕ). take n (drop 1 left)) (sym (length-drop 1 left)) ∙ take-length (drop 1 left)
