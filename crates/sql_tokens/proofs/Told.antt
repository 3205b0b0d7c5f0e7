-- A fault is at the first token at which no text can go on, or at the first that passes the limit.
use Rattle.std.proofs.Common.{◌≡◌, ℕ, suc, Bool, true, false, List, [], ◌∷◌, ◌++◌, length, Option, Some, None, Result, Ok, Err, refl, sym, ap, subst, ◌∙◌, append_assoc}
use Rattle.sql_tokens.specs.declared.fault.Awaited.{Awaited}
use Rattle.sql_tokens.specs.declared.fault.Fault.{Fault}
use Rattle.sql_tokens.specs.declared.fault.Fault.TheVariants.{Syntax, TooDeep}
use Rattle.sql_tokens.specs.Grammar.{Form}
use Rattle.sql_tokens.specs.Reading.{◌>>=◌, Parse}

abbrev pub head : {T : Type 0} → List T → Option T
head [] = None
head (t ∷ ts) = Some t

-- The text up to rest was read, and would be so whatever follows, up to the one token that was looked at.
pub record Taken {T A : Type 0} (R : Form T A) (p : Parse T A) (ts : List T) (a : A) (rest : List T) : Type 0 where
  pub used : List T
  pub parts : ts ≡ used ++ rest
  pub same : (other : List T) → head other ≡ head rest → p (used ++ other) ≡ Ok (a, other)
  pub framed : (other : List T) → R (used ++ other) a other

-- It failed at the first token of rest: it does so whatever follows that token, and without it the text can be completed.
pub record Refused {T A : Type 0} (R : Form T A) (p : Parse T A) (Ends : List T → Type 0) (ts : List T) (left : ℕ) (awaited : Awaited) : Type 0 where
  pub used : List T
  pub rest : List T
  pub parts : ts ≡ used ++ rest
  pub left_is : length rest ≡ left
  pub same : (other : List T) → head other ≡ head rest → p (used ++ other) ≡ Err (Syntax (length other) awaited)
  pub more : List T
  pub tree : A
  pub goes_on : (k : List T) → Ends k → R (used ++ (more ++ k)) tree k

-- the token that passes the limit is among those that were read, or may be the one before them
abbrev pub Begun : {T : Type 0} → Bool → List T → Type 0
Begun false used = Unit {0}
Begun true [] = ⊥
Begun true (t ∷ used) = Unit {0}

-- The last token that was read passes the limit: it does so whatever follows, and the text can be completed.
pub record Passed {T A : Type 0} (among : Bool) (R : Form T A) (p : Parse T A) (Ends : List T → Type 0) (ts : List T) (left : ℕ) : Type 0 where
  pub used : List T
  pub rest : List T
  pub begun : Begun among used
  pub parts : ts ≡ used ++ rest
  pub left_is : suc (length rest) ≡ left
  pub same : (other : List T) → p (used ++ other) ≡ Err (TooDeep (suc (length other)))
  pub more : List T
  pub tree : A
  pub goes_on : (k : List T) → Ends k → R (used ++ (more ++ k)) tree k

abbrev pub Told : {T A : Type 0} → Bool → Form T A → Parse T A → (List T → Type 0) → List T → Result (A × List T) Fault → Type 0
Told among R p Ends ts (Ok x) = Taken R p ts x.0 x.1
Told among R p Ends ts (Err (Syntax n w)) = Refused R p Ends ts n w
Told among R p Ends ts (Err (TooDeep n)) = Passed among R p Ends ts n

-- what may stand first in what a step still reads, whatever was read before
pub record Begins {T A B : Type 0} (EndsP : List T → Type 0) (F : A → Form T B) (Ends : List T → Type 0) (a : A) : Type 0 where
  pub more : List T
  pub tree : B
  pub ends : (k : List T) → Ends k → EndsP (more ++ k)
  pub goes_on : (k : List T) → Ends k → F a (more ++ k) tree k

pub same_head : {T : Type 0} (used other rest : List T) → head other ≡ head rest → head (used ++ other) ≡ head (used ++ rest)
same_head [] other rest h = h
same_head (t ∷ used) other rest h = refl

pub begun_head : {T : Type 0} (used other rest : List T) → Begun true used → head (used ++ other) ≡ head (used ++ rest)
begun_head [] other rest h = absurd h
begun_head (t ∷ used) other rest h = refl

begun_behind : {T : Type 0} (among : Bool) (first used : List T) → Begun true used → Begun among (first ++ used)
begun_behind false first used h = tt
begun_behind true [] used h = h
begun_behind true (t ∷ first) used h = tt

begun_before : {T : Type 0} (among : Bool) (used : List T) → Begun true used → Begun among used
begun_before false used h = tt
begun_before true used h = h

module _ {T A B : Type 0} (among : Bool) (RP : Form T A) (p : Parse T A) (EndsP : List T → Type 0) (F : A → Form T B) (f : A × List T → Result (B × List T) Fault)
    (R : Form T B) (q : Parse T B) (Ends : List T → Type 0)
    (q_is : (ts : List T) → q ts ≡ (p ts >>= f))
    (build : (ts mid rest : List T) (a : A) (b : B) → RP ts a mid → F a mid b rest → R ts b rest)
    (begins : (a : A) → Begins EndsP F Ends a) where
  -- what is read after a first part that was taken
  later : (x : A × List T) (ts : List T) (one : Taken RP p ts x.0 x.1) (used other : List T) (r : Result (B × List T) Fault)
      → head (used ++ other) ≡ head x.1 → f (x.0, used ++ other) ≡ r → q ((one.used ++ used) ++ other) ≡ r
  later x ts one used other r h k = ap q (append_assoc one.used used other) ∙ q_is (one.used ++ (used ++ other)) ∙ ap (λ (r : Result (A × List T) Fault). r >>= f) (one.same (used ++ other) h) ∙ k

  built : (x : A × List T) (ts : List T) (one : Taken RP p ts x.0 x.1) (used k rest : List T) (b : B) → F x.0 (used ++ k) b rest → R ((one.used ++ used) ++ k) b rest
  built x ts one used k rest b d = subst (λ (m : List T). R m b rest) (sym (append_assoc one.used used k)) (build (one.used ++ (used ++ k)) (used ++ k) rest x.0 b (one.framed (used ++ k)) d)

  after_ok : (ts : List T) (x : A × List T) → Taken RP p ts x.0 x.1 → (r : Result (B × List T) Fault) → Told true (F x.0) (λ mid. f (x.0, mid)) Ends x.1 r → Told among R q Ends ts r
  after_ok ts x one (Ok y) two = record {
    used = one.used ++ two.used;
    parts = one.parts ∙ ap (λ (m : List T). one.used ++ m) two.parts ∙ sym (append_assoc one.used two.used y.1);
    same = λ other h. later x ts one two.used other (Ok (y.0, other)) (same_head two.used other y.1 h ∙ ap head (sym two.parts)) (two.same other h);
    framed = λ other. built x ts one two.used other other y.0 (two.framed other);
  }
  after_ok ts x one (Err (Syntax n w)) two = record {
    used = one.used ++ two.used;
    rest = two.rest;
    parts = one.parts ∙ ap (λ (m : List T). one.used ++ m) two.parts ∙ sym (append_assoc one.used two.used two.rest);
    left_is = two.left_is;
    same = λ other h. later x ts one two.used other (Err (Syntax (length other) w)) (same_head two.used other two.rest h ∙ ap head (sym two.parts)) (two.same other h);
    more = two.more;
    tree = two.tree;
    goes_on = λ k h. built x ts one two.used (two.more ++ k) k two.tree (two.goes_on k h);
  }
  after_ok ts x one (Err (TooDeep n)) two = record {
    used = one.used ++ two.used;
    rest = two.rest;
    begun = begun_behind among one.used two.used two.begun;
    parts = one.parts ∙ ap (λ (m : List T). one.used ++ m) two.parts ∙ sym (append_assoc one.used two.used two.rest);
    left_is = two.left_is;
    same = λ other. later x ts one two.used other (Err (TooDeep (suc (length other)))) (begun_head two.used other two.rest two.begun ∙ ap head (sym two.parts)) (two.same other);
    more = two.more;
    tree = two.tree;
    goes_on = λ k h. built x ts one two.used (two.more ++ k) k two.tree (two.goes_on k h);
  }

  completed : (used more k : List T) (a : A) → ((k : List T) → EndsP k → RP (used ++ (more ++ k)) a k) → Ends k → R (used ++ ((more ++ (begins a).more) ++ k)) (begins a).tree k
  completed used more k a goes_on h =
      let b = begins a in
      subst (λ (m : List T). R (used ++ m) b.tree k) (sym (append_assoc more b.more k)) (build (used ++ (more ++ (b.more ++ k))) (b.more ++ k) k a b.tree (goes_on (b.more ++ k) (b.ends k h)) (b.goes_on k h))

  after : (ts : List T) (r : Result (A × List T) Fault) → Told among RP p EndsP ts r → ((a : A) (mid : List T) → Told true (F a) (λ m. f (a, m)) Ends mid (f (a, mid))) → Told among R q Ends ts (r >>= f)
  after ts (Ok x) one two = after_ok ts x one (f x) (two x.0 x.1)
  after ts (Err (Syntax n w)) one two = record {
    used = one.used;
    rest = one.rest;
    parts = one.parts;
    left_is = one.left_is;
    same = λ other h. q_is (one.used ++ other) ∙ ap (λ (r : Result (A × List T) Fault). r >>= f) (one.same other h);
    more = one.more ++ (begins one.tree).more;
    tree = (begins one.tree).tree;
    goes_on = λ k h. completed one.used one.more k one.tree one.goes_on h;
  }
  after ts (Err (TooDeep n)) one two = record {
    used = one.used;
    rest = one.rest;
    begun = one.begun;
    parts = one.parts;
    left_is = one.left_is;
    same = λ other. q_is (one.used ++ other) ∙ ap (λ (r : Result (A × List T) Fault). r >>= f) (one.same other);
    more = one.more ++ (begins one.tree).more;
    tree = (begins one.tree).tree;
    goes_on = λ k h. completed one.used one.more k one.tree one.goes_on h;
  }

  pub told_then : (ts : List T) → Told among RP p EndsP ts (p ts) → ((a : A) (mid : List T) → Told true (F a) (λ m. f (a, m)) Ends mid (f (a, mid))) → Told among R q Ends ts (q ts)
  told_then ts one two = subst (Told among R q Ends ts) (sym (q_is ts)) (after ts (p ts) one two)

-- ---- one token

-- a reader that refuses a token
pub refuses : {T A : Type 0} (R : Form T A) (p : Parse T A) (Ends : List T → Type 0) (awaited : Awaited) (ts : List T) → ((other : List T) → head other ≡ head ts → p other ≡ Err (Syntax (length other) awaited))
    → (more : List T) (tree : A) → ((k : List T) → Ends k → R (more ++ k) tree k) → Refused R p Ends ts (length ts) awaited
refuses R p Ends awaited ts same more tree goes_on = record { used = []; rest = ts; parts = refl; left_is = refl; same = same; more = more; tree = tree; goes_on = goes_on }

-- a reader that stops before a token
pub stops : {T A : Type 0} (R : Form T A) (p : Parse T A) (ts : List T) (a : A) → ((other : List T) → head other ≡ head ts → p other ≡ Ok (a, other)) → ((other : List T) → R other a other) → Taken R p ts a ts
stops R p ts a same framed = record { used = []; parts = refl; same = same; framed = framed }

-- a reader that takes one token
pub takes : {T A : Type 0} (t : T) (R : Form T A) (p : Parse T A) (ts : List T) (a : A) → ((other : List T) → p (t ∷ other) ≡ Ok (a, other)) → ((other : List T) → R (t ∷ other) a other) → Taken R p (t ∷ ts) a ts
takes t R p ts a is framed = record { used = t ∷ []; parts = refl; same = λ other h. is other; framed = framed }

-- a reader that takes a token, and goes on
pub behind : {T A : Type 0} (among : Bool) (t : T) (R Q : Form T A) (p q : Parse T A) (Ends : List T → Type 0) (ts : List T) (r : Result (A × List T) Fault)
    → ((other : List T) → p (t ∷ other) ≡ q other) → ((m : List T) (a : A) (rest : List T) → Q m a rest → R (t ∷ m) a rest) → Told among Q q Ends ts r → Told true R p Ends (t ∷ ts) r
behind {T} among t R Q p q Ends ts (Ok x) is build one = record { used = t ∷ one.used; parts = ap (λ (m : List T). t ∷ m) one.parts; same = λ other h. is (one.used ++ other) ∙ one.same other h; framed = λ other. build (one.used ++ other) x.0 other (one.framed other) }
behind {T} among t R Q p q Ends ts (Err (Syntax n w)) is build one = record { used = t ∷ one.used; rest = one.rest; parts = ap (λ (m : List T). t ∷ m) one.parts; left_is = one.left_is; same = λ other h. is (one.used ++ other) ∙ one.same other h; more = one.more; tree = one.tree; goes_on = λ k h. build (one.used ++ (one.more ++ k)) one.tree k (one.goes_on k h) }
behind {T} among t R Q p q Ends ts (Err (TooDeep n)) is build one = record { used = t ∷ one.used; rest = one.rest; begun = tt; parts = ap (λ (m : List T). t ∷ m) one.parts; left_is = one.left_is; same = λ other. is (one.used ++ other) ∙ one.same other; more = one.more; tree = one.tree; goes_on = λ k h. build (one.used ++ (one.more ++ k)) one.tree k (one.goes_on k h) }

pub by_none : {T C : Type 0} (p q : List T → C) → p [] ≡ q [] → (other : List T) → head other ≡ None → p other ≡ q other
by_none p q is [] h = is
by_none p q is (t ∷ other) h = absurd cc

pub by_head : {T C : Type 0} (t : T) (p q : List T → C) → ((more : List T) → p (t ∷ more) ≡ q (t ∷ more)) → (other : List T) → head other ≡ Some t → p other ≡ q other
by_head t p q is [] h = absurd cc
by_head {T} t p q is (u ∷ other) h = let e : u ≡ t = cc in subst (λ (v : T). p (v ∷ other) ≡ q (v ∷ other)) (sym e) (is other)

-- a reader whose value is made into another
pub told_map : {T A B : Type 0} (among : Bool) (RP : Form T A) (p : Parse T A) (Ends : List T → Type 0) (g : A → B) (R : Form T B) (q : Parse T B) → ((ts : List T) → q ts ≡ (p ts >>= λ x. Ok (g x.0, x.1)))
    → ((ts : List T) (a : A) (rest : List T) → RP ts a rest → R ts (g a) rest) → (ts : List T) → Told among RP p Ends ts (p ts) → Told among R q Ends ts (q ts)
told_map among RP p Ends g R q q_is build ts one =
    told_then among RP p Ends (λ a mid b rest. (mid ≡ rest) × (b ≡ g a)) (λ x. Ok (g x.0, x.1)) R q Ends q_is
    (λ ts mid rest a b d e. rw e.1 (build ts a rest (subst (RP ts a) e.0 d)))
    (λ a. record { more = []; tree = g a; ends = λ k h. h; goes_on = λ k h. (refl, refl) })
    ts one (λ a mid. record { used = []; parts = refl; same = λ other h. refl; framed = λ other. (refl, refl) })

-- what may follow is told by less
pub narrowed : {T A : Type 0} (among : Bool) (R : Form T A) (p : Parse T A) (EndsP Ends : List T → Type 0) → ((k : List T) → Ends k → EndsP k) → (ts : List T) (r : Result (A × List T) Fault) → Told among R p EndsP ts r → Told among R p Ends ts r
narrowed among R p EndsP Ends narrow ts (Ok x) one = one
narrowed among R p EndsP Ends narrow ts (Err (Syntax n w)) one = record { used = one.used; rest = one.rest; parts = one.parts; left_is = one.left_is; same = one.same; more = one.more; tree = one.tree; goes_on = λ k h. one.goes_on k (narrow k h) }
narrowed among R p EndsP Ends narrow ts (Err (TooDeep n)) one = record { used = one.used; rest = one.rest; begun = one.begun; parts = one.parts; left_is = one.left_is; same = one.same; more = one.more; tree = one.tree; goes_on = λ k h. one.goes_on k (narrow k h) }

pub loosened : {T A : Type 0} (among : Bool) (R : Form T A) (p : Parse T A) (Ends : List T → Type 0) (ts : List T) (r : Result (A × List T) Fault) → Told true R p Ends ts r → Told among R p Ends ts r
loosened among R p Ends ts (Ok x) one = one
loosened among R p Ends ts (Err (Syntax n w)) one = one
loosened among R p Ends ts (Err (TooDeep n)) one = record { used = one.used; rest = one.rest; begun = begun_before among one.used one.begun; parts = one.parts; left_is = one.left_is; same = one.same; more = one.more; tree = one.tree; goes_on = one.goes_on }

-- a reader that leaves these tokens to another
pub otherwise : {T A : Type 0} (R Q : Form T A) (p q : Parse T A) (Ends : List T → Type 0) (ts : List T) (r : Result (A × List T) Fault)
    → ((other : List T) → head other ≡ head ts → p other ≡ q other) → ((m : List T) (a : A) (rest : List T) → Q m a rest → R m a rest) → Told true Q q Ends ts r → Told true R p Ends ts r
otherwise R Q p q Ends ts (Ok x) is build one = record { used = one.used; parts = one.parts; same = λ other h. is (one.used ++ other) (same_head one.used other x.1 h ∙ ap head (sym one.parts)) ∙ one.same other h; framed = λ other. build (one.used ++ other) x.0 other (one.framed other) }
otherwise R Q p q Ends ts (Err (Syntax n w)) is build one = record { used = one.used; rest = one.rest; parts = one.parts; left_is = one.left_is; same = λ other h. is (one.used ++ other) (same_head one.used other one.rest h ∙ ap head (sym one.parts)) ∙ one.same other h; more = one.more; tree = one.tree; goes_on = λ k h. build (one.used ++ (one.more ++ k)) one.tree k (one.goes_on k h) }
otherwise R Q p q Ends ts (Err (TooDeep n)) is build one = record { used = one.used; rest = one.rest; begun = one.begun; parts = one.parts; left_is = one.left_is; same = λ other. is (one.used ++ other) (begun_head one.used other one.rest one.begun ∙ ap head (sym one.parts)) ∙ one.same other; more = one.more; tree = one.tree; goes_on = λ k h. build (one.used ++ (one.more ++ k)) one.tree k (one.goes_on k h) }
