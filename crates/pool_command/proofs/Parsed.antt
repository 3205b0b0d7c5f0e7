-- What a parse of a known command gives.
use Rattle.std.proofs.Common.{◌≡◌, ◌⊎◌, inl, inr, true, List, [], ◌∷◌, Some, None, Result, Ok, Err, refl, ap, sym, ◌∙◌, IfOk, IfErr}
use Rattle.clap.specs.Walk.{Text, rows_of}
use Rattle.clap.specs.Simple.{App, HasMatchesOf, is_simple, matches_of}
use Rattle.clap.specs.Faults.{fault_of, is_simple_and_free}
use Rattle.clap.specs.Kinds.{Kinds, FailsBy, IsAmong}
use Rattle.clap.specs.Values.{kind_of}
use Rattle.clap.specs.Matches.{found_of}
use Rattle.clap.specs.declared.parser.matches.ArgMatches.{ArgMatches}
use Rattle.clap.specs.declared.error.Error.{Error}
use Rattle.clap.specs.declared.error.kind.ErrorKind.{ErrorKind}
use Rattle.clap.specs.declared.error.kind.ErrorKind.TheVariants as kind
use Rattle.clap.proofs.OnLiterals.{clap_on_literals}
use Rattle.pool_command.specs.Clap.{play_app, serve_app, unless_faulty}

pub play_simple : is_simple play_app ≡ true
unfolding clap_on_literals
play_simple = refl

pub play_free : is_simple_and_free play_app ≡ true
unfolding clap_on_literals
play_free = refl

pub serve_simple : is_simple serve_app ≡ true
unfolding clap_on_literals
serve_simple = refl

pub serve_free : is_simple_and_free serve_app ≡ true
unfolding clap_on_literals
serve_free = refl

pub rows_are : (a b : App) (words : List Text) (r : Result ArgMatches Error) → a ≡ b → is_simple b ≡ true
    → IfOk r (HasMatchesOf a words) → IfOk r (λ m. rows_of (found_of m) ≡ matches_of b words)
rows_are a b words (Ok m) e simple h = (h (ap is_simple e ∙ simple)).0 ∙ ap (λ (x : App). matches_of x words) e
rows_are a b words (Err f) e simple h = tt

pub no_fault : (a b : App) (words : List Text) (r : Result ArgMatches Error) → a ≡ b → is_simple_and_free b ≡ true
    → (is_simple_and_free a ≡ true → FailsBy (fault_of a words) r) → IfOk r (λ m. fault_of b words ≡ [])
no_fault a b words (Ok m) e free h = ap (λ (x : App). fault_of x words) (sym e) ∙ h (ap is_simple_and_free e ∙ free)
no_fault a b words (Err f) e free h = tt

among_some : (k : ErrorKind) (kinds : Kinds) → IsAmong k kinds → ¬ (kinds ≡ [])
among_some k [] h = absurd h
among_some k (x ∷ xs) h = λ e. absurd (cc)

pub some_fault : (a b : App) (words : List Text) (r : Result ArgMatches Error) → a ≡ b → is_simple_and_free b ≡ true
    → (is_simple_and_free a ≡ true → FailsBy (fault_of a words) r) → IfErr r (λ e. (kind_of e ≡ kind.OutOfMemory) ⊎ ¬ (fault_of b words ≡ []))
some_fault a b words (Ok m) e free h = tt
some_fault a b words (Err f) e free h = go (h (ap is_simple_and_free e ∙ free))
  where
    go : (kind_of f ≡ kind.OutOfMemory) ⊎ IsAmong (kind_of f) (fault_of a words) → (kind_of f ≡ kind.OutOfMemory) ⊎ ¬ (fault_of b words ≡ [])
    go (inl k) = inl k
    go (inr k) = inr (λ none. among_some (kind_of f) (fault_of a words) k (ap (λ (x : App). fault_of x words) e ∙ none))

pub faulty_none : {X : Type 0} (kinds : Kinds) (x : X) → ¬ (kinds ≡ []) → unless_faulty kinds x ≡ None
faulty_none [] x h = absurd (h refl)
faulty_none (k ∷ ks) x h = refl

pub faultless_some : {X : Type 0} (kinds : Kinds) (x : X) → kinds ≡ [] → unless_faulty kinds x ≡ Some x
faultless_some [] x h = refl
faultless_some (k ∷ ks) x h = absurd (cc)
