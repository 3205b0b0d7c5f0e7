-- What a log says of a place, one set after another.
use Rattle.std.proofs.Common.{◌≡◌, Bool, true, false, ◌||◌, List, [], ◌∷◌, ◌++◌, refl, sym, ap, ◌∙◌}
use Rattle.std.specs.Prelude.{Option, Some, None, cond, is_some}
use Rattle.std.specs.FinMap as fin
use Rattle.std.proofs.lemmas.Cmp.{eq_by_cmp_equiv}
use Rattle.std.proofs.lemmas.List.Folds.{list_any-append}
use Rattle.sql_eval.specs.declared.row.Row.{Row}
use Rattle.sql_eval.specs.declared.effect.Change.{Change}
use Rattle.backend_trait.specs.Keys.{Place, place_order, is_place}
use Rattle.backend_trait.specs.Rows.{Rows, Changes, no_changes, laid_over, joined_changes}
use Rattle.backend_trait.specs.Effect.{place_changed, changed_on, changes_of}
use Rattle.backend_trait.proofs.KeyLaws.{place_total}
use Rattle.backend_trait.proofs.RowLaws.{change_over, get-joined_changes, same_changes}
use Rattle.outcomes.specs.declared.change.ChangeSet.{ChangeSet}
use Rattle.outcomes.specs.Log.{is_changed, rows_on, has_changed}

pub rows_on-snoc : (rows : Rows) (log : List ChangeSet) (set : ChangeSet) → rows_on rows (log ++ set ∷ []) ≡ laid_over (changes_of set.changes.items) (rows_on rows log)
rows_on-snoc rows [] set = refl
rows_on-snoc rows (s ∷ log) set = rows_on-snoc (laid_over (changes_of s.changes.items) rows) log set

or_none : (b : Bool) → (b || false) ≡ b
or_none true = refl
or_none false = refl

either_way : (b c d : Bool) → ((b || c) || d) ≡ (c || (b || d))
either_way true true d = refl
either_way true false d = refl
either_way false c d = refl

or_swapped : (a b : Bool) → (a || b) ≡ (b || a)
or_swapped true true = refl
or_swapped true false = refl
or_swapped false true = refl
or_swapped false false = refl

some_cond : (b : Bool) (row : Option Row) (o : Option (Option Row)) → is_some (cond b (Some row) o) ≡ (b || is_some o)
some_cond true row o = refl
some_cond false row o = refl

is_place_swapped : (p q : Place) → is_place p q ≡ is_place q p
is_place_swapped p q = (eq_by_cmp_equiv place_total).symm p q

-- a place has a change where one of them is of it
any_changed : (old : Changes) (cs : List Change) (q : Place) → is_some (fin.get (changed_on old cs) q) ≡ (is_some (fin.get old q) || is_changed cs q)
any_changed old [] q = sym (or_none (is_some (fin.get old q)))
any_changed old (c ∷ cs) q =
    any_changed (fin.insert old (place_changed c) c.row) cs q
    ∙ ap (λ b. b || is_changed cs q)
    (ap is_some (fin.get-insert place_total old (place_changed c) c.row q) ∙ some_cond (is_place q (place_changed c)) c.row (fin.get old q)
    ∙ ap (λ b. b || is_some (fin.get old q)) (is_place_swapped q (place_changed c)))
    ∙ either_way (is_place (place_changed c) q) (is_some (fin.get old q)) (is_changed cs q)

pub changed_there : (cs : List Change) (q : Place) → is_changed cs q ≡ is_some (fin.get (changes_of cs) q)
changed_there cs q = sym (any_changed no_changes cs q ∙ ap (λ b. b || is_changed cs q) (ap is_some (fin.get-empty place_order q)))

pub has_changed-snoc : (log : List ChangeSet) (set : ChangeSet) (p : Place) → has_changed (log ++ set ∷ []) p ≡ (is_some (fin.get (changes_of set.changes.items) p) || has_changed log p)
has_changed-snoc log set p =
    list_any-append (λ (s : ChangeSet). is_changed s.changes.items p) log (set ∷ [])
    ∙ ap (λ b. has_changed log p || b) (or_none (is_changed set.changes.items p) ∙ changed_there set.changes.items p)
    ∙ or_swapped (has_changed log p) (is_some (fin.get (changes_of set.changes.items) p))

-- changes after others are changes joined
over_both : (a : Option (Option Row)) (b : Bool) (row : Option Row) (none o : Option (Option Row)) → none ≡ None → change_over a (cond b (Some row) o) ≡ change_over (change_over a (cond b (Some row) none)) o
over_both (Some x) b row old o is = refl
over_both None true row old o is = refl
over_both None false row None o is = refl
over_both None false row (Some x) o is = absurd (cc)

get-changed_on : (old : Changes) (cs : List Change) (q : Place) → fin.get (changed_on old cs) q ≡ change_over (fin.get (changes_of cs) q) (fin.get old q)
get-changed_on old [] q = sym (ap (λ c. change_over c (fin.get old q)) (fin.get-empty place_order q))
get-changed_on old (c ∷ cs) q =
    get-changed_on (fin.insert old (place_changed c) c.row) cs q
    ∙ ap (change_over (fin.get (changes_of cs) q)) (fin.get-insert place_total old (place_changed c) c.row q)
    ∙ over_both (fin.get (changes_of cs) q) (is_place q (place_changed c)) c.row (fin.get no_changes q) (fin.get old q) (fin.get-empty place_order q)
    ∙ ap (λ m. change_over m (fin.get old q))
    (sym (get-changed_on (fin.insert no_changes (place_changed c) c.row) cs q ∙ ap (change_over (fin.get (changes_of cs) q)) (fin.get-insert place_total no_changes (place_changed c) c.row q)))

changed_on_joined : (old : Changes) (cs : List Change) → changed_on old cs ≡ joined_changes (changes_of cs) old
changed_on_joined old cs = same_changes _ _ (λ q. get-changed_on old cs q ∙ sym (get-joined_changes (changes_of cs) old q))

pub changed_on-append : (old : Changes) (cs ds : List Change) → changed_on old (cs ++ ds) ≡ changed_on (changed_on old cs) ds
changed_on-append old [] ds = refl
changed_on-append old (c ∷ cs) ds = changed_on-append (fin.insert old (place_changed c) c.row) cs ds

pub changes_joined : (cs ds : List Change) → changes_of (cs ++ ds) ≡ joined_changes (changes_of ds) (changes_of cs)
changes_joined cs ds = changed_on-append no_changes cs ds ∙ changed_on_joined (changes_of cs) ds
