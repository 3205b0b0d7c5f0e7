-- The place of a portal, and what names stand for where it is changed there.
use Rattle.std.proofs.Common.{◌≡◌, ◌≢◌, ◌<◌, ℕ, suc, List, [], ◌∷◌, ◌++◌, length, take, drop, set, get_or, Option, Some, None, sym, ap, subst, ◌∙◌, drop-cons, length-take-le, le_of_lt, take-append-drop, take-suc, add-one, ◌+◌}
use Rattle.std.specs.Prelude.{filter}
use Rattle.std.specs.Option.{option_map}
use Rattle.std.proofs.lemmas.List.{set_at, get_or_at}
use Rattle.wire_session.specs.declared.portals.Portal.{Portal}
use Rattle.wire_session.specs.declared.portals.Portals.{Portals}
use Rattle.wire_session.specs.Kept.{portal_in, portal_of}
use Rattle.wire_session.specs.Standing.{IsAt, PortalStands}
use Rattle.wire_session.proofs.Names.{behind_front, closed_others, closed_own, first_is, first_not, keeps, other_stays, put_other, put_own}

abbrev pub name_of : Portal → List ℕ
name_of p = p.name

abbrev pub itself : Portal → Portal
itself p = p

-- one more portal is of another name
pub none_yet : (name : List ℕ) (ps : List Portal) (at : ℕ) (p : Portal) → at < length ps → p ≡ get_or ps at p → p.name ≢ name → portal_in name (take at ps) ≡ None
    → portal_in name (take (at + 1) ps) ≡ None
none_yet name ps at p below is differs none =
    ap (λ (n : ℕ). portal_in name (take n ps)) (add-one at)
    ∙ ap (portal_in name) (take-suc ps at p below ∙ ap (λ (x : Portal). take at ps ++ x ∷ []) (sym is))
    ∙ put_other name_of itself name (take at ps) p differs ∙ none

-- behind portals of other names the next of the name is found
pub found_at : (name : List ℕ) (ps : List Portal) (at : ℕ) (p : Portal) → at < length ps → p ≡ get_or ps at p → p.name ≡ name → portal_in name (take at ps) ≡ None → IsAt name ps at
found_at name ps at p below is own none = record {
  front = take at ps;
  portal = p;
  rest = drop (suc at) ps;
  parts = sym (take-append-drop at ps) ∙ ap (λ (more : List Portal). take at ps ++ more) (drop-cons ps at p below ∙ ap (λ (x : Portal). x ∷ drop (suc at) ps) (sym is));
  count = length-take-le at ps (le_of_lt below);
  before = none;
  own = own;
}

-- it is the portal of its name
pub is_there : (name : List ℕ) (ps : List Portal) (at : ℕ) (i : IsAt name ps at) → portal_in name ps ≡ Some i.portal
is_there name ps at i = ap (portal_in name) i.parts ∙ behind_front name_of itself name i.front (i.portal ∷ i.rest) i.before ∙ first_is name_of itself name i.portal i.rest i.own

-- another of that name in its place
pub stands_at : (name : List ℕ) (old new : Portals) (at : ℕ) (i : IsAt name old.entries.items at) (q : Portal) → q.name ≡ name → new.entries.items ≡ set old.entries.items at q
    → PortalStands name (Some q) old new
stands_at name old new at i q own is =
    let parts : new.entries.items ≡ i.front ++ q ∷ i.rest = is ∙ ap (λ (ps : List Portal). set ps at q) i.parts ∙ set_at i.front i.portal i.rest q at i.count in
    record {
      own = ap (portal_in name) parts ∙ behind_front name_of itself name i.front (q ∷ i.rest) i.before ∙ first_is name_of itself name q i.rest own;
      others = λ other differs. ap (portal_in other) parts
          ∙ other_stays name_of itself other i.front (q ∷ i.rest) (i.portal ∷ i.rest)
          (first_not name_of itself other q i.rest (λ e. differs (sym e ∙ own)) ∙ sym (first_not name_of itself other i.portal i.rest (λ e. differs (sym e ∙ i.own))))
          ∙ ap (portal_in other) (sym i.parts);
    }

-- what is read at its place is it
here : (name : List ℕ) (ps : List Portal) (at : ℕ) (i : IsAt name ps at) (p : Portal) → p ≡ get_or ps at p → p ≡ i.portal
here name ps at i p is = is ∙ ap (λ (xs : List Portal). get_or xs at p) i.parts ∙ get_or_at i.front i.portal i.rest p at i.count

pub read_at : {X : Type 0} (name : List ℕ) (old : Portals) (at : ℕ) (i : IsAt name old.entries.items at) (p : Portal) (f : Portal → X) → p ≡ get_or old.entries.items at p
    → Some (f p) ≡ option_map f (portal_of name old)
read_at name old at i p f is = ap (λ (x : Portal). Some (f x)) (here name old.entries.items at i p is) ∙ sym (ap (option_map f) (is_there name old.entries.items at i))

-- it is changed at its place, and keeps its name
pub turned_at : (name : List ℕ) (old new : Portals) (at : ℕ) (i : IsAt name old.entries.items at) (p q : Portal) (f : Portal → Portal) → ((x : Portal) → (f x).name ≡ x.name)
    → p ≡ get_or old.entries.items at p → q ≡ f p → new.entries.items ≡ set old.entries.items at q → PortalStands name (option_map f (portal_of name old)) old new
turned_at name old new at i p q f names is to becomes =
    let own : q.name ≡ name = ap (λ (x : Portal). x.name) to ∙ names p ∙ ap (λ (x : Portal). x.name) (here name old.entries.items at i p is) ∙ i.own in
    subst (λ (o : Option Portal). PortalStands name o old new) (ap Some to ∙ read_at name old at i p f is) (stands_at name old new at i q own becomes)

-- those of a name are dropped
pub closed_so : (name : List ℕ) (old new : Portals) → new.entries.items ≡ filter (keeps name_of name) old.entries.items → PortalStands name None old new
closed_so name old new is = record {
  own = ap (portal_in name) is ∙ closed_own name_of itself name old.entries.items;
  others = λ other differs. ap (portal_in other) is ∙ closed_others name_of itself name other old.entries.items differs;
}

-- and one of that name is put behind the others
pub put_so : (name : List ℕ) (old start mid new : Portals) (p : Portal) → start.entries.items ≡ old.entries.items → PortalStands name None start mid → p.name ≡ name
    → new.entries.items ≡ mid.entries.items ++ p ∷ [] → PortalStands name (Some p) old new
put_so name old start mid new p same closed own is = record {
  own = ap (portal_in name) is ∙ put_own name_of itself name mid.entries.items p closed.own own;
  others = λ other differs. ap (portal_in other) is ∙ put_other name_of itself other mid.entries.items p (λ e. differs (sym e ∙ own))
      ∙ closed.others other differs ∙ ap (portal_in other) same;
}
