-- What a Bind puts, and why it is refused.
use Rattle.std.proofs.Common.{◌≡◌, ℕ, Bool, true, List, Option, Some, None, subst}
use Rattle.pg_values.specs.declared.col_type.ColType.{ColType}
use Rattle.pg_values.specs.declared.value.Value.{Value}
use Rattle.wire_session.specs.declared.portals.Portals.{Portals}
use Rattle.wire_session.specs.declared.refusal.Refusal.{Refusal}
use Rattle.wire_session.specs.declared.statements.Prepared.{Prepared}
use Rattle.wire_extended.specs.declared.binding.Binding.{Binding}
use Rattle.wire_extended.specs.declared.binding.Made.{Made}
use Rattle.wire_extended.specs.declared.binding.Made.TheVariants.{State, Refused}
use Rattle.wire_extended.specs.Binding.{AreRead, TellsForm, TellsMade, TellsPut, WhyUnput, ends_block, kinds_of, taken, unput}
use Rattle.wire_extended.specs.Naming.{TellsNewPortal}

-- the values are read, and the portal's name is refused
pub taken_so : (what : Prepared) (portals : Portals) (b : Binding) (r : Refusal) (kinds : List ColType) (formats : List ℕ) (given : List (Option (List ℕ))) (name : List ℕ)
    (values : List Value) → kinds ≡ kinds_of what → formats ≡ b.formats → given ≡ b.values → name ≡ b.portal → AreRead kinds formats 0 given values
    → TellsNewPortal name portals (Some r) → WhyUnput what portals b r
taken_so what portals b r kinds formats given name values of_what of_formats of_values of_name read why =
    let all : AreRead (kinds_of what) b.formats 0 b.values values =
    subst (λ (k : List ColType). AreRead k b.formats 0 b.values values) of_what
    (subst (λ (f : List ℕ). AreRead kinds f 0 b.values values) of_formats (subst (λ (g : List (Option (List ℕ))). AreRead kinds formats 0 g values) of_values read)) in
    taken values all (subst (λ (n : List ℕ). TellsNewPortal n portals (Some r)) of_name why)

-- what is put, or why it is not, where the block and the form allow it
pub made_so : (failed : Bool) (what : Prepared) (portals : Portals) (b : Binding) (m : Made) → (failed ≡ true → ends_block what ≡ true) → TellsForm what b None
    → TellsPut what portals b m → TellsMade failed what portals b m
made_so failed what portals b (State state) may form put = record { may = may; form = form; is_put = put }
made_so failed what portals b (Refused r) may form why = unput may form why
