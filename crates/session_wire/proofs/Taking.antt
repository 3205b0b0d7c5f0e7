-- One message more is taken.
use Rattle.std.proofs.Common.{◌≡◌, ℕ, ◌≤◌, ◌<◌, ◌-◌, ap, ◌∙◌, arith, Bool, true, false, [], ◌∷◌, length, drop, refl, sym, subst}
use Rattle.pg_messages.specs.declared.read.Read.TheVariants.{Whole}
use Rattle.pg_messages.specs.declared.client.ClientMessage.{ClientMessage}
use Rattle.pg_messages.specs.declared.start.StartMessage.{StartMessage}
use Rattle.pg_messages.specs.Fronts.{start_front, client_front}
use Rattle.session_wire.specs.declared.wire.Stage.{Stage}
use Rattle.session_wire.specs.declared.wire.Stage.TheVariants.{Starting, Open, Leaving, Closed}
use Rattle.session_wire.specs.Shown.{View}
use Rattle.session_wire.specs.Cuts.{First, Later, AreCut, Agrees, Takes}
use Rattle.std.proofs.lemmas.List.{length-drop}
use Rattle.session_wire.specs.Waiting.{work, open_one}
use Rattle.session_wire.proofs.Lengths.{one_at_most}
use Rattle.session_wire.proofs.Cuts.{cut_on}

is_begun : (stage : Stage) (begun : Bool) → stage ≡ Open → Agrees stage begun → begun ≡ true
is_begun stage begun e h = let agrees : Agrees Open begun = subst (λ s. Agrees s begun) e h in agrees

is_unbegun : (stage : Stage) (ssl gss begun : Bool) → stage ≡ Starting ssl gss → Agrees stage begun → begun ≡ false
is_unbegun stage ssl gss begun e h = let agrees : Agrees (Starting ssl gss) begun = subst (λ s. Agrees s begun) e h in agrees

pub takes_later : (old new : View) (m : ClientMessage) (n : ℕ) → old.stage ≡ Open → n ≤ length old.rest → client_front old.rest ≡ Whole m n
    → new.rest ≡ drop n old.rest → Agrees new.stage true → Takes old new
takes_later old new m n opened fits front rest stage fed taken h =
    let begun : h.0 ≡ true = is_begun old.stage h.0 opened h.2 in
    let one : AreCut true old.rest (Later m ∷ []) new.rest true = (n, fits, front, (sym rest, refl)) in
    (Later m ∷ [], (true, cut_on false fed taken old.rest h.0 (Later m ∷ []) new.rest true h.1 (subst (λ b. AreCut b old.rest (Later m ∷ []) new.rest true) (sym begun) one), stage))

-- each stage agrees with one of both
begun_of : (stage : Stage) → (begun : Bool) × Agrees stage begun
begun_of (Starting ssl gss) = (false, refl)
begun_of Open = (true, refl)
begun_of (Leaving refused) = (false, tt)
begun_of (Closed refused) = (false, tt)

pub takes_first : (old new : View) (ssl gss : Bool) (m : StartMessage) (n : ℕ) → old.stage ≡ Starting ssl gss → n ≤ length old.rest → start_front old.rest ≡ Whole m n
    → new.rest ≡ drop n old.rest → Takes old new
takes_first old new ssl gss m n starting fits front rest fed taken h =
    let begun : h.0 ≡ false = is_unbegun old.stage ssl gss h.0 starting h.2 in
    let next : (b : Bool) × Agrees new.stage b = begun_of new.stage in
    let one : AreCut false old.rest (First m ∷ []) new.rest next.0 = (n, fits, front, next.0, (sym rest, refl)) in
    (First m ∷ [], (next.0, cut_on false fed taken old.rest h.0 (First m ∷ []) new.rest next.0 h.1 (subst (λ b. AreCut b old.rest (First m ∷ []) new.rest next.0) (sym begun) one), next.1))

pub falls_by : (old new : View) (n : ℕ) → open_one old.stage ≡ 1 → 0 < n → n ≤ length old.rest → new.rest ≡ drop n old.rest → work new < work old
falls_by old new n opened some fits rest =
    let len : length new.rest ≡ length old.rest - n = ap length rest ∙ length-drop n old.rest in
    let most : open_one new.stage ≤ 1 = one_at_most new.stage in
    omega (arith, len, most, opened, some, fits)
