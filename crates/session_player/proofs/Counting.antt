-- How many clients are connected, and what a line does of them.
use Rattle.std.proofs.Common.{◌≡◌, ℕ, zero, suc, ◌+◌, ◌<◌, ◌≤◌, Bool, true, false, List, ◌++◌, length, get_or, set, refl, sym, ap, ◌∙◌, subst, inl, inr, arith}
use Rattle.std.specs.Prelude.{Option, Some, None, is_some, codes, if◌then◌else◌}
use Rattle.std.proofs.lemmas.Bool.Decides.{eqb_tells, leb_tells}
use Rattle.std.proofs.lemmas.List.{get_or-set_same, get_or-set_other, get_or_past}
use Rattle.pool_base.specs.declared.session_id.SessionId.{SessionId}
use Rattle.backend_trait.specs.Rows.{with_at}
use Rattle.session_wire.specs.Shown.{View, IsFresh}
use Rattle.session_seat.specs.Speech.{closed_line, message_line, no_place, word_line}
use Rattle.session_player.specs.declared.client.Client.{Client}
use Rattle.session_player.specs.declared.slots.Slot.{Slot}
use Rattle.session_player.specs.declared.slots.Slot.TheVariants.{Free, Taken}
use Rattle.session_player.specs.declared.deed.Wish.{Wish}
use Rattle.session_player.specs.Slots.{is_taken}
use Rattle.session_player.specs.Speaking.{Hearer, hearer_in, hearer_of, hearers_of}
use Rattle.session_player.specs.Transcript.{Addresses, Connects, IsGranted, busy, count_to, full, gone, heard, input_ended, joined, joins}
use Rattle.session_player.proofs.Going.{slot_read}
use Rattle.session_player.proofs.Speaking.{hears_at, hears_self, hears_set}

is_there : (slot : Slot) → is_some (hearer_in slot) ≡ is_taken slot
is_there Free = refl
is_there (Taken client) = refl

next_there : (slots : List Slot) (i : ℕ) (slot : Slot) → i < length slots → slot ≡ get_or slots i slot → is_some (hearers_of slots (suc i)) ≡ is_taken slot
next_there slots i slot below read = ap (λ (z : Slot). is_some (hearer_in z)) (slot_read slots i slot below read) ∙ is_there slot

pub one_more : (slots : List Slot) (count i : ℕ) (slot : Slot) → i < length slots → slot ≡ get_or slots i slot → is_taken slot ≡ true → count ≡ count_to (hearers_of slots) i → count + 1 ≡ count_to (hearers_of slots) (i + 1)
one_more slots count i slot below read there is =
    let next : suc i ≡ i + 1 = omega arith in
    subst (λ (n : ℕ). count + 1 ≡ count_to (hearers_of slots) n) next
    (ap (λ (n : ℕ). n + 1) is ∙ ap (λ (b : Bool). count_to (hearers_of slots) i + (if b then 1 else 0)) (sym (next_there slots i slot below read ∙ there)))

pub none_more : (slots : List Slot) (count i : ℕ) (slot : Slot) → i < length slots → slot ≡ get_or slots i slot → is_taken slot ≡ false → count ≡ count_to (hearers_of slots) i → count ≡ count_to (hearers_of slots) (i + 1)
none_more slots count i slot below read there is =
    let next : suc i ≡ i + 1 = omega arith in
    let stays : count_to (hearers_of slots) i + 0 ≡ count_to (hearers_of slots) i = omega arith in
    subst (λ (n : ℕ). count ≡ count_to (hearers_of slots) n) next
    (is ∙ (sym stays ∙ ap (λ (b : Bool). count_to (hearers_of slots) i + (if b then 1 else 0)) (sym (next_there slots i slot below read ∙ there))))

pub all_counted : (slots : List Slot) (count i : ℕ) → i ≡ length slots → count ≡ count_to (hearers_of slots) i → count ≡ count_to (hearers_of slots) (length slots)
all_counted slots count i all is = is ∙ ap (count_to (hearers_of slots)) all

-- A client connects.

hearer_there : (slot : Slot) → is_taken slot ≡ true → (was : Hearer) × (hearer_in slot ≡ Some was)
hearer_there Free there = let never : false ≡ true = there in absurd (cc)
hearer_there (Taken client) there = (hearer_of client.place.seat, refl)

hearer_none : (slot : Slot) → is_taken slot ≡ false → hearer_in slot ≡ None
hearer_none Free free = refl
hearer_none (Taken client) free = let never : true ≡ false = free in absurd (cc)

pub is_busy : (children : ℕ) (slots : List Slot) (i : ℕ) (slot : Slot) (s : SessionId) (had has : List ℕ) → s.number ≡ suc i → i < length slots → slot ≡ get_or slots i slot → is_taken slot ≡ true
    → has ≡ had ++ word_line s.number (codes "busy") → Connects children s.number (hearers_of slots) had (hearers_of slots) has
is_busy children slots i slot s had has is below read there told =
    let there_is = hearer_there slot there in busy there_is.0 (hears_at slots i slot s is below read ∙ there_is.1) refl told

pub is_full : (children count : ℕ) (slots : List Slot) (i : ℕ) (slot : Slot) (s : SessionId) (had has : List ℕ) → s.number ≡ suc i → i < length slots → slot ≡ get_or slots i slot → is_taken slot ≡ false
    → count ≡ count_to (hearers_of slots) 64 → children ≤ count → has ≡ had ++ (message_line s.number no_place ++ closed_line s.number) → Connects children s.number (hearers_of slots) had (hearers_of slots) has
is_full children count slots i slot s had has is below read free counted many told =
    full (hears_at slots i slot s is below read ∙ hearer_none slot free) (subst (λ (n : ℕ). children ≤ n) counted many) refl told

pub is_joined : (children count : ℕ) (slots : List Slot) (i : ℕ) (slot new : Slot) (client : Client) (s : SessionId) (lines : List ℕ) → s.number ≡ suc i → i < length slots → slot ≡ get_or slots i slot → is_taken slot ≡ false
    → count ≡ count_to (hearers_of slots) 64 → count < children → new ≡ Taken client → (fresh : (view : View) × IsFresh s.number view × (hearer_of client.place.seat ≡ joined view))
    → Connects children s.number (hearers_of slots) lines (hearers_of (set slots i new)) lines
is_joined children count slots i slot new client s lines is below read free counted few taken fresh =
    joins (hears_at slots i slot s is below read ∙ hearer_none slot free) (subst (λ (n : ℕ). n < children) counted few) fresh.0 fresh.1
    (hears_set slots i new s is below ∙ ap (λ (z : Option Hearer). with_at (hearers_of slots) s.number z) (ap hearer_in taken ∙ ap Some fresh.2)) refl

-- A session is asked.

pub hears_same : (slots : List Slot) (i : ℕ) (slot new : Slot) (s : SessionId) → s.number ≡ suc i → i < length slots → slot ≡ get_or slots i slot → new ≡ slot → hearers_of (set slots i new) ≡ hearers_of slots
hears_same slots i slot new s is below read same =
    hears_set slots i new s is below ∙ hears_self (hearers_of slots) s.number (hearer_in new) (hears_at slots i slot s is below read ∙ ap hearer_in (sym same))

pub addressed : (slots : List Slot) (i : ℕ) (slot new : Slot) (s : SessionId) (wish : Wish) (there : Bool) (had has : List ℕ) → s.number ≡ suc i → i < length slots → slot ≡ get_or slots i slot → IsGranted wish slot there new
    → has ≡ (if there then had else had ++ word_line s.number (codes "gone")) → Addresses s.number wish (hearers_of slots) had (hearers_of (set slots i new)) has
addressed slots i slot new s wish true had has is below read granted told =
    heard granted.0 (hears_at slots i slot s is below read ∙ granted.1)
    (hears_set slots i new s is below ∙ ap (λ (z : Option Hearer). with_at (hearers_of slots) s.number z) granted.2) told
addressed slots i slot new s wish false had has is below read granted told =
    gone (hears_at slots i slot s is below read ∙ granted.0) (hears_same slots i slot new s is below read granted.1) told

-- The input of each client ends.

pub all_end : (slots : List Slot) (old : List Slot) (i : ℕ) (slot new : Slot) (n : ℕ) → i < length slots → slot ≡ get_or slots i slot → hearer_in new ≡ input_ended (hearer_in slot)
    → ((m : ℕ) → m ≤ i → hearers_of slots m ≡ input_ended (hearers_of old m)) → ((m : ℕ) → i < m → hearers_of slots m ≡ hearers_of old m)
    → n ≤ i + 1 → hearers_of (set slots i new) n ≡ input_ended (hearers_of old n)
all_end slots old i slot new zero below read ends done left few = done zero (omega arith)
all_end slots old i slot new (suc n) below read ends done left few = elim (eqb_tells n i) [
  | inl p ↦
      ap (λ (k : ℕ). hearer_in (get_or (set slots i new) k Free)) p.1 ∙ (ap hearer_in (get_or-set_same slots i new Free below) ∙ (ends
      ∙ ap input_ended (ap hearer_in (sym (slot_read slots i slot below read)) ∙ (left (suc i) (omega arith) ∙ ap (λ (k : ℕ). hearers_of old (suc k)) (sym p.1)))))
  | inr p ↦ ap hearer_in (get_or-set_other slots i n new Free p.1) ∙ done (suc n) (omega (arith, few, p.1))
]

pub left_end : (slots : List Slot) (old : List Slot) (i : ℕ) (new : Slot) (n : ℕ) → ((m : ℕ) → i < m → hearers_of slots m ≡ hearers_of old m) → i + 1 < n → hearers_of (set slots i new) n ≡ hearers_of old n
left_end slots old i new zero left past = absurd (omega (arith, past))
left_end slots old i new (suc n) left past =
    let other : ¬ (n ≡ i) = (λ e. omega (arith, e, past)) in
    ap hearer_in (get_or-set_other slots i n new Free other) ∙ left (suc n) (omega (arith, past))

pub past_end : (slots old : List Slot) (i n : ℕ) → length slots ≤ i → length old ≤ i → ((m : ℕ) → m ≤ i → hearers_of slots m ≡ input_ended (hearers_of old m)) → hearers_of slots n ≡ input_ended (hearers_of old n)
past_end slots old i zero all whole done = done zero (omega arith)
past_end slots old i (suc n) all whole done = elim (leb_tells (suc n) i) [
  | inl p ↦ done (suc n) p.1
  | inr p ↦ ap hearer_in (get_or_past slots n Free (omega (arith, all, p.1))) ∙ ap input_ended (ap hearer_in (sym (get_or_past old n Free (omega (arith, whole, p.1)))))
]
