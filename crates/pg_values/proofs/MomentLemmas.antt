-- Moments: what is read is of the grammar, and what is of the grammar is read.
use Rattle.std.proofs.Common.{◌≡◌, ℕ, zero, suc, ◌+◌, ◌/◌, ◌%◌, ◌<◌, ◌≤◌, ◌^◌, Bool, true, false, cond, eqb, ltb, not, ◌&&◌, List, [], ◌∷◌, ◌++◌, length, Option, Some, None, refl, sym, ap, subst, ◌∙◌, inl, inr, arith, append_assoc}
use Rattle.std.specs.Char.{is_ascii_digit}
use Rattle.std.proofs.lemmas.Bool.{eqb-true, ltb-false}
use Rattle.std.proofs.lemmas.Bool.Decides.{nat_tests}
use Rattle.pg_values.specs.declared.written.Sign.{Sign}
use Rattle.pg_values.specs.declared.written.Sign.TheVariants.{East, West}
use Rattle.pg_values.specs.declared.written.Zone.{Zone}
use Rattle.pg_values.specs.declared.written.Zone.TheVariants as zone
use Rattle.pg_values.specs.declared.written.Fraction.{Fraction}
use Rattle.pg_values.specs.declared.written.Seconds.{Seconds}
use Rattle.pg_values.specs.declared.written.Separator.{Separator}
use Rattle.pg_values.specs.declared.written.Separator.TheVariants.{Space, LetterT}
use Rattle.pg_values.specs.declared.written.Clock.{Clock}
use Rattle.pg_values.specs.declared.written.Written.{Written}
use Rattle.pg_values.specs.Digits.{number_of, fixed}
use Rattle.pg_values.specs.Moments.{sign_byte, minutes_text, zone_text, fraction_text, seconds_text, separator_byte, clock_text, MinutesFit, ZoneFits, FractionFits, SecondsFit, ClockFits, IsMomentText}
use Rattle.pg_values.specs.Reading.{◌>>=◌, fixed_at, mark_at, ended, digits_front, digits_rest, whole_minutes, minutes_at, offset_at, zone_at, fraction_at, point_at, second_at, seconds_at, clock_behind, clock_at, written_at}
use Rattle.pg_values.proofs.Runs.{digits_parts}
use Rattle.pg_values.proofs.DigitLemmas.{some_is, fixed_again, fixed_takes, are_digits_front, length-fixed, digits-fixed, number-fixed, fixed-number, number_below}
use Rattle.pg_values.proofs.WordLemmas.{bind_some, chosen, digits_again}

-- ---- what is read is of the grammar

mark_takes : (mark : ℕ) (text rest : List ℕ) → mark_at mark text ≡ Some rest → text ≡ mark ∷ rest
mark_takes mark [] rest e = absurd (cc)
mark_takes mark (b ∷ text) rest e = elim (chosen (eqb b mark) (Some text) None (Some rest) e) [
  | inl p ↦ (let same : text ≡ rest = some_is text rest p.1 in ap (λ (x : ℕ). x ∷ text) (eqb-true b mark p.0) ∙ ap (λ (x : List ℕ). mark ∷ x) same)
  | inr p ↦ absurd (cc (p.1))
]

ended_takes : {A : Type 0} (x y : A) (text : List ℕ) → ended x text ≡ Some y → (text ≡ []) × (x ≡ y)
ended_takes x y [] e = (refl, some_is x y e)
ended_takes x y (b ∷ text) e = absurd (cc)

fixed_nil : (k n : ℕ) → fixed k n ++ [] ≡ fixed k n
fixed_nil zero n = refl
fixed_nil (suc k) n = ap (λ (x : List ℕ). (48 + n / 10 ^ k) ∷ x) (fixed_nil k (n % 10 ^ k))

whole_takes : (text : List ℕ) (m : Option ℕ) → whole_minutes text ≡ Some m → (n : ℕ) × (m ≡ Some n) × (n < 100) × (text ≡ fixed 2 n)
unfolding whole_minutes
whole_takes text m e =
    let a = bind_some (fixed_at 2 text) (λ x. ended (Some x.0) x.1) m e in
    let f = fixed_takes 2 a.0.0 text a.0.1 a.1 in
    let d = ended_takes (Some a.0.0) m a.0.1 a.2 in
    (a.0.0, sym d.1, f.1, f.0 ∙ ap (λ (x : List ℕ). fixed 2 a.0.0 ++ x) d.0 ∙ fixed_nil 2 a.0.0)

minutes_takes : (text : List ℕ) (m : Option ℕ) → minutes_at text ≡ Some m → MinutesFit m × (text ≡ minutes_text m)
unfolding minutes_at
minutes_takes [] m e = subst (λ (x : Option ℕ). MinutesFit x × ([] ≡ minutes_text x)) (some_is None m e) (tt, refl)
minutes_takes (b ∷ rest) m e = elim (chosen (eqb b 58) (whole_minutes rest) None (Some m) e) [
  | inl p ↦ (let w = whole_takes rest m p.1 in subst (λ (x : Option ℕ). MinutesFit x × (b ∷ rest ≡ minutes_text x)) (sym w.1) (w.2, ap (λ (x : ℕ). x ∷ rest) (eqb-true b 58 p.0) ∙ ap (λ (x : List ℕ). 58 ∷ x) w.3))
  | inr p ↦ absurd (cc (p.1))
]

offset_takes : (sign : Sign) (text : List ℕ) (z : Zone) → offset_at sign text ≡ Some z → ZoneFits z × (sign_byte sign ∷ text ≡ zone_text z)
unfolding offset_at
offset_takes sign text z e =
    let a = bind_some (fixed_at 2 text) (λ hours. minutes_at hours.1 >>= λ minutes. Some (zone.Offset (record { sign = sign; hours = hours.0; minutes = minutes }))) z e in
    let b = bind_some (minutes_at a.0.1) (λ minutes. Some (zone.Offset (record { sign = sign; hours = a.0.0; minutes = minutes }))) z a.2 in
    let f = fixed_takes 2 a.0.0 text a.0.1 a.1 in
    let m = minutes_takes a.0.1 b.0 b.1 in
    let is : zone.Offset (record { sign = sign; hours = a.0.0; minutes = b.0 }) ≡ z = some_is _ _ b.2 in
    subst (λ (x : Zone). ZoneFits x × (sign_byte sign ∷ text ≡ zone_text x)) is
    ((f.1, m.0), ap (λ (x : List ℕ). sign_byte sign ∷ x) (f.0 ∙ ap (λ (x : List ℕ). fixed 2 a.0.0 ++ x) m.1))

zone_takes : (text : List ℕ) (z : Zone) → zone_at text ≡ Some z → ZoneFits z × (text ≡ zone_text z)
unfolding zone_at
zone_takes [] z e = subst (λ (x : Zone). ZoneFits x × ([] ≡ zone_text x)) (some_is zone.Unwritten z e) (tt, refl)
zone_takes (b ∷ rest) z e = elim (chosen (eqb b 90) (ended zone.Zulu rest) (cond (eqb b 43) (offset_at East rest) (cond (eqb b 45) (offset_at West rest) None)) (Some z) e) [
  | inl p ↦ (let d = ended_takes zone.Zulu z rest p.1 in subst (λ (x : Zone). ZoneFits x × (b ∷ rest ≡ zone_text x)) d.1 (tt, ap (λ (x : ℕ). x ∷ rest) (eqb-true b 90 p.0) ∙ ap (λ (x : List ℕ). 90 ∷ x) d.0))
  | inr p ↦ elim (chosen (eqb b 43) (offset_at East rest) (cond (eqb b 45) (offset_at West rest) None) (Some z) p.1) [
    | inl q ↦ (let o = offset_takes East rest z q.1 in (o.0, ap (λ (x : ℕ). x ∷ rest) (eqb-true b 43 q.0) ∙ o.1))
    | inr q ↦ elim (chosen (eqb b 45) (offset_at West rest) None (Some z) q.1) [
      | inl r ↦ (let o = offset_takes West rest z r.1 in (o.0, ap (λ (x : ℕ). x ∷ rest) (eqb-true b 45 r.0) ∙ o.1))
      | inr r ↦ absurd (cc (r.1))
    ]
  ]
]

some_front : (ds : List ℕ) → eqb (length ds) 0 ≡ false → 1 ≤ length ds
some_front ds h = grind (arith, nat_tests)

fraction_takes : (text : List ℕ) (f : Option Fraction) (rest : List ℕ) → fraction_at text ≡ Some (f, rest) → FractionFits f × (46 ∷ text ≡ fraction_text f ++ rest)
unfolding fraction_at
fraction_takes text f rest e =
    let front = digits_front text in
    let made : Option Fraction × List ℕ = (Some (record { digits = length front; number = number_of front }), digits_rest text) in
    let wanted : Option Fraction × List ℕ = (f, rest) in
    elim (chosen (eqb (length front) 0) None (cond (ltb 6 (length front)) None (Some made)) (Some wanted) e) [
      | inl p ↦ absurd (cc (p.1))
      | inr p ↦ elim (chosen (ltb 6 (length front)) None (Some made) (Some wanted) p.1) [
        | inl q ↦ absurd (cc (q.1))
        | inr q ↦
            (let few = ltb-false 6 (length front) q.0 in
            let digits = are_digits_front text in
            let text_is : 46 ∷ text ≡ 46 ∷ (fixed (length front) (number_of front) ++ digits_rest text) = ap (λ (x : List ℕ). 46 ∷ x) (sym (digits_parts text) ∙ ap (λ (x : List ℕ). x ++ digits_rest text) (sym (fixed-number front digits))) in
            subst (λ (x : Option Fraction × List ℕ). FractionFits x.0 × (46 ∷ text ≡ fraction_text x.0 ++ x.1)) (some_is made wanted q.1)
            ((some_front front p.0, few, number_below front (length front) digits (omega arith)), text_is))
      ]
    ]

point_takes : (text : List ℕ) (f : Option Fraction) (rest : List ℕ) → point_at text ≡ Some (f, rest) → FractionFits f × (text ≡ fraction_text f ++ rest)
unfolding point_at
point_takes [] f rest e =
    let made : Option Fraction × List ℕ = (None, []) in
    subst (λ (x : Option Fraction × List ℕ). FractionFits x.0 × ([] ≡ fraction_text x.0 ++ x.1)) (some_is made (f, rest) e) (tt, refl)
point_takes (b ∷ text) f rest e =
    let made : Option Fraction × List ℕ = (None, b ∷ text) in
    let wanted : Option Fraction × List ℕ = (f, rest) in
    elim (chosen (eqb b 46) (fraction_at text) (Some made) (Some wanted) e) [
      | inl p ↦ (let t = fraction_takes text f rest p.1 in (t.0, ap (λ (x : ℕ). x ∷ text) (eqb-true b 46 p.0) ∙ t.1))
      | inr p ↦ subst (λ (x : Option Fraction × List ℕ). FractionFits x.0 × (b ∷ text ≡ fraction_text x.0 ++ x.1)) (some_is made wanted p.1) (tt, refl)
    ]

second_takes : (text : List ℕ) (s : Option Seconds) (rest : List ℕ) → second_at text ≡ Some (s, rest) → SecondsFit s × (58 ∷ text ≡ seconds_text s ++ rest)
unfolding second_at
second_takes text s rest e =
    let wanted : Option Seconds × List ℕ = (s, rest) in
    let a = bind_some (fixed_at 2 text) (λ second. point_at second.1 >>= λ fraction. Some (Some (record { second = second.0; fraction = fraction.0 }), fraction.1)) wanted e in
    let b = bind_some (point_at a.0.1) (λ fraction. Some (Some (record { second = a.0.0; fraction = fraction.0 }), fraction.1)) wanted a.2 in
    let f = fixed_takes 2 a.0.0 text a.0.1 a.1 in
    let t = point_takes a.0.1 b.0.0 b.0.1 b.1 in
    let made : Option Seconds × List ℕ = (Some (record { second = a.0.0; fraction = b.0.0 }), b.0.1) in
    subst (λ (x : Option Seconds × List ℕ). SecondsFit x.0 × (58 ∷ text ≡ seconds_text x.0 ++ x.1)) (some_is made wanted b.2)
    ((f.1, t.0), ap (λ (x : List ℕ). 58 ∷ x) (f.0 ∙ ap (λ (x : List ℕ). fixed 2 a.0.0 ++ x) t.1 ∙ sym (append_assoc (fixed 2 a.0.0) (fraction_text b.0.0) b.0.1)))

seconds_takes : (text : List ℕ) (s : Option Seconds) (rest : List ℕ) → seconds_at text ≡ Some (s, rest) → SecondsFit s × (text ≡ seconds_text s ++ rest)
unfolding seconds_at
seconds_takes [] s rest e =
    let made : Option Seconds × List ℕ = (None, []) in
    subst (λ (x : Option Seconds × List ℕ). SecondsFit x.0 × ([] ≡ seconds_text x.0 ++ x.1)) (some_is made (s, rest) e) (tt, refl)
seconds_takes (b ∷ text) s rest e =
    let made : Option Seconds × List ℕ = (None, b ∷ text) in
    let wanted : Option Seconds × List ℕ = (s, rest) in
    elim (chosen (eqb b 58) (second_at text) (Some made) (Some wanted) e) [
      | inl p ↦ (let t = second_takes text s rest p.1 in (t.0, ap (λ (x : ℕ). x ∷ text) (eqb-true b 58 p.0) ∙ t.1))
      | inr p ↦ subst (λ (x : Option Seconds × List ℕ). SecondsFit x.0 × (b ∷ text ≡ seconds_text x.0 ++ x.1)) (some_is made wanted p.1) (tt, refl)
    ]

behind_takes : (separator : Separator) (text : List ℕ) (c : Option Clock) → clock_behind separator text ≡ Some c → ClockFits c × (separator_byte separator ∷ text ≡ clock_text c)
unfolding clock_behind
behind_takes separator text c e =
    let a = bind_some (fixed_at 2 text) (λ hour. mark_at 58 hour.1 >>= λ rest. fixed_at 2 rest >>= λ minute. seconds_at minute.1 >>= λ seconds. zone_at seconds.1 >>= λ zone. Some (Some (record { separator = separator; hour = hour.0; minute = minute.0; seconds = seconds.0; zone = zone }))) c e in
    let b = bind_some (mark_at 58 a.0.1) (λ rest. fixed_at 2 rest >>= λ minute. seconds_at minute.1 >>= λ seconds. zone_at seconds.1 >>= λ zone. Some (Some (record { separator = separator; hour = a.0.0; minute = minute.0; seconds = seconds.0; zone = zone }))) c a.2 in
    let d = bind_some (fixed_at 2 b.0) (λ minute. seconds_at minute.1 >>= λ seconds. zone_at seconds.1 >>= λ zone. Some (Some (record { separator = separator; hour = a.0.0; minute = minute.0; seconds = seconds.0; zone = zone }))) c b.2 in
    let f = bind_some (seconds_at d.0.1) (λ seconds. zone_at seconds.1 >>= λ zone. Some (Some (record { separator = separator; hour = a.0.0; minute = d.0.0; seconds = seconds.0; zone = zone }))) c d.2 in
    let g = bind_some (zone_at f.0.1) (λ zone. Some (Some (record { separator = separator; hour = a.0.0; minute = d.0.0; seconds = f.0.0; zone = zone }))) c f.2 in
    let hour = fixed_takes 2 a.0.0 text a.0.1 a.1 in
    let colon = mark_takes 58 a.0.1 b.0 b.1 in
    let minute = fixed_takes 2 d.0.0 b.0 d.0.1 d.1 in
    let seconds = seconds_takes d.0.1 f.0.0 f.0.1 f.1 in
    let zone = zone_takes f.0.1 g.0 g.1 in
    let last : d.0.1 ≡ seconds_text f.0.0 ++ zone_text g.0 = seconds.1 ∙ ap (λ (x : List ℕ). seconds_text f.0.0 ++ x) zone.1 in
    let third : a.0.1 ≡ 58 ∷ (fixed 2 d.0.0 ++ (seconds_text f.0.0 ++ zone_text g.0)) = colon ∙ ap (λ (x : List ℕ). 58 ∷ x) (minute.0 ∙ ap (λ (x : List ℕ). fixed 2 d.0.0 ++ x) last) in
    let made : Option Clock = Some (record { separator = separator; hour = a.0.0; minute = d.0.0; seconds = f.0.0; zone = g.0 }) in
    subst (λ (x : Option Clock). ClockFits x × (separator_byte separator ∷ text ≡ clock_text x)) (some_is made c g.2)
    ((hour.1, minute.1, seconds.0, zone.0), ap (λ (x : List ℕ). separator_byte separator ∷ x) (hour.0 ∙ ap (λ (x : List ℕ). fixed 2 a.0.0 ++ x) third))

clock_takes : (text : List ℕ) (c : Option Clock) → clock_at text ≡ Some c → ClockFits c × (text ≡ clock_text c)
unfolding clock_at
clock_takes [] c e = subst (λ (x : Option Clock). ClockFits x × ([] ≡ clock_text x)) (some_is None c e) (tt, refl)
clock_takes (b ∷ rest) c e = elim (chosen (eqb b 32) (clock_behind Space rest) (cond (eqb b 84) (clock_behind LetterT rest) None) (Some c) e) [
  | inl p ↦ (let t = behind_takes Space rest c p.1 in (t.0, ap (λ (x : ℕ). x ∷ rest) (eqb-true b 32 p.0) ∙ t.1))
  | inr p ↦ elim (chosen (eqb b 84) (clock_behind LetterT rest) None (Some c) p.1) [
    | inl q ↦ (let t = behind_takes LetterT rest c q.1 in (t.0, ap (λ (x : ℕ). x ∷ rest) (eqb-true b 84 q.0) ∙ t.1))
    | inr q ↦ absurd (cc (q.1))
  ]
]

pub written_takes : (text : List ℕ) (w : Written) → written_at text ≡ Some w → IsMomentText text w
unfolding written_at
written_takes text w e =
    let a = bind_some (fixed_at 4 text) (λ year. mark_at 45 year.1 >>= λ rest. fixed_at 2 rest >>= λ month. mark_at 45 month.1 >>= λ rest. fixed_at 2 rest >>= λ day. clock_at day.1 >>= λ clock. Some (record { year = year.0; month = month.0; day = day.0; clock = clock })) w e in
    let b = bind_some (mark_at 45 a.0.1) (λ rest. fixed_at 2 rest >>= λ month. mark_at 45 month.1 >>= λ rest. fixed_at 2 rest >>= λ day. clock_at day.1 >>= λ clock. Some (record { year = a.0.0; month = month.0; day = day.0; clock = clock })) w a.2 in
    let d = bind_some (fixed_at 2 b.0) (λ month. mark_at 45 month.1 >>= λ rest. fixed_at 2 rest >>= λ day. clock_at day.1 >>= λ clock. Some (record { year = a.0.0; month = month.0; day = day.0; clock = clock })) w b.2 in
    let f = bind_some (mark_at 45 d.0.1) (λ rest. fixed_at 2 rest >>= λ day. clock_at day.1 >>= λ clock. Some (record { year = a.0.0; month = d.0.0; day = day.0; clock = clock })) w d.2 in
    let g = bind_some (fixed_at 2 f.0) (λ day. clock_at day.1 >>= λ clock. Some (record { year = a.0.0; month = d.0.0; day = day.0; clock = clock })) w f.2 in
    let h = bind_some (clock_at g.0.1) (λ clock. Some (record { year = a.0.0; month = d.0.0; day = g.0.0; clock = clock })) w g.2 in
    let year = fixed_takes 4 a.0.0 text a.0.1 a.1 in
    let dash = mark_takes 45 a.0.1 b.0 b.1 in
    let month = fixed_takes 2 d.0.0 b.0 d.0.1 d.1 in
    let next = mark_takes 45 d.0.1 f.0 f.1 in
    let day = fixed_takes 2 g.0.0 f.0 g.0.1 g.1 in
    let clock = clock_takes g.0.1 h.0 h.1 in
    let from_day : d.0.1 ≡ 45 ∷ (fixed 2 g.0.0 ++ clock_text h.0) = next ∙ ap (λ (x : List ℕ). 45 ∷ x) (day.0 ∙ ap (λ (x : List ℕ). fixed 2 g.0.0 ++ x) clock.1) in
    let from_month : a.0.1 ≡ 45 ∷ (fixed 2 d.0.0 ++ (45 ∷ (fixed 2 g.0.0 ++ clock_text h.0))) = dash ∙ ap (λ (x : List ℕ). 45 ∷ x) (month.0 ∙ ap (λ (x : List ℕ). fixed 2 d.0.0 ++ x) from_day) in
    let made : Written = record { year = a.0.0; month = d.0.0; day = g.0.0; clock = h.0 } in
    subst (λ (x : Written). IsMomentText text x) (some_is made w h.2)
    (record { year = year.1; month = month.1; day = day.1; clock = clock.0 }, year.0 ∙ ap (λ (x : List ℕ). fixed 4 a.0.0 ++ x) from_month)

-- ---- what is of the grammar is read

-- the text goes on with no digit, point or colon
abbrev quiet : List ℕ → Bool
quiet [] = true
quiet (b ∷ rest) = not (is_ascii_digit b) && (not (eqb b 46) && not (eqb b 58))

quiet_zone : (z : Zone) → quiet (zone_text z) ≡ true
quiet_zone zone.Unwritten = refl
quiet_zone zone.Zulu = refl
quiet_zone (zone.Offset o) = quiet_sign o.sign (fixed 2 o.hours ++ minutes_text o.minutes)
  where
    quiet_sign : (sign : Sign) (rest : List ℕ) → quiet (sign_byte sign ∷ rest) ≡ true
    quiet_sign East rest = refl
    quiet_sign West rest = refl

quiet_front : (rest : List ℕ) → quiet rest ≡ true → (digits_front rest ≡ []) × (digits_rest rest ≡ rest)
quiet_front [] e = (refl, refl)
quiet_front (b ∷ rest) e = cases (is_ascii_digit b) e
  where
    cases : (t : Bool) → (not t && (not (eqb b 46) && not (eqb b 58))) ≡ true → (cond t (b ∷ digits_front rest) [] ≡ []) × (cond t (digits_rest rest) (b ∷ rest) ≡ b ∷ rest)
    cases true e = absurd (cc)
    cases false e = (refl, refl)

quiet_marks : (b : ℕ) (rest : List ℕ) → quiet (b ∷ rest) ≡ true → (eqb b 46 ≡ false) × (eqb b 58 ≡ false)
quiet_marks b rest e = cases (is_ascii_digit b) (eqb b 46) (eqb b 58) e
  where
    cases : (t p c : Bool) → (not t && (not p && not c)) ≡ true → (p ≡ false) × (c ≡ false)
    cases true p c e = absurd (cc)
    cases false true c e = absurd (cc)
    cases false false true e = absurd (cc)
    cases false false false e = (refl, refl)

minutes_again : (m : Option ℕ) → MinutesFit m → minutes_at (minutes_text m) ≡ Some m
unfolding minutes_at whole_minutes
minutes_again None h = refl
minutes_again (Some n) h =
    let read : fixed_at 2 (fixed 2 n) ≡ Some (n, []) = ap (fixed_at 2) (sym (fixed_nil 2 n)) ∙ fixed_again 2 n [] h in
    rw read refl

offset_again : (sign : Sign) (hours : ℕ) (minutes : Option ℕ) → hours < 100 → MinutesFit minutes → offset_at sign (fixed 2 hours ++ minutes_text minutes) ≡ Some (zone.Offset (record { sign = sign; hours = hours; minutes = minutes }))
unfolding offset_at
offset_again sign hours minutes h m = rw (fixed_again 2 hours (minutes_text minutes) h, minutes_again minutes m) refl

zone_of_sign : (sign : Sign) (text : List ℕ) (z : Zone) → offset_at sign text ≡ Some z → zone_at (sign_byte sign ∷ text) ≡ Some z
unfolding zone_at
zone_of_sign East text z e = e
zone_of_sign West text z e = e

zone_again : (z : Zone) → ZoneFits z → zone_at (zone_text z) ≡ Some z
unfolding zone_at
zone_again zone.Unwritten h = refl
zone_again zone.Zulu h = refl
zone_again (zone.Offset o) h = zone_of_sign o.sign (fixed 2 o.hours ++ minutes_text o.minutes) (zone.Offset o) (offset_again o.sign o.hours o.minutes h.0 h.1)

few : (k : ℕ) → 1 ≤ k → k ≤ 6 → (eqb k 0 ≡ false) × (ltb 6 k ≡ false)
few k some most = (grind (arith, nat_tests), grind (arith, nat_tests))

fraction_again : (f : Fraction) (rest : List ℕ) → FractionFits (Some f) → quiet rest ≡ true → fraction_at (fixed f.digits f.number ++ rest) ≡ Some (Some f, rest)
unfolding fraction_at
fraction_again f rest h q =
    let stop = quiet_front rest q in
    let found = digits_again (fixed f.digits f.number) rest (digits-fixed f.digits f.number h.2) stop.0 stop.1 in
    let tests = few f.digits h.0 h.1 in
    rw (found.0, found.1, length-fixed f.digits f.number, number-fixed f.digits f.number h.2, tests.0, tests.1) refl

point_again : (f : Option Fraction) (rest : List ℕ) → FractionFits f → quiet rest ≡ true → point_at (fraction_text f ++ rest) ≡ Some (f, rest)
unfolding point_at
point_again None [] h q = refl
point_again None (b ∷ rest) h q = rw (quiet_marks b rest q).0 refl
point_again (Some f) rest h q = fraction_again f rest h q

seconds_again : (s : Option Seconds) (rest : List ℕ) → SecondsFit s → quiet rest ≡ true → seconds_at (seconds_text s ++ rest) ≡ Some (s, rest)
unfolding seconds_at second_at
seconds_again None [] h q = refl
seconds_again None (b ∷ rest) h q = rw (quiet_marks b rest q).1 refl
seconds_again (Some s) rest h q =
    let regrouped : (fixed 2 s.second ++ fraction_text s.fraction) ++ rest ≡ fixed 2 s.second ++ (fraction_text s.fraction ++ rest) = append_assoc (fixed 2 s.second) (fraction_text s.fraction) rest in
    ap second_at regrouped ∙ rw (fixed_again 2 s.second (fraction_text s.fraction ++ rest) h.0, point_again s.fraction rest h.1 q) refl

behind_again : (c : Clock) → ClockFits (Some c) → clock_behind c.separator (fixed 2 c.hour ++ (58 ∷ (fixed 2 c.minute ++ (seconds_text c.seconds ++ zone_text c.zone)))) ≡ Some (Some c)
unfolding clock_behind
behind_again c h =
    rw (
      fixed_again 2 c.hour (58 ∷ (fixed 2 c.minute ++ (seconds_text c.seconds ++ zone_text c.zone))) h.0,
      fixed_again 2 c.minute (seconds_text c.seconds ++ zone_text c.zone) h.1,
      seconds_again c.seconds (zone_text c.zone) h.2 (quiet_zone c.zone),
      zone_again c.zone h.3,
    ) refl

clock_of_separator : (separator : Separator) (text : List ℕ) (c : Option Clock) → clock_behind separator text ≡ Some c → clock_at (separator_byte separator ∷ text) ≡ Some c
unfolding clock_at
clock_of_separator Space text c e = e
clock_of_separator LetterT text c e = e

clock_again : (c : Option Clock) → ClockFits c → clock_at (clock_text c) ≡ Some c
unfolding clock_at
clock_again None h = refl
clock_again (Some c) h = clock_of_separator c.separator _ (Some c) (behind_again c h)

pub written_again : (text : List ℕ) (w : Written) → IsMomentText text w → written_at text ≡ Some w
unfolding written_at
written_again text w h =
    ap written_at h.1 ∙
    rw (
      fixed_again 4 w.year (45 ∷ (fixed 2 w.month ++ (45 ∷ (fixed 2 w.day ++ clock_text w.clock)))) h.0.year,
      fixed_again 2 w.month (45 ∷ (fixed 2 w.day ++ clock_text w.clock)) h.0.month,
      fixed_again 2 w.day (clock_text w.clock) h.0.day,
      clock_again w.clock h.0.clock,
    ) refl

pub one_written : (text : List ℕ) (a b : Written) → IsMomentText text a → IsMomentText text b → a ≡ b
one_written text a b p q = some_is a b (sym (written_again text a p) ∙ written_again text b q)

pub no_written : (text : List ℕ) → written_at text ≡ None → (w : Written) → IsMomentText text w → ⊥
no_written text e w h = cc (e, written_again text w h)
