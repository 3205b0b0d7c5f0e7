-- Bodies of a server's messages: what is read is what is spelled, and what is spelled is read.
use Rattle.std.proofs.Common.{◌≡◌, ℕ, ℤ, ◌+◌, ◌^◌, ◌<◌, ◌≤◌, true, eqb, List, [], ◌∷◌, ◌++◌, length, Option, Some, None, refl, sym, ap, ap₂, subst, lit<, bytes_eq, ◌∙◌, arith, inl, inr}
use Rattle.std.specs.Prelude.{All, ◌||◌}
use Rattle.std.specs.Int.{w32}
use Rattle.std.specs.Int.RustNames.{FitsSigned}
use Rattle.std.proofs.lemmas.Bool.{eqb-true, eq-eqb}
use Rattle.std.proofs.lemmas.Slice.Eq.{bytes_eq-Decides}
use Rattle.pg_messages.specs.declared.server.Field.{Field}
use Rattle.pg_messages.specs.declared.server.Part.{Part}
use Rattle.pg_messages.specs.declared.server.ServerMessage.{ServerMessage}
use Rattle.pg_messages.specs.declared.server.ServerMessage.TheVariants.{AuthOk, AuthSasl, AuthContinue, AuthFinal, ParameterStatus, BackendKey, Ready, RowDescription, DataRow, Complete, Error, Notice, ParameterDescription, Empty, ParseComplete, BindComplete, CloseComplete, NoData, Suspended}
use Rattle.pg_messages.specs.Fields.{int32, signed32, string, counted, zero_ended, value, field, part, IsCountable, AreBytes, FieldFits, PartFits, ValueInRange, ValueFits, FieldInRange, PartInRange}
use Rattle.pg_messages.specs.Server.{sasl_names, tag_of, body_of, IsClean, InRange, IsStatus, IsServerType}
use Rattle.pg_messages.specs.Reading.{◌>>=◌, signed_at, whole}
use Rattle.pg_messages.specs.Bodies.{sasl_in, auth_in, status_in, key_in, ready_in, columns_in, row_in, complete_in, error_in, notice_in, kinds_in, is_server_type, server_in}
use Rattle.pg_messages.proofs.FieldLemmas.{chosen, some_is, IsText, IsValue, number32, number32_signed, string_field, value_field}
use Rattle.pg_messages.proofs.EntryLemmas.{step, then_some, if_true, IsPart, IsColumn, column_field, part_field, part_leads, counted_field, zero_ended_field}
use Rattle.pg_messages.proofs.BodyLemmas.{whole_is, at_end, one, two, both, each, or_to, or_from}
use Rattle.pg_messages.proofs.Lengths.{counted_fit}

-- the body is that of a message of the type
pub record IsBodyOf (tag : ℕ) (body : List ℕ) (m : ServerMessage) : Type 0 where
  pub type : tag ≡ tag_of m
  pub body_is : body ≡ body_of m
  pub clean : IsClean m
  pub in_range : InRange m

-- the names of the ways in which a password may be shown
sasl_takes : (names : List ℕ) (m : ServerMessage) → sasl_in names ≡ Some m → (names ≡ sasl_names) × (AuthSasl ≡ m)
unfolding sasl_in
sasl_takes names m e =
    elim (chosen (bytes_eq names sasl_names) (Some AuthSasl) None (Some m) e) [
      | inl h ↦ ((bytes_eq-Decides names sasl_names).0 h.0, some_is AuthSasl m h.1)
      | inr h ↦ let wrong = h.1 in absurd cc
    ]

auth_takes : (body : List ℕ) (m : ServerMessage) → AreBytes body → auth_in body ≡ Some m → IsBodyOf 82 body m
unfolding auth_in
auth_takes body m fits e =
    let a = step number32 body _ m fits e in
    elim (chosen (eqb a.value 0) _ _ (Some m) a.next) [
      | inl h ↦
          let w = whole_is AuthOk a.rest m h.1 in
          subst (IsBodyOf 82 body) w.1 (record { type = refl; body_is = one body (int32 a.value) a.rest a.parts w.0 ∙ ap int32 (eqb-true _ _ h.0); clean = tt; in_range = tt })
      | inr h ↦ elim (chosen (eqb a.value 10) _ _ (Some m) h.1) [
        | inl k ↦
            let w = sasl_takes a.rest m k.1 in
            subst (IsBodyOf 82 body) w.1 (record { type = refl; body_is = a.parts ∙ ap₂ (λ (n : ℕ) (r : List ℕ). int32 n ++ r) (eqb-true _ _ k.0) w.0; clean = tt; in_range = tt })
        | inr k ↦ elim (chosen (eqb a.value 11) _ _ (Some m) k.1) [
          | inl i ↦
              subst (IsBodyOf 82 body) (some_is (AuthContinue a.rest) m i.1) (record { type = refl; body_is = a.parts ∙ ap (λ (n : ℕ). int32 n ++ a.rest) (eqb-true _ _ i.0); clean = tt; in_range = a.rest_fits })
          | inr i ↦ elim (chosen (eqb a.value 12) _ _ (Some m) i.1) [
            | inl j ↦
                subst (IsBodyOf 82 body) (some_is (AuthFinal a.rest) m j.1) (record { type = refl; body_is = a.parts ∙ ap (λ (n : ℕ). int32 n ++ a.rest) (eqb-true _ _ j.0); clean = tt; in_range = a.rest_fits })
            | inr j ↦ let wrong = j.1 in absurd cc
          ]
        ]
      ]
    ]

status_takes : (body : List ℕ) (m : ServerMessage) → AreBytes body → status_in body ≡ Some m → IsBodyOf 83 body m
unfolding status_in
status_takes body m fits e =
    let a = step string_field body _ m fits e in
    let b = step string_field a.rest _ m a.rest_fits a.next in
    let w = whole_is _ b.rest m b.next in
    subst (IsBodyOf 83 body) w.1 (record { type = refl; body_is = two body (string a.value) a.rest (string b.value) b.rest a.parts b.parts w.0; clean = (a.is.0, b.is.0); in_range = (a.is.1, b.is.1) })

key_takes : (body : List ℕ) (m : ServerMessage) → AreBytes body → key_in body ≡ Some m → IsBodyOf 75 body m
unfolding key_in
key_takes body m fits e =
    let a = step number32_signed body _ m fits e in
    let b = step number32_signed a.rest _ m a.rest_fits a.next in
    let w = whole_is _ b.rest m b.next in
    subst (IsBodyOf 75 body) w.1 (record { type = refl; body_is = two body (signed32 a.value) a.rest (signed32 b.value) b.rest a.parts b.parts w.0; clean = tt; in_range = (a.is, b.is) })

is_status : (status : ℕ) → ((eqb status 73) || ((eqb status 84) || (eqb status 69))) ≡ true → IsStatus status
is_status status = or_to _ _ (eqb-true status 73) (or_to _ _ (eqb-true status 84) (eqb-true status 69))

status_is : (status : ℕ) → IsStatus status → ((eqb status 73) || ((eqb status 84) || (eqb status 69))) ≡ true
status_is status = or_from _ _ (eq-eqb status 73) (or_from _ _ (eq-eqb status 84) (eq-eqb status 69))

ready_takes : (body : List ℕ) (m : ServerMessage) → AreBytes body → ready_in body ≡ Some m → IsBodyOf 90 body m
unfolding ready_in
ready_takes [] m fits e = absurd cc
ready_takes (status ∷ body) m fits e =
    elim (chosen ((eqb status 73) || ((eqb status 84) || (eqb status 69))) (whole (Ready status, body)) None (Some m) e) [
      | inl h ↦
          let w = whole_is (Ready status) body m h.1 in
          subst (IsBodyOf 90 (status ∷ body)) w.1 (record { type = refl; body_is = ap (λ (r : List ℕ). status ∷ r) w.0; clean = is_status status h.0; in_range = tt })
      | inr h ↦ let wrong = h.1 in absurd cc
    ]

column_range : (f : Field) → IsColumn f → FieldInRange f
column_range f is = record { name = is.name.1; table = is.table; column = is.column; kind = is.kind; size = is.size; modifier = is.modifier; format = is.format }

column_is : (f : Field) → FieldFits f × FieldInRange f → IsColumn f
column_is f h = record { name = (h.0, h.1.name); table = h.1.table; column = h.1.column; kind = h.1.kind; size = h.1.size; modifier = h.1.modifier; format = h.1.format }

columns_takes : (body : List ℕ) (m : ServerMessage) → AreBytes body → columns_in body ≡ Some m → IsBodyOf 84 body m
unfolding columns_in
columns_takes body m fits e =
    let a = step (counted_field column_field) body _ m fits e in
    let w = whole_is _ a.rest m a.next in
    subst (IsBodyOf 84 body) w.1 (record {
      type = refl;
      body_is = one body (counted field a.value) a.rest a.parts w.0;
      clean = (a.is.0, each IsColumn FieldFits (λ f is. is.name.0) a.value a.is.1);
      in_range = each IsColumn FieldInRange column_range a.value a.is.1;
    })

row_takes : (body : List ℕ) (m : ServerMessage) → AreBytes body → row_in body ≡ Some m → IsBodyOf 68 body m
unfolding row_in
row_takes body m fits e =
    let a = step (counted_field value_field) body _ m fits e in
    let w = whole_is _ a.rest m a.next in
    subst (IsBodyOf 68 body) w.1 (record { type = refl; body_is = one body (counted value a.value) a.rest a.parts w.0; clean = a.is.0; in_range = each IsValue ValueInRange (λ v is. is.0) a.value a.is.1 })

complete_takes : (body : List ℕ) (m : ServerMessage) → AreBytes body → complete_in body ≡ Some m → IsBodyOf 67 body m
unfolding complete_in
complete_takes body m fits e =
    let a = step string_field body _ m fits e in
    let w = whole_is _ a.rest m a.next in
    subst (IsBodyOf 67 body) w.1 (record { type = refl; body_is = one body (string a.value) a.rest a.parts w.0; clean = a.is.0; in_range = a.is.1 })

-- a part that was read, and whose tag is not 0
part_fits : (parts : List Part) → All IsPart parts × All (λ p. 0 < p.tag) parts → All PartFits parts
part_fits parts h k d lt = (h.1 k d lt, (h.0 k d lt).1.0)

part_range : (p : Part) → IsPart p → PartInRange p
part_range p is = record { tag = is.0; text = is.1.1 }

part_is : (parts : List Part) → All PartFits parts → All PartInRange parts → All IsPart parts × All (λ p. 0 < p.tag) parts
part_is parts clean range = (λ k d lt. ((range k d lt).tag, ((clean k d lt).1, (range k d lt).text)), λ k d lt. (clean k d lt).0)

error_takes : (body : List ℕ) (m : ServerMessage) → AreBytes body → error_in body ≡ Some m → IsBodyOf 69 body m
unfolding error_in
error_takes body m fits e =
    let a = step (zero_ended_field part_field part_leads) body _ m fits e in
    let w = whole_is _ a.rest m a.next in
    subst (IsBodyOf 69 body) w.1 (record { type = refl; body_is = one body (zero_ended part a.value) a.rest a.parts w.0; clean = part_fits a.value a.is; in_range = each IsPart PartInRange part_range a.value a.is.0 })

notice_takes : (body : List ℕ) (m : ServerMessage) → AreBytes body → notice_in body ≡ Some m → IsBodyOf 78 body m
unfolding notice_in
notice_takes body m fits e =
    let a = step (zero_ended_field part_field part_leads) body _ m fits e in
    let w = whole_is _ a.rest m a.next in
    subst (IsBodyOf 78 body) w.1 (record { type = refl; body_is = one body (zero_ended part a.value) a.rest a.parts w.0; clean = part_fits a.value a.is; in_range = each IsPart PartInRange part_range a.value a.is.0 })

kinds_takes : (body : List ℕ) (m : ServerMessage) → AreBytes body → kinds_in body ≡ Some m → IsBodyOf 116 body m
unfolding kinds_in
kinds_takes body m fits e =
    let a = step (counted_field number32) body _ m fits e in
    let w = whole_is _ a.rest m a.next in
    subst (IsBodyOf 116 body) w.1 (record { type = refl; body_is = one body (counted int32 a.value) a.rest a.parts w.0; clean = a.is.0; in_range = a.is.1 })

-- ---- types

pub is_typed : (tag : ℕ) → is_server_type tag ≡ true → IsServerType tag
is_typed tag = or_to _ _ (eqb-true tag 82) (or_to _ _ (eqb-true tag 83) (or_to _ _ (eqb-true tag 75) (or_to _ _ (eqb-true tag 90) (or_to _ _ (eqb-true tag 84) (or_to _ _ (eqb-true tag 68) (or_to _ _ (eqb-true tag 67) (or_to _ _ (eqb-true tag 69)
    (or_to _ _ (eqb-true tag 78) (or_to _ _ (eqb-true tag 116) (or_to _ _ (eqb-true tag 73) (or_to _ _ (eqb-true tag 49) (or_to _ _ (eqb-true tag 50) (or_to _ _ (eqb-true tag 51) (or_to _ _ (eqb-true tag 110) (eqb-true tag 115)))))))))))))))

pub typed_is : (tag : ℕ) → IsServerType tag → is_server_type tag ≡ true
typed_is tag = or_from _ _ (eq-eqb tag 82) (or_from _ _ (eq-eqb tag 83) (or_from _ _ (eq-eqb tag 75) (or_from _ _ (eq-eqb tag 90) (or_from _ _ (eq-eqb tag 84) (or_from _ _ (eq-eqb tag 68) (or_from _ _ (eq-eqb tag 67) (or_from _ _ (eq-eqb tag 69)
    (or_from _ _ (eq-eqb tag 78) (or_from _ _ (eq-eqb tag 116) (or_from _ _ (eq-eqb tag 73) (or_from _ _ (eq-eqb tag 49) (or_from _ _ (eq-eqb tag 50) (or_from _ _ (eq-eqb tag 51) (or_from _ _ (eq-eqb tag 110) (eq-eqb tag 115)))))))))))))))

pub has_type : (m : ServerMessage) → is_server_type (tag_of m) ≡ true
has_type AuthOk = refl
has_type AuthSasl = refl
has_type (AuthContinue body) = refl
has_type (AuthFinal body) = refl
has_type (ParameterStatus name setting) = refl
has_type (BackendKey process secret) = refl
has_type (Ready status) = refl
has_type (RowDescription fields) = refl
has_type (DataRow values) = refl
has_type (Complete tag) = refl
has_type (Error parts) = refl
has_type (Notice parts) = refl
has_type (ParameterDescription kinds) = refl
has_type Empty = refl
has_type ParseComplete = refl
has_type BindComplete = refl
has_type CloseComplete = refl
has_type NoData = refl
has_type Suspended = refl

-- ---- bodies by their type

at_type : (tag k : ℕ) (body : List ℕ) (m : ServerMessage) → tag ≡ k → (server_in k body ≡ Some m → IsBodyOf k body m) → server_in tag body ≡ Some m → IsBodyOf tag body m
at_type tag k body m same f e = subst (λ (t : ℕ). IsBodyOf t body m) (sym same) (f (subst (λ (t : ℕ). server_in t body ≡ Some m) same e))

empty_takes : (tag : ℕ) (x : ServerMessage) (body : List ℕ) (m : ServerMessage) → (body ≡ [] → IsBodyOf tag body x) → whole (x, body) ≡ Some m → IsBodyOf tag body m
empty_takes tag x body m f e = let w = whole_is x body m e in subst (IsBodyOf tag body) w.1 (f w.0)

pub server_takes : (tag : ℕ) (body : List ℕ) (m : ServerMessage) → IsServerType tag → AreBytes body → server_in tag body ≡ Some m → IsBodyOf tag body m
unfolding server_in
server_takes tag body m (inl t) fits = at_type tag 82 body m t (auth_takes body m fits)
server_takes tag body m (inr (inl t)) fits = at_type tag 83 body m t (status_takes body m fits)
server_takes tag body m (inr (inr (inl t))) fits = at_type tag 75 body m t (key_takes body m fits)
server_takes tag body m (inr (inr (inr (inl t)))) fits = at_type tag 90 body m t (ready_takes body m fits)
server_takes tag body m (inr (inr (inr (inr (inl t))))) fits = at_type tag 84 body m t (columns_takes body m fits)
server_takes tag body m (inr (inr (inr (inr (inr (inl t)))))) fits = at_type tag 68 body m t (row_takes body m fits)
server_takes tag body m (inr (inr (inr (inr (inr (inr (inl t))))))) fits = at_type tag 67 body m t (complete_takes body m fits)
server_takes tag body m (inr (inr (inr (inr (inr (inr (inr (inl t)))))))) fits = at_type tag 69 body m t (error_takes body m fits)
server_takes tag body m (inr (inr (inr (inr (inr (inr (inr (inr (inl t))))))))) fits = at_type tag 78 body m t (notice_takes body m fits)
server_takes tag body m (inr (inr (inr (inr (inr (inr (inr (inr (inr (inl t)))))))))) fits = at_type tag 116 body m t (kinds_takes body m fits)
server_takes tag body m (inr (inr (inr (inr (inr (inr (inr (inr (inr (inr (inl t))))))))))) fits = at_type tag 73 body m t (empty_takes 73 Empty body m (λ nil. record { type = refl; body_is = nil; clean = tt; in_range = tt }))
server_takes tag body m (inr (inr (inr (inr (inr (inr (inr (inr (inr (inr (inr (inl t)))))))))))) fits = at_type tag 49 body m t (empty_takes 49 ParseComplete body m (λ nil. record { type = refl; body_is = nil; clean = tt; in_range = tt }))
server_takes tag body m (inr (inr (inr (inr (inr (inr (inr (inr (inr (inr (inr (inr (inl t))))))))))))) fits = at_type tag 50 body m t (empty_takes 50 BindComplete body m (λ nil. record { type = refl; body_is = nil; clean = tt; in_range = tt }))
server_takes tag body m (inr (inr (inr (inr (inr (inr (inr (inr (inr (inr (inr (inr (inr (inl t)))))))))))))) fits = at_type tag 51 body m t (empty_takes 51 CloseComplete body m (λ nil. record { type = refl; body_is = nil; clean = tt; in_range = tt }))
server_takes tag body m (inr (inr (inr (inr (inr (inr (inr (inr (inr (inr (inr (inr (inr (inr (inl t))))))))))))))) fits = at_type tag 110 body m t (empty_takes 110 NoData body m (λ nil. record { type = refl; body_is = nil; clean = tt; in_range = tt }))
server_takes tag body m (inr (inr (inr (inr (inr (inr (inr (inr (inr (inr (inr (inr (inr (inr (inr t))))))))))))))) fits = at_type tag 115 body m t (empty_takes 115 Suspended body m (λ nil. record { type = refl; body_is = nil; clean = tt; in_range = tt }))

-- ---- what is spelled is read

auth_again : auth_in (body_of AuthOk) ≡ Some AuthOk
unfolding auth_in
auth_again = refl

sasl_again : auth_in (body_of AuthSasl) ≡ Some AuthSasl
unfolding auth_in sasl_in
sasl_again = refl

continue_again : (body : List ℕ) → auth_in (body_of (AuthContinue body)) ≡ Some (AuthContinue body)
unfolding auth_in
continue_again body = then_some (number32.again 11 body (lit< tt)) _

final_again : (body : List ℕ) → auth_in (body_of (AuthFinal body)) ≡ Some (AuthFinal body)
unfolding auth_in
final_again body = then_some (number32.again 12 body (lit< tt)) _

status_again : (name setting : List ℕ) → IsText name → IsText setting → status_in (body_of (ParameterStatus name setting)) ≡ Some (ParameterStatus name setting)
unfolding status_in
status_again name setting is also = then_some (string_field.again name (string setting) is) _ ∙ then_some (at_end string_field setting also) _

key_again : (process secret : ℤ) → FitsSigned w32 process → FitsSigned w32 secret → key_in (body_of (BackendKey process secret)) ≡ Some (BackendKey process secret)
unfolding key_in
key_again process secret is also =
    then_some (number32_signed.again process (signed32 secret) is) (λ x. signed_at w32 x.1 >>= λ y. whole (BackendKey x.0 y.0, y.1))
    ∙ then_some (at_end number32_signed secret also) (λ y. whole (BackendKey process y.0, y.1))

ready_again : (status : ℕ) → IsStatus status → ready_in (body_of (Ready status)) ≡ Some (Ready status)
unfolding ready_in
ready_again status is = if_true (status_is status is) _ _

columns_again : (fields : List Field) → IsClean (RowDescription fields) → InRange (RowDescription fields) → columns_in (body_of (RowDescription fields)) ≡ Some (RowDescription fields)
unfolding columns_in
columns_again fields clean range = then_some (at_end (counted_field column_field) fields (clean.0, each (λ f. FieldFits f × FieldInRange f) IsColumn column_is fields (both FieldFits FieldInRange fields clean.1 range))) _

row_again : (values : List (Option (List ℕ))) → IsCountable values → All ValueInRange values → All ValueFits values → row_in (body_of (DataRow values)) ≡ Some (DataRow values)
unfolding row_in
row_again values few range short = then_some (at_end (counted_field value_field) values (few, both ValueInRange ValueFits values range short)) _

complete_again : (tag : List ℕ) → IsText tag → complete_in (body_of (Complete tag)) ≡ Some (Complete tag)
unfolding complete_in
complete_again tag is = then_some (at_end string_field tag is) _

error_again : (parts : List Part) → All PartFits parts → All PartInRange parts → error_in (body_of (Error parts)) ≡ Some (Error parts)
unfolding error_in
error_again parts clean range = then_some (at_end (zero_ended_field part_field part_leads) parts (part_is parts clean range)) _

notice_again : (parts : List Part) → All PartFits parts → All PartInRange parts → notice_in (body_of (Notice parts)) ≡ Some (Notice parts)
unfolding notice_in
notice_again parts clean range = then_some (at_end (zero_ended_field part_field part_leads) parts (part_is parts clean range)) _

kinds_again : (kinds : List ℕ) → IsCountable kinds → All (λ k. k < 2 ^ 32) kinds → kinds_in (body_of (ParameterDescription kinds)) ≡ Some (ParameterDescription kinds)
unfolding kinds_in
kinds_again kinds few range = then_some (at_end (counted_field number32) kinds (few, range)) _

pub server_again : (m : ServerMessage) → IsClean m → InRange m → length (body_of m) + 4 ≤ 1048576 → server_in (tag_of m) (body_of m) ≡ Some m
unfolding server_in
server_again AuthOk clean range short = auth_again
server_again AuthSasl clean range short = sasl_again
server_again (AuthContinue body) clean range short = continue_again body
server_again (AuthFinal body) clean range short = final_again body
server_again (ParameterStatus name setting) clean range short = status_again name setting (clean.0, range.0) (clean.1, range.1)
server_again (BackendKey process secret) clean range short = key_again process secret range.0 range.1
server_again (Ready status) clean range short = ready_again status clean
server_again (RowDescription fields) clean range short = columns_again fields clean range
server_again (DataRow values) clean range short = row_again values clean range (counted_fit values (omega arith))
server_again (Complete tag) clean range short = complete_again tag (clean, range)
server_again (Error parts) clean range short = error_again parts clean range
server_again (Notice parts) clean range short = notice_again parts clean range
server_again (ParameterDescription kinds) clean range short = kinds_again kinds clean range
server_again Empty clean range short = refl
server_again ParseComplete clean range short = refl
server_again BindComplete clean range short = refl
server_again CloseComplete clean range short = refl
server_again NoData clean range short = refl
server_again Suspended clean range short = refl
