-- A string is the text between its quotes, if that is UTF-8.
use Rattle.std.proofs.Common.{◌≡◌, Bool, true, false, ℕ, List, Some, None, refl, ap, if◌then◌else◌}
use Rattle.std.specs.Str.{IsUtf8, is_utf8}
use Rattle.std.proofs.lemmas.Str.{IsUtf8-from_is_utf8, is_utf8-from_IsUtf8}
use Rattle.pool_config.specs.Form.{quoted}
use Rattle.pool_config.specs.Value.{value_of}
use Rattle.pool_config.specs.declared.value.Value.TheVariants.{Text}

pub string_good : (inner : List ℕ) → IsUtf8 inner → value_of (quoted inner) ≡ Some (Text inner)
string_good inner h = ap (λ (t : Bool). if t then Some (Text inner) else None) (is_utf8-from_IsUtf8 inner h)

not_utf8 : (inner : List ℕ) → ¬ (IsUtf8 inner) → is_utf8 inner ≡ false
not_utf8 inner h = go (is_utf8 inner) (IsUtf8-from_is_utf8 inner)
  where
    go : (t : Bool) → (t ≡ true → IsUtf8 inner) → t ≡ false
    go true f = absurd (h (f refl))
    go false f = refl

pub string_bad : (inner : List ℕ) → ¬ (IsUtf8 inner) → value_of (quoted inner) ≡ None
string_bad inner h = ap (λ (t : Bool). if t then Some (Text inner) else None) (not_utf8 inner h)
