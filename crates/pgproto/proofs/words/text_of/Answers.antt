use Rattle.std.proofs.Common.{◌≡◌, ◌↔◌, List, ℕ, Bool, true, false, refl, ap, subst, rules}
use Rattle.std.specs.Str.{IsUtf8, is_utf8}
use Rattle.std.proofs.lemmas.Str.{IsUtf8-string_bytes, IsUtf8-from_is_utf8, is_utf8-from_IsUtf8}
use Rattle.pgproto.proofs.words.text_of.Goals as goal

refused : (bytes : List ℕ) → (IsUtf8 bytes → false ≡ true) → is_utf8 bytes ≡ false
refused bytes h = go (is_utf8 bytes) refl
  where
    go : (t : Bool) → is_utf8 bytes ≡ t → t ≡ false
    go true e = let x : false ≡ true = h (IsUtf8-from_is_utf8 bytes e) in absurd (cc)
    go false e = refl

pub returns-in-Ok : goal.returns-in-Ok
returns-in-Ok c =
    let is = ap (λ v. v.items) c.in-Ok.ensures.ok in
    (search rules, is_utf8-from_IsUtf8 c.args.bytes.items (subst IsUtf8 is (IsUtf8-string_bytes c.in-Ok.text)))

pub returns : goal.returns
returns c = refused c.args.bytes.items c.in-Err.ensures.succeeds
