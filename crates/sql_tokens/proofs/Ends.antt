-- What stands at the end of bytes: behind a run, behind the first byte, behind a comment or a text in quotes.
use Rattle.std.proofs.Common.{◌≡◌, ◌∙◌, ◌==◌, ◌&&◌, ◌<◌, ◌≤◌, ◌-◌, ◌+◌, ℕ, Bool, true, false, List, [], ◌∷◌, ◌++◌, length, take, drop, Some, if◌then◌else◌, refl, sym, ap, arith, length-append, append_assoc}
use Rattle.std.proofs.lemmas.List.{append-nil, take-append-drop}
use Rattle.sql_tokens.specs.declared.bytes.Class.{Class}
use Rattle.sql_tokens.specs.declared.bytes.Class.TheVariants.{But}
use Rattle.sql_tokens.specs.Bytes.{front, behind, begins_with}
use Rattle.sql_tokens.specs.Pieces.{EndsWith, after_end, next}
use Rattle.sql_tokens.proofs.Runs.{run_parts, before_last, run_dropped}

pub ends_all : (bytes : List ℕ) → EndsWith bytes bytes
ends_all bytes = ([], refl)

pub ends_none : (bytes : List ℕ) → EndsWith bytes []
ends_none bytes = (bytes, sym (append-nil bytes))

pub ends_first : (bytes : List ℕ) → EndsWith bytes (drop 1 bytes)
ends_first bytes = (take 1 bytes, sym (take-append-drop 1 bytes))

pub ends_run : (c : Class) (bytes : List ℕ) → EndsWith bytes (behind c bytes)
ends_run c bytes = (front c bytes, sym (run_parts c bytes))

pub ends_on : (bytes mid after : List ℕ) → EndsWith bytes mid → EndsWith mid after → EndsWith bytes after
ends_on bytes mid after x y =
    (x.0 ++ y.0, x.1 ∙ (ap (λ (xs : List ℕ). x.0 ++ xs) y.1 ∙ sym (append_assoc x.0 y.0 after)))

pub ends_same : (bytes after rest : List ℕ) → rest ≡ after → EndsWith bytes after → EndsWith bytes rest
ends_same bytes after rest e x = (x.0, x.1 ∙ ap (λ (xs : List ℕ). x.0 ++ xs) (sym e))

pub ends_short : (bytes after : List ℕ) → EndsWith bytes after → length after ≤ length bytes
ends_short bytes after x =
    let e = ap length x.1 ∙ length-append x.0 after in omega arith

pub ends_shorter : (b : ℕ) (bytes after : List ℕ) → EndsWith bytes after → length after < length (b ∷ bytes)
ends_shorter b bytes after x =
    let e = ap length x.1 ∙ length-append x.0 after in omega arith

-- what is read next is the end of the bytes
pub ends_next : (bytes after : List ℕ) → EndsWith bytes after → EndsWith bytes (next bytes after)
ends_next bytes after x =
    let same = before_last x.0 after bytes x.1 in
    let parts = run_parts (But 0) (take (length bytes - length after) bytes) in (
      front (But 0) (take (length bytes - length after) bytes),
      x.1 ∙ (ap (λ (xs : List ℕ). xs ++ after) (sym same ∙ sym parts)
          ∙ append_assoc (front (But 0) (take (length bytes - length after) bytes)) (behind (But 0) (take (length bytes - length after) bytes)) after),
    )

-- what follows the end of a comment
pub ends_comment : (bytes after : List ℕ) → Some after ≡ after_end bytes → EndsWith bytes after
ends_comment [] after e = absurd (cc)
ends_comment (b ∷ bytes) after e = go (b == 42 && begins_with 47 bytes) e (ends_comment bytes after)
  where
    go : (t : Bool) → Some after ≡ (if t then Some (drop 1 bytes) else after_end bytes)
        → (Some after ≡ after_end bytes → EndsWith bytes after) → EndsWith (b ∷ bytes) after
    go true e later =
        let same : after ≡ drop 1 bytes = cc in
        let x = ends_same bytes (drop 1 bytes) after same (ends_first bytes) in
        (b ∷ x.0, ap (λ (xs : List ℕ). b ∷ xs) x.1)
    go false e later =
        let x = later e in
        (b ∷ x.0, ap (λ (xs : List ℕ). b ∷ xs) x.1)

-- what is read next, by the places of its parts
pub next_is : (x after bytes before zero last : List ℕ) → bytes ≡ x ++ after
    → before ≡ take (length bytes - length after) bytes → zero ≡ behind (But 0) before
    → last ≡ drop (length before - length zero) bytes → last ≡ next bytes after
next_is x after bytes before zero last is cut run rest =
    let same : before ≡ x = cut ∙ before_last x after bytes is in
    rest ∙ (ap (drop (length before - length zero)) (is ∙ ap (λ (xs : List ℕ). xs ++ after) (sym same))
    ∙ (run_dropped (But 0) before after zero run ∙ ap (λ (xs : List ℕ). behind (But 0) xs ++ after) cut))
