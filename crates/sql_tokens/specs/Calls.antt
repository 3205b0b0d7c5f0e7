-- What calls inside the crate ask and answer.
use Rattle.std.specs.Prelude.{◌≡◌, ◌<◌, ℕ, List, ◌++◌, length, IsUtf8}
use Rattle.sql_tokens.specs.declared.bytes.Kind.{Kind}
use Rattle.sql_tokens.specs.declared.bytes.Kind.TheVariants.{Quote, DoubleQuote}
use Rattle.sql_tokens.specs.declared.quoted.Chunk.{Chunk}
use Rattle.sql_tokens.specs.declared.quoted.Chunk.TheVariants.{Part, Last, Unended}
use Rattle.sql_tokens.specs.Pieces.{doubled, Closes}

-- the bytes stand at the end of a text
abbrev pub EndsText : List ℕ → Type 0
EndsText bytes = (before : List ℕ) × IsUtf8 (before ++ bytes)

-- what stands behind a quote is a text
abbrev pub IsTextBehind : Kind → List ℕ → Type 0
IsTextBehind Quote bytes = IsUtf8 bytes
IsTextBehind DoubleQuote bytes = IsUtf8 bytes
IsTextBehind _ bytes = Unit {0}

-- behind a first quote: a part of the text and more; the last part, its quote, and what follows; or
-- all that is left, with no quote in it
abbrev pub ChunkOf : ℕ → List ℕ → Chunk → Type 0
ChunkOf q bytes (Part text rest) = (bytes ≡ doubled q text.now ++ rest.now)
    × (length rest.now < length bytes) × IsUtf8 text.now × IsUtf8 rest.now
ChunkOf q bytes (Last text after) = Closes q bytes text.now after.now × IsUtf8 text.now
ChunkOf q bytes Unended = doubled q bytes ≡ bytes
