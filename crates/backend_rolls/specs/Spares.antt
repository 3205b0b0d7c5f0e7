-- The spares of a shelf, by the numbers of its boxes.
use Rattle.std.specs.Prelude.{◌≡◌, ◌≢◌, ◌<◌, ◌≤◌, ℕ, slice_index_or}
use Rattle.backend_rolls.specs.declared.spares.Spare.{Spare}
use Rattle.backend_rolls.specs.declared.spares.Spare.TheVariants.{Free, Spent}
use Rattle.backend_rolls.specs.declared.spares.Spares.{Spares}

-- a box from number 64 on is none of them
abbrev pub spare_at : Spares → ℕ → Spare
spare_at spares box = slice_index_or spares.spares box Spent

-- none is free of those from one number up to below another
abbrev pub IsNoneFree : Spares → ℕ → ℕ → Type 0
IsNoneFree spares from end = (box : ℕ) → from ≤ box → box < end → spare_at spares box ≢ Free

-- this one is, and none before it
pub record IsFirstFree (spares : Spares) (from end box : ℕ) : Type 0 where
  pub behind : from ≤ box
  pub before : box < end
  pub free : spare_at spares box ≡ Free
  pub none : IsNoneFree spares from box
