-- Which backends are attached at the start, what the file says of them then, and what a mark changes.
use Rattle.std.specs.Prelude.{◌≡◌, ◌<◌, ◌≤◌, ◌==◌, ◌&&◌, ◌||◌, ◌∷◌, ℕ, Bool, true, false, List, [], Option, Some, None, bytes_eq, codes, is_none, not, slice_get, slice_set, if◌then◌else◌}
use Rattle.pool_base.specs.Sets.{has}
use Rattle.pool_config.specs.declared.config.Node.{Node}
use Rattle.serve_base.specs.declared.status.Down.{Down}
use Rattle.serve_base.specs.declared.status.Standing.{Standing}

-- the line is of that backend's address
abbrev pub is_of : Node → Standing → Bool
is_of node s = bytes_eq s.host node.host && (s.port == node.port)

abbrev pub has_line : Node → List Standing → Bool
has_line node [] = false
has_line node (s ∷ rest) = is_of node s || has_line node rest

abbrev pub earlier : Option Down → Option Down → Option Down
earlier None later = later
earlier (Some d) later = Some d

-- what the first line says that has the address and says that it is down
abbrev pub first_down : Node → List Standing → Option Down
first_down node [] = None
first_down node (s ∷ rest) = earlier (if is_of node s then s.down else None) (first_down node rest)

-- a backend is attached where there is no file, or where the file has its address and no line of it says that it is down
abbrev pub is_attached : Option (List Standing) → Node → Bool
is_attached None node = true
is_attached (Some all) node = has_line node all && is_none (first_down node all)

abbrev pub is_attached_in : Option (List Standing) → Option Node → Bool
is_attached_in file None = false
is_attached_in file (Some node) = is_attached file node

-- so of the backend with number b
abbrev pub is_attached_at : Option (List Standing) → List Node → ℕ → Bool
is_attached_at file nodes b = is_attached_in file (slice_get nodes b)

-- attached are the backends below n that are to be
pub record IsAttachedUpTo (is : ℕ → Bool) (bits n : ℕ) : Type 0 where
  pub below : (b : ℕ) → b < n → has bits b ≡ is b
  pub above : (b : ℕ) → b < 8 → n ≤ b → has bits b ≡ false

-- a backend is up and not absent
abbrev pub is_there : ℕ → ℕ → ℕ → Bool
is_there up absent b = has up b && not (has absent b)

-- one that the file does not know is new, and down from now on
abbrev pub down_at_start : Option (List Standing) → List ℕ → Node → Option Down
down_at_start None now node = None
down_at_start (Some all) now node = if has_line node all then first_down node all else Some (record { since = now; why = codes "it is new" })

abbrev pub standing_at_start : Option (List Standing) → List ℕ → Node → Standing
standing_at_start file now node = record { host = node.host; port = node.port; down = down_at_start file now node }

abbrev pub marked_at : ℕ → Option Down → List Standing → Option Standing → List Standing
marked_at b down all None = all
marked_at b down all (Some s) = slice_set all b (record s { down = down })

-- the backend with number b is marked so, if it is there
abbrev pub marked : ℕ → Option Down → List Standing → List Standing
marked b down all = marked_at b down all (slice_get all b)

-- it is there, and up
abbrev pub is_up_in : Option Standing → Bool
is_up_in None = false
is_up_in (Some s) = is_none s.down
