-- The tags of statements that are done.
use Rattle.std.specs.Prelude.{ℕ, Bool, true, false, List, ◌++◌, codes}
use Rattle.std.specs.Fmt.{decimal}
use Rattle.session_orders.specs.declared.outcome.Tag.{Tag}
use Rattle.session_orders.specs.declared.outcome.Tag.TheVariants.{Select, Insert, Update, Delete, Begin, Commit, Rollback, Show, Recover}

abbrev pub tag_text : Tag → List ℕ
tag_text (Select n) = codes "SELECT " ++ decimal n
tag_text (Insert n) = codes "INSERT 0 " ++ decimal n
tag_text (Update n) = codes "UPDATE " ++ decimal n
tag_text (Delete n) = codes "DELETE " ++ decimal n
tag_text Begin = codes "BEGIN"
tag_text Commit = codes "COMMIT"
tag_text Rollback = codes "ROLLBACK"
tag_text Show = codes "SHOW"
tag_text Recover = codes "PGPOOL RECOVER"

-- it has no count
abbrev pub is_fixed : Tag → Bool
is_fixed (Select n) = false
is_fixed (Insert n) = false
is_fixed (Update n) = false
is_fixed (Delete n) = false
is_fixed Begin = true
is_fixed Commit = true
is_fixed Rollback = true
is_fixed Show = true
is_fixed Recover = true
