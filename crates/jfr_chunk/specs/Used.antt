-- The ids of the classes of events, while they are collected.
use Rattle.std.specs.Prelude.{ℕ, Bool, ◌||◌, ◌==◌, List, IsTrue}
use Rattle.std.specs.List.{list_all}
use Rattle.jfr_meta.specs.Stays.{is_in}
use Rattle.jfr_meta.specs.declared.ids.Ids.{Ids}

-- A slot of the cache may hold this id: it is 0, or an id of the set.
abbrev pub may_hold : Ids → ℕ → Bool
may_hold ids id = (id == 0) || is_in ids id

-- Each slot of the cache holds an id of the set, or 0.
abbrev pub AreUsed : Ids → List ℕ → Type 0
AreUsed ids recent = IsTrue (list_all (may_hold ids) recent)
