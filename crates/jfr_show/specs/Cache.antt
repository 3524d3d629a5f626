-- The texts in the cache of a chunk.
use Rattle.std.specs.Prelude.{◌≡◌, IfSome}
use Rattle.std.specs.List.{AllByRecursion}
use Rattle.jfr_chunk.specs.Parts.{Parts}
use Rattle.jfr_show.specs.declared.cache.CachedText.{CachedText}
use Rattle.jfr_show.specs.declared.cache.Slots.{Slots}
use Rattle.jfr_show.specs.declared.cache.TextCache.{TextCache}
use Rattle.jfr_show.specs.Shown.{referred}

-- The cached text is that of the reference to its class and key in this chunk, for its depth and level.
abbrev pub IsCached : Parts → CachedText → Type 0
IsCached p t = t.text ≡ referred p t.references t.level (t.class, t.key)

-- All texts in the slots are texts of this chunk.
abbrev pub AreKept : Parts → Slots → Type 0
AreKept p ts = AllByRecursion (λ o. IfSome o (IsCached p)) ts.texts.items

-- All texts in the cache are texts of this chunk.
abbrev pub AreCached : Parts → TextCache → Type 0
AreCached p c = IfSome c.slots (AreKept p)
