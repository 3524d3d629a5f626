-- The JSON in the cache of a chunk's references.
use Rattle.std.specs.Prelude.{◌≡◌, IfSome, string_bytes}
use Rattle.std.specs.List.{AllByRecursion}
use Rattle.serde_json.specs.Written.{compact_text}
use Rattle.jfr_chunk.specs.Parts.{Parts}
use Rattle.jfr_show.specs.declared.json.cache.CachedJson.{CachedJson}
use Rattle.jfr_show.specs.declared.json.cache.JsonCache.{JsonCache}
use Rattle.jfr_show.specs.Json.{referred_json}

-- The cached text is the JSON of the reference to its class and key in this chunk, for its depth.
abbrev pub IsCachedJson : Parts → CachedJson → Type 0
IsCachedJson p t = string_bytes t.text ≡ compact_text (referred_json p t.references (t.class, t.key))

-- All texts in the cache are JSON of this chunk.
abbrev pub AreCachedJson : Parts → JsonCache → Type 0
AreCachedJson p ts = AllByRecursion (λ o. IfSome o (IsCachedJson p)) ts.texts.items
