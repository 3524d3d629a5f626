-- A header, and the records after it to which it leads.
use Rattle.std.specs.Prelude.{◌≡◌, ℕ, ◌+◌, ◌^◌, ◌<◌, List, ◌++◌, length}
use Rattle.std.proofs.Common.{arith, sym, length-append}
use Rattle.jfr_base.proofs.HoldLaws.{Holds, holds_at, holds_after}
use Rattle.jfr_header.specs.Fronts as fronts
use Rattle.jfr_chunk.specs.Parts.{pools_at, metadata_at}
use Rattle.jfr_chunk.specs.Scrub.{header_with}
use Rattle.jfr_laws.proofs.Header.{header_length, made_pools, made_metadata, made_whole}

-- These bytes are after a header, which leads to their last checkpoint and to their metadata record.
pub record HeaderLeads (body : List ℕ) (last record_at : ℕ) (b : List ℕ) : Type 0 where
  pub held : Holds b (length b) 68 body
  pub size : length b ≡ 68 + length body
  pub pools : pools_at b ≡ last
  pub metadata : metadata_at b ≡ record_at

module _ (c body : List ℕ) (last record_at : ℕ) where
  abbrev header : List ℕ
  header = header_with c (68 + length body) last record_at

  -- The header, with the right size, and the bytes after it.
  abbrev headed : List ℕ
  headed = header ++ body

  pub headed_size : length headed ≡ 68 + length body
  headed_size = let l : length headed ≡ length header + length body = length-append header body in omega (arith, header_length c (68 + length body) last record_at)

  pub headed_held : Holds headed (length headed) 68 body
  headed_held = holds_at headed (length headed) (length header) 68 body (header_length c (68 + length body) last record_at) (holds_after header body)

  pub headed_leads : last < 2 ^ 64 → record_at < 2 ^ 64 → HeaderLeads body last record_at headed
  headed_leads i j = record {
    held = headed_held;
    size = headed_size;
    pools = made_pools c body (68 + length body) last record_at i;
    metadata = made_metadata c body (68 + length body) last record_at j;
  }

  pub headed_whole : fronts.Whole c → 68 + length body < 2 ^ 30 → fronts.Whole headed
  headed_whole w i = made_whole c body (68 + length body) last record_at w (sym headed_size) i
