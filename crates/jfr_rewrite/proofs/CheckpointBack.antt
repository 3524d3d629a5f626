-- What is written of a chained checkpoint, with pools in any spelling, is read as these pools.
use Rattle.std.specs.Prelude.{◌≡◌, ℕ, ◌+◌, ◌-◌, ◌≤◌, List, ◌++◌, length, slice_range}
use Rattle.std.specs.Int.{cast_signed, w64}
use Rattle.std.specs.List.{flat_map, AllByRecursion}
use Rattle.std.proofs.Common.{arith, refl, ◌∙◌, subst, length-append}
use Rattle.jfr_base.specs.Integer.{IntAt, spell}
use Rattle.jfr_base.specs.Formats.{Done, Stop, ◌>>=◌, times, Reads}
use Rattle.jfr_base.proofs.Spelling.{spell_spells}
use Rattle.jfr_base.proofs.Ranges.{range_length, range_split}
use Rattle.jfr_base.proofs.HoldLaws.{Holds, holds_parts, holds_int, holds_at, holds_range_int, placed_each}
use Rattle.jfr_base.proofs.ReadLaws.{reads_then}
use Rattle.jfr_layout.specs.Classes.{Classes}
use Rattle.jfr_frame.specs.declared.framed.Framed.{Framed}
use Rattle.jfr_frame.specs.Records.{IsRecord}
use Rattle.jfr_pool.specs.declared.link.Link.{Link}
use Rattle.jfr_pool.specs.Chains.{head_format}
use Rattle.jfr_pool.specs.Entries.{PoolAt, pool_format, checkpoint_format}
use Rattle.jfr_laws.specs.InChunk.{IsLinkIn}
use Rattle.jfr_rewrite.proofs.SpelledBack.{SpelledPool, IsSpelledPool, bytes_of_pool, pool_at, pools_read}
use Rattle.jfr_rewrite.proofs.RecordBack.{new_frame, tail_of, record_resized}
use Rattle.jfr_rewrite.specs.Rewritten.{Carries}
use Rattle.jfr_chunk.specs.Written.{sized}

-- A checkpoint that is written at an offset, with its size in this many bytes.
abbrev pub new_checkpoint : ℕ → ℕ → Link → ℕ → ℕ → Link
new_checkpoint at width l delta n = record {
  frame = new_frame at width n l.frame;
  delta_at = at + width + (l.delta_at - l.frame.type_at);
  delta_end = at + width + (l.delta_at - l.frame.type_at) + length (spell delta);
  delta = cast_signed w64 delta;
}

-- Where its pools start, after their number.
abbrev pub new_pools_at : ℕ → ℕ → Link → ℕ → ℕ → ℕ
new_pools_at at width l delta count = at + width + (l.delta_at - l.frame.type_at) + length (spell delta) + 1 + length (spell count)

module _ (c : List ℕ) (l : Link) (delta : ℕ) (gs : List SpelledPool) where
  -- Its body: start and duration unchanged, the delta, the type byte, and the pools after their number.
  abbrev pub body_of : List ℕ
  body_of = slice_range c l.frame.body l.delta_at ++ (spell delta ++ (slice_range c l.delta_end (l.delta_end + 1) ++ (spell (length gs) ++ flat_map bytes_of_pool gs)))

  body_length : IsLinkIn c l → length body_of ≡ (l.delta_at - l.frame.body) + (length (spell delta) + (1 + (length (spell (length gs)) + length (flat_map bytes_of_pool gs))))
  body_length s =
      let h : List ℕ = slice_range c l.frame.body l.delta_at in
      let d : List ℕ = spell delta in
      let kind : List ℕ = slice_range c l.delta_end (l.delta_end + 1) in
      let n : List ℕ = spell (length gs) in
      let p : List ℕ = flat_map bytes_of_pool gs in
      let y : length h ≡ l.delta_at - l.frame.body = range_length c l.frame.body l.delta_at s.duration_spelled.within in
      let z : length kind ≡ 1 = range_length c l.delta_end (l.delta_end + 1) s.kind_within ∙ omega arith in
      omega (arith, length-append h (d ++ (kind ++ (n ++ p))), length-append d (kind ++ (n ++ p)), length-append kind (n ++ p), length-append n p)

  module _ (width : ℕ) where
    abbrev pub whole_of : List ℕ
    whole_of = sized width (tail_of c l.frame body_of)

    abbrev pub checkpoint_of : ℕ → Link
    checkpoint_of at = new_checkpoint at width l delta (length whole_of)

    pub record CheckpointRead (k : Classes) (b : List ℕ) (at : ℕ) : Type 0 where
      pub is_record : IsRecord b (checkpoint_of at).frame
      pub head : Reads head_format b (at + length whole_of) (checkpoint_of at).frame.body (record { at = (checkpoint_of at).delta_at; end = (checkpoint_of at).delta_end; value = cast_signed w64 delta }) (checkpoint_of at).delta_end
      pub are_pools : Reads (checkpoint_format k) b (at + length whole_of) (checkpoint_of at).frame.body (placed_each bytes_of_pool pool_at (new_pools_at at width l delta (length gs)) gs) (at + length whole_of)
      pub pools_held : Holds b (at + length whole_of) (new_pools_at at width l delta (length gs)) (flat_map bytes_of_pool gs)

    pub checkpoint_read : (k : Classes) (b : List ℕ) (at : ℕ) → IsLinkIn c l → AllByRecursion (IsSpelledPool k) gs → Carries width (length (tail_of c l.frame body_of))
        → Holds b (length b) at whole_of → CheckpointRead k b at
    unfolding checkpoint_format
    checkpoint_read k b at s gss carries held =
        let f : Framed = l.frame in
        let a2 : f.type_at ≤ f.body = s.record_stands.type_spelled.order in
        let a3 : f.body ≤ s.middle = s.start_spelled.order in
        let a4 : s.middle ≤ l.delta_at = s.duration_spelled.order in
        let bl = body_length s in
        let m = record_resized width c b f at body_of carries s.record_stands held in
        let count : ℕ = length gs in
        let start_bytes : List ℕ = slice_range c f.body s.middle in
        let duration_bytes : List ℕ = slice_range c s.middle l.delta_at in
        let head_bytes : List ℕ = slice_range c f.body l.delta_at in
        let delta_bytes : List ℕ = spell delta in
        let kind_bytes : List ℕ = slice_range c l.delta_end (l.delta_end + 1) in
        let count_bytes : List ℕ = spell count in
        let pool_bytes : List ℕ = flat_map bytes_of_pool gs in
        let end : ℕ = at + length whole_of in
        let base : ℕ = at + width in
        let body : ℕ = at + (width + (f.body - f.type_at)) in
        let middle : ℕ = base + (s.middle - f.type_at) in
        let delta_at : ℕ = base + (l.delta_at - f.type_at) in
        let kind_at : ℕ = delta_at + length delta_bytes in
        let count_at : ℕ = kind_at + 1 in
        let pools_start : ℕ = count_at + length count_bytes in
        let hl : length head_bytes ≡ l.delta_at - f.body = range_length c f.body l.delta_at s.duration_spelled.within in
        let sl : length start_bytes ≡ s.middle - f.body = range_length c f.body s.middle s.start_spelled.within in
        let kl : length kind_bytes ≡ 1 = range_length c l.delta_end (l.delta_end + 1) s.kind_within ∙ omega arith in
        let p2 = holds_parts b end body head_bytes (delta_bytes ++ (kind_bytes ++ (count_bytes ++ pool_bytes))) m.held in
        let p3 =
        holds_parts b end delta_at delta_bytes (kind_bytes ++ (count_bytes ++ pool_bytes))
        (holds_at b end (body + length head_bytes) delta_at (delta_bytes ++ (kind_bytes ++ (count_bytes ++ pool_bytes))) (omega arith) p2.1) in
        let p4 = holds_parts b end kind_at kind_bytes (count_bytes ++ pool_bytes) p3.1 in
        let p5 = holds_parts b end count_at count_bytes pool_bytes (holds_at b end (kind_at + length kind_bytes) count_at (count_bytes ++ pool_bytes) (omega arith) p4.1) in
        let q = holds_parts b end body start_bytes duration_bytes (subst (Holds b end body) (range_split c f.body s.middle l.delta_at a3 a4) p2.0) in
        let start_int = holds_range_int c b f.body s.middle s.start end body middle s.start_spelled q.0 (omega arith) in
        let duration_int =
        holds_range_int c b s.middle l.delta_at s.duration end middle delta_at s.duration_spelled (holds_at b end (body + length start_bytes) middle duration_bytes (omega arith) q.1) (omega arith) in
        let delta_int : IntAt b delta_at kind_at delta = holds_int b end delta_at delta_bytes delta p3.0 (spell_spells delta) in
        let count_int : IntAt b count_at pools_start count = holds_int b end count_at count_bytes count p5.0 (spell_spells count) in
        let pools : List PoolAt = placed_each bytes_of_pool pool_at pools_start gs in
        let read = pools_read k b end gs pools_start gss p5.1 in
        let e0 : kind_at ≤ end = p3.0.within in
        let e1 : kind_at + length kind_bytes ≤ end = p4.0.within in
        let e2 : pools_start ≤ end = p5.0.within in
        let ends : pools_start + length pool_bytes ≡ end = (let w = m.whole in omega arith) in
        let stopped : Reads (times count (pool_format k) >>= λ pools. Stop (Done pools)) b end pools_start pools end =
        reads_then (times count (pool_format k)) (λ pools. Stop (Done pools)) b end pools_start pools end pools end (subst (Reads (times count (pool_format k)) b end pools_start pools) ends read)
        (omega arith, (refl, refl)) in
        record {
          is_record = m.is_record;
          head = (middle, s.start, start_int.0, start_int.1, refl, (delta_at, s.duration, duration_int.0, duration_int.1, refl, (kind_at, delta, delta_int, e0, refl, (refl, refl))));
          are_pools = (
            middle,
            s.start,
            start_int.0,
            start_int.1,
            refl,
            (delta_at, s.duration, duration_int.0, duration_int.1, refl, (kind_at, delta, delta_int, e0, refl, (omega arith, (pools_start, count, count_int, e2, refl, stopped)))),
          );
          pools_held = p5.1;
        }
