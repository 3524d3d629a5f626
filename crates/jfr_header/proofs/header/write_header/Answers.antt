use Rattle.std.proofs.Common.{rules, ◌≡◌, [], ◌∷◌, ◌++◌, take, length, List, ℕ, sym, ◌∙◌, ap, arith}
use Rattle.std.proofs.lemmas.List.{take_all}
use Rattle.byteorder.specs.Endian.{big_bytes}
use Rattle.jfr_header.specs.Headers.{header_of, header_bytes, magic}
use Rattle.jfr_header.specs.Fronts.{header_flaw}
use Rattle.jfr_header.proofs.Layouts.{IsInRange, header_of-bytes, header_flaw-bytes}
use Rattle.jfr_header.proofs.header.write_header.Goals as goal

pub returns-clause-layout : goal.returns-clause-layout
returns-clause-layout c =
    let head : take 4 c.write_u32.new.buf ≡ big_bytes 4 magic = ap (take 4) c.write_u32.ensures in
    let whole : take 68 c.put_u16-3.new.into ≡ header_bytes c.args.header.now =
    c.put_u16-3.ensures.bytes ∙ ap (λ (l : List ℕ). l ++ big_bytes 2 c.args.header.now.flags)
    (c.put_u8-2.ensures ∙ ap (λ (l : List ℕ). l ++ c.args.header.now.padding ∷ [])
    (c.put_u8.ensures ∙ ap (λ (l : List ℕ). l ++ c.args.header.now.state ∷ [])
    (c.put_u64-7.ensures.bytes ∙ ap (λ (l : List ℕ). l ++ big_bytes 8 c.args.header.now.ticks_per_second)
    (c.put_u64-6.ensures.bytes ∙ ap (λ (l : List ℕ). l ++ big_bytes 8 c.args.header.now.start_ticks)
    (c.put_u64-5.ensures.bytes ∙ ap (λ (l : List ℕ). l ++ big_bytes 8 c.args.header.now.duration_nanos)
    (c.put_u64-4.ensures.bytes ∙ ap (λ (l : List ℕ). l ++ big_bytes 8 c.args.header.now.start_nanos)
    (c.put_u64-3.ensures.bytes ∙ ap (λ (l : List ℕ). l ++ big_bytes 8 c.args.header.now.metadata)
    (c.put_u64-2.ensures.bytes ∙ ap (λ (l : List ℕ). l ++ big_bytes 8 c.args.header.now.pools)
    (c.put_u64.ensures.bytes ∙ ap (λ (l : List ℕ). l ++ big_bytes 8 c.args.header.now.size)
    (c.put_u16-2.ensures.bytes ∙ ap (λ (l : List ℕ). l ++ big_bytes 2 c.args.header.now.minor)
    (c.put_u16.ensures.bytes ∙ ap (λ (l : List ℕ). l ++ big_bytes 2 c.args.header.now.major) head))))))))))) in
    let long : length c.put_u16-3.new.into ≡ 68 = search rules in
    sym (take_all 68 c.put_u16-3.new.into (omega (arith, long))) ∙ whole

pub returns-clause-read_back : goal.returns-clause-read_back
returns-clause-read_back c =
    let r : IsInRange c.args.header.now = record {
      in_major = c.put_u16.ensures.range;
      in_minor = c.put_u16-2.ensures.range;
      in_size = c.put_u64.ensures.range;
      in_pools = c.put_u64-2.ensures.range;
      in_metadata = c.put_u64-3.ensures.range;
      in_start_nanos = c.put_u64-4.ensures.range;
      in_duration_nanos = c.put_u64-5.ensures.range;
      in_start_ticks =
          c.put_u64-6.ensures.range;
      in_ticks_per_second = c.put_u64-7.ensures.range;
      in_flags = c.put_u16-3.ensures.range;
    } in
    λ e. (ap header_flaw (returns-clause-layout c) ∙ (header_flaw-bytes c.args.header.now r ∙ e), ap header_of (returns-clause-layout c) ∙ header_of-bytes c.args.header.now r)
