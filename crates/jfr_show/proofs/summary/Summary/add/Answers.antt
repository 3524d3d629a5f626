use Rattle.std.proofs.Common.{◌*◌, rules, ◌≡◌, ◌+◌, ◌^◌, ◌<◌, ◌≤◌, Some, ap, arith, length, subst, sym, ◌∙◌}
use Rattle.std.specs.Option.{option_or}
use Rattle.std.proofs.lemmas.List.{length-reverse}
use Rattle.std.proofs.lemmas.Result.{on_ok_weaker}
use Rattle.jfr_header.specs.declared.header.Header.{Header}
use Rattle.jfr_chunk.proofs.CountLaws.{whole_small}
use Rattle.jfr_show.specs.Counting.{AreBelow}
use Rattle.jfr_show.specs.Held.{tallies_in}
use Rattle.jfr_show.specs.Totals.{Totals, beginning_of, count_in_force}
use Rattle.jfr_show.specs.Summing.{totals_in}
use Rattle.jfr_show.proofs.BoundLaws.{below_more, bounded_next, chunk_short, sum_fits}
use Rattle.jfr_show.proofs.TotalLaws.{totals_added}
use Rattle.jfr_show.proofs.summary.Summary.add.Goals as goal

pub overflow_add-self-4 : goal.overflow_add-self-4
overflow_add-self-4 c =
    let p = c.args.chunk.now in
    let i = c.self.invariant in
    omega (
      arith,
      sum_fits c.self.inside.events c.event_count.result c.self.inside.bytes c.self.inside.chunks (length p.bytes) i.chunks i.bytes i.events
          (subst (λ n. n ≤ length p.bytes) (sym c.event_count.ensures) (chunk_short p c.bytes.ensures.parts).events) (whole_small p.bytes c.bytes.ensures.whole),
    )

pub overflow_add-self-5 : goal.overflow_add-self-5
overflow_add-self-5 c =
    let p = c.args.chunk.now in
    let i = c.self.invariant in
    let e = c.len.ensures ∙ (sym (length-reverse c.chain.result.now) ∙ ap length c.chain.ensures) in
    omega (
      arith,
      sum_fits c.self.inside.checkpoints c.len.result c.self.inside.bytes c.self.inside.chunks (length p.bytes) i.chunks i.bytes i.checkpoints
          (subst (λ n. n ≤ length p.bytes) (sym e) (chunk_short p c.bytes.ensures.parts).checkpoints) (whole_small p.bytes c.bytes.ensures.whole),
    )

pub overflow_add-self-6 : goal.overflow_add-self-6
overflow_add-self-6 c =
    let p = c.args.chunk.now in
    let i = c.self.invariant in
    let m : c.count_in_force.result ≤ length c.pools.result.now = c.count_in_force.ensures.most in
    let n : length c.pools.result.now ≡ length p.entries = ap length c.pools.ensures in
    let o : length p.entries ≤ length p.bytes = (chunk_short p c.bytes.ensures.parts).entries in
    omega (
      arith,
      sum_fits c.self.inside.constants c.count_in_force.result c.self.inside.bytes c.self.inside.chunks (length p.bytes) i.chunks i.bytes i.constants (omega arith)
          (whole_small p.bytes c.bytes.ensures.whole),
    )

pub overflow_add-self-7 : goal.overflow_add-self-7
overflow_add-self-7 c =
    let p = c.args.chunk.now in
    let i = c.self.invariant in
    omega (
      arith,
      sum_fits c.self.inside.inert c.inert_count.result c.self.inside.bytes c.self.inside.chunks (length p.bytes) i.chunks i.bytes i.inert
          (subst (λ n. n ≤ length p.bytes) (sym c.inert_count.ensures) (chunk_short p c.bytes.ensures.parts).inert) (whole_small p.bytes c.bytes.ensures.whole),
    )

pub add_events-requires-clause-small : goal.add_events-requires-clause-small
add_events-requires-clause-small c = whole_small c.args.chunk.now.bytes c.bytes.ensures.whole

pub add_events-requires-clause-below : goal.add_events-requires-clause-below
add_events-requires-clause-below c =
    let i = c.self.invariant in
    let a = i.chunks in
    let b = i.bytes in
    below_more c.self.inside.bytes (2 ^ 30 * 17000000000) (tallies_in c.self.inside.tallies) (omega arith) i.tallies

pub invariant_of-self : goal.invariant_of-self
invariant_of-self c =
    let p = c.args.chunk.now in
    let i = c.self.invariant in
    let whole : length p.bytes < 2 ^ 30 = whole_small p.bytes c.bytes.ensures.whole in
    let size : length c.bytes.result.now ≡ length p.bytes = ap length c.bytes.ensures.exact in
    let short = chunk_short p c.bytes.ensures.parts in
    let few : c.self.inside.chunks < 17000000000 = subst (λ (t : Totals). t.chunks < 17000000000) (sym c.self.view_is) c.requires in
    let long : c.from.result < 2 ^ 64 = search rules in
    let e : c.event_count.result ≤ length p.bytes = subst (λ n. n ≤ length p.bytes) (sym c.event_count.ensures) short.events in
    let l = c.len.ensures ∙ (sym (length-reverse c.chain.result.now) ∙ ap length c.chain.ensures) in
    let k : c.len.result ≤ length p.bytes = subst (λ n. n ≤ length p.bytes) (sym l) short.checkpoints in
    let m : c.count_in_force.result ≤ length c.pools.result.now = c.count_in_force.ensures.most in
    let n : length c.pools.result.now ≡ length p.entries = ap length c.pools.ensures in
    let o = short.entries in
    let z : c.inert_count.result ≤ length p.bytes = subst (λ n. n ≤ length p.bytes) (sym c.inert_count.ensures) short.inert in
    let below : AreBelow (c.self.inside.bytes + length c.bytes.result.now) (tallies_in c.add_events.new.tallies) =
    subst (λ n. AreBelow (c.self.inside.bytes + n) (tallies_in c.add_events.new.tallies)) (sym size) (c.add_events.ensures.below c.self.inside.bytes i.tallies) in
    bounded_next (totals_in c.self.inside) c.or-self-inside.result (length c.bytes.result.now) c.from.result c.event_count.result c.len.result c.count_in_force.result c.inert_count.result
    (tallies_in c.add_events.new.tallies)
    i few (omega arith) long (omega arith) (omega arith) (omega arith) (omega arith) below

pub returns : goal.returns
returns c = record {
  ok = on_ok_weaker c.add_events.result (λ adds ps is.
      totals_added (totals_in c.self.inside) ps c.args.chunk.now c.or-self-inside.result (length c.bytes.result.now) c.from.result c.event_count.result c.len.result c.count_in_force.result
      c.inert_count.result (tallies_in c.add_events.new.tallies)
      (c.self.view_is ∙ is)
      (c.or-self-inside.ensures ∙ ap (λ b. option_or c.self.inside.first (Some b)) (c.of.ensures ∙ ap beginning_of c.header-header.ensures))
      (record {
        size = ap length c.bytes.ensures.exact;
        duration = c.from.ensures ∙ ap (λ (h : Header). h.duration_nanos) c.header-header.ensures;
        events = c.event_count.ensures;
        checkpoints = c.len.ensures ∙ (sym (length-reverse c.chain.result.now) ∙ ap length c.chain.ensures);
        constants = c.count_in_force.ensures.exact ∙ ap count_in_force c.pools.ensures;
        inert = c.inert_count.ensures;
      })
      adds) c.add_events.ensures.ok;
}

pub overflow_add-self-2 : goal.overflow_add-self-2
overflow_add-self-2 c =
    let p = c.args.chunk.now in
    let i = c.self.invariant in
    let size : length c.bytes.result.now ≡ length p.bytes = ap length c.bytes.ensures.exact in
    omega (
      arith,
      sum_fits c.self.inside.bytes (length c.bytes.result.now) c.self.inside.bytes c.self.inside.chunks (length p.bytes) i.chunks i.bytes (omega arith) (omega arith)
          (whole_small p.bytes c.bytes.ensures.whole),
    )
