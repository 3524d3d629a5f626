use Rattle.std.proofs.Common.{◌≡◌, ◌++◌, ◌≤◌, ◌+◌, ◌*◌, List, ℕ, length, drop, ap, sym, subst, ◌∙◌, arith}
use Rattle.jfr_header.specs.Fronts.{Whole}
use Rattle.jfr_header.specs.Headers.{header_bytes}
use Rattle.jfr_header.specs.Made.{made_header}
use Rattle.jfr_sample.specs.Sample.{events_to}
use Rattle.jfr_sample.proofs.WholeLaws.{filled, filled_by, filled-ge, filled-le, made_of, written_over}
use Rattle.jfr_sample.proofs.recording.sample.Goals as goal

pub put_header-requires-clause-long : goal.put_header-requires-clause-long
put_header-requires-clause-long c =
    let blank = c.extend_from_slice.new.self.items in
    let is : length blank ≡ 68 = rw c.in_ok-bytes.ensures.items at (ap length c.in_ok-extend_from_slice.ensures.items) in
    let all : c.push_checkpoint.new.into.items ≡ filled blank c.args.seed c.args.events =
    filled_by blank _ _ _ c.args.seed c.args.events c.in_ok-push_metadata.ensures c.in_ok-push_events.ensures c.in_ok-push_checkpoint.ensures in
    subst (λ (l : List ℕ). 68 ≤ length l) (sym (c.deref_mut.ensures.value ∙ all)) (filled-ge blank c.args.seed c.args.events is)

pub put_header-requires-clause-short : goal.put_header-requires-clause-short
put_header-requires-clause-short c =
    let blank = c.extend_from_slice.new.self.items in
    let is : length blank ≡ 68 = rw c.in_ok-bytes.ensures.items at (ap length c.in_ok-extend_from_slice.ensures.items) in
    let all : c.push_checkpoint.new.into.items ≡ filled blank c.args.seed c.args.events =
    filled_by blank _ _ _ c.args.seed c.args.events c.in_ok-push_metadata.ensures c.in_ok-push_events.ensures c.in_ok-push_checkpoint.ensures in
    let few : length c.deref_mut.result.now ≤ 339 + 26 * c.args.events =
    subst (λ (l : List ℕ). length l ≤ 339 + 26 * c.args.events) (sym (c.deref_mut.ensures.value ∙ all)) (filled-le blank c.args.seed c.args.events is c.requires.some c.requires.most) in
    omega arith

pub returns-clause-exact : goal.returns-clause-exact
returns-clause-exact c =
    let blank = c.extend_from_slice.new.self.items in
    let is : length blank ≡ 68 = rw c.in_ok-bytes.ensures.items at (ap length c.in_ok-extend_from_slice.ensures.items) in
    let all : c.push_checkpoint.new.into.items ≡ filled blank c.args.seed c.args.events =
    filled_by blank _ _ _ c.args.seed c.args.events c.in_ok-push_metadata.ensures c.in_ok-push_events.ensures c.in_ok-push_checkpoint.ensures in
    let before = c.in_ok-push_events.ensures ∙ ap (λ (l : List ℕ). l ++ events_to c.args.seed c.args.events c.args.events) c.in_ok-push_metadata.ensures in
    written_over c.push_checkpoint.new.into.len c.put_header.new.chunk c.push_checkpoint.new.into.items c.push_checkpoint.new.into.ok.0
    (c.put_header.ensures.length ∙ ap length c.deref_mut.ensures.value)
    ∙ c.put_header.ensures.exact
    ∙ ap (λ (l : List ℕ). header_bytes (made_header (length l) c.len-pools.result) ++ drop 68 l) (c.deref_mut.ensures.value ∙ all)
    ∙ made_of blank c.args.seed c.args.events c.len-pools.result is (c.len-pools.ensures ∙ c.push_events.new.into.ok.0 ∙ ap length before)

pub returns-clause-whole : goal.returns-clause-whole
returns-clause-whole c = subst Whole (sym
    (written_over c.push_checkpoint.new.into.len c.put_header.new.chunk c.push_checkpoint.new.into.items c.push_checkpoint.new.into.ok.0
    (c.put_header.ensures.length ∙ ap length c.deref_mut.ensures.value))) c.put_header.ensures.whole

pub returns-clause-short : goal.returns-clause-short
returns-clause-short c =
    let blank = c.extend_from_slice.new.self.items in
    let is : length blank ≡ 68 = rw c.in_ok-bytes.ensures.items at (ap length c.in_ok-extend_from_slice.ensures.items) in
    let all : c.push_checkpoint.new.into.items ≡ filled blank c.args.seed c.args.events =
    filled_by blank _ _ _ c.args.seed c.args.events c.in_ok-push_metadata.ensures c.in_ok-push_events.ensures c.in_ok-push_checkpoint.ensures in
    let same : length c.put_header.new.chunk ≡ length (filled blank c.args.seed c.args.events) = c.put_header.ensures.length ∙ ap length (c.deref_mut.ensures.value ∙ all) in
    let new = written_over c.push_checkpoint.new.into.len c.put_header.new.chunk c.push_checkpoint.new.into.items c.push_checkpoint.new.into.ok.0
    (c.put_header.ensures.length ∙ ap length c.deref_mut.ensures.value) in
    subst (λ (n : ℕ). n ≤ 339 + 26 * c.args.events) (sym (ap length new ∙ same)) (filled-le blank c.args.seed c.args.events is c.requires.some c.requires.most)
