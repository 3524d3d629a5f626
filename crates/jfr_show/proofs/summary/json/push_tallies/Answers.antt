use Rattle.std.proofs.Common.{rules, ◌≡◌, ◌++◌, ◌∙◌, ap, map, string_bytes, sym}
use Rattle.std.specs.FinMap as fin
use Rattle.std.specs.Map.Iter.{deref_pair}
use Rattle.std.proofs.lemmas.Map.Iter.{iter_end}
use Rattle.std.proofs.lemmas.Simd.{map-map}
use Rattle.serde_json.specs.Data.{array}
use Rattle.serde_json.specs.View.{items_of}
use Rattle.serde_json.specs.Written.{compact_text}
use Rattle.jfr_show.specs.Held.{entry_of, tallies_in}
use Rattle.jfr_show.specs.Totals.{tally_json}
use Rattle.jfr_show.proofs.ArrayLaws.{all_written, none_written, one_written}
use Rattle.jfr_show.proofs.TallyLaws.{entries-tallies_in}
use Rattle.jfr_show.proofs.summary.json.push_tallies.Goals as goal

pub loop-name-init : goal.loop-name-init
loop-name-init c = none_written (λ e. tally_json (entry_of (deref_pair e))) (string_bytes c.push_str.new.self)

pub loop-name-preserved : goal.loop-name-preserved
loop-name-preserved c =
    let spaced = string_bytes c.push_comma.new.out in
    let pushed = c.in_ok-push_tally.ensures.ok ∙ ap (λ name. spaced ++ compact_text (tally_json (name, c.in-Some.tally.now))) c.as_str.ensures.value in
    one_written (λ e. tally_json (entry_of (deref_pair e))) c.loop-name.yielded (c.in-Some.name, c.in-Some.tally) c.loop-name.later (string_bytes c.push_str.new.self)
    (string_bytes c.loop-name.out) spaced (string_bytes c.push_tally.new.out) c.loop-name.invariant c.in_ok-push_comma.ensures.ok pushed

pub returns : goal.returns
returns c =
    let m = c.args.tallies.now in
    let was = string_bytes c.args.out.now in
    let yielded = c.loop-name.yielded in
    let e : map deref_pair yielded ≡ m.entries = search (rules, iter_end) in
    let named : map entry_of (map deref_pair yielded) ≡ fin.entries (tallies_in m) = ap (map entry_of) e ∙ sym (entries-tallies_in m c.iter-name-items.ensures.ordered) in
    let objects : map (λ e. tally_json (entry_of (deref_pair e))) yielded ≡ map tally_json (fin.entries (tallies_in m)) =
    sym (map-map tally_json (λ e. entry_of (deref_pair e)) yielded) ∙ ap (map tally_json) (sym (map-map entry_of deref_pair yielded) ∙ named) in
    record {
      ok = all_written (λ e. tally_json (entry_of (deref_pair e))) yielded c.loop-name.later was (string_bytes c.push_str.new.self) (string_bytes c.loop-name.out)
          (string_bytes c.push_str-2.new.self) c.in_ok-push_str.ensures.bytes c.loop-name.invariant c.in_ok-push_str-2.ensures.bytes
          ∙ ap (λ ds. was ++ compact_text (array (items_of ds))) objects;
    }
