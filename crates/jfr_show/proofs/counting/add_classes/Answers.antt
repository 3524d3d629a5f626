use Rattle.std.proofs.Common.{◌*◌, arith, ◌≡◌, ◌^◌, ◌+◌, ◌<◌, length, get_or, List, ℕ, Some, sym, ap, subst, ◌∙◌}
use Rattle.std.specs.List.{slice_get}
use Rattle.std.specs.Str.{encode_utf8_all}
use Rattle.std.proofs.lemmas.Option.{get_or_from_slice_get}
use Rattle.std.proofs.lemmas.Str.{encodes-chars}
use Rattle.jfr_layout.specs.Classes.{Class, Classes}
use Rattle.jfr_chunk.specs.Parts.{AreParts, Parts}
use Rattle.jfr_show.specs.declared.tally.Tally.{Tally}
use Rattle.jfr_show.specs.Counting.{AddsEvents, AddsTally, AreBelow, AreLeaders, AreTallies, FitsUnder, class_tally, is_at}
use Rattle.jfr_show.specs.Totals.{Tallies, occurrences}
use Rattle.jfr_show.proofs.ClassTallies.{before, before_all, classes_next, classes_none, is_before}
use Rattle.jfr_show.proofs.ListingLaws.{item_of}
use Rattle.jfr_show.proofs.SizeLaws.{below_fits, chosen_within, events_below, occurrences_are, records_within}
use Rattle.jfr_show.proofs.counting.add_classes.Goals as goal

-- The tallies with the classes before an index added are no larger than before and the chunk.
grown : (p : Parts) (leaders : List ℕ) (index most : ℕ) (old now : Tallies) → AreParts p → AddsEvents old (before p.classes leaders index p.records) now → AreBelow most old
    → AreBelow (most + length p.bytes) now
grown p leaders index most old now a e b =
    events_below old now (before p.classes leaders index p.records) most (length p.bytes) e
    (chosen_within p.classes (is_before p.classes leaders index) p.records (length p.bytes) (records_within p.bytes p.records a.records)) b

-- The tally of a class may be added.
fits : (p : Parts) (leaders : List ℕ) (index : ℕ) (old now : Tallies) (ts : List Tally) (name : List ℕ) (none : Tally) → AreParts p → length p.bytes < 2 ^ 30 → AreBelow (2 ^ 30 * 17000000000) old
    → AddsEvents old (before p.classes leaders index p.records) now → AreTallies p.classes leaders p.records ts → index < length p.classes → FitsUnder now name (get_or ts index none)
fits p leaders index old now ts name none a small b e counted within =
    let t : get_or ts index none ≡ class_tally p.classes leaders p.records index = get_or_from_slice_get ts index (class_tally p.classes leaders p.records index) none (counted.each index within) in
    subst (FitsUnder now name) (sym t) (below_fits now name (class_tally p.classes leaders p.records index) (2 ^ 30 * 17000000000 + length p.bytes) (length p.bytes)
    (grown p leaders index (2 ^ 30 * 17000000000) old now a e b)
    (chosen_within p.classes (is_at p.classes leaders index) p.records (length p.bytes) (records_within p.bytes p.records a.records)) (omega arith))

-- The next class is added.
next : (p : Parts) (leaders : List ℕ) (led : AreLeaders p.classes leaders) (k : Classes) (index : ℕ) (class : Class) (old now new : Tallies) (ts : List Tally) (name : List ℕ) (none : Tally)
    → k ≡ p.classes → slice_get k index ≡ Some class → name ≡ encode_utf8_all class.name → AddsEvents old (before p.classes leaders index p.records) now → AreTallies p.classes leaders p.records ts
    → index < length p.classes → AddsTally now name (get_or ts index none) new → AddsEvents old (before p.classes leaders (index + 1) p.records) new
next p leaders led k index class old now new ts name none same there is e counted within t =
    let v : get_or ts index none ≡ class_tally p.classes leaders p.records index = get_or_from_slice_get ts index (class_tally p.classes leaders p.records index) none (counted.each index within) in
    classes_next p.classes leaders led index class p.records name old now new (ap (λ z. slice_get z index) (sym same) ∙ there) is e (subst (λ z. AddsTally now name z new) v t)

-- All classes are added.
done : (p : Parts) (leaders : List ℕ) (led : AreLeaders p.classes leaders) (index : ℕ) (old now : Tallies) → AreParts p → index ≡ length p.classes
    → AddsEvents old (before p.classes leaders index p.records) now → AddsEvents old (occurrences p) now
done p leaders led index old now a all e =
    subst (λ es. AddsEvents old es now) (ap (λ n. before p.classes leaders n p.records) all ∙ (before_all p.classes leaders led p.records ∙ sym (occurrences_are p a))) e

pub loop-index-init : goal.loop-index-init
loop-index-init c = λ leaders led counted. classes_none c.args.chunk.now.classes leaders c.args.chunk.now.records _

pub add_tally-requires : goal.add_tally-requires
add_tally-requires c =
    let k = c.requires.counted in
    fits c.args.chunk.now k.leaders c.loop-index.index _ _ c.args.counted.now c.as_str.result.now _ c.requires.parts c.requires.small c.requires.below
    (c.loop-index.invariant k.leaders k.led k.tallies) k.tallies
    (omega (arith, ap length c.as_slice-class-items.ensures, ap length c.classes-classes.ensures))

pub returns-in_err-add_tally-clause-below : goal.returns-in_err-add_tally-clause-below
returns-in_err-add_tally-clause-below c = λ most b.
    (let k = c.requires.counted in
    subst (AreBelow (most + length c.args.chunk.now.bytes)) (sym c.in_err-add_tally.ensures.unchanged)
    (grown c.args.chunk.now k.leaders c.loop-index.index most _ _ c.requires.parts (c.loop-index.invariant k.leaders k.led k.tallies) b))

pub loop-index-preserved : goal.loop-index-preserved
loop-index-preserved c = λ leaders led counted.
    (let classes = c.classes-classes.result.now in
    let at = item_of classes c.as_slice-class-items.result.now c.loop-index.index c.class-item.result c.as_slice-class-items.ensures (omega arith) c.class-item.is in
    next c.args.chunk.now leaders led classes c.loop-index.index c.class-item.result _ _ _ c.args.counted.now c.as_str.result.now _ c.classes-classes.ensures at
    (sym (encodes-chars c.as_str.result.now c.as_str.utf8) ∙ ap encode_utf8_all c.as_str.ensures) (c.loop-index.invariant leaders led counted) counted
    (omega (arith, ap length c.as_slice-class-items.ensures, ap length c.classes-classes.ensures)) c.in_ok-add_tally.ensures.ok)

pub returns-clause-ok : goal.returns-clause-ok
returns-clause-ok c =
    let k = c.requires.counted in
    let all : c.loop-index.index ≡ length c.args.chunk.now.classes = omega (arith, ap length c.as_slice-class-items.ensures, ap length c.classes-classes.ensures) in
    done c.args.chunk.now k.leaders k.led c.loop-index.index _ _ c.requires.parts all (c.loop-index.invariant k.leaders k.led k.tallies)

pub returns-clause-below : goal.returns-clause-below
returns-clause-below c = λ most b.
    (let k = c.requires.counted in
    grown c.args.chunk.now k.leaders c.loop-index.index most _ _ c.requires.parts (c.loop-index.invariant k.leaders k.led k.tallies) b)
