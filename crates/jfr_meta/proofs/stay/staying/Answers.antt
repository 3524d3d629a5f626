use Rattle.std.proofs.Common.{◌≡◌, ℕ, false, List, Some, length, map, ap, sym, ◌∙◌}
use Rattle.std.specs.Prelude.{option_map}
use Rattle.std.specs.Option.{option_map_or}
use Rattle.jfr_layout.specs.Classes.{class_index}
use Rattle.jfr_meta.specs.declared.ids.Ids.{Ids}
use Rattle.jfr_meta.specs.Trees.{Tree}
use Rattle.jfr_meta.specs.Described.{class_elements}
use Rattle.jfr_worklist.specs.Marks.{is_marked}
use Rattle.jfr_meta.specs.Stays.{is_in, IsStay, stay_marks, stay_of}
use Rattle.jfr_meta.specs.Held.{body_in, stays_of}
use Rattle.jfr_meta.proofs.PutsLaws.{marks_size}
use Rattle.jfr_meta.proofs.HeldLaws.{if_ok, least_of}
use Rattle.jfr_meta.proofs.stay.staying.Goals as goal

pub marked_ids-requires : goal.marked_ids-requires
marked_ids-requires c = record {
  size = ap length (c.deref-2.ensures.value ∙ c.put_staying.ensures.exact) ∙ marks_size c.args.metadata.now.strings (map (λ e. e.now) c.deref.result.now) c.args.metadata.now.classes
      (is_in c.args.used.now);
  sound = c.len.ensures.sound;
}

pub returns-clause-exact : goal.returns-clause-exact
returns-clause-exact c =
    let m = c.args.metadata.now in
    let used = is_in c.args.used.now in
    let ts : List Tree = map (λ e. e.now) c.deref.result.now in
    let there : class_elements m.strings m.root ≡ Some ts =
    sym c.in_ok-elements.ensures ∙ (ap (option_map (λ v. map (λ e. e.now) v.items)) c.in-Some.is ∙ ap (λ z. Some (map (λ e. e.now) z)) (sym c.deref.ensures.value)) in
    let flags : c.deref-2.result.now ≡ stay_marks m.strings ts m.classes used = c.deref-2.ensures.value ∙ c.put_staying.ensures.exact in
    if_ok (λ (ids : Ids). (id : ℕ) → is_in ids id ≡ option_map_or (is_marked c.deref-2.result.now) (class_index m.classes id) false)
    (λ (ids : Ids). (id : ℕ) → is_in ids id ≡ stays_of (body_in m) m.classes used id) c.marked_ids.result
    (λ ids h id. h id ∙ (ap (λ z. option_map_or (is_marked z) (class_index m.classes id) false) flags ∙ sym (ap (λ o. option_map_or (λ ts. stay_of m.strings ts m.classes used id) o false) there)))
    c.marked_ids.ensures.ok

pub returns-clause-least : goal.returns-clause-least
returns-clause-least c =
    let m = c.args.metadata.now in
    let used = is_in c.args.used.now in
    let ts : List Tree = map (λ e. e.now) c.deref.result.now in
    let there : class_elements m.strings m.root ≡ Some ts =
    sym c.in_ok-elements.ensures ∙ (ap (option_map (λ v. map (λ e. e.now) v.items)) c.in-Some.is ∙ ap (λ z. Some (map (λ e. e.now) z)) (sym c.deref.ensures.value)) in
    let flags : c.deref-2.result.now ≡ stay_marks m.strings ts m.classes used = c.deref-2.ensures.value ∙ c.put_staying.ensures.exact in
    if_ok (λ (ids : Ids). (id : ℕ) → is_in ids id ≡ option_map_or (is_marked c.deref-2.result.now) (class_index m.classes id) false)
    (λ (ids : Ids). (us : List Tree) → class_elements m.strings m.root ≡ Some us → IsStay m.strings us m.classes used (is_in ids)) c.marked_ids.result
    (λ ids h us e. least_of (body_in m) m.classes used (is_in ids) c.requires.read us e
    (λ id. (let q : ts ≡ us = (let z : Some ts ≡ Some us = sym there ∙ e in cc) in
    h id ∙ (ap (λ z. option_map_or (is_marked z) (class_index m.classes id) false) flags ∙ ap (λ z. stay_of m.strings z m.classes used id) q))))
    c.marked_ids.ensures.ok
