use Rattle.std.proofs.Common.{◌≡◌, subst, sym}
use Rattle.std.specs.List.{slice_range}
use Rattle.jfr_value.specs.Nodes.{IsNode, node_of}
use Rattle.jfr_chunk.specs.Parts.{Parts}
use Rattle.jfr_rewrite.specs.Rewrite.{changed_bytes}
use Rattle.jfr_mask.specs.Maskers.{change_by, held_by, shown_by}
use Rattle.jfr_mask.proofs.PlainLaws.{node_unchanged}
use Rattle.jfr_mask.proofs.masker.MaskerRewriter.is_unchanged.Goals as goal

pub returns : goal.returns
returns c = λ none.
    (let m = c.args.self.now in
    let p = m.strings.chunk.now in
    let n = node_of c.args.node in
    let v = c.requires.value.0 in
    let e = c.requires.suits.0 in
    let i : IsNode p.classes p.bytes n v = subst (λ (q : Parts). IsNode q.classes q.bytes n v) e (subst (λ b. IsNode c.args._chunk.now.classes b n v) c.requires.of_chunk c.requires.value.1) in
    subst (λ (q : Parts). changed_bytes (change_by m) q.classes q.bytes n ≡ slice_range q.bytes n.at n.end) (sym e)
    (node_unchanged p (held_by m.strings) (shown_by m) n v c.parts_are_valid.ensures.sound i (c.are_none_in.ensures none v i)))
